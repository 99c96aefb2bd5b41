-- The nodes of a hall, and what a command of one of them does.
use Rattle.std.specs.Prelude.{◌≡◌, ℕ, Bool, List, Option, Some, length}
use Rattle.std.specs.BTreeMap as tree
use Rattle.std.specs.Ordering.{nat_cmp}
use Rattle.dup_names.specs.Words.{Word, Path}
use Rattle.dup_template.specs.declared.site.Parts.{Parts}
use Rattle.dup_model.specs.Answers.{answer}
use Rattle.dup_model.specs.Caches.{Cache, catch_up}
use Rattle.dup_model.specs.Editions.{Bundle}
use Rattle.dup_model.specs.Journal.{Limits}
use Rattle.dup_model.specs.Serving.{HoldsPagesOf}
use Rattle.dup_machine.specs.Presses.{Press}
use Rattle.dup_machine.specs.World.{answered}
use Rattle.dup_machine.specs.World.Told.{Delivered}
use Rattle.dup_transcript.specs.Commands.{Command}
use Rattle.dup_transcript.specs.MachinePlays.{tells_kept}
use Rattle.dup_transcript.specs.Texts.{told_text}
use Rattle.dup_transcript.specs.Turns.{Standing, Turns}

-- the caches of nodes, by their numbers
abbrev pub Nodes : Type 0
Nodes = tree.BTreeMap ℕ Cache

abbrev pub cache_at : Nodes → ℕ → Option Cache
cache_at nodes n = tree.get nat_cmp nodes n

-- one node got this cache, and the others have theirs
abbrev pub Puts : Nodes → ℕ → Cache → Nodes → Type 0
Puts old n cache new = tree.Updates nat_cmp old new n (Some cache)

-- each cache holds pages of the log
abbrev pub AllHold : Nodes → List Bundle → Type 0
AllHold nodes log = (n : ℕ) (cache : Cache) → cache_at nodes n ≡ Some cache → HoldsPagesOf log cache

-- a press, and nodes that have these caches
abbrev pub standing_at : Press → Nodes → Standing
standing_at press nodes = record { press = press; nodes = cache_at nodes }

-- with whatever press of this log, this is written for the command, and the nodes have those caches then
abbrev pub TurnsNodes : List Bundle → Nodes → Command → Word → Nodes → Type 0
TurnsNodes log old command text new = (site : Parts) (limits : Limits) (press : Press) → press.log ≡ log →
    Turns site limits (standing_at press old) 0 command text (standing_at press new)

-- the answer of a cache to a request over the log, and what is written of it, whether the page is kept or not
pub record Serves (log : List Bundle) (old : Cache) (pass : ℕ) (path : Path) (text : Word) (new : Cache) : Type 0 where
  pub kept : Bool
  pub shows : kept ≡ tells_kept (answered (answer old log pass path kept).reply)
  pub says : text ≡ told_text (answered (answer old log pass path kept).reply)
  pub cache : new ≡ (answer old log pass path kept).cache

-- a cache of the node of this number caught up with the log, and what is written of it
pub record Delivers (log : List Bundle) (number : ℕ) (old : Cache) (text : Word) (new : Cache) : Type 0 where
  pub caught : new ≡ catch_up log old
  pub says : text ≡ told_text (Delivered number new.number (length new.entries))

-- the nodes have the same caches
abbrev pub AreSame : Nodes → Nodes → Type 0
AreSame old new = (n : ℕ) → cache_at new n ≡ cache_at old n

-- a cache has answered the request, whatever is written of it
abbrev pub HasServed : List Bundle → Cache → ℕ → Path → Cache → Type 0
HasServed log old pass path new = (text : Word) × Serves log old pass path text new

-- a command of the nodes was done, whatever is written of it
abbrev pub HasTurned : List Bundle → Nodes → Command → Nodes → Type 0
HasTurned log old command new = (text : Word) × TurnsNodes log old command text new
