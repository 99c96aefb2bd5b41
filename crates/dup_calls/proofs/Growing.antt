-- The log of a press grows, and what nodes hold stays true of it.
use Rattle.std.proofs.Common.{refl, sym, ap, ◌∙◌, List, [], ◌++◌, append-nil, append_assoc}
use Rattle.std.specs.Prelude.{All, OnOk, Ok, Err}
use Rattle.std.specs.declared.result.Result.{Result}
use Rattle.std.specs.FinMap as fin
use Rattle.std.specs.Ordering.{nat_cmp}
use Rattle.std.proofs.lemmas.List.Elements.{All-weaker}
use Rattle.dup_model.specs.Caches.{Cache}
use Rattle.dup_model.specs.Editions.{Bundle}
use Rattle.dup_model.specs.Journal.{usual_limits}
use Rattle.dup_model.specs.Serving.{HoldsPagesOf}
use Rattle.dup_machine.specs.Presses.{Press}
use Rattle.dup_machine.specs.World.{World}
use Rattle.dup_cache.specs.Holding.{BeginsWith}
use Rattle.dup_cache.proofs.Holding.{growing_holds}
use Rattle.dup_press.specs.Pressed.{Pressed, pressed}
use Rattle.dup_press.specs.Told.{IsSettled}
use Rattle.dup_press.specs.declared.answers.Summary.{Summary}
use Rattle.dup_transcript.proofs.MachineTurns.{settles_grow}

pub same_log : (log : List Bundle) → BeginsWith log log
same_log log = ([], append-nil log)

pub grows_on : (log mid first : List Bundle) → BeginsWith log mid → BeginsWith mid first → BeginsWith log first
grows_on log mid first goes went = (
  went.0 ++ goes.0,
  sym (append_assoc first went.0 goes.0) ∙ ap (λ (l : List Bundle). l ++ goes.0) went.1 ∙ goes.1,
)

abbrev world_of : Pressed → World
world_of p = let m : Press = pressed p in record { commits = m.commits; target = m.target; work = m.work; log = m.log; nodes = fin.empty; slots = fin.empty; replies = [] }

pub settled_log : (old new : Pressed) (summary : Summary) → IsSettled old summary new → BeginsWith new.log old.log
settled_log old new summary settled =
    let h = settled usual_limits (world_of old) refl (fin.get-empty nat_cmp 0) in
    let grown = settles_grow old.works.journal.site usual_limits (world_of old) h.events h.counts h.settles in
    (grown.0, grown.1 ∙ ap (λ (p : Press). p.log) h.press)

pub all_grow : (log first : List Bundle) (nodes : List Cache) → BeginsWith log first → All (HoldsPagesOf first) nodes → All (HoldsPagesOf log) nodes
all_grow log first nodes begins all = All-weaker (HoldsPagesOf first) (HoldsPagesOf log) (λ cache is. growing_holds log first cache begins is) nodes all

-- what holds in any case holds where there is an answer
pub on_ok : {A E P : Type 0} (r : Result A E) → P → OnOk r P
on_ok (Ok x) p = p
on_ok (Err e) p = tt
