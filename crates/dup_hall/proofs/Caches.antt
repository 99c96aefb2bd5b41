-- What the commands of nodes do to the nodes of a hall.
use Rattle.std.proofs.Common.{◌≡◌, inl, inr, ℕ, Bool, true, false, cond, refl, sym, ap, ◌∙◌, subst, List, [], arith}
use Rattle.std.specs.Prelude.{◌⊎◌, OnErr, Option, Some, None, Result, Ok, Err, is_some}
use Rattle.std.proofs.lemmas.Result.{on_err_weaker}
use Rattle.std.specs.Map.{lookup}
use Rattle.std.specs.declared.alloc.Global.{Global}
use Rattle.std.specs.declared.sync.Arc.{Arc}
use Rattle.std.specs.Ordering.{is_eq, nat_cmp}
use Rattle.std.specs.Cmp.{Equal-is, nat_cmp_total}
use Rattle.std.proofs.lemmas.Option.{same_Some}
use Rattle.dup_names.specs.Words.{Word, Path}
use Rattle.dup_template.specs.declared.site.Parts.{Parts}
use Rattle.dup_model.specs.Answers.{answer}
use Rattle.dup_model.specs.Caches.{Cache, catch_up}
use Rattle.dup_model.specs.Editions.{Bundle, Page}
use Rattle.dup_model.specs.Journal.{Limits}
use Rattle.dup_model.specs.Serving.{HoldsPagesOf}
use Rattle.dup_model.specs.declared.mode.Mode.{Mode}
use Rattle.dup_machine.specs.Presses.{Press}
use Rattle.dup_machine.specs.World.{answered}
use Rattle.dup_machine.specs.World.Told.{Evicted, NodeMade, NodeTaken, NoNode}
use Rattle.dup_cache.specs.Entries.{evicted, has_path}
use Rattle.dup_cache.specs.declared.how.How.{How}
use Rattle.dup_cache.specs.declared.how.How.TheVariants as hows
use Rattle.dup_node.specs.Replies.{IsAnswered, is_kept, reply_told}
use Rattle.dup_node.specs.declared.reply.Reply.{Reply}
use Rattle.dup_node.specs.declared.reply.Reply.TheVariants as replies
use Rattle.dup_transcript.specs.Commands.{Command}
use Rattle.dup_transcript.specs.MachinePlays.{tells_kept}
use Rattle.dup_transcript.specs.Texts.{told_text}
use Rattle.dup_transcript.specs.Turns.{Standing, Turns}
use Rattle.dup_transcript.specs.declared.command.Command.TheVariants as command
use Rattle.dup_transcript.proofs.MachineTurns.{deliver_no_node, evict_no_node, get_no_node, turns_deliver, turns_evict, turns_get, turns_made, turns_taken}
use Rattle.dup_hall.specs.Serving.{AllHold, AreSame, HasServed, HasTurned, Delivers, Nodes, Puts, Serves, TurnsNodes, cache_at, standing_at}

-- a cache that holds pages of the log may come
pub holds_with : (log : List Bundle) (old new : Nodes) (n : ℕ) (cache : Cache) → AllHold old log → Puts old n cache new → HoldsPagesOf log cache → AllHold new log
holds_with log old new n cache all puts holds q other is = by_tie (is_eq (nat_cmp n q)) (sym (puts.0 q) ∙ is)
  where
    by_tie : (b : Bool) → cond b (Some cache) (cache_at old q) ≡ Some other → HoldsPagesOf log other
    by_tie true same = subst (HoldsPagesOf log) (same_Some cache other same) holds
    by_tie false there = all q other there

pub same_nodes : (log : List Bundle) (old new : Nodes) → AllHold old log → new.entries ≡ old.entries → AllHold new log
same_nodes log old new all same q other is = all q other (ap (lookup (λ k. is_eq (nat_cmp q k))) (sym same) ∙ is)

-- a node that is there is taken, and else it is made
pub taken_turns : (log : List Bundle) (nodes : Nodes) (number capacity : ℕ) (mode : Mode) (text : Word) → is_some (cache_at nodes number) ≡ true → text ≡ told_text (NodeTaken number)
    → TurnsNodes log nodes (command.Node number capacity mode) text nodes
taken_turns log nodes number capacity mode text there says site limits press at = by_cache (cache_at nodes number) refl there
  where
    by_cache : (o : Option Cache) → cache_at nodes number ≡ o → is_some o ≡ true → Turns site limits (standing_at press nodes) 0 (command.Node number capacity mode) text (standing_at press nodes)
    by_cache None is some = absurd (cc)
    by_cache (Some cache) is some =
        subst (λ (t : Word). Turns site limits (standing_at press nodes) 0 (command.Node number capacity mode) t (standing_at press nodes)) (sym says)
        (turns_taken site limits (standing_at press nodes) 0 number capacity mode cache is)

pub made_turns : (log : List Bundle) (old new : Nodes) (number capacity : ℕ) (mode : Mode) (text : Word) → is_some (cache_at old number) ≡ false
    → Puts old number (record { capacity = capacity; mode = mode; number = 0; entries = [] }) new → text ≡ told_text (NodeMade number)
    → TurnsNodes log old (command.Node number capacity mode) text new
made_turns log old new number capacity mode text isnt puts says site limits press at =
    subst (λ (t : Word). Turns site limits (standing_at press old) 0 (command.Node number capacity mode) t (standing_at press new)) (sym says)
    (turns_made site limits (standing_at press old) (standing_at press new) 0 number capacity mode (none_at (cache_at old number) isnt) refl puts.0)
  where
    none_at : (o : Option Cache) → is_some o ≡ false → o ≡ None
    none_at None is = refl
    none_at (Some c) is = absurd (cc)

-- an empty cache holds pages of any log
pub empty_holds : (log : List Bundle) (capacity : ℕ) (mode : Mode) → HoldsPagesOf log (record { capacity = capacity; mode = mode; number = 0; entries = [] })
empty_holds log capacity mode = record { within = omega arith; pages = tt }

-- the same nodes stand alike
stand_alike : (press : Press) (old new : Nodes) → new.entries ≡ old.entries → standing_at press old ≡ standing_at press new
stand_alike press old new same = λ i. record { press = press; nodes = λ n. lookup (λ k. is_eq (nat_cmp n k)) (sym same i) }

-- a command of a node that isn't there
module _ (log : List Bundle) (old new : Nodes) (number : ℕ) (text : Word) (none : cache_at old number ≡ None) (same : new.entries ≡ old.entries) (says : text ≡ told_text (NoNode number)) where
  told_none : (c : Command) (site : Parts) (limits : Limits) (press : Press) → Turns site limits (standing_at press old) 0 c (told_text (NoNode number)) (standing_at press old)
      → Turns site limits (standing_at press old) 0 c text (standing_at press new)
  told_none c site limits press turns =
      subst (λ (t : Word). Turns site limits (standing_at press old) 0 c t (standing_at press new)) (sym says)
      (subst (λ (s : Standing). Turns site limits (standing_at press old) 0 c (told_text (NoNode number)) s) (stand_alike press old new same) turns)

  pub none_gets : (pass : ℕ) (path : Path) → TurnsNodes log old (command.Get number pass path) text new
  none_gets pass path site limits press at = told_none (command.Get number pass path) site limits press (get_no_node site limits (standing_at press old) 0 number pass path none)

  pub none_delivers : TurnsNodes log old (command.Deliver number) text new
  none_delivers site limits press at = told_none (command.Deliver number) site limits press (deliver_no_node site limits (standing_at press old) 0 number none)

  pub none_evicts : (path : Path) → TurnsNodes log old (command.Evict number path) text new
  none_evicts path site limits press at = told_none (command.Evict number path) site limits press (evict_no_node site limits (standing_at press old) 0 number path none)

-- and of one that is
module _ (log : List Bundle) (old new : Nodes) (number : ℕ) (text : Word) (cache after : Cache) (known : cache_at old number ≡ Some cache) (puts : Puts old number after new) where
  pub one_gets : (pass : ℕ) (path : Path) → Serves log cache pass path text after → TurnsNodes log old (command.Get number pass path) text new
  one_gets pass path serves site limits press at =
      let kept : Bool = serves.kept in
      subst (λ (t : Word). Turns site limits (standing_at press old) 0 (command.Get number pass path) t (standing_at press new)) (sym serves.says)
      (turns_get site limits (standing_at press old) (standing_at press new) 0 number pass path cache after kept (answer cache log pass path kept).reply known serves.shows
      (ap (λ (l : List Bundle). (answer cache l pass path kept).reply) (sym at)) (serves.cache ∙ ap (λ (l : List Bundle). (answer cache l pass path kept).cache) (sym at)) refl puts.0)

  pub one_delivers : Delivers log number cache text after → TurnsNodes log old (command.Deliver number) text new
  one_delivers delivers site limits press at =
      subst (λ (t : Word). Turns site limits (standing_at press old) 0 (command.Deliver number) t (standing_at press new)) (sym delivers.says)
      (turns_deliver site limits (standing_at press old) (standing_at press new) 0 number cache after known (delivers.caught ∙ ap (λ (l : List Bundle). catch_up l cache) (sym at)) refl puts.0)

  pub one_evicts : (path : Path) (found : Bool) → found ≡ has_path cache.entries path → after ≡ evicted path cache → text ≡ told_text (Evicted found) → TurnsNodes log old (command.Evict number path) text new
  one_evicts path found finds leaves says site limits press at =
      subst (λ (t : Word). Turns site limits (standing_at press old) 0 (command.Evict number path) t (standing_at press new)) (sym says)
      (turns_evict site limits (standing_at press old) (standing_at press new) 0 number path cache after found known finds leaves refl puts.0)

-- what a node answers is what is served
pub serves_by : (log : List Bundle) (old new : Cache) (pass : ℕ) (path : Path) (reply : Reply) (text : Word) → IsAnswered old log pass path reply new → text ≡ told_text (answered (reply_told reply)) → Serves log old pass path text new
serves_by log old new pass path reply text given says = record {
  kept = is_kept reply;
  shows = shown reply ∙ ap (λ r. tells_kept (answered r)) given.0;
  says = says ∙ ap (λ r. told_text (answered r)) given.0;
  cache = given.1;
}
  where
    found_shown : (edition : ℕ) (page : Arc Page Global) (how : How) → is_kept (replies.Found edition page how) ≡ tells_kept (answered (reply_told (replies.Found edition page how)))
    found_shown edition page hows.Hit = refl
    found_shown edition page hows.Miss = refl
    found_shown edition page hows.MissUnkept = refl

    shown : (r : Reply) → is_kept r ≡ tells_kept (answered (reply_told r))
    shown (replies.Found edition page how) = found_shown edition page how
    shown (replies.Absent edition) = refl
    shown (replies.Ahead pass edition) = refl

-- a node that has the cache that it had leaves all as they were
pub puts_same : (old new : Nodes) (n : ℕ) (cache after : Cache) → cache_at old n ≡ Some cache → Puts old n after new → after ≡ cache → AreSame old new
puts_same old new n cache after known puts same q = puts.0 q ∙ by_tie (is_eq (nat_cmp n q)) refl
  where
    by_tie : (b : Bool) → is_eq (nat_cmp n q) ≡ b → cond b (Some after) (cache_at old q) ≡ cache_at old q
    by_tie true is = ap Some same ∙ sym known ∙ (λ i. lookup (λ k. is_eq (nat_cmp_total.congr n q k ((Equal-is (nat_cmp n q)).0 is) i)) old.entries)
    by_tie false is = refl

-- where a request fails
pub get_fails : {X : Type 0} {E : Type 0} (result : Result X E) (log : List Bundle) (old new : Nodes) (number : ℕ) (cache after : Cache) (pass : ℕ) (path : Path) → cache_at old number ≡ Some cache → Puts old number after new
    → OnErr result ((after ≡ cache) ⊎ HasServed log cache pass path after) → OnErr result (AreSame old new ⊎ HasTurned log old (command.Get number pass path) new)
get_fails (Ok x) log old new number cache after pass path known puts failed = tt
get_fails (Err e) log old new number cache after pass path known puts failed = elim failed [
  | inl same ↦ inl (puts_same old new number cache after known puts same)
  | inr served ↦ inr (served.0, one_gets log old new number served.0 cache after known puts pass path served.1)
]

pub deliver_fails : {X : Type 0} {E : Type 0} (result : Result X E) (old new : Nodes) (number : ℕ) (cache after : Cache) → cache_at old number ≡ Some cache → Puts old number after new
    → OnErr result (after ≡ cache) → OnErr result (AreSame old new)
deliver_fails result old new number cache after known puts failed = on_err_weaker result (puts_same old new number cache after known puts) failed

-- where what is found can't be told
pub serve_fails : {X : Type 0} {E : Type 0} (result : Result X E) (log : List Bundle) (old new : Cache) (pass : ℕ) (path : Path) (reply : Reply) → IsAnswered old log pass path reply new
    → OnErr result ((new ≡ old) ⊎ HasServed log old pass path new)
serve_fails (Ok x) log old new pass path reply given = tt
serve_fails (Err e) log old new pass path reply given = inr (told_text (answered (reply_told reply)), serves_by log old new pass path reply _ given refl)
