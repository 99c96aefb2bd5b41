use Rattle.std.proofs.Common.{Bool, ◌&&◌, sym, ap, ◌∙◌}
use Rattle.std.proofs.lemmas.Bool.{and_from}
use Rattle.dup_names.specs.Words.{Path}
use Rattle.dup_model.specs.Editions.{has}
use Rattle.dup_bundle.specs.Between.{is_needed}
use Rattle.dup_bundle.proofs.Waiting.{added_last}
use Rattle.dup_bundle.proofs.needing_back.list_others.Goals.{then-has+then-is_needed+in_ok-push, else-has, else-has-via-then-has+else-is_needed, else-has-via-else-has}
use Rattle.dup_bundle.proofs.needing_back.list_others.Goals as goal

pub loop-other-preserved : goal.loop-other-preserved
loop-other-preserved c = elim c.if-has.branch [
  | then-has+then-is_needed+in_ok-push w ↦
      let kind : Path → Bool = λ q. has c.args.changed.now q && is_needed c.args.edition.now c.args.target.now q c.args.path.now in
      added_last kind c.args.found.now.items c.loop-other.found.items c.if-has.found.items c.other-item.result (ap (λ v. v.items) w.found-is ∙ w.in_ok-push.ensures.items)
      (and_from _ _ (sym c.has.ensures ∙ w.if-has.true) (sym w.is_needed.ensures ∙ w.if-is_needed.true)) c.loop-other.invariant
  | else-has w ↦ λ q h. c.loop-other.invariant q (ap (λ v. has v.items q) (sym w.found-is) ∙ h)
]
