use Rattle.std.proofs.Common.{◌≡◌, true, sym, subst, ap, ◌∙◌}
use Rattle.std.proofs.lemmas.Slice.Eq.{bytes_eq-Decides}
use Rattle.dup_model.specs.Bundles.{reached}
use Rattle.dup_model.proofs.Reached.{reached_itself, reached_needed}
use Rattle.dup_bundle.proofs.finding.is_reached.Goals.{then-eq-via-then-eq, then-eq-via-else-eq+then-is_needed}
use Rattle.dup_model.specs.Editions.{has}
use Rattle.dup_bundle.specs.Between.{is_needed}
use Rattle.dup_bundle.proofs.Knots.{has_reached}
use Rattle.dup_bundle.proofs.finding.is_reached.Goals as goal

pub returns : goal.returns
returns c =
    c.contains.ensures
    ∙ ap (λ l. has l c.args.to.now) c.in_ok-paths.ensures
    ∙ has_reached (is_needed c.args.edition.now c.args.target.now) c.args.changed.now c.args.from.now c.args.to.now c.requires.to

pub returns-then-eq : goal.returns-then-eq
returns-then-eq c =
    let need = is_needed c.args.edition.now c.args.target.now in
    elim c.then-eq.branch [
      | then-eq-via-then-eq w ↦ sym (subst (λ q. reached need c.args.changed.now c.args.from.now q ≡ true) ((bytes_eq-Decides c.args.from.now c.args.to.now).0 (sym c.eq.ensures ∙ w.if-eq.true)) (reached_itself need c.args.changed.now c.args.from.now))
      | then-eq-via-else-eq+then-is_needed w ↦ sym (reached_needed need c.args.changed.now c.args.from.now c.args.to.now (sym w.is_needed.ensures ∙ w.if-is_needed.true))
    ]
