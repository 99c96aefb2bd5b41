use Rattle.std.proofs.Common.{Bool, ◌+◌, not, sym, subst, ◌∙◌}
use Rattle.dup_names.specs.Words.{Path}
use Rattle.dup_model.specs.Editions.{has}
use Rattle.dup_bundle.specs.Between.{is_needed, AreChanged}
use Rattle.dup_bundle.specs.Waiting.{AreLevelled}
use Rattle.dup_bundle.proofs.Ordered.{left_changed}
use Rattle.dup_bundle.proofs.Waiting.{levelled}
use Rattle.dup_bundle.proofs.levels.level_from.Goals as goal

pub returns-clause-left : goal.returns-clause-left
returns-clause-left c = subst (AreChanged c.args.edition.now c.args.target.now) (sym c.leave.ensures)
    (left_changed c.args.edition.now c.args.target.now (λ q. not (has c.in_ok-paths.paths.keys q)) c.args.left.now c.requires.left)

pub returns-clause-levels : goal.returns-clause-levels
returns-clause-levels c = λ changed were.
    let need : Path → Path → Bool = is_needed c.args.edition.now c.args.target.now in
    subst (λ l. AreLevelled need changed l c.put_at_level.new.levels (c.args.level + 1)) (sym c.leave.ensures)
    (levelled need changed c.args.left.now c.args.path.now c.args.levels.now c.put_at_level.new.levels c.args.level c.in_ok-paths.paths.keys
    (sym c.has.ensures ∙ c.if-not-has.false) c.in_ok-paths.ensures c.in_ok-put_at_level.ensures were)
