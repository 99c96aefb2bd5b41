use Rattle.std.proofs.Common.{sym, ◌∙◌}
use Rattle.dup_bundle.specs.Between.{is_needed}
use Rattle.dup_bundle.proofs.Waiting.{held_if, knot_unless, none_fact, paths_within}
use Rattle.dup_bundle.proofs.finding.look.Goals as goal

pub holder-requires-clause-within : goal.holder-requires-clause-within
holder-requires-clause-within c = paths_within (is_needed c.args.edition.now c.args.target.now) c.args.changed.now c.args.path.now c.in_ok-paths.paths.keys
    (none_fact c.in_ok-paths.lower (sym c.is_some.ensures ∙ c.if-is_some.false) c.in_ok-paths.ensures.all)

pub returns-clause-knot : goal.returns-clause-knot
returns-clause-knot c = knot_unless (is_needed c.args.edition.now c.args.target.now) c.args.changed.now c.args.path.now c.in_ok-paths.paths.keys
    (none_fact c.in_ok-paths.lower (sym c.is_some.ensures ∙ c.if-is_some.false) c.in_ok-paths.ensures.all) c.in_ok-other.other c.in_ok-other.ensures

pub returns-clause-held : goal.returns-clause-held
returns-clause-held c = held_if (is_needed c.args.edition.now c.args.target.now) c.args.changed.now c.args.path.now c.in_ok-paths.paths.keys
    (none_fact c.in_ok-paths.lower (sym c.is_some.ensures ∙ c.if-is_some.false) c.in_ok-paths.ensures.all) c.in_ok-other.other c.in_ok-other.ensures
