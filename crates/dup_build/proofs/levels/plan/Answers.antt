use Rattle.std.proofs.Common.{ap, ◌∙◌}
use Rattle.std.specs.List.{filter}
use Rattle.dup_names.specs.Objects.{is_in}
use Rattle.dup_build.specs.Stocked.{level_in}
use Rattle.dup_build.proofs.Planning.{level_above}
use Rattle.dup_build.proofs.levels.plan.Goals as goal

pub returns : goal.returns
returns c =
    c.in-Ok-next_among.ensures ∙ ap (filter (is_in (level_in c.args.stock.now))) (c.deref.ensures.value ∙ c.in-Ok.ensures)
    ∙ level_above c.args.stock.now c.requires.calm c.args.graph.now c.requires.reads c.args.level.now c.requires.above
