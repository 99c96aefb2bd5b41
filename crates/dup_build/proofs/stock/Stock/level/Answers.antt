use Rattle.std.proofs.Common.{◌≡◌, ap, ◌∙◌}
use Rattle.std.specs.List.{filter}
use Rattle.dup_names.specs.Objects.{is_in}
use Rattle.dup_build.specs.Stocked.{unjoined_in, level_in}
use Rattle.dup_build.proofs.Planning.{level_among}
use Rattle.dup_build.proofs.stock.Stock.level.Goals as goal

pub returns : goal.returns
returns c =
    let all : c.deref.result.now ≡ unjoined_in c.args.self.now = c.deref.ensures.value ∙ c.in_ok-unjoined.ensures ∙ c.self.invariant.stock.unjoined ∙ ap unjoined_in c.self.view_is in
    c.in_ok-level.ensures ∙ ap (filter (is_in (level_in c.args.self.now))) all ∙ level_among c.args.self.now
