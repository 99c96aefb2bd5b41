use Rattle.std.proofs.Common.{◌≡◌, ◌-◌, arith, length, ap, ◌∙◌}
use Rattle.dup_model.specs.Touched.{without}
use Rattle.dup_names.specs.Objects.{is_in}
use Rattle.dup_sets.specs.Entries.{objs}
use Rattle.dup_build.specs.Stocked.{Stocked}
use Rattle.dup_build.proofs.Forgetting.{counted_apart}
use Rattle.dup_build.proofs.stock.Stock.kept.Goals as goal

pub overflow_sub-result : goal.overflow_sub-result
overflow_sub-result c = omega (arith, c.count_in.ensures, c.len.ensures.value, counted_apart (objs c.self.inside.nodes) c.args.once.now c.len.ensures.rising c.requires)

pub returns : goal.returns
returns c =
    let apart : c.len.result - c.count_in.result ≡ length (without (is_in c.args.once.now) (objs c.self.inside.nodes)) =
    omega (arith, c.count_in.ensures, c.len.ensures.value, counted_apart (objs c.self.inside.nodes) c.args.once.now c.len.ensures.rising c.requires) in
    apart ∙ ap (λ (s : Stocked). length (without (is_in c.args.once.now) s.done)) c.self.view_is
