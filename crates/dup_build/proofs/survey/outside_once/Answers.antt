use Rattle.std.proofs.Common.{◌≡◌, not, ap, ◌∙◌}
use Rattle.std.proofs.lemmas.List.{take_all}
use Rattle.dup_names.specs.Order.{obj_cmp}
use Rattle.dup_names.specs.Words.{in_order}
use Rattle.dup_names.specs.Objects.{is_in}
use Rattle.dup_model.specs.Touched.{without}
use Rattle.dup_sets.specs.Entries.{objs}
use Rattle.dup_machine.proofs.InOrder.{ordered_filter}
use Rattle.dup_build.proofs.survey.outside_once.Goals as goal

pub returns : goal.returns
returns g c =
    let left = without (is_in (without (is_in c.args.dropped.now) (objs c.args.table.now))) in
    let all : c.deref.result.now ≡ left c.args.found.now =
    c.deref.ensures.value ∙ c.loop-obj.invariant ∙ ap left (take_all c.loop-obj.obj-index c.args.found.now c.loop-obj-test.false) in
    c.in_ok-made.ensures ∙ ap (in_order obj_cmp) all
    ∙ ordered_filter (λ o. not (is_in (without (is_in c.args.dropped.now) (objs c.args.table.now)) o)) c.args.found.now c.requires
