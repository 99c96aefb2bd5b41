use Rattle.std.proofs.Common.{◌≡◌, true, false, not, ◌&&◌, sym, ap, ◌∙◌}
use Rattle.dup_names.specs.Objects.{is_in}
use Rattle.dup_sets.specs.Entries.{objs}
use Rattle.dup_machine.proofs.InOrder.{in_without}
use Rattle.dup_build.proofs.node.stays.Goals as goal

pub returns-then-has : goal.returns-then-has
returns-then-has g c =
    let there : is_in (objs c.args.table.now) c.args.obj.now ≡ true = sym c.has.ensures ∙ c.if-has.true in
    ap not c.contains.ensures
    ∙ sym (in_without (is_in c.args.dropped.now) (objs c.args.table.now) c.args.obj.now ∙ ap (λ b. b && not (is_in c.args.dropped.now c.args.obj.now)) there)

pub returns-else-has : goal.returns-else-has
returns-else-has g c =
    let absent : is_in (objs c.args.table.now) c.args.obj.now ≡ false = sym c.has.ensures ∙ c.if-has.false in
    c.if-has.false ∙ sym (in_without (is_in c.args.dropped.now) (objs c.args.table.now) c.args.obj.now ∙ ap (λ b. b && not (is_in c.args.dropped.now c.args.obj.now)) absent)
