use Rattle.std.proofs.Common.{◌≡◌, [], sym, ap, ◌∙◌, Option}
use Rattle.std.specs.List.{find}
use Rattle.std.specs.Option.{option_or}
use Rattle.std.specs.Ordering.{is_lt}
use Rattle.dup_names.specs.Order.{obj_cmp}
use Rattle.dup_names.specs.declared.object.Obj.{Obj}
use Rattle.dup_machine.specs.Works.{next_of, first_of}
use Rattle.dup_sets.proofs.Trees.{next_by}
use Rattle.dup_sets.proofs.obj_set.ObjSet.next.Goals as goal

pub returns-in-None-next : goal.returns-in-None-next
returns-in-None-next c =
    let none : c.range.result ≡ [] = (c.in-None-next.ensures.steps).0 in
    c.first-in-None-next.ensures
    ∙ sym (ap (λ last. next_of last c.args.self.now) c.in-Some.is ∙ ap (λ (o : Option Obj). option_or o (first_of c.args.self.now)) (ap (find (λ o. is_lt (obj_cmp c.in-Some.last o))) (sym c.self.view_is) ∙ next_by c.in-Some.last c.self.inside.objs.keys c.range.result (c.range.ensures.between tt) ∙ ap first_of none))

pub returns-in-Some-next : goal.returns-in-Some-next
returns-in-Some-next c =
    sym (ap (λ last. next_of last c.args.self.now) c.in-Some.is ∙ ap (λ (o : Option Obj). option_or o (first_of c.args.self.now)) (ap (find (λ o. is_lt (obj_cmp c.in-Some.last o))) (sym c.self.view_is) ∙ next_by c.in-Some.last c.self.inside.objs.keys c.range.result (c.range.ensures.between tt) ∙ ap first_of c.in-Some-next.ensures.steps))
