use Rattle.std.proofs.Common.{Bool, ◌||◌, ◌&&◌, ap, ◌∙◌}
use Rattle.std.specs.List.{list_any}
use Rattle.dup_names.specs.Words.{Word}
use Rattle.dup_names.specs.declared.object.Obj.{Obj}
use Rattle.dup_model.specs.Editions.{has}
use Rattle.dup_bundle.specs.Between.{needs_changed}
use Rattle.dup_bundle.specs.Hinted.{users_of}
use Rattle.dup_bundle.proofs.Hinting.{hinted_none, hinted_some}
use Rattle.dup_bundle.proofs.Steps.{both_cover, covered}
use Rattle.dup_bundle.proofs.reach.add_needed.Goals as goal

pub returns-in_ok-add_listed-in-None-clause-seen : goal.returns-in_ok-add_listed-in-None-clause-seen
returns-in_ok-add_listed-in-None-clause-seen c = λ q.
    c.in_ok-add_listed-in-None.ensures.seen q
    ∙ ap (λ b. has c.args.seen.now.keys q || b) (covered (has c.linkers.result.now q) _ (λ needed.
    ap (λ l. has l q) c.linkers.ensures
    ∙ hinted_none c.args.hints.now c.args.edition.now c.args.target.now c.args.changed.now c.requires.changed.only c.requires.hints c.args.path.now q c.in-None.ensures needed))

pub returns-in_ok-add_listed-in-Some-clause-seen : goal.returns-in_ok-add_listed-in-Some-clause-seen
returns-in_ok-add_listed-in-Some-clause-seen c = λ q.
    let needed : Bool = needs_changed c.args.edition.now c.args.target.now c.args.changed.now c.args.path.now q in
    let used : Obj × Word → Bool = λ x. has (users_of c.args.hints.now.users x.0) q in
    c.in_ok-add_listed-in-Some.ensures.seen q
    ∙ ap (λ b. b || (has c.items-in-Some.result.now q && needed)) (c.in_ok-add_users-in-Some.ensures.seen q)
    ∙ both_cover (has c.args.seen.now.keys q) (list_any used c.items.result.now) (has c.items-in-Some.result.now q) needed (λ is.
    ap (λ uses. list_any used uses || has c.items-in-Some.result.now q) (c.items.ensures ∙ ap (λ look. look.uses) c.deref.ensures)
    ∙ ap (λ links. list_any used c.in-Some.look.now.value.uses || has links q) (c.items-in-Some.ensures ∙ ap (λ look. look.links) c.deref-in-Some.ensures)
    ∙ hinted_some c.args.hints.now c.args.edition.now c.args.target.now c.args.changed.now c.requires.changed.only c.requires.hints c.args.path.now q c.in-Some.look.now.value c.in-Some.ensures is)
