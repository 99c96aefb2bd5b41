use Rattle.std.proofs.Common.{◌≡◌, sym, ap, ◌∙◌}
use Rattle.dup_names.proofs.ObjectOrder.{obj_same}
use Rattle.dup_names.specs.declared.value.Look.{Look}
use Rattle.dup_names.specs.Objects.{is_in, same_obj}
use Rattle.dup_model.specs.Looks.{look}
use Rattle.dup_build.proofs.Pages.{page_push}
use Rattle.dup_build.proofs.turning.turn_page.Goals as goal

pub returns-then-not-contains-clause-pages : goal.returns-then-not-contains-clause-pages
returns-then-not-contains-clause-pages c =
    let same : c.args.before.now.1.value.obj ≡ c.args.page.now.1 = obj_same c.args.before.now.1.value.obj c.args.page.now.1 (ap (λ (l : Look). same_obj l.obj c.args.page.now.1) (sym c.deref.ensures) ∙ sym c.eq.ensures ∙ c.if-eq.true) in
    page_push c.args.turned.now.pages.items c.push.new.self.items c.args.page.now.0 c.in_ok-look.look (look c.args.stock.now.content c.args.page.now.1) c.in_ok-push.ensures.items
    (c.in_ok-look.ensures
    ∙ c.requires.current (ap (is_in c.args.stock.now.looked) same ∙ c.requires.looked) (ap (is_in c.args.once.now) same ∙ sym c.contains.ensures ∙ c.if-not-contains.true)
    ∙ ap (look c.args.stock.now.content) same)
