use Rattle.std.proofs.Common.{◌≡◌, [], sym, ap, subst, ◌∙◌}
use Rattle.std.proofs.lemmas.List.{append-nil}
use Rattle.dup_model.specs.Touched.{without}
use Rattle.dup_build.specs.Loose.{is_embedded, shown_by, HoldsBut}
use Rattle.dup_build.proofs.Holding.{free_loose, none_gone}
use Rattle.dup_build.proofs.loose.unheld.Goals as goal

pub returns-clause-gone : goal.returns-clause-gone
returns-clause-gone c = c.in_ok-gone.ensures.sound (none_gone (shown_by c.args.pages.now) c.args.nodes.now)

pub returns-clause-held : goal.returns-clause-held
returns-clause-held c =
    let free : c.deref-2.result.now ≡ without (is_embedded c.args.nodes.now []) c.args.loose.now =
    c.deref-2.ensures.value ∙ c.in_ok-free.ensures ∙ ap (without (is_embedded c.args.nodes.now [])) (c.deref.ensures.value ∙ c.in_ok-loose.ensures) in
    c.in_ok-gone.ensures.held [] (subst (HoldsBut (shown_by c.args.pages.now) c.args.nodes.now []) (sym (append-nil c.deref-2.result.now))
    (subst (HoldsBut (shown_by c.args.pages.now) c.args.nodes.now []) (sym free) (free_loose c.args.nodes.now (shown_by c.args.pages.now) c.args.loose.now c.requires.held)))
