use Rattle.std.proofs.Common.{◌≡◌, [], cond, None, refl, sym, ap, subst, ◌∙◌}
use Rattle.std.proofs.lemmas.Bool.{true≢false}
use Rattle.dup_model.specs.Pages.{live}
use Rattle.dup_names.specs.Objects.{is_in}
use Rattle.dup_model.specs.Touched.{without}
use Rattle.dup_model.specs.Found.{found, waiting}
use Rattle.dup_sets.specs.Entries.{at, objs}
use Rattle.dup_walk.specs.OverReads.{HasReads}
use Rattle.dup_build.specs.Loose.{shown_by, AreGone, HoldsBut}
use Rattle.dup_build.specs.Stocked.{Stocked, waiting_in, unjoined_in}
use Rattle.dup_build.proofs.Forgetting.{done_left, looked_left, forgotten, gone_unfound}
use Rattle.dup_build.proofs.Stocking.{children_earlier, has_children}
use Rattle.dup_build.proofs.stock.Stock.forget.Goals as goal

pub unheld-requires-clause-earlier : goal.unheld-requires-clause-earlier
unheld-requires-clause-earlier c = children_earlier c.self.inside.content c.self.inside.nodes c.self.invariant.stock.nodes_are c.site_known.ensures.earlier

pub unheld-requires-clause-children : goal.unheld-requires-clause-children
unheld-requires-clause-children c = has_children c.self.inside.content c.self.inside.nodes c.self.invariant.stock.nodes_are c.args.graph.now
    (subst (λ (s : Stocked). HasReads s.content s.done c.args.graph.now) (sym c.self.view_is) c.requires.reads)

pub unheld-requires-clause-held : goal.unheld-requires-clause-held
unheld-requires-clause-held c = subst (λ ps. HoldsBut (shown_by ps) c.self.inside.nodes [] c.self.inside.progress.loose) (sym c.deref.ensures) c.self.invariant.stock.held

pub invariant_of-self : goal.invariant_of-self
invariant_of-self c =
    let calm : waiting c.self.inside.content (objs c.self.inside.nodes) ≡ [] = ap waiting_in c.self.view_is ∙ c.requires.calm in
    let joined : without (is_in (objs c.self.inside.looks)) (found c.self.inside.content (objs c.self.inside.nodes)) ≡ [] = ap unjoined_in c.self.view_is ∙ c.requires.joined in
    let are_gone : AreGone (shown_by c.self.inside.progress.pages.value) c.self.inside.nodes c.in_ok-gone.gone = subst (λ ps. AreGone (shown_by ps) c.self.inside.nodes c.in_ok-gone.gone) c.deref.ensures c.in_ok-gone.ensures.gone in
    let holds : HoldsBut (shown_by c.self.inside.progress.pages.value) c.self.inside.nodes c.in_ok-gone.gone [] = subst (λ ps. HoldsBut (shown_by ps) c.self.inside.nodes c.in_ok-gone.gone []) c.deref.ensures c.in_ok-gone.ensures.held in
    let same : c.deref-2.result.now ≡ c.in_ok-gone.gone = c.deref-2.ensures.value ∙ c.in_ok-gone-2.ensures in
    let same_too : c.deref-3.result.now ≡ c.in_ok-gone.gone = c.deref-3.ensures.value ∙ c.in_ok-gone-2.ensures in
    let fewer : objs c.remove_all.new.self ≡ without (is_in c.in_ok-gone.gone) (objs c.self.inside.nodes) = c.remove_all.ensures.objs ∙ ap (λ l. without (is_in l) (objs c.self.inside.nodes)) same in
    let unjoined : c.self.inside.progress.unjoined ≡ [] = c.self.invariant.stock.unjoined ∙ joined in
    record {
      stock = forgotten c.self.inside.content c.site_known.ensures.earlier c.self.inside.nodes c.self.inside.looks c.self.inside.progress c.self.invariant.stock calm joined c.in_ok-gone.gone are_gone holds
          c.remove_all.new.self c.remove_all-2.new.self
          (record { pages = c.self.inside.progress.pages; waiting = c.self.inside.progress.waiting; unjoined = c.self.inside.progress.unjoined; loose = c.new.result })
          (λ q. c.remove_all.ensures.at q ∙ ap (λ l. cond (is_in l q) None (at c.self.inside.nodes q)) same) fewer
          (fewer ∙ done_left c.self.inside.content c.site_known.ensures.earlier c.self.inside.nodes c.self.inside.looks c.self.inside.progress c.self.invariant.stock calm joined c.in_ok-gone.gone are_gone holds c.len.ensures.rising)
          (λ q. c.remove_all-2.ensures.at q ∙ ap (λ l. cond (is_in l q) None (at c.self.inside.looks q)) same_too)
          (c.remove_all-2.ensures.objs ∙ ap (λ l. without (is_in l) (objs c.self.inside.looks)) same_too
          ∙ looked_left c.self.inside.content c.site_known.ensures.earlier c.self.inside.nodes c.self.inside.looks c.self.inside.progress c.self.invariant.stock calm joined c.in_ok-gone.gone are_gone holds c.len-2.ensures.rising)
          refl refl refl c.new.ensures;
      counts = λ x inside done. absurd (true≢false (sym inside ∙ ap (λ l. is_in l x) unjoined));
    }

pub returns-clause-ok : goal.returns-clause-ok
returns-clause-ok c =
    let calm : waiting c.self.inside.content (objs c.self.inside.nodes) ≡ [] = ap waiting_in c.self.view_is ∙ c.requires.calm in
    let joined : without (is_in (objs c.self.inside.looks)) (found c.self.inside.content (objs c.self.inside.nodes)) ≡ [] = ap unjoined_in c.self.view_is ∙ c.requires.joined in
    let are_gone : AreGone (shown_by c.self.inside.progress.pages.value) c.self.inside.nodes c.in_ok-gone.gone = subst (λ ps. AreGone (shown_by ps) c.self.inside.nodes c.in_ok-gone.gone) c.deref.ensures c.in_ok-gone.ensures.gone in
    let holds : HoldsBut (shown_by c.self.inside.progress.pages.value) c.self.inside.nodes c.in_ok-gone.gone [] = subst (λ ps. HoldsBut (shown_by ps) c.self.inside.nodes c.in_ok-gone.gone []) c.deref.ensures c.in_ok-gone.ensures.held in
    let same : c.deref-2.result.now ≡ c.in_ok-gone.gone = c.deref-2.ensures.value ∙ c.in_ok-gone-2.ensures in
    let same_too : c.deref-3.result.now ≡ c.in_ok-gone.gone = c.deref-3.ensures.value ∙ c.in_ok-gone-2.ensures in
    let done : objs c.remove_all.new.self ≡ live c.self.inside.content = c.remove_all.ensures.objs ∙ ap (λ l. without (is_in l) (objs c.self.inside.nodes)) same
    ∙ done_left c.self.inside.content c.site_known.ensures.earlier c.self.inside.nodes c.self.inside.looks c.self.inside.progress c.self.invariant.stock calm joined c.in_ok-gone.gone are_gone holds c.len.ensures.rising in
    let looked : objs c.remove_all-2.new.self ≡ live c.self.inside.content = c.remove_all-2.ensures.objs ∙ ap (λ l. without (is_in l) (objs c.self.inside.looks)) same_too
    ∙ looked_left c.self.inside.content c.site_known.ensures.earlier c.self.inside.nodes c.self.inside.looks c.self.inside.progress c.self.invariant.stock calm joined c.in_ok-gone.gone are_gone holds c.len-2.ensures.rising in
    let content = ap (λ (s : Stocked). s.content) c.self.view_is in
    λ i. record { content = content i; done = (done ∙ ap live content) i; looked = (looked ∙ ap live content) i }

pub returns-clause-gone : goal.returns-clause-gone
returns-clause-gone c = λ o h.
    let calm : waiting c.self.inside.content (objs c.self.inside.nodes) ≡ [] = ap waiting_in c.self.view_is ∙ c.requires.calm in
    let joined : without (is_in (objs c.self.inside.looks)) (found c.self.inside.content (objs c.self.inside.nodes)) ≡ [] = ap unjoined_in c.self.view_is ∙ c.requires.joined in
    let are_gone : AreGone (shown_by c.self.inside.progress.pages.value) c.self.inside.nodes c.in_ok-gone.gone = subst (λ ps. AreGone (shown_by ps) c.self.inside.nodes c.in_ok-gone.gone) c.deref.ensures c.in_ok-gone.ensures.gone in
    let holds : HoldsBut (shown_by c.self.inside.progress.pages.value) c.self.inside.nodes c.in_ok-gone.gone [] = subst (λ ps. HoldsBut (shown_by ps) c.self.inside.nodes c.in_ok-gone.gone []) c.deref.ensures c.in_ok-gone.ensures.held in
    ap (λ (s : Stocked). is_in (found s.content s.done) o) (sym c.self.view_is)
    ∙ gone_unfound c.self.inside.content c.site_known.ensures.earlier c.self.inside.nodes c.self.inside.looks c.self.inside.progress c.self.invariant.stock calm joined c.in_ok-gone.gone are_gone holds o
    (ap (λ l. is_in l o) (sym c.in_ok-gone-2.ensures) ∙ h)
