use Rattle.std.proofs.Common.{◌≡◌, cond, None, sym, ap, ◌∙◌, subst}
use Rattle.dup_model.specs.Content.{Content}
use Rattle.dup_names.specs.Objects.{is_in}
use Rattle.dup_model.specs.Touched.{without, touched, affected}
use Rattle.dup_sets.specs.Entries.{at, objs}
use Rattle.dup_model.specs.Pages.{pages}
use Rattle.dup_build.specs.Loose.{shown_by, HadNoLook}
use Rattle.dup_build.specs.Stock.{IsStock}
use Rattle.dup_build.specs.Stocked.{Stocked}
use Rattle.dup_build.proofs.Counting.{moved_counts}
use Rattle.dup_build.proofs.Stocking.{children_earlier}
use Rattle.dup_build.proofs.Moving.{Left, closed_moved, had_no_look, left_from, below_moved, moved_stock, done_moved, looked_moved}
use Rattle.dup_build.proofs.stock.Stock.move_to.Goals as goal

pub of-requires-clause-children : goal.of-requires-clause-children
of-requires-clause-children c = children_earlier c.self.inside.content c.self.inside.nodes c.self.invariant.stock.nodes_are c.site_known.ensures.earlier

pub of-requires-clause-nodes : goal.of-requires-clause-nodes
of-requires-clause-nodes c =
    let e : Left c.self.inside.content c.args.content.now c.self.inside.nodes c.self.inside.looks c.args.dropped.now c.args.stale.now =
    left_from _ _ _ _ _ _ _ c.self.view_is c.requires.frame c.requires.dropped c.requires.stale in
    below_moved c.self.inside.content c.args.content.now e.frames c.self.inside.nodes c.self.invariant.stock.nodes_are c.args.dropped.now e.drops

pub of-requires-clause-closed : goal.of-requires-clause-closed
of-requires-clause-closed c =
    let e : Left c.self.inside.content c.args.content.now c.self.inside.nodes c.self.inside.looks c.args.dropped.now c.args.stale.now =
    left_from _ _ _ _ _ _ _ c.self.view_is c.requires.frame c.requires.dropped c.requires.stale in
    closed_moved c.self.inside.content c.args.content.now c.self.inside.nodes c.self.inside.looks c.args.dropped.now c.args.stale.now e.drops e.stales e.frames c.site_known.ensures.earlier c.self.invariant.stock.closed

pub of-requires-clause-same : goal.of-requires-clause-same
of-requires-clause-same c = λ same. c.self.invariant.stock.pages ∙ ap (λ (s : Stocked). pages s.content) c.self.view_is ∙ c.requires.pages same

pub of-requires-clause-roots : goal.of-requires-clause-roots
of-requires-clause-roots c = λ same.
    subst (λ ps. HadNoLook (shown_by ps) c.self.inside.looks c.self.inside.progress.unjoined) (ap (λ (s : Stocked). pages s.content) c.self.view_is ∙ c.requires.pages same)
    (had_no_look c.self.inside.content c.self.inside.nodes c.self.inside.looks c.self.inside.progress c.site_known.ensures.earlier c.self.invariant.stock)

pub invariant_of-self : goal.invariant_of-self
invariant_of-self c =
    let e : Left c.self.inside.content c.args.content.now c.self.inside.nodes c.self.inside.looks c.args.dropped.now c.args.stale.now =
    left_from _ _ _ _ _ _ _ c.self.view_is c.requires.frame c.requires.dropped c.requires.stale in
    let dropped : c.deref-2.result.now ≡ c.args.dropped.now = c.deref-2.ensures.value ∙ c.in_ok-dropped.ensures in
    let stale : c.deref-3.result.now ≡ c.args.stale.now = c.deref-3.ensures.value ∙ c.in_ok-stale.ensures in
    record {
      stock = subst (λ (x : Content). IsStock x c.remove_all.new.self c.remove_all-2.new.self c.in_ok-progress.progress) (sym c.in_ok-content.ensures)
          (moved_stock c.self.inside.content c.args.content.now e.frames c.site_known.ensures.earlier c.self.inside.nodes c.self.inside.looks c.self.inside.progress c.self.invariant.stock
          c.requires.keys c.args.dropped.now c.args.stale.now e.drops e.stales c.remove_all.new.self c.remove_all-2.new.self c.in_ok-progress.progress
          (λ q. c.remove_all.ensures.at q ∙ ap (λ l. cond (is_in l q) None (at c.self.inside.nodes q)) dropped)
          (c.remove_all.ensures.objs ∙ ap (λ l. without (is_in l) (objs c.self.inside.nodes)) dropped)
          (λ q. c.remove_all-2.ensures.at q ∙ ap (λ l. cond (is_in l q) None (at c.self.inside.looks q)) stale)
          (c.remove_all-2.ensures.objs ∙ ap (λ l. without (is_in l) (objs c.self.inside.looks)) stale)
          c.in_ok-progress.ensures.pages c.in_ok-progress.ensures.loose c.in_ok-progress.ensures.waiting c.in_ok-progress.ensures.unjoined);
      counts = moved_counts c.self.inside.nodes c.remove_all.new.self (without (is_in c.args.stale.now) (objs c.self.inside.looks)) (objs c.remove_all-2.new.self) c.in_ok-progress.progress.unjoined c.args.dropped.now
          c.count_missing.new.missing
          (λ q. c.remove_all.ensures.at q ∙ ap (λ l. cond (is_in l q) None (at c.self.inside.nodes q)) dropped)
          (c.remove_all-2.ensures.objs ∙ ap (λ l. without (is_in l) (objs c.self.inside.looks)) stale)
          (λ x inside. c.in_ok-count_missing.ensures.counted x (ap (λ l. is_in l x) (c.deref.ensures.value ∙ c.in_ok-unjoined.ensures) ∙ inside));
    }

pub returns-clause-ok : goal.returns-clause-ok
returns-clause-ok c =
    let e : Left c.self.inside.content c.args.content.now c.self.inside.nodes c.self.inside.looks c.args.dropped.now c.args.stale.now =
    left_from _ _ _ _ _ _ _ c.self.view_is c.requires.frame c.requires.dropped c.requires.stale in
    let dropped : c.deref-2.result.now ≡ c.args.dropped.now = c.deref-2.ensures.value ∙ c.in_ok-dropped.ensures in
    let stale : c.deref-3.result.now ≡ c.args.stale.now = c.deref-3.ensures.value ∙ c.in_ok-stale.ensures in
    let done : objs c.remove_all.new.self ≡ without (touched c.args.self.now.content c.args.content.now) c.args.self.now.done =
    c.remove_all.ensures.objs ∙ ap (λ l. without (is_in l) (objs c.self.inside.nodes)) dropped
    ∙ done_moved c.self.inside.content c.args.content.now c.self.inside.nodes c.self.inside.looks c.args.dropped.now c.args.stale.now e.drops e.stales
    ∙ ap (λ (s : Stocked). without (touched s.content c.args.content.now) s.done) c.self.view_is in
    let looked : objs c.remove_all-2.new.self ≡ without (affected c.args.self.now.content c.args.content.now) c.args.self.now.looked =
    c.remove_all-2.ensures.objs ∙ ap (λ l. without (is_in l) (objs c.self.inside.looks)) stale
    ∙ looked_moved c.self.inside.content c.args.content.now c.self.inside.nodes c.self.inside.looks c.args.dropped.now c.args.stale.now e.drops e.stales
    ∙ ap (λ (s : Stocked). without (affected s.content c.args.content.now) s.looked) c.self.view_is in
    λ i. record { content = c.in_ok-content.ensures i; done = done i; looked = looked i }
