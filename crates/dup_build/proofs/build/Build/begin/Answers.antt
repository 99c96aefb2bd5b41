use Rattle.std.proofs.Common.{◌≡◌, true, not, ap, subst, ◌∙◌, map, sym}
use Rattle.std.specs.List.{list_any}
use Rattle.dup_build.specs.Paged.{lists_pages}
use Rattle.dup_names.specs.Objects.{is_in}
use Rattle.dup_model.specs.Content.{Content}
use Rattle.dup_model.specs.Touched.{AreChanged, touched, affected}
use Rattle.dup_walk.specs.Affected.{has_changed, IsAffected}
use Rattle.dup_graph.specs.Graph.{node_at}
use Rattle.dup_model.specs.ChangedItems.{KeysAreKeys}
use Rattle.dup_model.proofs.Keyed.{fold_keyed}
use Rattle.dup_records.proofs.Moved.{frame_fold}
use Rattle.dup_build.specs.Built.{Built, done_in, looked_in}
use Rattle.dup_build.proofs.Graphs.{hit_dropped, hit_stale}
use Rattle.dup_build.proofs.Paging.{none_lists, pages_stay}
use Rattle.dup_build.proofs.build.Build.begin.Goals as goal

pub begin_over-requires-clause-dropped : goal.begin_over-requires-clause-dropped
begin_over-requires-clause-dropped c = λ o h.
    let changed : AreChanged c.self.inside.stock.content c.args.content.now c.in_ok-changed.changed.items =
    subst (λ (a : Content). AreChanged a c.args.content.now c.in_ok-changed.changed.items) c.content.ensures.value c.in_ok-changed.ensures in
    subst (λ (b : Built). is_in (done_in b.works) o ≡ true → is_in c.in_ok-hits.hits.dropped o ≡ touched b.works.content c.args.content.now o) c.self.view_is
    (λ k. hit_dropped c.self.inside.stock.content c.args.content.now c.self.inside.stock.done c.self.inside.stock.looked c.self.inside.graph c.in_ok-changed.changed.items
    c.content.ensures.earlier c.content.ensures.keys c.content.ensures.keyed c.content.ensures.closed changed c.self.invariant.reads c.in_ok-hits.hits.dropped
    (λ x. c.in_ok-hits.ensures.dropped x ∙ ap (λ l. has_changed l (node_at c.self.inside.graph x)) c.deref.ensures.value)
    o (ap (λ l. is_in l o) c.self.invariant.is_done ∙ k)) h

pub begin_over-requires-clause-stale : goal.begin_over-requires-clause-stale
begin_over-requires-clause-stale c = λ o h.
    let changed : AreChanged c.self.inside.stock.content c.args.content.now c.in_ok-changed.changed.items =
    subst (λ (a : Content). AreChanged a c.args.content.now c.in_ok-changed.changed.items) c.content.ensures.value c.in_ok-changed.ensures in
    subst (λ (b : Built). is_in (looked_in b.works) o ≡ true → is_in c.in_ok-hits.hits.stale o ≡ affected b.works.content c.args.content.now o) c.self.view_is
    (λ k. hit_stale c.self.inside.stock.content c.args.content.now c.self.inside.stock.done c.self.inside.stock.looked c.self.inside.graph c.in_ok-changed.changed.items
    c.content.ensures.earlier c.content.ensures.keys c.content.ensures.keyed c.content.ensures.closed changed c.self.invariant.reads c.in_ok-hits.hits.stale
    (subst (λ l. IsAffected c.self.inside.graph l c.in_ok-hits.hits.stale) c.deref.ensures.value c.in_ok-hits.ensures.stale)
    o (ap (λ l. is_in l o) c.self.invariant.is_looked ∙ k)) h

pub begin_over-requires-clause-frame : goal.begin_over-requires-clause-frame
begin_over-requires-clause-frame c =
    sym (ap (λ (x : Content). x.frame) c.requires.commits ∙ frame_fold c.args.self.now.works.content (map (λ m. m.value) c.args.commits.now))

pub begin_over-requires-clause-keys : goal.begin_over-requires-clause-keys
begin_over-requires-clause-keys c =
    subst KeysAreKeys (sym c.requires.commits)
    (fold_keyed (map (λ m. m.value) c.args.commits.now) c.args.self.now.works.content c.commits_keyed.ensures
    (subst (λ (b : Built). KeysAreKeys b.works.content) c.self.view_is c.content.ensures.keys))

pub begin_over-requires-clause-pages : goal.begin_over-requires-clause-pages
begin_over-requires-clause-pages c = λ same.
    let changed : AreChanged c.args.self.now.works.content c.args.content.now c.in_ok-changed.changed.items =
    subst (λ (b : Built). AreChanged b.works.content c.args.content.now c.in_ok-changed.changed.items) c.self.view_is
    (subst (λ (a : Content). AreChanged a c.args.content.now c.in_ok-changed.changed.items) c.content.ensures.value c.in_ok-changed.ensures) in
    let frames : c.args.self.now.works.content.frame ≡ c.args.content.now.frame =
    sym (ap (λ (x : Content). x.frame) c.requires.commits ∙ frame_fold c.args.self.now.works.content (map (λ m. m.value) c.args.commits.now)) in
    pages_stay c.args.self.now.works.content c.args.content.now frames c.in_ok-changed.changed.items changed
    (none_lists c.args.self.now.works.content.frame c.in_ok-changed.changed.items
    ((λ i. not (list_any (lists_pages (frames i)) (sym c.deref-2.ensures.value i))) ∙ ap not (sym c.pages_change.ensures) ∙ same))
