use Rattle.std.proofs.Common.{◌≡◌, false, sym, ap, ◌∙◌, ◌++◌, subst}
use Rattle.dup_names.specs.Order.{obj_cmp}
use Rattle.dup_names.specs.Words.{in_order}
use Rattle.dup_names.specs.Objects.{is_in, same_obj}
use Rattle.dup_model.specs.Touched.{without}
use Rattle.dup_build.specs.declared.survey.Survey.{Survey}
use Rattle.dup_sets.specs.Entries.{objs}
use Rattle.dup_build.specs.Missing.{AreCounts}
use Rattle.dup_build.specs.Stock.{IsCounted, IsStock}
use Rattle.dup_build.specs.Stocked.{Stocked}
use Rattle.dup_sets.proofs.Sets.{put_back}
use Rattle.dup_build.proofs.Counting.{kept_counts, other_counts, same_counts}
use Rattle.dup_build.proofs.Stocking.{Given, given_from, isnt_done, waiting_apart, unjoined_apart, kept, same_stock, at_back}
use Rattle.dup_build.proofs.stock.Stock.put_in.Goals as goal

pub grow-requires-clause-waiting : goal.grow-requires-clause-waiting
grow-requires-clause-waiting c =
    let e : Given c.self.inside.content c.self.inside.nodes c.self.inside.looks c.self.inside.progress c.args.obj c.args.node c.args.news.now.unjoined =
    given_from _ _ _ _ _ _ _ _ c.self.view_is c.self.invariant.stock c.site_known.ensures.earlier c.requires.node c.requires.waits c.requires.unjoined in
    let parts : c.items-2.result.now ≡ without (is_in (objs c.self.inside.nodes)) c.args.news.now.unjoined =
    c.items-2.ensures ∙ c.requires.waiting ∙ ap (λ (s : Stocked). without (is_in s.done) c.args.news.now.unjoined) (sym c.self.view_is) in
    λ x h. waiting_apart c.self.inside.content c.self.inside.nodes c.self.inside.looks c.self.inside.progress e.stock e.earlier c.args.obj c.args.node e.node e.waits c.args.news.now.unjoined e.each x
    (ap (λ l. is_in l x) (sym parts) ∙ h)

pub grow-requires-clause-unjoined : goal.grow-requires-clause-unjoined
grow-requires-clause-unjoined c =
    let e : Given c.self.inside.content c.self.inside.nodes c.self.inside.looks c.self.inside.progress c.args.obj c.args.node c.args.news.now.unjoined =
    given_from _ _ _ _ _ _ _ _ c.self.view_is c.self.invariant.stock c.site_known.ensures.earlier c.requires.node c.requires.waits c.requires.unjoined in
    λ x h. unjoined_apart c.self.inside.content c.self.inside.nodes c.self.inside.looks c.self.inside.progress e.stock e.earlier c.args.obj c.args.node e.node e.waits c.args.news.now.unjoined e.each x
    (ap (λ l. is_in l x) (sym c.items-3.ensures) ∙ h)

pub invariant_of-self-in_default : goal.invariant_of-self-in_default
invariant_of-self-in_default c =
    let e : Given c.self.inside.content c.self.inside.nodes c.self.inside.looks c.self.inside.progress c.args.obj c.args.node c.args.news.now.unjoined =
    given_from _ _ _ _ _ _ _ _ c.self.view_is c.self.invariant.stock c.site_known.ensures.earlier c.requires.node c.requires.waits c.requires.unjoined in
    let waiting : c.items-2.result.now ≡ without (is_in (objs c.self.inside.nodes)) c.args.news.now.unjoined =
    c.items-2.ensures ∙ c.requires.waiting ∙ ap (λ (s : Stocked). without (is_in s.done) c.args.news.now.unjoined) (sym c.self.view_is) in
    let wider : c.grow.new.self.unjoined ≡ in_order obj_cmp (c.args.news.now.unjoined ++ c.self.inside.progress.unjoined) = c.in_default.ensures.unjoined ∙ ap (λ l. in_order obj_cmp (l ++ c.self.inside.progress.unjoined)) c.items-3.ensures in
    record {
      stock = kept c.self.inside.content c.self.inside.nodes c.self.inside.looks c.self.inside.progress e.stock e.earlier c.args.obj c.args.node e.node e.waits c.args.news.now.unjoined e.each
          c.requires.keyed c.add.new.self (record { pages = c.grow.new.self.pages; waiting = c.remove.new.self; unjoined = c.grow.new.self.unjoined; loose = c.grow.new.self.loose })
          c.in_ok-add.ensures.at c.in_ok-add.ensures.objs (ap (λ p. p.value) c.in_default.ensures.pages) c.in_default.ensures.loose
          (c.remove.ensures ∙ ap (without (same_obj c.args.obj)) (c.in_default.ensures.waiting ∙ ap (λ l. in_order obj_cmp (l ++ c.self.inside.progress.waiting)) waiting))
          wider;
      counts = kept_counts c.self.inside.nodes c.add.new.self (objs c.self.inside.looks) c.self.inside.progress.unjoined c.args.news.now.unjoined c.grow.new.self.unjoined c.args.obj c.args.node
          c.self.inside.missing c.count_new.new.missing c.self.invariant.counts c.in_ok-add.ensures.at c.in_ok-add.ensures.objs wider
          c.in_ok-count_new.ensures.new
          (λ q inside apart. c.in_ok-count_new.ensures.found q (ap (λ l. is_in l q) c.items.ensures ∙ inside) apart)
          (λ q outside apart. c.count_new.ensures.others q (ap (λ l. is_in l q) c.items.ensures ∙ outside) apart);
    }

pub invariant_of-self-2 : goal.invariant_of-self-2
invariant_of-self-2 c =
    let e : Given c.self.inside.content c.self.inside.nodes c.self.inside.looks c.self.inside.progress c.args.obj c.args.node c.args.news.now.unjoined =
    given_from _ _ _ _ _ _ _ _ c.self.view_is c.self.invariant.stock c.site_known.ensures.earlier c.requires.node c.requires.waits c.requires.unjoined in
    let out : is_in (objs c.self.inside.nodes) c.args.obj ≡ false =
    isnt_done c.self.inside.content c.self.inside.nodes c.self.inside.looks c.self.inside.progress e.stock e.earlier c.args.obj c.args.node e.node e.waits c.args.news.now.unjoined e.each in
    record {
      stock =
          subst (λ (o : Survey). IsStock c.self.inside.content c.remove-2.new.self c.self.inside.looks o) (sym c.in-Err.ensures.err)
          (same_stock c.self.inside.content c.self.inside.nodes c.remove-2.new.self c.self.inside.looks c.self.inside.progress
          (at_back c.self.inside.nodes c.add.new.self c.remove-2.new.self c.args.obj c.args.node out c.in_ok-add.ensures.at c.remove-2.ensures.at)
          (c.remove-2.ensures.objs ∙ ap (without (same_obj c.args.obj)) c.in_ok-add.ensures.objs ∙ put_back c.args.obj (objs c.self.inside.nodes) c.add.ensures.rising out)
          e.stock);
      counts = subst (λ (o : Survey). AreCounts c.remove-2.new.self (objs c.self.inside.looks) o.unjoined c.count_new.new.missing) (sym c.in-Err.ensures.err)
          (same_counts c.self.inside.nodes c.remove-2.new.self (objs c.self.inside.looks) c.self.inside.progress.unjoined c.count_new.new.missing
          (at_back c.self.inside.nodes c.add.new.self c.remove-2.new.self c.args.obj c.args.node out c.in_ok-add.ensures.at c.remove-2.ensures.at)
          (c.remove-2.ensures.objs ∙ ap (without (same_obj c.args.obj)) c.in_ok-add.ensures.objs ∙ put_back c.args.obj (objs c.self.inside.nodes) c.add.ensures.rising out)
          (other_counts c.self.inside.nodes (objs c.self.inside.looks) c.self.inside.progress.unjoined c.args.news.now.unjoined c.args.obj c.self.inside.missing c.count_new.new.missing c.self.invariant.counts out
          (unjoined_apart c.self.inside.content c.self.inside.nodes c.self.inside.looks c.self.inside.progress e.stock e.earlier c.args.obj c.args.node e.node e.waits c.args.news.now.unjoined e.each)
          (λ q outside apart. c.count_new.ensures.others q (ap (λ l. is_in l q) c.items.ensures ∙ outside) apart)));
    }

pub returns-clause-err : goal.returns-clause-err
returns-clause-err c =
    let e : Given c.self.inside.content c.self.inside.nodes c.self.inside.looks c.self.inside.progress c.args.obj c.args.node c.args.news.now.unjoined =
    given_from _ _ _ _ _ _ _ _ c.self.view_is c.self.invariant.stock c.site_known.ensures.earlier c.requires.node c.requires.waits c.requires.unjoined in
    let out : is_in (objs c.self.inside.nodes) c.args.obj ≡ false =
    isnt_done c.self.inside.content c.self.inside.nodes c.self.inside.looks c.self.inside.progress e.stock e.earlier c.args.obj c.args.node e.node e.waits c.args.news.now.unjoined e.each in
    let back : objs c.remove-2.new.self ≡ objs c.self.inside.nodes =
    c.remove-2.ensures.objs ∙ ap (without (same_obj c.args.obj)) c.in_ok-add.ensures.objs ∙ put_back c.args.obj (objs c.self.inside.nodes) c.add.ensures.rising out in
    (λ i. record { content = c.self.inside.content; done = back i; looked = objs c.self.inside.looks }) ∙ c.self.view_is

pub invariant_of-self : goal.invariant_of-self
invariant_of-self c =
    let e : Given c.self.inside.content c.self.inside.nodes c.self.inside.looks c.self.inside.progress c.args.obj c.args.node c.args.news.now.unjoined =
    given_from _ _ _ _ _ _ _ _ c.self.view_is c.self.invariant.stock c.site_known.ensures.earlier c.requires.node c.requires.waits c.requires.unjoined in
    let out : is_in (objs c.self.inside.nodes) c.args.obj ≡ false =
    isnt_done c.self.inside.content c.self.inside.nodes c.self.inside.looks c.self.inside.progress e.stock e.earlier c.args.obj c.args.node e.node e.waits c.args.news.now.unjoined e.each in
    let counts : AreCounts c.self.inside.nodes (objs c.self.inside.looks) c.self.inside.progress.unjoined c.count_new.new.missing =
    other_counts c.self.inside.nodes (objs c.self.inside.looks) c.self.inside.progress.unjoined c.args.news.now.unjoined c.args.obj c.self.inside.missing c.count_new.new.missing c.self.invariant.counts out
    (unjoined_apart c.self.inside.content c.self.inside.nodes c.self.inside.looks c.self.inside.progress e.stock e.earlier c.args.obj c.args.node e.node e.waits c.args.news.now.unjoined e.each)
    (λ q outside apart. c.count_new.ensures.others q (ap (λ l. is_in l q) c.items.ensures ∙ outside) apart) in
    record { stock = c.self.invariant.stock; counts = counts }

pub invariant_of-self-in_err-add : goal.invariant_of-self-in_err-add
invariant_of-self-in_err-add c =
    let e : Given c.self.inside.content c.self.inside.nodes c.self.inside.looks c.self.inside.progress c.args.obj c.args.node c.args.news.now.unjoined =
    given_from _ _ _ _ _ _ _ _ c.self.view_is c.self.invariant.stock c.site_known.ensures.earlier c.requires.node c.requires.waits c.requires.unjoined in
    let out : is_in (objs c.self.inside.nodes) c.args.obj ≡ false =
    isnt_done c.self.inside.content c.self.inside.nodes c.self.inside.looks c.self.inside.progress e.stock e.earlier c.args.obj c.args.node e.node e.waits c.args.news.now.unjoined e.each in
    let counts : AreCounts c.self.inside.nodes (objs c.self.inside.looks) c.self.inside.progress.unjoined c.count_new.new.missing =
    other_counts c.self.inside.nodes (objs c.self.inside.looks) c.self.inside.progress.unjoined c.args.news.now.unjoined c.args.obj c.self.inside.missing c.count_new.new.missing c.self.invariant.counts out
    (unjoined_apart c.self.inside.content c.self.inside.nodes c.self.inside.looks c.self.inside.progress e.stock e.earlier c.args.obj c.args.node e.node e.waits c.args.news.now.unjoined e.each)
    (λ q outside apart. c.count_new.ensures.others q (ap (λ l. is_in l q) c.items.ensures ∙ outside) apart) in
    subst (λ nodes. IsCounted c.self.inside.content nodes c.self.inside.looks c.self.inside.progress c.count_new.new.missing) (sym c.in_err-add.ensures.err)
    (record { stock = c.self.invariant.stock; counts = counts })
