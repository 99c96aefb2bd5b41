use Rattle.std.proofs.Common.{sym, ap, ◌∙◌, refl, take, cond, None}
use Rattle.std.proofs.lemmas.List.{take_all}
use Rattle.dup_names.specs.Objects.{same_obj, is_in}
use Rattle.dup_model.specs.Touched.{without}
use Rattle.dup_sets.specs.Entries.{at, objs}
use Rattle.dup_sets.proofs.Sets.{without_none, without_more, taken_more}
use Rattle.dup_sets.proofs.Entries.{both_none}
use Rattle.dup_sets.proofs.table.Table.remove_all.Goals as goal

pub loop-obj-init : goal.loop-obj-init
loop-obj-init g c = record { at_each = λ q. refl; of_objs = sym (without_none (objs c.args.self.now)) }

pub loop-obj-preserved : goal.loop-obj-preserved
loop-obj-preserved g c = record {
  at_each = λ q.
      c.remove.ensures.at q
      ∙ ap (λ o. cond (same_obj q c.obj-item.result) None o) (c.loop-obj.invariant.at_each q)
      ∙ both_none (same_obj q c.obj-item.result) (is_in (take c.loop-obj.obj-index c.args.gone.now) q) (at c.args.self.now q)
      ∙ ap (λ b. cond b None (at c.args.self.now q)) (sym (taken_more c.args.gone.now c.loop-obj.obj-index c.obj-item.result c.loop-obj-test.true c.obj-item.is q));
  of_objs =
      c.remove.ensures.objs
      ∙ ap (without (same_obj c.obj-item.result)) c.loop-obj.invariant.of_objs
      ∙ without_more c.args.gone.now c.loop-obj.obj-index c.obj-item.result c.loop-obj-test.true c.obj-item.is (objs c.args.self.now);
}

pub returns-clause-at : goal.returns-clause-at
returns-clause-at g c =
    λ q. c.loop-obj.invariant.at_each q ∙ ap (λ l. cond (is_in l q) None (at c.args.self.now q)) (take_all c.loop-obj.obj-index c.args.gone.now c.loop-obj-test.false)

pub returns-clause-objs : goal.returns-clause-objs
returns-clause-objs g c =
    c.loop-obj.invariant.of_objs ∙ ap (λ l. without (is_in l) (objs c.args.self.now)) (take_all c.loop-obj.obj-index c.args.gone.now c.loop-obj-test.false)
