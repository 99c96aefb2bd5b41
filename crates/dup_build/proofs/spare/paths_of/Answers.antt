use Rattle.std.proofs.Common.{◌≡◌, ◌+◌, [], ◌∷◌, ◌++◌, take, sym, ap, subst, ◌∙◌}
use Rattle.std.specs.FinMap as fin
use Rattle.std.specs.List.Sorted.{IsStrictlySortedBy}
use Rattle.std.proofs.lemmas.Option.{none-some}
use Rattle.dup_names.specs.Order.{text_cmp}
use Rattle.dup_model.specs.Editions.{has}
use Rattle.dup_build.specs.Targets.{looks_by_path}
use Rattle.dup_build.proofs.Renewing.{none_more, one_more, taken_more}
use Rattle.dup_build.proofs.spare.paths_of.Goals.{in-Some+in_ok-insert, in_default}
use Rattle.dup_build.proofs.spare.paths_of.Goals as goal

pub loop-obj-preserved : goal.loop-obj-preserved
loop-obj-preserved c =
    let more : take (c.loop-obj.obj-index + 1) c.args.objs.now ≡ take c.loop-obj.obj-index c.args.objs.now ++ c.obj-item.result ∷ [] =
    taken_more c.args.objs.now c.loop-obj.obj-index c.obj-item.result c.loop-obj-test.true c.obj-item.is in
    elim c.match-page_of.branch [
      | in-Some+in_ok-insert w ↦ record {
        told = λ p. one_more (take c.loop-obj.obj-index c.args.objs.now) (take (c.loop-obj.obj-index + 1) c.args.objs.now) c.obj-item.result p w.in-Some.path (fin.find text_cmp p (looks_by_path c.args.pages.now))
            (has c.match-page_of.paths.keys p) (has c.loop-obj.paths.keys p) more (c.loop-obj.invariant.told p)
            (w.in-Some.ensures p)
            (ap (λ s. has s.keys p) w.paths-is ∙ w.in_ok-insert.ensures.updates.0 p);
        order = subst (λ s. IsStrictlySortedBy text_cmp s.keys) (sym w.paths-is) w.in_ok-insert.ensures.ordered;
      }
      | in_default w ↦ record {
        told = λ p. ap (λ s. has s.keys p) w.paths-is
            ∙ none_more (take c.loop-obj.obj-index c.args.objs.now) (take (c.loop-obj.obj-index + 1) c.args.objs.now) c.obj-item.result (fin.find text_cmp p (looks_by_path c.args.pages.now)) (has c.loop-obj.paths.keys p) more
            (c.loop-obj.invariant.told p) (λ h. none-some p ((w.in_default.ensures p).1 h));
        order = subst (λ s. IsStrictlySortedBy text_cmp s.keys) (sym w.paths-is) c.loop-obj.invariant.order;
      }
    ]
