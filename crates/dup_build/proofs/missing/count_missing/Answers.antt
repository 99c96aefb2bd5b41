use Rattle.std.proofs.Common.{◌≡◌, cond, ℕ, Some, length, refl, sym, ap, ◌∙◌}
use Rattle.std.proofs.lemmas.Bool.{true≢false}
use Rattle.dup_names.specs.declared.object.Obj.{Obj}
use Rattle.dup_names.specs.Objects.{is_in, same_obj}
use Rattle.dup_model.specs.Touched.{without}
use Rattle.dup_sets.specs.Entries.{at, objs}
use Rattle.dup_build.specs.Nodes.{below}
use Rattle.dup_build.proofs.Counting.{counted_more, others_more}
use Rattle.dup_build.proofs.missing.count_missing.Goals as goal

pub loop-obj-init : goal.loop-obj-init
loop-obj-init c = record { counted = λ x h. absurd (true≢false (sym h)); others = λ x h. refl }

pub loop-obj-preserved : goal.loop-obj-preserved
loop-obj-preserved c =
    let many : Obj → ℕ = λ x. length (without (is_in (without (is_in c.args.stale.now) (objs c.args.looks.now))) (below c.args.nodes.now c.args.dropped.now x)) in
    let put : (x : Obj) → at c.add.new.self x ≡ cond (same_obj x c.obj-item.result) (Some (many c.obj-item.result)) (at c.loop-obj.missing x) = λ x. c.in_ok-add.ensures.at x ∙ ap (λ n. cond (same_obj x c.obj-item.result) (Some n) (at c.loop-obj.missing x)) (c.lacking-count.ensures ∙ ap (λ os. length (without (is_in (without (is_in c.args.stale.now) (objs c.args.looks.now))) os)) c.children.ensures) in
    record {
      counted = counted_more c.args.among.now c.loop-obj.obj-index c.obj-item.result c.loop-obj-test.true c.obj-item.is many c.loop-obj.missing c.add.new.self c.loop-obj.invariant.counted put;
      others = others_more c.args.among.now c.loop-obj.obj-index c.obj-item.result c.loop-obj-test.true c.obj-item.is (many c.obj-item.result) c.args.missing.now c.loop-obj.missing c.add.new.self c.loop-obj.invariant.others put;
    }
