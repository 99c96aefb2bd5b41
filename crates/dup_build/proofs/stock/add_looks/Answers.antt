use Rattle.std.proofs.Common.{◌<◌, ◌∷◌, cond, Some, None, length, map, take, inl, inr, sym, ap, ◌∙◌, arith}
use Rattle.std.specs.Option.{option_map}
use Rattle.std.proofs.lemmas.List.{length-map}
use Rattle.std.proofs.lemmas.Bool.{cases_Bool}
use Rattle.dup_names.specs.Order.{obj_cmp}
use Rattle.dup_names.specs.Words.{in_order}
use Rattle.dup_names.specs.Objects.{same_obj, is_in}
use Rattle.dup_model.specs.Touched.{without}
use Rattle.dup_build.specs.declared.node.Shown.{Shown}
use Rattle.dup_sets.specs.Entries.{at, objs}
use Rattle.dup_build.specs.Looked.{look_at, last_look}
use Rattle.dup_sets.proofs.Sets.{added_more, added_back}
use Rattle.dup_build.proofs.Joining.{last_push, last_other, others, values_push, obj_at, none_at}
use Rattle.dup_build.proofs.stock.add_looks.Goals as goal

pub loop-look-preserved : goal.loop-look-preserved
loop-look-preserved c =
    let below : c.loop-look.look-index < length c.args.level.now = omega (arith, c.loop-look-test.true, ap length c.requires.level, length-map c.args.made.now (λ m. m.value.obj)) in
    record {
      of_objs =
          c.in_default.ensures.objs
          ∙ ap (λ l. in_order obj_cmp (c.look-item.result.value.obj ∷ l)) c.loop-look.invariant.of_objs
          ∙ added_more c.args.level.now c.loop-look.look-index c.look-item.result.value.obj below
          (obj_at (λ m. m.value) c.args.made.now c.args.level.now c.requires.level c.loop-look.look-index c.look-item.result c.look-item.is) (objs c.args.looks.now);
      at_each = λ q.
          c.in_default.ensures.looks q
          ∙ ap (λ x. cond (same_obj q c.look-item.result.value.obj) (Some c.look-item.result.value) x) (c.loop-look.invariant.at_each q)
          ∙ sym (ap (last_look q (look_at c.args.looks.now q)) (values_push (λ m. m.value) c.args.made.now c.loop-look.look-index c.look-item.result c.loop-look-test.true c.look-item.is)
          ∙ last_push q (look_at c.args.looks.now q) (map (λ m. m.value) (take c.loop-look.look-index c.args.made.now)) c.look-item.result.value);
    }

pub returns-in-loop-look-clause-same_objs : goal.returns-in-loop-look-clause-same_objs
returns-in-loop-look-clause-same_objs c =
    c.remove_all.ensures.objs
    ∙ ap (without (is_in c.args.level.now)) (ap objs c.in-Err.ensures.err ∙ c.loop-look.invariant.of_objs)
    ∙ added_back c.args.level.now c.loop-look.look-index (objs c.args.looks.now) c.len.ensures.rising c.requires.apart

pub returns-in-loop-look-clause-same : goal.returns-in-loop-look-clause-same
returns-in-loop-look-clause-same c = λ q.
    ap (option_map (λ (s : Shown). s.look.value)) (c.remove_all.ensures.at q ∙ ap (λ es. cond (is_in c.args.level.now q) None (at es q)) c.in-Err.ensures.err)
    ∙ (elim (cases_Bool (is_in c.args.level.now q)) [
      | inl there ↦ ap (λ b. option_map (λ (s : Shown). s.look.value) (cond b None (at c.loop-look.looks q))) there ∙ sym (none_at c.args.looks.now q (c.requires.apart q there))
      | inr out ↦
          ap (λ b. option_map (λ (s : Shown). s.look.value) (cond b None (at c.loop-look.looks q))) out
          ∙ c.loop-look.invariant.at_each q
          ∙ last_other q (look_at c.args.looks.now q) (map (λ m. m.value) (take c.loop-look.look-index c.args.made.now))
          (others (λ m. m.value) c.args.made.now c.args.level.now c.requires.level c.loop-look.look-index q out)
    ])
