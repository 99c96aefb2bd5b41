use Rattle.std.proofs.Common.{◌+◌, ◌≤◌, [], length, sym, ap, ◌∙◌, subst, below_more, arith, inl, inr}
use Rattle.std.specs.Prelude.{slice_get}
use Rattle.std.specs.Option.{option_copied, unwrap_or}
use Rattle.std.proofs.lemmas.Bool.{cases_lt}
use Rattle.std.proofs.lemmas.List.{length_push}
use Rattle.dup_records.specs.Pairs.{IsMoved, pairs_at}
use Rattle.dup_records.proofs.Indexes.{pairs_push, pairs_last, moved_past}
use Rattle.dup_records.proofs.index.all_moved.Goals as goal

pub loop-field-preserved : goal.loop-field-preserved
loop-field-preserved c =
    let indexes = c.args.indexes.now in
    let key = c.args.key.now in
    let new = c.args.new.now in
    let made = c.loop-field.made.items in
    let moved = c.in_ok-moved.moved in
    let here = c.loop-field.field in
    let is : IsMoved (pairs_at indexes here) moved key (slice_get new here) =
    subst (λ o. IsMoved (unwrap_or o []) moved key (slice_get new here)) c.item_at-index.ensures
    (subst (λ o. IsMoved (unwrap_or (option_copied c.item_at-index.result) []) moved key o) c.item_at-in-loop-field.ensures c.in_ok-moved.ensures) in
    record {
      long = ap length c.in_ok-push.ensures.items ∙ length_push made moved ∙ ap (λ n. n + 1) c.loop-field.invariant.long;
      each = below_more (λ f. IsMoved (pairs_at indexes f) (pairs_at c.push.new.self.items f) key (slice_get new f)) here
          (λ f h. subst (λ l. IsMoved (pairs_at indexes f) l key (slice_get new f))
          (sym (ap (λ l. pairs_at l f) c.in_ok-push.ensures.items ∙ pairs_push made moved f (omega (arith, c.loop-field.invariant.long, h)))) (c.loop-field.invariant.each f h))
          (subst (λ l. IsMoved (pairs_at indexes here) l key (slice_get new here))
          (sym (ap (λ l. pairs_at l here) c.in_ok-push.ensures.items ∙ pairs_last made moved here c.loop-field.invariant.long)) is);
    }

pub returns : goal.returns
returns c = λ f. elim (cases_lt f c.loop-field.field) [
  | inl below ↦ c.loop-field.invariant.each f below
  | inr past ↦
      let many : c.max-count.result ≤ f = omega (arith, c.loop-field-test.false, past) in
      moved_past c.args.indexes.now c.loop-field.made.items c.args.key.now c.args.new.now f (omega (arith, c.max-count.ensures, many)) (omega (arith, c.loop-field.invariant.long, past)) (omega (arith, c.max-count.ensures, many))
]
