use Rattle.std.proofs.Common.{sym, subst}
use Rattle.std.specs.Prelude.{slice_get}
use Rattle.dup_model.specs.Content.{Table}
use Rattle.dup_model.specs.Tables.{IsRising}
use Rattle.dup_model.proofs.Tables.{rising_put}
use Rattle.dup_records.specs.Pairs.{AreIndexes, HasText, IsMoved, pairs_at}
use Rattle.dup_records.proofs.Edited.{ready, put_indexes}
use Rattle.dup_records.proofs.table.Table.with_row.Goals as goal

pub all_moved-requires : goal.all_moved-requires
all_moved-requires c = λ field.
    let old = c.texts_in-old.result.now in
    subst (λ l. HasText (pairs_at l field) c.key-key.result.now (slice_get old field)) (sym c.deref.ensures.value)
    (ready c.self.inside.rows c.self.inside.indexes.items c.key-key.result.now old c.self.invariant.1 c.texts_in-old.ensures field)

pub invariant_of-result : goal.invariant_of-result
invariant_of-result c =
    let rows = c.self.inside.rows in
    let made = c.in_ok-indexes.indexes.items in
    let row = c.args.row in (
      subst IsRising (sym c.in_ok-rows.ensures) (rising_put row rows c.self.invariant.0),
      subst (λ (t : Table). AreIndexes t made) (sym c.in_ok-rows.ensures)
          (put_indexes rows c.self.inside.indexes.items made row c.self.invariant.1 (λ field.
          subst (λ l. IsMoved (pairs_at l field) (pairs_at made field) row.0 (slice_get row.1 field)) c.deref.ensures.value
          (subst (λ k. IsMoved (pairs_at c.deref.result.now field) (pairs_at made field) k (slice_get row.1 field)) c.key-key.ensures
          (subst (λ ts. IsMoved (pairs_at c.deref.result.now field) (pairs_at made field) c.key-key.result.now (slice_get ts field)) c.texts.ensures
          (c.in_ok-indexes.ensures field))))),
    )
