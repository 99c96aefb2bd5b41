use Rattle.std.proofs.Common.{List, [], sym, subst, not}
use Rattle.std.specs.Prelude.{slice_get}
use Rattle.dup_names.specs.Words.{Word, same}
use Rattle.dup_model.specs.Content.{Entry, Table}
use Rattle.dup_model.specs.Tables.{IsRising}
use Rattle.dup_model.proofs.Tables.{rising_filter}
use Rattle.dup_records.specs.Pairs.{AreIndexes, HasText, IsMoved, pairs_at}
use Rattle.dup_records.proofs.Edited.{ready, out_indexes}
use Rattle.dup_records.proofs.table.Table.without.Goals as goal

pub all_moved-requires : goal.all_moved-requires
all_moved-requires c = λ field.
    let old = c.texts_in-old.result.now in
    subst (λ l. HasText (pairs_at l field) c.args.key.now (slice_get old field)) (sym c.deref.ensures.value)
    (ready c.self.inside.rows c.self.inside.indexes.items c.args.key.now old c.self.invariant.1 c.texts_in-old.ensures field)

pub invariant_of-result : goal.invariant_of-result
invariant_of-result c =
    let rows = c.self.inside.rows in
    let made = c.in_ok-indexes.indexes.items in
    let none : List Word = [] in (
      subst IsRising (sym c.in_ok-rows.ensures) (rising_filter (λ (e : Entry). not (same e.0 c.args.key.now)) rows c.self.invariant.0),
      subst (λ (t : Table). AreIndexes t made) (sym c.in_ok-rows.ensures)
          (out_indexes rows c.self.inside.indexes.items made c.args.key.now c.self.invariant.1 (λ field.
          subst (λ l. IsMoved (pairs_at l field) (pairs_at made field) c.args.key.now (slice_get none field)) c.deref.ensures.value (c.in_ok-indexes.ensures field))),
    )
