use Rattle.std.proofs.Common.{◌≡◌, ◌∷◌, ◌++◌, true, false, sym, ap, ◌∙◌, subst, drop}
use Rattle.std.specs.Prelude.{is_some, IfOk}
use Rattle.std.specs.List.{find}
use Rattle.std.specs.Ordering.{is_lt}
use Rattle.dup_names.specs.Order.{text_cmp}
use Rattle.dup_names.specs.Words.{same}
use Rattle.dup_model.specs.Content.{Entry}
use Rattle.dup_chunks.specs.Cut.{front, back}
use Rattle.dup_records.proofs.RowPlaces.{falls, put_over, put_in}
use Rattle.dup_records.proofs.table.rows_with.Goals as goal

pub replaced-requires : goal.replaced-requires
replaced-requires c = falls c.key.result.now c.args.rows.now c.requires

pub inserted-requires : goal.inserted-requires
inserted-requires c = falls c.key.result.now c.args.rows.now c.requires

pub returns-then-is_there : goal.returns-then-is_there
returns-then-is_there c =
    let there : is_some (find (λ (e : Entry). same e.0 c.args.row.0) c.args.rows.now) ≡ true =
    ap (λ k. is_some (find (λ (e : Entry). same e.0 k) c.args.rows.now)) (sym c.key.ensures) ∙ sym c.is_there.ensures ∙ c.if-is_there.true in
    rw (put_over c.args.row c.args.rows.now c.requires there)
    (subst (λ k. IfOk c.replaced.result (λ made. made ≡ front (λ (e : Entry). is_lt (text_cmp e.0 k)) c.args.rows.now ++ c.args.row ∷ drop 1 (back (λ (e : Entry). is_lt (text_cmp e.0 k)) c.args.rows.now)))
    c.key.ensures c.replaced.ensures)

pub returns-else-is_there : goal.returns-else-is_there
returns-else-is_there c =
    let absent : is_some (find (λ (e : Entry). same e.0 c.args.row.0) c.args.rows.now) ≡ false =
    ap (λ k. is_some (find (λ (e : Entry). same e.0 k) c.args.rows.now)) (sym c.key.ensures) ∙ sym c.is_there.ensures ∙ c.if-is_there.false in
    rw (put_in c.args.row c.args.rows.now c.requires absent)
    (subst (λ k. IfOk c.inserted.result (λ made. made ≡ front (λ (e : Entry). is_lt (text_cmp e.0 k)) c.args.rows.now ++ c.args.row ∷ back (λ (e : Entry). is_lt (text_cmp e.0 k)) c.args.rows.now))
    c.key.ensures c.inserted.ensures)
