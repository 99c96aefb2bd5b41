-- The indexes of rows after an edit of one of them.
use Rattle.std.proofs.Common.{◌≡◌, ℕ, Bool, true, false, not, cond, List, [], ◌∷◌, refl, sym, ap, ◌∙◌}
use Rattle.std.specs.Prelude.{Option, Some, None, slice_get}
use Rattle.std.specs.List.{find, filter}
use Rattle.std.specs.Option.{option_and_then, option_map, unwrap_or}
use Rattle.std.specs.declared.cmp.Ordering.{Ordering}
use Rattle.std.specs.declared.cmp.Ordering.TheVariants.{Less, Equal, Greater}
use Rattle.std.specs.Cmp.{tied_itself}
use Rattle.std.specs.Cmp.Lexicographic.{nat_list_cmp_total, nat_list_eq_equiv}
use Rattle.dup_names.specs.Order.{text_cmp}
use Rattle.dup_names.specs.Words.{Word, same}
use Rattle.dup_model.specs.Content.{Entry, Table}
use Rattle.dup_model.specs.Commits.{put_row, put_row_at}
use Rattle.dup_model.proofs.Tables.{equal_is}
use Rattle.dup_records.specs.Pairs.{Pair, is_text, pairs_at, AreIndexes, HasText, IsMoved}
use Rattle.dup_records.proofs.RowPlaces.{same_is}

-- the row of a key after one was put
pub find_put : (k : Word) (new : Entry) (rows : Table) → find (λ e. same e.0 k) (put_row new rows) ≡ cond (same k new.0) (Some new) (find (λ e. same e.0 k) rows)
find_put k new [] = ap (λ b. cond b (Some new) None) (nat_list_eq_equiv.symm new.0 k)
find_put k new (e ∷ es) = by_cmp (text_cmp new.0 e.0) refl (find_put k new es)
  where
    rest : (b : Bool) → same k new.0 ≡ b → new.0 ≡ e.0 → cond b (Some new) (find (λ e. same e.0 k) es) ≡ cond b (Some new) (cond (same e.0 k) (Some e) (find (λ e. same e.0 k) es))
    rest true is one = refl
    rest false is one = ap (λ b. cond b (Some e) (find (λ e. same e.0 k) es)) (sym (ap (λ w. same w k) (sym one) ∙ nat_list_eq_equiv.symm new.0 k ∙ is))

    apart : text_cmp new.0 e.0 ≡ Greater → same e.0 new.0 ≡ false
    apart is = by_same (same e.0 new.0) refl
      where
        by_same : (b : Bool) → same e.0 new.0 ≡ b → same e.0 new.0 ≡ false
        by_same false differ = differ
        by_same true one = absurd (let g : Greater ≡ Equal = sym is ∙ (ap (text_cmp new.0) (same_is e.0 new.0 one) ∙ tied_itself nat_list_cmp_total new.0) in cc)

    past : (b : Bool) → same e.0 k ≡ b → same e.0 new.0 ≡ false
        → cond b (Some e) (cond (same k new.0) (Some new) (find (λ e. same e.0 k) es)) ≡ cond (same k new.0) (Some new) (cond b (Some e) (find (λ e. same e.0 k) es))
    past true is other = ap (λ b. cond b (Some new) (Some e)) (sym (ap (λ w. same w new.0) (sym (same_is e.0 k is)) ∙ other))
    past false is other = refl

    by_cmp : (r : Ordering) → text_cmp new.0 e.0 ≡ r → find (λ e. same e.0 k) (put_row new es) ≡ cond (same k new.0) (Some new) (find (λ e. same e.0 k) es)
        → find (λ e. same e.0 k) (put_row_at r new e es (put_row new es)) ≡ cond (same k new.0) (Some new) (cond (same e.0 k) (Some e) (find (λ e. same e.0 k) es))
    by_cmp Less is more = ap (λ b. cond b (Some new) (cond (same e.0 k) (Some e) (find (λ e. same e.0 k) es))) (nat_list_eq_equiv.symm new.0 k)
    by_cmp Equal is more =
        ap (λ b. cond b (Some new) (find (λ e. same e.0 k) es)) (nat_list_eq_equiv.symm new.0 k) ∙ rest (same k new.0) refl (equal_is new.0 e.0 is)
    by_cmp Greater is more = ap (λ o. cond (same e.0 k) (Some e) o) more ∙ past (same e.0 k) refl (apart is)

-- and after one was taken out
pub find_out : (k key : Word) (rows : Table) → find (λ e. same e.0 k) (filter (λ e. not (same e.0 key)) rows) ≡ cond (same k key) None (find (λ e. same e.0 k) rows)
find_out k key [] = nothing (same k key)
  where
    nothing : (b : Bool) → let none : Option Entry = None in none ≡ cond b None None
    nothing true = refl
    nothing false = refl
find_out k key (e ∷ es) = by_test (same e.0 key) refl (same e.0 k) refl (find_out k key es)
  where
    by_test : (x : Bool) → same e.0 key ≡ x → (y : Bool) → same e.0 k ≡ y → find (λ e. same e.0 k) (filter (λ e. not (same e.0 key)) es) ≡ cond (same k key) None (find (λ e. same e.0 k) es)
        → find (λ e. same e.0 k) (cond (not x) (e ∷ filter (λ e. not (same e.0 key)) es) (filter (λ e. not (same e.0 key)) es)) ≡ cond (same k key) None (cond y (Some e) (find (λ e. same e.0 k) es))
    by_test true gone true here rest =
        let one : same k key ≡ true = ap (λ w. same w key) (sym (same_is e.0 k here)) ∙ gone in
        rest ∙ ap (λ b. cond b None (find (λ e. same e.0 k) es)) one ∙ ap (λ b. cond b None (Some e)) (sym one)
    by_test true gone false other rest = rest
    by_test false stays true here rest =
        let apart : same k key ≡ false = ap (λ w. same w key) (sym (same_is e.0 k here)) ∙ stays in
        ap (λ b. cond b (Some e) (find (λ e. same e.0 k) (filter (λ e. not (same e.0 key)) es))) here ∙ ap (λ b. cond b None (Some e)) (sym apart)
    by_test false stays false other rest = ap (λ b. cond b (Some e) (find (λ e. same e.0 k) (filter (λ e. not (same e.0 key)) es))) other ∙ rest

-- what the indexes have of a row before the edit
pub ready : (rows : Table) (indexes : List (List Pair)) (key : Word) (old : List Word) → AreIndexes rows indexes → old ≡ unwrap_or (option_map (λ e. e.1) (find (λ e. same e.0 key) rows)) []
    → (field : ℕ) → HasText (pairs_at indexes field) key (slice_get old field)
ready rows indexes key old are is field = record {
  rises = (are field).rises;
  each = λ t. (are field).each (t, key) ∙ ap (λ o. is_text o t) (by_row (find (λ e. same e.0 key) rows) ∙ ap (λ l. slice_get l field) (sym is));
}
  where
    by_row : (o : Option Entry) → option_and_then (λ e. slice_get e.1 field) o ≡ slice_get (unwrap_or (option_map (λ e. e.1) o) []) field
    by_row None = refl
    by_row (Some e) = refl

pub put_indexes : (rows : Table) (indexes made : List (List Pair)) (new : Entry) → AreIndexes rows indexes → ((field : ℕ) → IsMoved (pairs_at indexes field) (pairs_at made field) new.0 (slice_get new.1 field))
    → AreIndexes (put_row new rows) made
put_indexes rows indexes made new are moved field = record {
  rises = (moved field).rises;
  each = λ q. (moved field).each q ∙ (ap (λ b. cond (same q.1 new.0) (is_text (slice_get new.1 field) q.0) b) ((are field).each q) ∙ by_key q (same q.1 new.0) (find (λ e. same e.0 q.1) rows)
      ∙ ap (λ o. is_text (option_and_then (λ e. slice_get e.1 field) o) q.0) (sym (find_put q.1 new rows)));
}
  where
    by_key : (q : Pair) (b : Bool) (o : Option Entry) → cond b (is_text (slice_get new.1 field) q.0) (is_text (option_and_then (λ e. slice_get e.1 field) o) q.0)
        ≡ is_text (option_and_then (λ e. slice_get e.1 field) (cond b (Some new) o)) q.0
    by_key q true o = refl
    by_key q false o = refl

pub out_indexes : (rows : Table) (indexes made : List (List Pair)) (key : Word) → AreIndexes rows indexes → let none : List Word = [] in ((field : ℕ) → IsMoved (pairs_at indexes field) (pairs_at made field) key (slice_get none field))
    → AreIndexes (filter (λ e. not (same e.0 key)) rows) made
out_indexes rows indexes made key are moved field = record {
  rises = (moved field).rises;
  each = λ q. (moved field).each q ∙ (ap (λ b. cond (same q.1 key) false b) ((are field).each q) ∙ by_key q (same q.1 key) (find (λ e. same e.0 q.1) rows)
      ∙ ap (λ o. is_text (option_and_then (λ e. slice_get e.1 field) o) q.0) (sym (find_out q.1 key rows)));
}
  where
    by_key : (q : Pair) (b : Bool) (o : Option Entry) → cond b false (is_text (option_and_then (λ e. slice_get e.1 field) o) q.0) ≡ is_text (option_and_then (λ e. slice_get e.1 field) (cond b None o)) q.0
    by_key q true o = refl
    by_key q false o = refl
