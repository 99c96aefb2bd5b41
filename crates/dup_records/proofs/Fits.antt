-- Rows keep a text for each field.
use Rattle.std.proofs.Common.{◌≡◌, ℕ, zero, suc, Bool, true, false, cond, List, [], ◌∷◌, length, map, refl, ap, ◌∙◌}
use Rattle.std.specs.Prelude.{Some, slice_set}
use Rattle.std.specs.List.{find, filter, slice_get}
use Rattle.std.specs.Option.{option_map, unwrap_or}
use Rattle.std.specs.declared.cmp.Ordering.{Ordering}
use Rattle.std.specs.declared.cmp.Ordering.TheVariants.{Less, Equal, Greater}
use Rattle.dup_names.specs.Order.{text_cmp}
use Rattle.dup_names.specs.Words.{Word, same, place}
use Rattle.dup_model.specs.Content.{Entry, Table}
use Rattle.dup_template.specs.Frame.{Frame}
use Rattle.dup_model.specs.Names.{fields_at}
use Rattle.dup_model.specs.Commits.{blank, put_row, put_row_at, with_fields}
use Rattle.dup_records.specs.Fits.{HaveTexts, TablesFit}

-- no rows
pub none_fit : {K : Type 0} (frame : Frame) (kinds : List K) → let none : Table = [] in TablesFit frame (map (λ k. none) kinds)
none_fit frame [] kind = tt
none_fit frame (k ∷ ks) zero = tt
none_fit frame (k ∷ ks) (suc kind) = at ks kind
  where
    at : {K : Type 0} (ks : List K) (i : ℕ) → let none : Table = [] in HaveTexts (length (fields_at frame (suc kind))) (unwrap_or (slice_get (map (λ k. none) ks) i) [])
    at [] i = tt
    at (k ∷ ks) zero = tt
    at (k ∷ ks) (suc i) = at ks i

-- one table replaced, at its own place or at another
pub fit_set : (frame : Frame) (tables : List Table) (k : ℕ) (rows : Table) → TablesFit frame tables → HaveTexts (length (fields_at frame k)) rows → TablesFit frame (slice_set tables k rows)
fit_set frame tables k rows fits new kind = at (λ i. length (fields_at frame i)) tables k kind fits new
  where
    at : (count : ℕ → ℕ) (tables : List Table) (k kind : ℕ) → ((i : ℕ) → HaveTexts (count i) (unwrap_or (slice_get tables i) [])) → HaveTexts (count k) rows →
        HaveTexts (count kind) (unwrap_or (slice_get (slice_set tables k rows) kind) [])
    at count [] k kind fits new = tt
    at count (t ∷ ts) zero zero fits new = new
    at count (t ∷ ts) zero (suc kind) fits new = fits (suc kind)
    at count (t ∷ ts) (suc k) zero fits new = fits zero
    at count (t ∷ ts) (suc k) (suc kind) fits new = at (λ i. count (suc i)) ts k kind (λ i. fits (suc i)) new

-- a row put, and rows taken out
fit_put_at : (n : ℕ) (r : Ordering) (new e : Entry) (es rest : Table) → length new.1 ≡ n → HaveTexts n (e ∷ es) → HaveTexts n rest → HaveTexts n (put_row_at r new e es rest)
fit_put_at n Less new e es rest is all more = (is, all)
fit_put_at n Equal new e es rest is all more = (is, all.1)
fit_put_at n Greater new e es rest is all more = (all.0, more)

pub fit_put : (n : ℕ) (new : Entry) (es : Table) → length new.1 ≡ n → HaveTexts n es → HaveTexts n (put_row new es)
fit_put n new [] is all = (is, tt)
fit_put n new (e ∷ es) is all = fit_put_at n (text_cmp new.0 e.0) new e es (put_row new es) is all (fit_put n new es is all.1)

pub fit_filter : (n : ℕ) (f : Entry → Bool) (es : Table) → HaveTexts n es → HaveTexts n (filter f es)
fit_filter n f [] all = tt
fit_filter n f (e ∷ es) all = by_test (f e) (fit_filter n f es all.1)
  where
    by_test : (b : Bool) → HaveTexts n (filter f es) → HaveTexts n (cond b (e ∷ filter f es) (filter f es))
    by_test true rest = (all.0, rest)
    by_test false rest = rest

-- the texts that a put makes
length_set : {A : Type 0} (xs : List A) (i : ℕ) (x : A) → length (slice_set xs i x) ≡ length xs
length_set [] i x = refl
length_set (y ∷ ys) zero x = refl
length_set (y ∷ ys) (suc i) x = ap suc (length_set ys i x)

length_with : (names : List Word) (fields : List (Word × Word)) (texts : List Word) → length (with_fields names fields texts) ≡ length texts
length_with names [] texts = refl
length_with names (f ∷ fs) texts = length_with names fs (slice_set texts (place f.0 names) f.1) ∙ length_set texts (place f.0 names) f.1

length_blank : (names : List Word) → length (blank names) ≡ length names
length_blank [] = refl
length_blank (n ∷ ns) = ap suc (length_blank ns)

-- a row that may be absent
length_found : (names : List Word) (key : Word) (es : Table) → HaveTexts (length names) es → length (unwrap_or (option_map (λ e. e.1) (find (λ e. same e.0 key) es)) (blank names)) ≡ length names
length_found names key [] all = length_blank names
length_found names key (e ∷ es) all = by_test (same e.0 key) (length_found names key es all.1)
  where
    by_test : (b : Bool) → length (unwrap_or (option_map (λ e. e.1) (find (λ e. same e.0 key) es)) (blank names)) ≡ length names →
        length (unwrap_or (option_map (λ e. e.1) (cond b (Some e) (find (λ e. same e.0 key) es))) (blank names)) ≡ length names
    by_test true rest = all.0
    by_test false rest = rest

pub fit_with : (names : List Word) (fields : List (Word × Word)) (key : Word) (es : Table) → HaveTexts (length names) es →
    HaveTexts (length names) (put_row (key, with_fields names fields (unwrap_or (option_map (λ e. e.1) (find (λ e. same e.0 key) es)) (blank names))) es)
fit_with names fields key es all =
    let old = unwrap_or (option_map (λ e. e.1) (find (λ e. same e.0 key) es)) (blank names) in
    fit_put (length names) (key, with_fields names fields old) es (length_with names fields old ∙ length_found names key es all) all
