-- What a change makes of the rows.
use Rattle.std.proofs.Common.{◌≡◌, ◌⊎◌, inl, inr, ℕ, zero, suc, ◌<◌, ◌≤◌, Bool, true, false, not, cond, ◌||◌, List, [], ◌∷◌, length, refl, sym, ap, subst, ◌∙◌, arith}
use Rattle.std.specs.Prelude.{Option, Some, None, slice_set, ◌==◌}
use Rattle.std.specs.List.{find, filter, list_any, slice_get}
use Rattle.std.specs.Option.{option_map, unwrap_or}
use Rattle.std.specs.declared.cmp.Ordering.{Ordering}
use Rattle.std.specs.declared.cmp.Ordering.TheVariants.{Less, Equal, Greater}
use Rattle.std.specs.FinMap as fin
use Rattle.std.specs.Ordering.{is_eq}
use Rattle.std.proofs.lemmas.Bool.{true≢false, cases_Bool}
use Rattle.std.proofs.lemmas.Bool.Decides.{Decides-eqb}
use Rattle.std.proofs.lemmas.Slice.Eq.{bytes_eq-Decides}
use Rattle.dup_names.specs.Order.{text_cmp}
use Rattle.dup_names.specs.Words.{Word, same, place}
use Rattle.dup_model.specs.declared.edit.Edit.TheVariants.{Put, Remove, Replace}
use Rattle.dup_model.specs.Content.{Content, Entry, Table, table, row}
use Rattle.dup_model.specs.Names.{kind_at, fields_at, template_at}
use Rattle.dup_model.specs.Commits.{edited, with_table, with_fields, put_row, put_row_at, blank}
use Rattle.dup_template.specs.declared.statement.Statement.{Statement}
use Rattle.dup_model.specs.Changes.{BodyIsReplaced, OtherBodiesStay, OtherKindsStay, OtherRowsStay, PutMakesTheRow, NamedFieldsAreSet, OtherFieldsStay, RemoveTakesTheRow}
use Rattle.dup_model.proofs.Reached.{tie_itself}

-- lists
get_set : {A : Type 0} (xs : List A) (i : ℕ) (x : A) → i < length xs → slice_get (slice_set xs i x) i ≡ Some x
get_set [] i x h = absurd (omega (arith, h))
get_set (y ∷ ys) zero x h = refl
get_set (y ∷ ys) (suc i) x h = get_set ys i x (omega (arith, h))

get_other : {A : Type 0} (xs : List A) (i j : ℕ) (x : A) → (j ≡ i → ⊥) → slice_get (slice_set xs i x) j ≡ slice_get xs j
get_other [] i j x h = refl
get_other (y ∷ ys) zero zero x h = absurd (h refl)
get_other (y ∷ ys) zero (suc j) x h = refl
get_other (y ∷ ys) (suc i) zero x h = refl
get_other (y ∷ ys) (suc i) (suc j) x h = get_other ys i j x (λ is. h (ap suc is))

length_set : {A : Type 0} (xs : List A) (i : ℕ) (x : A) → length (slice_set xs i x) ≡ length xs
length_set [] i x = refl
length_set (y ∷ ys) zero x = refl
length_set (y ∷ ys) (suc i) x = ap suc (length_set ys i x)

-- the table that was set, and the others
module _ (c : Content) (k : ℕ) (rows : Table) where
  other_table : (kind : ℕ) → (kind ≡ k → ⊥) → table (with_table c k rows) kind ≡ table c kind
  other_table kind h = ap (λ o. unwrap_or o []) (get_other c.tables k kind rows h)

  its_table : k < length c.tables → table (with_table c k rows) k ≡ rows
  its_table h = ap (λ o. unwrap_or o []) (get_set c.tables k rows h)

  past : (tables : List Table) (i : ℕ) → length tables ≤ i → slice_set tables i rows ≡ tables
  past [] i h = refl
  past (t ∷ ts) zero h = absurd (omega (arith, h))
  past (t ∷ ts) (suc i) h = ap (λ l. t ∷ l) (past ts i (omega (arith, h)))

-- rows under a key
abbrev row_in : Word → Table → Option Entry
row_in q es = find (λ e. same e.0 q) es

same_self : (w : Word) → same w w ≡ true
same_self w = (bytes_eq-Decides w w).1 refl

same_is : (v w : Word) → same v w ≡ true → v ≡ w
same_is v w h = (bytes_eq-Decides v w).0 h

module _ (new : Entry) (q : Word) (other : same new.0 q ≡ false) where
  other_put_at : (r : Ordering) (e : Entry) (es rest : Table) → text_cmp new.0 e.0 ≡ r → row_in q rest ≡ row_in q es → row_in q (put_row_at r new e es rest) ≡ row_in q (e ∷ es)
  other_put_at Less e es rest is more = rw other refl
  other_put_at Equal e es rest is more =
      let one : new.0 ≡ e.0 = fin.slice_cmp-IsAntisymmetric fin.nat_cmp-IsAntisymmetric new.0 e.0 is in
      ap (λ b. cond b (Some new) (row_in q es)) other ∙ sym (ap (λ b. cond b (Some e) (row_in q es)) (ap (λ w. same w q) (sym one) ∙ other))
  other_put_at Greater e es rest is more = ap (cond (same e.0 q) (Some e)) more

  other_put : (es : Table) → row_in q (put_row new es) ≡ row_in q es
  other_put [] = rw other refl
  other_put (e ∷ es) = other_put_at (text_cmp new.0 e.0) e es (put_row new es) refl (other_put es)

module _ (new : Entry) where
  own_put_at : (r : Ordering) (e : Entry) (es rest : Table) → text_cmp new.0 e.0 ≡ r → row_in new.0 rest ≡ Some new → row_in new.0 (put_row_at r new e es rest) ≡ Some new
  own_put_at Less e es rest is more = rw (same_self new.0) refl
  own_put_at Equal e es rest is more = rw (same_self new.0) refl
  own_put_at Greater e es rest is more = by_test (same e.0 new.0) refl
    where
      by_test : (b : Bool) → same e.0 new.0 ≡ b → cond b (Some e) (row_in new.0 rest) ≡ Some new
      by_test true h =
          absurd (true≢false (sym (tie_itself new.0) ∙ ap (λ w. is_eq (text_cmp new.0 w)) (sym (same_is e.0 new.0 h)) ∙ ap is_eq is))
      by_test false h = more

  own_put : (es : Table) → row_in new.0 (put_row new es) ≡ Some new
  own_put [] = rw (same_self new.0) refl
  own_put (e ∷ es) = own_put_at (text_cmp new.0 e.0) e es (put_row new es) refl (own_put es)

module _ (key q : Word) where
  kept_rows : same key q ≡ false → (es : Table) → row_in q (filter (λ e. not (same e.0 key)) es) ≡ row_in q es
  kept_rows other [] = refl
  kept_rows other (e ∷ es) = by_test (same e.0 key) refl (kept_rows other es)
    where
      by_test : (b : Bool) → same e.0 key ≡ b → row_in q (filter (λ e. not (same e.0 key)) es) ≡ row_in q es →
          row_in q (cond (not b) (e ∷ filter (λ e. not (same e.0 key)) es) (filter (λ e. not (same e.0 key)) es)) ≡ cond (same e.0 q) (Some e) (row_in q es)
      by_test true is more = more ∙ sym (ap (λ b. cond b (Some e) (row_in q es)) (ap (λ w. same w q) (same_is e.0 key is) ∙ other))
      by_test false is more = ap (cond (same e.0 q) (Some e)) more

gone : (key : Word) (es : Table) → row_in key (filter (λ e. not (same e.0 key)) es) ≡ None
gone key [] = refl
gone key (e ∷ es) = by_test (same e.0 key) refl (gone key es)
  where
    by_test : (b : Bool) → same e.0 key ≡ b → row_in key (filter (λ e. not (same e.0 key)) es) ≡ None →
        row_in key (cond (not b) (e ∷ filter (λ e. not (same e.0 key)) es) (filter (λ e. not (same e.0 key)) es)) ≡ None
    by_test true is more = more
    by_test false is more = rw is more

-- a table that is set, at its own kind or at another
row_of : (c : Content) (k : ℕ) (rows : Table) (kind : ℕ) (q : Word) → row_in q rows ≡ row_in q (table c k) → row (with_table c k rows) kind q ≡ row c kind q
row_of c k rows kind q same_row = by_kind (cases_Bool (kind == k))
  where
    by_length : (k < length c.tables) ⊎ (length c.tables ≤ k) → row (with_table c k rows) k q ≡ row c k q
    by_length (inl within) = ap (λ es. option_map (λ e. e.1) (row_in q es)) (its_table c k rows within) ∙ ap (option_map (λ e. e.1)) same_row
    by_length (inr out) = ap (λ ts. option_map (λ e. e.1) (row_in q (unwrap_or (slice_get ts k) []))) (past c k rows c.tables k out)

    by_kind : ((kind == k) ≡ true) ⊎ ((kind == k) ≡ false) → row (with_table c k rows) kind q ≡ row c kind q
    by_kind (inl is) = subst (λ n. row (with_table c k rows) n q ≡ row c n q) (sym ((Decides-eqb kind k).0 is)) (by_length (short_or_long k (length c.tables)))
      where
        short_or_long : (m n : ℕ) → (m < n) ⊎ (n ≤ m)
        short_or_long m zero = inr (omega arith)
        short_or_long zero (suc n) = inl (omega arith)
        short_or_long (suc m) (suc n) = elim (short_or_long m n) [ inl h ↦ inl (omega (arith, h)) | inr h ↦ inr (omega (arith, h)) ]
    by_kind (inr isnt) = ap (λ es. option_map (λ e. e.1) (row_in q es)) (other_table c k rows kind (λ is. true≢false (sym ((Decides-eqb kind k).1 is) ∙ isnt)))

not_kind : (m n : ℕ) → (m == n) ≡ false → n ≡ m → ⊥
not_kind m n isnt is = true≢false (sym ((Decides-eqb m n).1 (sym is)) ∙ isnt)

pub other_kinds_stay : OtherKindsStay
other_kinds_stay c (Put name key fields) kind q h = ap (λ es. option_map (λ e. e.1) (row_in q es)) (other_table c (kind_at c.frame name) _ kind (not_kind _ kind h))
other_kinds_stay c (Remove name key) kind q h = ap (λ es. option_map (λ e. e.1) (row_in q es)) (other_table c (kind_at c.frame name) _ kind (not_kind _ kind h))
other_kinds_stay c (Replace name body) kind q h = refl

pub other_rows_stay : OtherRowsStay
other_rows_stay c (Put name key fields) kind q h = row_of c (kind_at c.frame name) _ kind q (other_put _ q h (table c (kind_at c.frame name)))
other_rows_stay c (Remove name key) kind q h = row_of c (kind_at c.frame name) _ kind q (kept_rows key q h (table c (kind_at c.frame name)))
other_rows_stay c (Replace name body) kind q h = refl

pub put_makes_the_row : PutMakesTheRow
put_makes_the_row c name key fields within =
    ap (λ es. option_map (λ e. e.1) (row_in key es)) (its_table c (kind_at c.frame name) _ within)
    ∙ ap (option_map (λ e. e.1)) (own_put (key, with_fields (fields_at c.frame (kind_at c.frame name)) fields (unwrap_or (row c (kind_at c.frame name) key) (blank (fields_at c.frame (kind_at c.frame name))))) (table c (kind_at c.frame name)))

pub remove_takes_the_row : RemoveTakesTheRow
remove_takes_the_row c name key = by_length (short_or_long (kind_at c.frame name) (length c.tables))
  where
    short_or_long : (m n : ℕ) → (m < n) ⊎ (n ≤ m)
    short_or_long m zero = inr (omega arith)
    short_or_long zero (suc n) = inl (omega arith)
    short_or_long (suc m) (suc n) = elim (short_or_long m n) [ inl h ↦ inl (omega (arith, h)) | inr h ↦ inr (omega (arith, h)) ]

    nothing_past : (ts : List Table) (i : ℕ) → length ts ≤ i → slice_get ts i ≡ None
    nothing_past [] i h = refl
    nothing_past (t ∷ ts) zero h = absurd (omega (arith, h))
    nothing_past (t ∷ ts) (suc i) h = nothing_past ts i (omega (arith, h))

    by_length : (kind_at c.frame name < length c.tables) ⊎ (length c.tables ≤ kind_at c.frame name) → row (edited c (Remove name key)) (kind_at c.frame name) key ≡ None
    by_length (inl within) = ap (λ es. option_map (λ e. e.1) (row_in key es)) (its_table c (kind_at c.frame name) _ within) ∙ ap (option_map (λ e. e.1)) (gone key (table c (kind_at c.frame name)))
    by_length (inr out) =
        ap (λ ts. option_map (λ e. e.1) (row_in key (unwrap_or (slice_get ts (kind_at c.frame name)) []))) (past c (kind_at c.frame name) _ c.tables (kind_at c.frame name) out)
        ∙ ap (λ o. option_map (λ e. e.1) (row_in key (unwrap_or o []))) (nothing_past c.tables (kind_at c.frame name) out)

-- fields
or_false : (a b : Bool) → (a || b) ≡ false → (a ≡ false) × (b ≡ false)
or_false true b h = absurd (true≢false h)
or_false false b h = (refl, h)

pub other_fields_stay : OtherFieldsStay
other_fields_stay names [] texts field h = refl
other_fields_stay names (f ∷ fs) texts field h =
    let both : ((place f.0 names == field) ≡ false) × (list_any (λ f. place f.0 names == field) fs ≡ false) = or_false (place f.0 names == field) (list_any (λ f. place f.0 names == field) fs) h in
    other_fields_stay names fs (slice_set texts (place f.0 names) f.1) field both.1
    ∙ get_other texts (place f.0 names) field f.1 (λ is. true≢false (sym ((Decides-eqb (place f.0 names) field).1 (sym is)) ∙ both.0))

pub named_fields_are_set : NamedFieldsAreSet
named_fields_are_set names [] after name text texts within later =
    other_fields_stay names after (slice_set texts (place name names) text) (place name names) later ∙ get_set texts (place name names) text within
named_fields_are_set names (f ∷ before) after name text texts within later =
    named_fields_are_set names before after name text (slice_set texts (place f.0 names) f.1) (subst (λ n. place name names < n) (sym (length_set texts (place f.0 names) f.1)) within) later

-- a body that is set, at its own template or at another
own_body : (bodies : List (List Statement)) (n : ℕ) (body : List Statement) → n < length bodies → unwrap_or (slice_get (slice_set bodies n body) n) [] ≡ body
own_body [] n body within = absurd (omega (arith, within))
own_body (b ∷ bs) zero body within = refl
own_body (b ∷ bs) (suc n) body within = own_body bs n body (omega (arith, within))

other_body : (bodies : List (List Statement)) (n k : ℕ) (body : List Statement) → (k ≡ n → ⊥) → slice_get (slice_set bodies n body) k ≡ slice_get bodies k
other_body [] n k body other = refl
other_body (b ∷ bs) zero zero body other = absurd (other refl)
other_body (b ∷ bs) zero (suc k) body other = refl
other_body (b ∷ bs) (suc n) zero body other = refl
other_body (b ∷ bs) (suc n) (suc k) body other = other_body bs n k body (λ is. other (ap suc is))

pub body_is_replaced : BodyIsReplaced
body_is_replaced c name body within = own_body c.bodies (template_at c.frame name) body within

pub other_bodies_stay : OtherBodiesStay
other_bodies_stay c name body template other = ap (λ o. unwrap_or o []) (other_body c.bodies (template_at c.frame name) template body other)
