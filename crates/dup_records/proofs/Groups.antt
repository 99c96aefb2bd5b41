-- A group, as it stands in the index of its field.
use Rattle.std.proofs.Common.{◌≡◌, ℕ, suc, ◌≤◌, Bool, true, false, cond, ◌&&◌, ◌||◌, List, [], ◌∷◌, map, length, refl, sym, ap, ◌∙◌, arith}
use Rattle.std.specs.Prelude.{◌==◌, Option, Some, None, is_some, slice_get}
use Rattle.std.specs.List.{AllByRecursion, find, filter, list_any, IsDistinct}
use Rattle.std.specs.Option.{option_and_then, option_map, unwrap_or}
use Rattle.std.specs.List.Sorted.{IsStrictlySortedBy}
use Rattle.std.specs.Ordering.{is_lt, ordering_then, ordering_reverse}
use Rattle.std.specs.declared.cmp.Ordering.{Ordering}
use Rattle.std.specs.declared.cmp.Ordering.TheVariants.{Less, Equal, Greater}
use Rattle.std.specs.Cmp.{tied_itself}
use Rattle.std.specs.Cmp.Lexicographic.{pointwise, nat_list_cmp_total, nat_list_eq_equiv}
use Rattle.std.proofs.lemmas.List.{length-map}
use Rattle.std.proofs.lemmas.Map.Made.{length-le_from_is_member}
use Rattle.std.proofs.lemmas.Bool.{true≢false, false≢true, ne_eqb}
use Rattle.dup_names.specs.Grammar.{is_key}
use Rattle.dup_names.specs.Order.{text_cmp}
use Rattle.dup_names.specs.Words.{Word, same}
use Rattle.dup_model.specs.Content.{Entry, Table, texts_at}
use Rattle.dup_model.specs.Tables.{IsRising}
use Rattle.dup_model.proofs.Tables.{equal_is, rising_filter}
use Rattle.dup_chunks.specs.Cut.{front, back, Falls, Rises}
use Rattle.dup_chunks.proofs.Cuts.{back_all}
use Rattle.dup_records.specs.Pairs.{Pair, pair_cmp, same_pair, is_text, found_text, has_pair, IsIndex}
use Rattle.dup_records.proofs.RowPlaces.{same_is, is_same}
use Rattle.dup_records.proofs.Indexes.{is_same_pair}
use Rattle.dup_records.proofs.Moved.{has_word, keys_row, full, group_row, sorted_keys, same_words}

reversed : (a b : Word) (r : Ordering) → text_cmp b a ≡ r → text_cmp a b ≡ ordering_reverse r
reversed a b r is = nat_list_cmp_total.antisymm a b ∙ ap ordering_reverse is

differs : (a b : Word) → text_cmp a b ≡ Less → same b a ≡ false
differs a b less = by_test (same b a) refl
  where
    by_test : (t : Bool) → same b a ≡ t → same b a ≡ false
    by_test false is = is
    by_test true is = absurd (let e : Less ≡ Equal = sym less ∙ (ap (text_cmp a) (same_is b a is) ∙ tied_itself nat_list_cmp_total a) in cc)

differs_back : (a b : Word) → text_cmp a b ≡ Less → same a b ≡ false
differs_back a b less = by_test (same a b) refl
  where
    by_test : (t : Bool) → same a b ≡ t → same a b ≡ false
    by_test false is = is
    by_test true is = absurd (let e : Less ≡ Equal = sym less ∙ (ap (text_cmp a) (sym (same_is a b is)) ∙ tied_itself nat_list_cmp_total a) in cc)

-- the text of a later pair isn't lower
not_lower : (r s : Pair) → pair_cmp r s ≡ Less → (text_cmp r.0 s.0 ≡ Greater → ⊥)
not_lower r s less is = let e : Greater ≡ Less = ap (λ o. ordering_then o (text_cmp r.1 s.1)) (sym is) ∙ less in cc

module _ (t : Word) where
  not_before : (r s : Pair) → pair_cmp r s ≡ Less → is_lt (text_cmp r.0 t) ≡ false → is_lt (text_cmp s.0 t) ≡ false
  not_before r s less fails = by_cmp (text_cmp r.0 s.0) refl (text_cmp s.0 t) refl
    where
      by_cmp : (x : Ordering) → text_cmp r.0 s.0 ≡ x → (y : Ordering) → text_cmp s.0 t ≡ y → is_lt (text_cmp s.0 t) ≡ false
      by_cmp Less is Less then = absurd (false≢true (sym fails ∙ ap is_lt (nat_list_cmp_total.trans r.0 s.0 t is then)))
      by_cmp Less is Equal then = ap is_lt then
      by_cmp Less is Greater then = ap is_lt then
      by_cmp Equal is y then = ap (λ w. is_lt (text_cmp w t)) (sym (equal_is r.0 s.0 is)) ∙ fails
      by_cmp Greater is y then = absurd (not_lower r s less is)

  none_before : (r : Pair) (rs : List Pair) → is_lt (text_cmp r.0 t) ≡ false → AllByRecursion (λ s. pair_cmp r s ≡ Less) rs → AllByRecursion (λ s. is_lt (text_cmp s.0 t) ≡ false) rs
  none_before r [] fails all = tt
  none_before r (s ∷ rs) fails all = (not_before r s all.0 fails, none_before r rs fails all.1)

  pub text_falls : (rs : List Pair) → Rises (λ r. r) pair_cmp rs → Falls (λ s. is_lt (text_cmp s.0 t)) rs
  text_falls [] h = tt
  text_falls (r ∷ rs) h = (λ fails. none_before r rs fails h.0, text_falls rs h.1)

  -- behind a higher text none is this one
  none_same : (r : Pair) (rs : List Pair) → text_cmp t r.0 ≡ Less → AllByRecursion (λ s. pair_cmp r s ≡ Less) rs → filter (λ s. same s.0 t) rs ≡ []
  none_same r [] less all = refl
  none_same r (s ∷ rs) less all =
      ap (λ b. cond b (s ∷ filter (λ s. same s.0 t) rs) (filter (λ s. same s.0 t) rs)) (differs t s.0 (higher (text_cmp r.0 s.0) refl)) ∙ none_same r rs less all.1
    where
      higher : (x : Ordering) → text_cmp r.0 s.0 ≡ x → text_cmp t s.0 ≡ Less
      higher Less is = nat_list_cmp_total.trans t r.0 s.0 less is
      higher Equal is = ap (text_cmp t) (sym (equal_is r.0 s.0 is)) ∙ less
      higher Greater is = absurd (not_lower r s all.0 is)

  -- the pairs of a text are the first behind its place
  pub group_front : (rs : List Pair) → Rises (λ r. r) pair_cmp rs → front (λ s. same s.0 t) (back (λ s. is_lt (text_cmp s.0 t)) rs) ≡ filter (λ s. same s.0 t) rs
  group_front [] h = refl
  group_front (r ∷ rs) h = by_cmp (text_cmp r.0 t) refl (group_front rs h.1)
    where
      by_cmp : (x : Ordering) → text_cmp r.0 t ≡ x → front (λ s. same s.0 t) (back (λ s. is_lt (text_cmp s.0 t)) rs) ≡ filter (λ s. same s.0 t) rs
          → front (λ s. same s.0 t) (cond (is_lt (text_cmp r.0 t)) (back (λ s. is_lt (text_cmp s.0 t)) rs) (r ∷ rs)) ≡ cond (same r.0 t) (r ∷ filter (λ s. same s.0 t) rs) (filter (λ s. same s.0 t) rs)
      by_cmp Less is rest =
          ap (λ b. front (λ s. same s.0 t) (cond b (back (λ s. is_lt (text_cmp s.0 t)) rs) (r ∷ rs))) (ap is_lt is) ∙ rest
          ∙ ap (λ b. cond b (r ∷ filter (λ s. same s.0 t) rs) (filter (λ s. same s.0 t) rs)) (sym (differs_back r.0 t is))
      by_cmp Equal is rest =
          let here = is_same r.0 t (equal_is r.0 t is) in
          let behind = back_all (λ (s : Pair). is_lt (text_cmp s.0 t)) rs (none_before r rs (ap is_lt is) h.0) in
          ap (λ b. front (λ s. same s.0 t) (cond b (back (λ s. is_lt (text_cmp s.0 t)) rs) (r ∷ rs))) (ap is_lt is)
          ∙ ap (λ b. cond b (r ∷ front (λ s. same s.0 t) rs) []) here
          ∙ ap (λ l. r ∷ l) (ap (front (λ s. same s.0 t)) (sym behind) ∙ rest)
          ∙ ap (λ b. cond b (r ∷ filter (λ s. same s.0 t) rs) (filter (λ s. same s.0 t) rs)) (sym here)
      by_cmp Greater is rest =
          let less : text_cmp t r.0 ≡ Less = reversed t r.0 Greater is in
          let other = differs t r.0 less in
          ap (λ b. front (λ s. same s.0 t) (cond b (back (λ s. is_lt (text_cmp s.0 t)) rs) (r ∷ rs))) (ap is_lt is)
          ∙ ap (λ b. cond b (r ∷ front (λ s. same s.0 t) rs) []) other
          ∙ sym (none_same r rs less h.0)
          ∙ ap (λ b. cond b (r ∷ filter (λ s. same s.0 t) rs) (filter (λ s. same s.0 t) rs)) (sym other)

  -- the keys of a text rise
  below_same : (r : Pair) (rs : List Pair) → r.0 ≡ t → AllByRecursion (λ s. pair_cmp r s ≡ Less) rs → AllByRecursion (λ w. text_cmp r.1 w ≡ Less) (map (λ s. s.1) (filter (λ s. same s.0 t) rs))
  below_same r [] is all = tt
  below_same r (s ∷ rs) is all = by_test (same s.0 t) refl (below_same r rs is all.1)
    where
      by_test : (b : Bool) → same s.0 t ≡ b → AllByRecursion (λ w. text_cmp r.1 w ≡ Less) (map (λ s. s.1) (filter (λ s. same s.0 t) rs))
          → AllByRecursion (λ w. text_cmp r.1 w ≡ Less) (map (λ s. s.1) (cond b (s ∷ filter (λ s. same s.0 t) rs) (filter (λ s. same s.0 t) rs)))
      by_test true here rest =
          let tie : text_cmp r.0 s.0 ≡ Equal = ap (text_cmp r.0) (same_is s.0 t here ∙ sym is) ∙ tied_itself nat_list_cmp_total r.0 in
          (ap (λ o. ordering_then o (text_cmp r.1 s.1)) (sym tie) ∙ all.0, rest)
      by_test false other rest = rest

  group_sorted : (rs : List Pair) → Rises (λ r. r) pair_cmp rs → IsStrictlySortedBy text_cmp (map (λ s. s.1) (filter (λ s. same s.0 t) rs))
  unfolding IsStrictlySortedBy
  group_sorted [] h = tt
  group_sorted (r ∷ rs) h = by_test (same r.0 t) refl (group_sorted rs h.1)
    where
      by_test : (b : Bool) → same r.0 t ≡ b → IsStrictlySortedBy text_cmp (map (λ s. s.1) (filter (λ s. same s.0 t) rs))
          → IsStrictlySortedBy text_cmp (map (λ s. s.1) (cond b (r ∷ filter (λ s. same s.0 t) rs) (filter (λ s. same s.0 t) rs)))
      by_test true here rest = (below_same r rs (same_is r.0 t here) h.0, rest)
      by_test false other rest = rest

  group_word : (z : Word) (rs : List Pair) → has_word (map (λ s. s.1) (filter (λ s. same s.0 t) rs)) z ≡ has_pair rs (t, z)
  group_word z [] = refl
  group_word z (r ∷ rs) = by_test (same r.0 t) (group_word z rs)
    where
      by_test : (b : Bool) → has_word (map (λ s. s.1) (filter (λ s. same s.0 t) rs)) z ≡ has_pair rs (t, z)
          → has_word (map (λ s. s.1) (cond b (r ∷ filter (λ s. same s.0 t) rs) (filter (λ s. same s.0 t) rs))) z ≡ ((b && same r.1 z) || has_pair rs (t, z))
      by_test true rest = ap (λ b. same r.1 z || b) rest
      by_test false rest = rest

  text_there : is_key t ≡ true → (field : ℕ) (o : Option Entry) → is_text (option_and_then (λ e. slice_get e.1 field) o) t ≡ same (texts_at (option_map (λ e. e.1) o) field) t
  text_there fine field None = sym (full t fine)
  text_there fine field (Some e) = by_text (slice_get e.1 field)
    where
      by_text : (o : Option Word) → is_text o t ≡ same (unwrap_or o []) t
      by_text None = sym (full t fine)
      by_text (Some w) = refl

  pub group_is : (rows : Table) (field : ℕ) (pairs : List Pair) → is_key t ≡ true → IsRising rows → IsIndex rows field pairs
      → map (λ s. s.1) (filter (λ s. same s.0 t) pairs) ≡ map (λ e. e.0) (filter (λ e. same (texts_at (Some e.1) field) t) rows)
  group_is rows field pairs fine rising is =
      same_words (map (λ s. s.1) (filter (λ s. same s.0 t) pairs)) (map (λ e. e.0) (filter (λ e. same (texts_at (Some e.1) field) t) rows))
      (group_sorted pairs is.rises) (sorted_keys (filter (λ e. same (texts_at (Some e.1) field) t) rows) (rising_filter (λ e. same (texts_at (Some e.1) field) t) rows rising))
      (λ z. group_word z pairs ∙ is.each (t, z) ∙ text_there fine field (find (λ e. same e.0 z) rows) ∙ sym (group_row field t z rows fine rising))

-- an index has no more pairs than there are rows
to_member : (ws : List Word) (q : Word) → list_any (same q) ws ≡ has_word ws q
to_member [] q = refl
to_member (w ∷ ws) q = λ i. nat_list_eq_equiv.symm q w i || to_member ws q i

module _ (text : Word → Option Word) where
  other_key : (r : Pair) (rs : List Pair) → is_text (text r.1) r.0 ≡ true → ((q : Pair) → has_pair rs q ≡ true → is_text (text q.1) q.0 ≡ true)
      → AllByRecursion (λ s. pair_cmp r s ≡ Less) rs → AllByRecursion (λ w. same r.1 w ≡ false) (map (λ s. s.1) rs)
  other_key r [] own owns all = tt
  other_key r (s ∷ rs) own owns all = (
    by_test (same r.1 s.1) refl,
    other_key r rs own (λ q h. owns q (ap (λ b. same_pair s q || b) h ∙ last (same_pair s q))) all.1,
  )
    where
      last : (b : Bool) → (b || true) ≡ true
      last true = refl
      last false = refl

      one_text : (o : Option Word) (a b : Word) → is_text o a ≡ true → is_text o b ≡ true → a ≡ b
      one_text None a b h k = absurd (true≢false (sym h))
      one_text (Some w) a b h k = sym (same_is w a h) ∙ same_is w b k

      by_test : (b : Bool) → same r.1 s.1 ≡ b → same r.1 s.1 ≡ false
      by_test false is = is
      by_test true is =
          let key : r.1 ≡ s.1 = same_is r.1 s.1 is in
          let mine : is_text (text s.1) s.0 ≡ true = owns s (ap (λ b. b || has_pair rs s) (is_same_pair s s refl)) in
          let texts : r.0 ≡ s.0 = one_text (text r.1) r.0 s.0 own (ap (λ k. is_text (text k) s.0) key ∙ mine) in
          let tie : pair_cmp r s ≡ Equal = ap (λ w. ordering_then (text_cmp r.0 w) (text_cmp r.1 s.1)) (sym texts) ∙ ap (λ w. ordering_then (text_cmp r.0 r.0) (text_cmp r.1 w)) (sym key)
          ∙ ap (λ o. ordering_then o (text_cmp r.1 r.1)) (tied_itself nat_list_cmp_total r.0) ∙ tied_itself nat_list_cmp_total r.1 in
          absurd (let e : Less ≡ Equal = sym all.0 ∙ tie in cc)

  keys_differ : (rs : List Pair) → Rises (λ r. r) pair_cmp rs → ((q : Pair) → has_pair rs q ≡ true → is_text (text q.1) q.0 ≡ true) → IsDistinct same (map (λ s. s.1) rs)
  unfolding IsDistinct
  keys_differ [] h owns = tt
  keys_differ (r ∷ rs) h owns = (
    other_key r rs (owns r (ap (λ b. b || has_pair rs r) (is_same_pair r r refl))) (λ q k. owns q (ap (λ b. same_pair r q || b) k ∙ last (same_pair r q))) h.0,
    keys_differ rs h.1 (λ q k. owns q (ap (λ b. same_pair r q || b) k ∙ last (same_pair r q))),
  )
    where
      last : (b : Bool) → (b || true) ≡ true
      last true = refl
      last false = refl

  keys_have : (rs : List Pair) → ((q : Pair) → has_pair rs q ≡ true → is_text (text q.1) q.0 ≡ true) → (k : Word) → has_word (map (λ s. s.1) rs) k ≡ true → is_some (text k) ≡ true
  keys_have [] owns k h = absurd (true≢false (sym h))
  keys_have (r ∷ rs) owns k h = by_test (same r.1 k) refl h (keys_have rs (λ q g. owns q (ap (λ b. same_pair r q || b) g ∙ last (same_pair r q))) k)
    where
      last : (b : Bool) → (b || true) ≡ true
      last true = refl
      last false = refl

      there : (o : Option Word) (w : Word) → is_text o w ≡ true → is_some o ≡ true
      there None w h = absurd (true≢false (sym h))
      there (Some v) w h = refl

      by_test : (b : Bool) → same r.1 k ≡ b → (b || has_word (map (λ s. s.1) rs) k) ≡ true → (has_word (map (λ s. s.1) rs) k ≡ true → is_some (text k) ≡ true) → is_some (text k) ≡ true
      by_test true is h rest = ap (λ w. is_some (text w)) (sym (same_is r.1 k is)) ∙ there (text r.1) r.0 (owns r (ap (λ b. b || has_pair rs r) (is_same_pair r r refl)))
      by_test false is h rest = rest h

pub index_length : (rows : Table) (field : ℕ) (pairs : List Pair) → IsIndex rows field pairs → length pairs ≤ length rows
index_length rows field pairs is =
    let owns : (q : Pair) → has_pair pairs q ≡ true → is_text (found_text rows field q.1) q.0 ≡ true = λ q h. sym (is.each q) ∙ h in
    let le : length (map (λ (s : Pair). s.1) pairs) ≤ length (map (λ (e : Entry). e.0) rows) =
    length-le_from_is_member nat_list_eq_equiv (map (λ (s : Pair). s.1) pairs) (map (λ (e : Entry). e.0) rows) (keys_differ (found_text rows field) pairs is.rises owns)
    (λ k h. to_member (map (λ (e : Entry). e.0) rows) k ∙ (keys_row k rows ∙ row_there (find (λ e. same e.0 k) rows) (keys_have (found_text rows field) pairs owns k (sym (to_member (map (λ (s : Pair). s.1) pairs) k) ∙ h)))) in
    omega (arith, le, length-map pairs (λ (s : Pair). s.1), length-map rows (λ (e : Entry). e.0))
  where
    row_there : (o : Option Entry) → is_some (option_and_then (λ e. slice_get e.1 field) o) ≡ true → is_some (option_map (λ e. e.1) o) ≡ true
    row_there None h = absurd (true≢false (sym h))
    row_there (Some e) h = refl

-- no keys
pub no_keys : (keys : List Word) → (length keys == 0) ≡ pointwise same [] keys
no_keys [] = refl
no_keys (k ∷ ks) = ne_eqb (suc (length ks)) 0 (λ e. omega (arith, e))
