-- The index of a field, as it is edited and read.
use Rattle.std.proofs.Common.{◌≡◌, ℕ, zero, suc, ◌≤◌, ◌<◌, Bool, true, false, not, cond, ◌&&◌, ◌||◌, List, [], ◌∷◌, ◌++◌, drop, length, refl, sym, ap, subst, ◌∙◌, arith}
use Rattle.std.specs.Prelude.{Option, Some, None, is_some, slice_get}
use Rattle.std.specs.List.{AllByRecursion, find, filter}
use Rattle.std.specs.Ordering.{is_lt}
use Rattle.std.specs.declared.cmp.Ordering.TheVariants.{Less, Equal}
use Rattle.std.specs.Cmp.{IsTotalOrder}
use Rattle.std.specs.Cmp.Lexicographic.{nat_list_cmp_total}
use Rattle.std.proofs.lemmas.Cmp.{then_total, on_total}
use Rattle.std.proofs.lemmas.Bool.{true≢false, and_parts, and_from}
use Rattle.dup_names.specs.Order.{text_cmp}
use Rattle.dup_names.specs.Words.{Word, same}
use Rattle.dup_names.proofs.ObjectOrder.{then_equal}
use Rattle.dup_model.proofs.Tables.{equal_is}
use Rattle.dup_chunks.specs.Cut.{front, back, Falls, Rises}
use Rattle.dup_chunks.proofs.Sorted.{rises_falls, taken_out, rises_in, any_cut}
use Rattle.dup_records.specs.Pairs.{Pair, pair_cmp, same_pair, is_text, has_pair, pairs_at, IsMoved, HasText}
use Rattle.dup_records.proofs.RowPlaces.{same_is, is_same}

pub pair_total : IsTotalOrder pair_cmp
pair_total = then_total (on_total (λ (q : Pair). q.0) nat_list_cmp_total) (on_total (λ (q : Pair). q.1) nat_list_cmp_total)

pub same_pair_is : (a b : Pair) → same_pair a b ≡ true → a ≡ b
same_pair_is a b h = let both = and_parts (same a.0 b.0) (same a.1 b.1) h in λ i. (same_is a.0 b.0 both.0 i, same_is a.1 b.1 both.1 i)

pub is_same_pair : (a b : Pair) → a ≡ b → same_pair a b ≡ true
is_same_pair a b e = and_from (same a.0 b.0) (same a.1 b.1) (is_same a.0 b.0 (ap (λ (q : Pair). q.0) e)) (is_same a.1 b.1 (ap (λ (q : Pair). q.1) e))

pair_equal_is : (a b : Pair) → pair_cmp a b ≡ Equal → a ≡ b
pair_equal_is a b h = let both = then_equal (text_cmp a.0 b.0) (text_cmp a.1 b.1) h in λ i. (equal_is a.0 b.0 both.0 i, equal_is a.1 b.1 both.1 i)

pub pair_falls : (q : Pair) (pairs : List Pair) → Rises (λ r. r) pair_cmp pairs → Falls (λ r. is_lt (pair_cmp r q)) pairs
pair_falls q pairs h = rises_falls (λ r. r) pair_cmp pair_total same_pair same_pair_is is_same_pair pair_equal_is q pairs h

pub there_is : (q : Pair) (pairs : List Pair) → is_some (find (λ r. same_pair r q) pairs) ≡ has_pair pairs q
there_is q [] = refl
there_is q (r ∷ rs) = by_test (same_pair r q) (there_is q rs)
  where
    by_test : (b : Bool) → is_some (find (λ r. same_pair r q) rs) ≡ has_pair rs q → is_some (cond b (Some r) (find (λ r. same_pair r q) rs)) ≡ (b || has_pair rs q)
    by_test true rest = refl
    by_test false rest = rest

pub pair_out : (q : Pair) (pairs : List Pair) → Rises (λ r. r) pair_cmp pairs → has_pair pairs q ≡ true
    → filter (λ r. not (same_pair r q)) pairs ≡ front (λ r. is_lt (pair_cmp r q)) pairs ++ drop 1 (back (λ r. is_lt (pair_cmp r q)) pairs)
pair_out q pairs h there = taken_out (λ r. r) pair_cmp pair_total same_pair same_pair_is is_same_pair pair_equal_is q pairs h (there_is q pairs ∙ there)

pub pair_in : (q : Pair) (pairs : List Pair) → Rises (λ r. r) pair_cmp pairs → has_pair pairs q ≡ false
    → Rises (λ r. r) pair_cmp (front (λ r. is_lt (pair_cmp r q)) pairs ++ q ∷ back (λ r. is_lt (pair_cmp r q)) pairs)
pair_in q pairs h absent = rises_in (λ r. r) pair_cmp pair_total same_pair same_pair_is is_same_pair pair_equal_is q pairs h (there_is q pairs ∙ absent)

-- what is taken out of rising pairs leaves them rising
below_filter : (f : Pair → Bool) (q : Pair) (rs : List Pair) → AllByRecursion (λ r. pair_cmp q r ≡ Less) rs → AllByRecursion (λ r. pair_cmp q r ≡ Less) (filter f rs)
below_filter f q [] all = tt
below_filter f q (r ∷ rs) all = by_test (f r) (below_filter f q rs all.1)
  where
    by_test : (b : Bool) → AllByRecursion (λ r. pair_cmp q r ≡ Less) (filter f rs) → AllByRecursion (λ r. pair_cmp q r ≡ Less) (cond b (r ∷ filter f rs) (filter f rs))
    by_test true rest = (all.0, rest)
    by_test false rest = rest

pub filter_rises : (f : Pair → Bool) (rs : List Pair) → Rises (λ r. r) pair_cmp rs → Rises (λ r. r) pair_cmp (filter f rs)
filter_rises f [] h = tt
filter_rises f (r ∷ rs) h = by_test (f r) (below_filter f r rs h.0) (filter_rises f rs h.1)
  where
    by_test : (b : Bool) → AllByRecursion (λ s. pair_cmp r s ≡ Less) (filter f rs) → Rises (λ r. r) pair_cmp (filter f rs) → Rises (λ r. r) pair_cmp (cond b (r ∷ filter f rs) (filter f rs))
    by_test true below rest = (below, rest)
    by_test false below rest = rest

-- one pair taken out
pub has_out : (q s : Pair) (rs : List Pair) → has_pair (filter (λ r. not (same_pair r q)) rs) s ≡ (not (same_pair q s) && has_pair rs s)
has_out q s [] = nothing (not (same_pair q s))
  where
    nothing : (b : Bool) → false ≡ (b && false)
    nothing true = refl
    nothing false = refl
has_out q s (r ∷ rs) = by_test (same_pair r q) refl (same_pair q s) refl (has_out q s rs)
  where
    by_test : (x : Bool) → same_pair r q ≡ x → (y : Bool) → same_pair q s ≡ y → has_pair (filter (λ r. not (same_pair r q)) rs) s ≡ (not (same_pair q s) && has_pair rs s)
        → has_pair (cond (not (same_pair r q)) (r ∷ filter (λ r. not (same_pair r q)) rs) (filter (λ r. not (same_pair r q)) rs)) s ≡ (not (same_pair q s) && (same_pair r s || has_pair rs s))
    by_test true one true two rest =
        ap (λ b. has_pair (cond (not b) (r ∷ filter (λ r. not (same_pair r q)) rs) (filter (λ r. not (same_pair r q)) rs)) s) one ∙ rest
        ∙ ap (λ b. not b && has_pair rs s) two ∙ ap (λ b. not b && (same_pair r s || has_pair rs s)) (sym two)
    by_test true one false two rest =
        ap (λ b. has_pair (cond (not b) (r ∷ filter (λ r. not (same_pair r q)) rs) (filter (λ r. not (same_pair r q)) rs)) s) one ∙ rest
        ∙ ap (λ b. not (same_pair q s) && (b || has_pair rs s)) (sym (ap (λ t. same_pair t s) (same_pair_is r q one) ∙ two))
    by_test false other true two rest =
        ap (λ b. has_pair (cond (not b) (r ∷ filter (λ r. not (same_pair r q)) rs) (filter (λ r. not (same_pair r q)) rs)) s) other
        ∙ ap (λ b. b || has_pair (filter (λ r. not (same_pair r q)) rs) s) (ap (same_pair r) (sym (same_pair_is q s two)) ∙ other) ∙ rest
        ∙ ap (λ b. not b && has_pair rs s) two ∙ ap (λ b. not b && (same_pair r s || has_pair rs s)) (sym two)
    by_test false other false two rest =
        ap (λ b. has_pair (cond (not b) (r ∷ filter (λ r. not (same_pair r q)) rs) (filter (λ r. not (same_pair r q)) rs)) s) other
        ∙ ap (λ b. same_pair r s || b) (rest ∙ ap (λ b. not b && has_pair rs s) two) ∙ ap (λ b. not b && (same_pair r s || has_pair rs s)) (sym two)

turned : (a b : Word) → same a b ≡ false → same b a ≡ false
turned a b apart = by_test (same b a) refl
  where
    by_test : (t : Bool) → same b a ≡ t → same b a ≡ false
    by_test false is = is
    by_test true is = absurd (true≢false (sym (is_same a b (sym (same_is b a is))) ∙ apart))

-- an index where a key has no text
pub moved_none : (pairs : List Pair) (key : Word) → Rises (λ r. r) pair_cmp pairs → ((t : Word) → has_pair pairs (t, key) ≡ false) → IsMoved pairs pairs key None
moved_none pairs key h free = record { rises = h; each = λ q. by_key q (same q.1 key) refl }
  where
    by_key : (q : Pair) (b : Bool) → same q.1 key ≡ b → has_pair pairs q ≡ cond b false (has_pair pairs q)
    by_key q true is = ap (λ w. has_pair pairs (q.0, w)) (same_is q.1 key is) ∙ free q.0
    by_key q false is = refl

-- a text put in for a key that has none
pub moved_in : (pairs : List Pair) (text key : Word) → Rises (λ r. r) pair_cmp pairs → ((t : Word) → has_pair pairs (t, key) ≡ false)
    → IsMoved pairs (front (λ r. is_lt (pair_cmp r (text, key))) pairs ++ (text, key) ∷ back (λ r. is_lt (pair_cmp r (text, key))) pairs) key (Some text)
moved_in pairs text key h free = record {
  rises = pair_in (text, key) pairs h (free text);
  each = λ q. any_cut (λ r. is_lt (pair_cmp r (text, key))) (λ r. same_pair r q) (text, key) pairs ∙ by_key q (same q.1 key) refl;
}
  where
    drop_end : (b : Bool) → ((b && true) || false) ≡ b
    drop_end true = refl
    drop_end false = refl

    drop_all : (b c : Bool) → ((b && false) || c) ≡ c
    drop_all true c = refl
    drop_all false c = refl

    by_key : (q : Pair) (b : Bool) → same q.1 key ≡ b → (same_pair (text, key) q || has_pair pairs q) ≡ cond b (same text q.0) (has_pair pairs q)
    by_key q true is =
        ap (λ b. (same text q.0 && b) || has_pair pairs q) (is_same key q.1 (sym (same_is q.1 key is)))
        ∙ ap (λ b. (same text q.0 && true) || b) (ap (λ w. has_pair pairs (q.0, w)) (same_is q.1 key is) ∙ free q.0) ∙ drop_end (same text q.0)
    by_key q false is = ap (λ b. (same text q.0 && b) || has_pair pairs q) (turned q.1 key is) ∙ drop_all (same text q.0) (has_pair pairs q)

-- a key's text taken out leaves the key without one, and the others as they were
pub free_out : (pairs : List Pair) (text key : Word) → HasText pairs key (Some text) → (t : Word) → has_pair (filter (λ r. not (same_pair r (text, key))) pairs) (t, key) ≡ false
free_out pairs text key has t = has_out (text, key) (t, key) pairs ∙ by_test (same text t) refl
  where
    by_test : (b : Bool) → same text t ≡ b → (not (same_pair (text, key) (t, key)) && has_pair pairs (t, key)) ≡ false
    by_test true is = ap (λ b. not b && has_pair pairs (t, key)) (and_from (same text t) (same key key) is (is_same key key refl))
    by_test false is = ap (λ b. not (same_pair (text, key) (t, key)) && b) (has.each t ∙ is) ∙ last (not (same_pair (text, key) (t, key)))
      where
        last : (b : Bool) → (b && false) ≡ false
        last true = refl
        last false = refl

pub moved_over : (pairs new : List Pair) (old key : Word) (text : Option Word) → IsMoved (filter (λ r. not (same_pair r (old, key))) pairs) new key text → IsMoved pairs new key text
moved_over pairs new old key text m = record { rises = m.rises; each = λ q. m.each q ∙ by_key q (same q.1 key) refl }
  where
    first : (b : Bool) → (b && false) ≡ false
    first true = refl
    first false = refl

    by_key : (q : Pair) (b : Bool) → same q.1 key ≡ b → cond b (is_text text q.0) (has_pair (filter (λ r. not (same_pair r (old, key))) pairs) q) ≡ cond b (is_text text q.0) (has_pair pairs q)
    by_key q true is = refl
    by_key q false is = has_out (old, key) q pairs ∙ ap (λ b. not b && has_pair pairs q) (ap (λ b. same old q.0 && b) (turned q.1 key is) ∙ first (same old q.0))

-- a text that stays
pub moved_same : (pairs : List Pair) (old key : Word) (text : Option Word) → HasText pairs key (Some old) → is_text text old ≡ true → IsMoved pairs pairs key text
moved_same pairs old key None has is = absurd (true≢false (sym is))
moved_same pairs old key (Some text) has is = record { rises = has.rises; each = λ q. by_key q (same q.1 key) refl }
  where
    by_key : (q : Pair) (b : Bool) → same q.1 key ≡ b → has_pair pairs q ≡ cond b (same text q.0) (has_pair pairs q)
    by_key q true here = ap (λ w. has_pair pairs (q.0, w)) (same_is q.1 key here) ∙ has.each q.0 ∙ ap (λ w. same w q.0) (sym (same_is text old is))
    by_key q false other = refl

-- one index more, and fields past the last
pub pairs_push : (made : List (List Pair)) (x : List Pair) (f : ℕ) → f < length made → pairs_at (made ++ x ∷ []) f ≡ pairs_at made f
pairs_push [] x f h = absurd (omega arith)
pairs_push (m ∷ ms) x zero h = refl
pairs_push (m ∷ ms) x (suc f) h = pairs_push ms x f (omega arith)

pub pairs_last : (made : List (List Pair)) (x : List Pair) (f : ℕ) → length made ≡ f → pairs_at (made ++ x ∷ []) f ≡ x
pairs_last [] x f is = ap (λ n. pairs_at (x ∷ []) n) (sym is)
pairs_last (m ∷ ms) x f is = ap (λ n. pairs_at (m ∷ (ms ++ x ∷ [])) n) (sym is) ∙ pairs_last ms x (length ms) refl

pub pairs_past : (made : List (List Pair)) (f : ℕ) → length made ≤ f → pairs_at made f ≡ []
pairs_past [] f h = refl
pairs_past (m ∷ ms) zero h = absurd (omega arith)
pairs_past (m ∷ ms) (suc f) h = pairs_past ms f (omega arith)

pub none_past : (texts : List Word) (f : ℕ) → length texts ≤ f → slice_get texts f ≡ None
none_past [] f h = refl
none_past (t ∷ ts) zero h = absurd (omega arith)
none_past (t ∷ ts) (suc f) h = none_past ts f (omega arith)

pub moved_past : (old new : List (List Pair)) (key : Word) (texts : List Word) (f : ℕ) → length old ≤ f → length new ≤ f → length texts ≤ f → IsMoved (pairs_at old f) (pairs_at new f) key (slice_get texts f)
moved_past old new key texts f o n t =
    let nothing : List Pair = [] in
    subst (λ l. IsMoved l (pairs_at new f) key (slice_get texts f)) (sym (pairs_past old f o))
    (subst (λ l. IsMoved nothing l key (slice_get texts f)) (sym (pairs_past new f n))
    (subst (IsMoved nothing nothing key) (sym (none_past texts f t)) (moved_none nothing key tt (λ w. refl))))
