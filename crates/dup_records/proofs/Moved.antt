-- What differs between two contents is what moved by the rows that the changes between them name.
use Rattle.std.proofs.Common.{◌≡◌, ◌⊎◌, inl, inr, ℕ, zero, suc, ◌≤◌, ◌<◌, Bool, true, false, not, cond, ◌&&◌, ◌||◌, List, [], ◌∷◌, length, map, refl, sym, ap, subst, ◌∙◌, arith}
use Rattle.std.specs.Prelude.{Some, is_some, ◌==◌}
use Rattle.std.specs.List.{find, filter, fold, list_any, slice_get, AllByRecursion, Contains}
use Rattle.std.specs.Option.{option_map, unwrap_or}
use Rattle.std.specs.List.Sorted.{IsStrictlySortedBy}
use Rattle.std.specs.Ordering.{eq_by_cmp, is_eq, is_lt}
use Rattle.std.specs.declared.cmp.Ordering.TheVariants.{Less, Equal}
use Rattle.std.specs.Cmp.{Equal-is, eq_by_cmp_equiv, tied_itself}
use Rattle.std.specs.Cmp.Lexicographic.{pointwise, nat_list_cmp_total}
use Rattle.std.proofs.lemmas.Bool.{true≢false, cases_Bool, and_parts, and_from, or_cases, or_left}
use Rattle.std.proofs.lemmas.Bool.Decides.{Decides-eqb}
use Rattle.std.proofs.lemmas.Map.Lookups.{btree_set_from_contains}
use Rattle.std.proofs.lemmas.Slice.Eq.{bytes_eq-Decides, slice_eq-Decides}
use Rattle.dup_names.specs.Grammar.{is_key}
use Rattle.dup_names.specs.Order.{item_cmp, text_cmp}
use Rattle.dup_names.specs.Words.{Word, same}
use Rattle.dup_names.specs.declared.object.Item.{Item}
use Rattle.dup_names.specs.declared.object.Item.TheVariants as item
use Rattle.dup_model.specs.declared.edit.Edit.{Edit}
use Rattle.dup_model.specs.declared.edit.Edit.TheVariants.{Put, Remove, Replace}
use Rattle.dup_model.specs.Changes.{is_of_kind, is_of_key}
use Rattle.dup_template.specs.SameBody.{same_body}
use Rattle.dup_template.specs.SameStatement.{body-Decides}
use Rattle.dup_model.specs.Commits.{Commit, after, edited}
use Rattle.dup_model.specs.Content.{Content, Entry, Table, body_at, table, row, text, texts_at, keys, group}
use Rattle.dup_template.specs.Frame.{Frame}
use Rattle.dup_model.specs.Names.{kind_at, fields_at, template_at}
use Rattle.dup_model.specs.Tables.{IsBelow, IsRising, TablesRise}
use Rattle.dup_model.specs.Touched.{AreChanged, differs, is_item, items_rise}
use Rattle.dup_model.proofs.ChangedItems.{contained}
use Rattle.dup_model.proofs.Changes.{other_bodies_stay, other_kinds_stay, other_rows_stay}
use Rattle.dup_names.proofs.ItemOrder.{item_tied, item_total}
use Rattle.dup_model.proofs.Reached.{or_right}
use Rattle.dup_model.proofs.Tables.{equal_is, rising_at, rising_filter}
use Rattle.dup_records.specs.Fits.{HaveTexts, RowsFit}
use Rattle.dup_records.specs.Moved.{AreNoted, has_item, one, group_named, moved_field, moved_fields, is_row, moved_row, moved_in, moved_at, moved_body, moved_by_edit, moved_by_commit, moved_by}

-- words and items
same_self : (w : Word) → same w w ≡ true
same_self w = (bytes_eq-Decides w w).1 refl

same_is : (v w : Word) → same v w ≡ true → v ≡ w
same_is v w h = (bytes_eq-Decides v w).0 h

one_self : (it : Item) → one it it ≡ true
one_self it = (eq_by_cmp_equiv item_total).refl it

one_is : (i it : Item) → one i it ≡ true → it ≡ i
one_is i it h = item_tied it i ((Equal-is (item_cmp it i)).0 h)

or_false : (a b : Bool) → (a || b) ≡ false → (a ≡ false) × (b ≡ false)
or_false false b h = (refl, h)
or_false true b h = absurd (true≢false h)

-- the rows that no change names stay
frame_stays : (c : Content) (e : Edit) → (edited c e).frame ≡ c.frame
frame_stays c (Put name key fields) = refl
frame_stays c (Remove name key) = refl
frame_stays c (Replace name body) = refl

module _ (a b : Content) (it : Item) (k : ℕ) (q : Word) where
  -- the row is the same, or nothing moved by it
  Still : Content → Content → Type 0
  Still c d = (row d k q ≡ row c k q) ⊎ (moved_in a b k q it ≡ false)

  still_row : (c : Content) (e : Edit) (name key : Word) → c.frame ≡ a.frame →
      ((n : ℕ) → is_of_kind c.frame e n ≡ (kind_at c.frame name == n)) → ((w : Word) → is_of_key e w ≡ same key w) →
      moved_at a b name key it ≡ false → Still c (edited c e)
  unfolding Still
  still_row c e name key of kinds keys none = by_kind (cases_Bool (kind_at c.frame name == k))
    where
      by_key : kind_at a.frame name ≡ k → (same key q ≡ true) ⊎ (same key q ≡ false) → Still c (edited c e)
      by_key at (inl is) = inr (subst (λ w. moved_in a b k w it ≡ false) (same_is key q is) (subst (λ n. moved_in a b n key it ≡ false) at none))
      by_key at (inr other) = inl (other_rows_stay c e k q (keys q ∙ other))

      by_kind : ((kind_at c.frame name == k) ≡ true) ⊎ ((kind_at c.frame name == k) ≡ false) → Still c (edited c e)
      by_kind (inl is) = by_key (ap (λ f. kind_at f name) (sym of) ∙ (Decides-eqb (kind_at c.frame name) k).0 is) (cases_Bool (same key q))
      by_kind (inr isnt) = inl (other_kinds_stay c e k q (kinds k ∙ isnt))

  still_at : (c : Content) (e : Edit) → c.frame ≡ a.frame → moved_by_edit a b it e ≡ false → Still c (edited c e)
  unfolding Still
  still_at c (Put name key fields) of none = still_row c (Put name key fields) name key of (λ n. refl) (λ w. refl) none
  still_at c (Remove name key) of none = still_row c (Remove name key) name key of (λ n. refl) (λ w. refl) none
  still_at c (Replace name body) of none = inl refl

  still_then : (c d e : Content) → Still c d → Still d e → Still c e
  unfolding Still
  still_then c d e (inl one) (inl two) = inl (two ∙ one)
  still_then c d e (inl one) (inr none) = inr none
  still_then c d e (inr none) _ = inr none

  still_after : (c : Content) (es : Commit) → c.frame ≡ a.frame → moved_by_commit a b es it ≡ false → Still c (after c es) × ((after c es).frame ≡ a.frame)
  unfolding Still
  still_after c [] of none = (inl refl, of)
  still_after c (e ∷ es) of none =
      let both = or_false (moved_by_edit a b it e) (moved_by_commit a b es it) none in
      let rest = still_after (edited c e) es (frame_stays c e ∙ of) both.1 in
      (still_then c (edited c e) (after (edited c e) es) (still_at c e of both.0) rest.0, rest.1)

  still_fold : (c : Content) (commits : List Commit) → c.frame ≡ a.frame → moved_by a b commits it ≡ false → Still c (fold after c commits)
  unfolding Still
  still_fold c [] of none = inl refl
  still_fold c (commit ∷ commits) of none =
      let both = or_false (moved_by_commit a b commit it) (moved_by a b commits it) none in
      let first = still_after c commit of both.0 in
      still_then c (after c commit) (fold after (after c commit) commits) first.0 (still_fold (after c commit) commits first.1 both.1)

frame_after : (c : Content) (es : Commit) → (after c es).frame ≡ c.frame
frame_after c [] = refl
frame_after c (e ∷ es) = frame_after (edited c e) es ∙ frame_stays c e

pub frame_fold : (c : Content) (commits : List Commit) → (fold after c commits).frame ≡ c.frame
frame_fold c [] = refl
frame_fold c (commit ∷ commits) = frame_fold (after c commit) commits ∙ frame_after c commit

-- the bodies that no change names stay
module _ (a b : Content) (it : Item) (n : ℕ) where
  Rests : Content → Content → Type 0
  Rests c d = (body_at d n ≡ body_at c n) ⊎ (moved_body a b n it ≡ false)

  rests_at : (c : Content) (e : Edit) → c.frame ≡ a.frame → moved_by_edit a b it e ≡ false → Rests c (edited c e)
  unfolding Rests
  rests_at c (Put name key fields) of none = inl refl
  rests_at c (Remove name key) of none = inl refl
  rests_at c (Replace name body) of none = elim (cases_Bool (n == template_at c.frame name)) [
    | inl is ↦ inr (subst (λ m. moved_body a b m it ≡ false) (sym ((Decides-eqb n (template_at c.frame name)).0 is ∙ ap (λ f. template_at f name) of)) none)
    | inr isnt ↦ inl (other_bodies_stay c name body n (λ is. true≢false (sym ((Decides-eqb n (template_at c.frame name)).1 is) ∙ isnt)))
  ]

  rests_then : (c d e : Content) → Rests c d → Rests d e → Rests c e
  unfolding Rests
  rests_then c d e (inl one) (inl two) = inl (two ∙ one)
  rests_then c d e (inl one) (inr none) = inr none
  rests_then c d e (inr none) _ = inr none

  rests_after : (c : Content) (es : Commit) → c.frame ≡ a.frame → moved_by_commit a b es it ≡ false → Rests c (after c es)
  unfolding Rests
  rests_after c [] of none = inl refl
  rests_after c (e ∷ es) of none =
      let both = or_false (moved_by_edit a b it e) (moved_by_commit a b es it) none in
      rests_then c (edited c e) (after (edited c e) es) (rests_at c e of both.0) (rests_after (edited c e) es (frame_stays c e ∙ of) both.1)

  rests_fold : (c : Content) (commits : List Commit) → c.frame ≡ a.frame → moved_by a b commits it ≡ false → Rests c (fold after c commits)
  unfolding Rests
  rests_fold c [] of none = inl refl
  rests_fold c (commit ∷ commits) of none =
      let both = or_false (moved_by_commit a b commit it) (moved_by a b commits it) none in
      rests_then c (after c commit) (fold after (after c commit) commits) (rests_after c commit of both.0)
      (rests_fold (after c commit) commits (frame_after c commit ∙ of) both.1)

-- the keys of rows, and of the rows of a group, by membership
abbrev pub has_word : List Word → Word → Bool
has_word ws q = list_any (λ w. same w q) ws

pub keys_row : (q : Word) (es : Table) → has_word (map (λ e. e.0) es) q ≡ is_some (option_map (λ e. e.1) (find (λ e. same e.0 q) es))
keys_row q [] = refl
keys_row q (e ∷ es) = by_test (same e.0 q) (keys_row q es)
  where
    by_test : (b : Bool) → has_word (map (λ e. e.0) es) q ≡ is_some (option_map (λ e. e.1) (find (λ e. same e.0 q) es)) →
        (b || has_word (map (λ e. e.0) es) q) ≡ is_some (option_map (λ e. e.1) (cond b (Some e) (find (λ e. same e.0 q) es)))
    by_test true rest = refl
    by_test false rest = rest

above : (q w : Word) → text_cmp q w ≡ Less → same w q ≡ false
above q w less = by_test (same w q) refl
  where
    by_test : (t : Bool) → same w q ≡ t → t ≡ false
    by_test false is = refl
    by_test true is = absurd (let e : Less ≡ Equal = sym less ∙ (ap (text_cmp q) (same_is w q is) ∙ tied_itself nat_list_cmp_total q) in cc)

none_below : (q : Word) (f : Entry → Bool) (es : Table) → IsBelow q es → has_word (map (λ e. e.0) (filter f es)) q ≡ false
none_below q f [] all = refl
none_below q f (e ∷ es) all = by_test (f e) (none_below q f es all.1)
  where
    by_test : (b : Bool) → has_word (map (λ e. e.0) (filter f es)) q ≡ false → has_word (map (λ e. e.0) (cond b (e ∷ filter f es) (filter f es))) q ≡ false
    by_test true rest = ap (λ b. b || has_word (map (λ e. e.0) (filter f es)) q) (above q e.0 all.0) ∙ rest
    by_test false rest = rest

pub full : (t : Word) → is_key t ≡ true → same [] t ≡ false
full [] h = absurd (true≢false (sym h))
full (x ∷ xs) h = refl

pub group_row : (f : ℕ) (t q : Word) (es : Table) → is_key t ≡ true → IsRising es →
    has_word (map (λ e. e.0) (filter (λ e. same (texts_at (Some e.1) f) t) es)) q ≡ same (texts_at (option_map (λ e. e.1) (find (λ e. same e.0 q) es)) f) t
group_row f t q [] fine rises = sym (full t fine)
group_row f t q (e ∷ es) fine rises =
    by_test (same e.0 q) refl (same (texts_at (Some e.1) f) t) refl
    (λ is. none_below q (λ e. same (texts_at (Some e.1) f) t) es (subst (λ w. IsBelow w es) (same_is e.0 q is) rises.0)) (group_row f t q es fine rises.1)
  where
    by_test : (x : Bool) → same e.0 q ≡ x → (y : Bool) → same (texts_at (Some e.1) f) t ≡ y → (x ≡ true → has_word (map (λ e. e.0) (filter (λ e. same (texts_at (Some e.1) f) t) es)) q ≡ false) →
        has_word (map (λ e. e.0) (filter (λ e. same (texts_at (Some e.1) f) t) es)) q ≡ same (texts_at (option_map (λ e. e.1) (find (λ e. same e.0 q) es)) f) t →
        has_word (map (λ e. e.0) (cond y (e ∷ filter (λ e. same (texts_at (Some e.1) f) t) es) (filter (λ e. same (texts_at (Some e.1) f) t) es))) q
        ≡ same (texts_at (option_map (λ e. e.1) (cond x (Some e) (find (λ e. same e.0 q) es))) f) t
    by_test true here true is none rest = ap (λ b. b || has_word (map (λ e. e.0) (filter (λ e. same (texts_at (Some e.1) f) t) es)) q) here ∙ sym is
    by_test true here false is none rest = none refl ∙ sym is
    by_test false other true is none rest = ap (λ b. b || has_word (map (λ e. e.0) (filter (λ e. same (texts_at (Some e.1) f) t) es)) q) other ∙ rest
    by_test false other false is none rest = rest

-- two lists of rising keys with the same members are one
below_keys : (k : Word) (es : Table) → IsBelow k es → AllByRecursion (λ z. text_cmp k z ≡ Less) (map (λ e. e.0) es)
below_keys k [] all = tt
below_keys k (e ∷ es) all = (all.0, below_keys k es all.1)

pub sorted_keys : (es : Table) → IsRising es → IsStrictlySortedBy text_cmp (map (λ e. e.0) es)
unfolding IsStrictlySortedBy
sorted_keys [] rises = tt
sorted_keys (e ∷ es) rises = (below_keys e.0 es rises.0, sorted_keys es rises.1)

same_tie : (z x : Word) → eq_by_cmp text_cmp z x ≡ same x z
same_tie z x = by_test (same x z) refl
  where
    by_tie : (t : Bool) → eq_by_cmp text_cmp z x ≡ t → same x z ≡ false → t ≡ false
    by_tie false is other = refl
    by_tie true is other = absurd (true≢false (sym (same_self x) ∙ (ap (same x) (sym (equal_is z x ((Equal-is (text_cmp z x)).0 is))) ∙ other)))

    by_test : (t : Bool) → same x z ≡ t → eq_by_cmp text_cmp z x ≡ t
    by_test true is = ap (eq_by_cmp text_cmp z) (same_is x z is) ∙ ap is_eq (tied_itself nat_list_cmp_total z)
    by_test false is = by_tie (eq_by_cmp text_cmp z x) refl is

pub same_words : (xs ys : List Word) → IsStrictlySortedBy text_cmp xs → IsStrictlySortedBy text_cmp ys → ((z : Word) → has_word xs z ≡ has_word ys z) → xs ≡ ys
same_words xs ys r s alike = btree_set_from_contains nat_list_cmp_total (record { keys = xs }) (record { keys = ys }) r s (λ z. tests xs z ∙ (alike z ∙ sym (tests ys z))) equal_is
  where
    tests : (ws : List Word) (z : Word) → list_any (eq_by_cmp text_cmp z) ws ≡ has_word ws z
    tests [] z = refl
    tests (w ∷ ws) z = λ i. same_tie z w i || tests ws z i

-- texts past the fields of a kind are empty
get_past : (xs : List Word) (f : ℕ) → length xs ≤ f → unwrap_or (slice_get xs f) [] ≡ []
get_past [] f past = refl
get_past (x ∷ xs) zero past = absurd (omega (arith, past))
get_past (x ∷ xs) (suc f) past = get_past xs f (omega (arith, past))

text_past : (n : ℕ) (q : Word) (f : ℕ) (es : Table) → n ≤ f → HaveTexts n es → texts_at (option_map (λ e. e.1) (find (λ e. same e.0 q) es)) f ≡ []
text_past n q f [] past fits = refl
text_past n q f (e ∷ es) past fits = by_test (same e.0 q) (text_past n q f es past fits.1)
  where
    by_test : (b : Bool) → texts_at (option_map (λ e. e.1) (find (λ e. same e.0 q) es)) f ≡ [] → texts_at (option_map (λ e. e.1) (cond b (Some e) (find (λ e. same e.0 q) es))) f ≡ []
    by_test true rest = get_past e.1 f (subst (λ m. m ≤ f) (sym fits.0) past)
    by_test false rest = rest

-- bits
alike : (x y : Bool) → x ≡ y → cond x y (not y) ≡ true
alike true true is = refl
alike false false is = refl
alike true false is = sym is
alike false true is = is

alike_back : (x y : Bool) → not (cond x y (not y)) ≡ false → x ≡ y
alike_back true true h = refl
alike_back false false h = refl
alike_back true false h = absurd (true≢false h)
alike_back false true h = absurd (true≢false h)

and_false : (x y : Bool) → (x && y) ≡ false → x ≡ true → y ≡ false
and_false true y h is = h
and_false false y h is = absurd (true≢false (sym is))

lists_same : (xs ys : List Word) → xs ≡ ys → pointwise same xs ys ≡ true
lists_same xs ys is = (slice_eq-Decides bytes_eq-Decides xs ys _ refl).1 is

lists_are : (xs ys : List Word) → pointwise same xs ys ≡ true → xs ≡ ys
lists_are xs ys h = (slice_eq-Decides bytes_eq-Decides xs ys _ refl).0 h

differing : (b : Bool) → (b ≡ true → ⊥) → not b ≡ true
differing true h = absurd (h refl)
differing false h = refl

module _ (a b : Content) (rises_a : TablesRise a) (rises_b : TablesRise b) where
  -- what moved differs
  list_moved : (k : ℕ) (q : Word) → not (cond (is_row a k q) (is_row b k q) (not (is_row b k q))) ≡ true → differs a b (item.List k) ≡ true
  list_moved k q other = differing (pointwise same (keys a k) (keys b k)) (λ h.
      let rows : is_row a k q ≡ is_row b k q = sym (keys_row q (table a k)) ∙ (ap (λ ws. has_word ws q) (lists_are (keys a k) (keys b k) h) ∙ keys_row q (table b k)) in
      true≢false (sym other ∙ ap not (alike (is_row a k q) (is_row b k q) rows)))

  group_has : (c : Content) → TablesRise c → (k f : ℕ) (t q : Word) → is_key t ≡ true → has_word (group c k f t) q ≡ same (text c k q f) t
  group_has c rises k f t q fine = group_row f t q (table c k) fine (rising_at c.tables k rises)

  group_moved : (k f : ℕ) (t q : Word) → is_key t ≡ true → (same (text a k q f) t ≡ same (text b k q f) t → ⊥) → differs a b (item.Group k f t) ≡ true
  group_moved k f t q fine other = differing (pointwise same (group a k f t) (group b k f t)) (λ h.
      other (sym (group_has a rises_a k f t q fine) ∙ (ap (λ ws. has_word ws q) (lists_are (group a k f t) (group b k f t) h) ∙ group_has b rises_b k f t q fine)))

  module _ (it : Item) where
    row_sound : (k : ℕ) (q : Word) → moved_row a b k q it ≡ true → differs a b it ≡ true
    row_sound k q h =
        let both = and_parts (not (cond (is_row a k q) (is_row b k q) (not (is_row b k q)))) (one (item.Row k q) it || one (item.List k) it) h in
        elim (or_cases (one (item.Row k q) it) (one (item.List k) it) both.1) [
          | inl here ↦ subst (λ i. differs a b i ≡ true) (sym (one_is (item.Row k q) it here)) both.0
          | inr here ↦ subst (λ i. differs a b i ≡ true) (sym (one_is (item.List k) it here)) (list_moved k q both.0)
        ]

    field_sound : (k : ℕ) (q : Word) (f : ℕ) → moved_field a b k q f it ≡ true → differs a b it ≡ true
    field_sound k q f h =
        let x = text a k q f in
        let y = text b k q f in
        let both = and_parts (not (same x y)) (one (item.Field k q f) it || (group_named k f x it || group_named k f y it)) h in
        let apart : same x y ≡ false = opposite (same x y) both.0 in
        elim (or_cases (one (item.Field k q f) it) (group_named k f x it || group_named k f y it) both.1) [
          | inl here ↦ subst (λ i. differs a b i ≡ true) (sym (one_is (item.Field k q f) it here)) both.0
          | inr groups ↦ elim (or_cases (group_named k f x it) (group_named k f y it) groups) [
            | inl left ↦
                let two = and_parts (is_key x) (one (item.Group k f x) it) left in
                subst (λ i. differs a b i ≡ true) (sym (one_is (item.Group k f x) it two.1))
                (group_moved k f x q two.0 (λ e. true≢false (sym (same_self x) ∙ (e ∙ turned x y apart))))
            | inr joined ↦
                let two = and_parts (is_key y) (one (item.Group k f y) it) joined in
                subst (λ i. differs a b i ≡ true) (sym (one_is (item.Group k f y) it two.1))
                (group_moved k f y q two.0 (λ e. true≢false (sym (same_self y) ∙ (sym e ∙ apart))))
          ]
        ]
      where
        opposite : (b : Bool) → not b ≡ true → b ≡ false
        opposite true h = absurd (true≢false (sym h))
        opposite false h = refl

        turned : (x y : Word) → same x y ≡ false → same y x ≡ false
        turned x y apart = elim (cases_Bool (same y x)) [
          | inl is ↦ absurd (true≢false (sym (same_self x) ∙ (ap (same x) (sym (same_is y x is)) ∙ apart)))
          | inr isnt ↦ isnt
        ]

    fields_sound : (k : ℕ) (q : Word) (n : ℕ) → moved_fields a b k q n it ≡ true → differs a b it ≡ true
    fields_sound k q zero h = absurd (true≢false (sym h))
    fields_sound k q (suc n) h = elim (or_cases (moved_fields a b k q n it) (moved_field a b k q n it) h) [
      | inl before ↦ fields_sound k q n before
      | inr here ↦ field_sound k q n here
    ]

    in_sound : (k : ℕ) (q : Word) → moved_in a b k q it ≡ true → differs a b it ≡ true
    in_sound k q h = elim (or_cases (moved_row a b k q it) (moved_fields a b k q (length (fields_at a.frame k)) it) h) [
      | inl here ↦ row_sound k q here
      | inr here ↦ fields_sound k q (length (fields_at a.frame k)) here
    ]

    edit_sound : (e : Edit) → moved_by_edit a b it e ≡ true → differs a b it ≡ true
    edit_sound (Put name key fields) h = in_sound (kind_at a.frame name) key h
    edit_sound (Remove name key) h = in_sound (kind_at a.frame name) key h
    edit_sound (Replace name body) h =
        let both = and_parts (not (same_body (body_at a (template_at a.frame name)) (body_at b (template_at a.frame name)))) (one (item.Template (template_at a.frame name)) it) h in
        subst (λ i. differs a b i ≡ true) (sym (one_is (item.Template (template_at a.frame name)) it both.1)) both.0

    commit_sound : (es : Commit) → moved_by_commit a b es it ≡ true → differs a b it ≡ true
    commit_sound [] h = absurd (true≢false (sym h))
    commit_sound (e ∷ es) h = elim (or_cases (moved_by_edit a b it e) (moved_by_commit a b es it) h) [
      | inl here ↦ edit_sound e here
      | inr later ↦ commit_sound es later
    ]

    by_sound : (commits : List Commit) → moved_by a b commits it ≡ true → differs a b it ≡ true
    by_sound [] h = absurd (true≢false (sym h))
    by_sound (commit ∷ commits) h = elim (or_cases (moved_by_commit a b commit it) (moved_by a b commits it) h) [
      | inl here ↦ commit_sound commit here
      | inr later ↦ by_sound commits later
    ]

module _ (a b : Content) (commits : List Commit) (is : b ≡ fold after a commits) (rises_a : TablesRise a) (rises_b : TablesRise b) (fits_a : RowsFit a) (fits_b : RowsFit b) (it : Item) (none : moved_by a b commits it ≡ false) where
  -- where nothing moved nothing differs
  stays : (k : ℕ) (q : Word) → (row b k q ≡ row a k q) ⊎ (moved_in a b k q it ≡ false)
  unfolding Still
  stays k q = subst (λ c. (row c k q ≡ row a k q) ⊎ (moved_in a b k q it ≡ false)) (sym is) (still_fold a b it k q a commits refl none)

  past : (k : ℕ) (q : Word) (f : ℕ) → length (fields_at a.frame k) ≤ f → text a k q f ≡ text b k q f
  past k q f out =
      text_past (length (fields_at a.frame k)) q f (table a k) out (fits_a k)
      ∙ sym (text_past (length (fields_at b.frame k)) q f (table b k) (subst (λ (g : Frame). length (fields_at g k) ≤ f) (sym (ap (λ (c : Content). c.frame) is ∙ frame_fold a commits)) out) (fits_b k))

  unmoved : (k : ℕ) (q : Word) (n f : ℕ) → f < n → moved_fields a b k q n it ≡ false → moved_field a b k q f it ≡ false
  unmoved k q zero f below h = absurd (omega (arith, below))
  unmoved k q (suc n) f below h = elim (cases_Bool (f == n)) [
    | inl at ↦ subst (λ m. moved_field a b k q m it ≡ false) (sym ((Decides-eqb f n).0 at)) (or_false (moved_fields a b k q n it) (moved_field a b k q n it) h).1
    | inr isnt ↦
        let apart : f ≡ n → ⊥ = λ at. true≢false (sym ((Decides-eqb f n).1 at) ∙ isnt) in
        unmoved k q n f (omega (arith, below, apart)) (or_false (moved_fields a b k q n it) (moved_field a b k q n it) h).0
  ]

  -- a field's texts are the same, or its items are others
  field_stays : (k : ℕ) (q : Word) (f : ℕ) → (text a k q f ≡ text b k q f) ⊎ ((one (item.Field k q f) it || (group_named k f (text a k q f) it || group_named k f (text b k q f) it)) ≡ false)
  field_stays k q f = elim (stays k q) [
    | inl same_row ↦ inl (ap (λ r. texts_at r f) (sym same_row))
    | inr still ↦ elim (cases_Bool (same (text a k q f) (text b k q f))) [
      | inl same_text ↦ inl (same_is (text a k q f) (text b k q f) same_text)
      | inr other ↦ elim (below_or_past f (length (fields_at a.frame k))) [
        | inl below ↦
            inr (and_false (not (same (text a k q f) (text b k q f))) (one (item.Field k q f) it || (group_named k f (text a k q f) it || group_named k f (text b k q f) it))
            (unmoved k q (length (fields_at a.frame k)) f below (or_false (moved_row a b k q it) (moved_fields a b k q (length (fields_at a.frame k)) it) still).1) (ap not other))
        | inr out ↦ inl (past k q f out)
      ]
    ]
  ]
    where
      below_or_past : (m n : ℕ) → (m < n) ⊎ (n ≤ m)
      below_or_past m zero = inr (omega arith)
      below_or_past zero (suc n) = inl (omega arith)
      below_or_past (suc m) (suc n) = elim (below_or_past m n) [ inl h ↦ inl (omega (arith, h)) | inr h ↦ inr (omega (arith, h)) ]

  row_stays : (k : ℕ) (q : Word) → (one (item.Row k q) it || one (item.List k) it) ≡ true → is_row a k q ≡ is_row b k q
  row_stays k q here = elim (stays k q) [
    | inl same_row ↦ ap is_some (sym same_row)
    | inr still ↦ elim (cases_Bool (not (cond (is_row a k q) (is_row b k q) (not (is_row b k q))))) [
      | inl other ↦ absurd (true≢false (sym here ∙ and_false _ _ (or_false (moved_row a b k q it) (moved_fields a b k q (length (fields_at a.frame k)) it) still).0 other))
      | inr alike ↦ alike_back (is_row a k q) (is_row b k q) alike
    ]
  ]

  keys_stay : (k : ℕ) → one (item.List k) it ≡ true → keys a k ≡ keys b k
  keys_stay k here = same_words (keys a k) (keys b k) (sorted_keys (table a k) (rising_at a.tables k rises_a)) (sorted_keys (table b k) (rising_at b.tables k rises_b))
      (λ q. keys_row q (table a k) ∙ (row_stays k q (or_right (one (item.Row k q) it) (one (item.List k) it) here) ∙ sym (keys_row q (table b k))))

  group_stays : (k f : ℕ) (t : Word) → is_key t ≡ true → one (item.Group k f t) it ≡ true → group a k f t ≡ group b k f t
  group_stays k f t fine here = same_words (group a k f t) (group b k f t)
      (sorted_keys (filter (λ e. same (texts_at (Some e.1) f) t) (table a k)) (rising_filter (λ e. same (texts_at (Some e.1) f) t) (table a k) (rising_at a.tables k rises_a)))
      (sorted_keys (filter (λ e. same (texts_at (Some e.1) f) t) (table b k)) (rising_filter (λ e. same (texts_at (Some e.1) f) t) (table b k) (rising_at b.tables k rises_b)))
      (λ q. group_has a b rises_a rises_b a rises_a k f t q fine ∙ (alike_texts q ∙ sym (group_has a b rises_a rises_b b rises_b k f t q fine)))
    where
      not_it : (w : Word) → group_named k f w it ≡ false → same w t ≡ false
      not_it w other = elim (cases_Bool (same w t)) [
        | inl is ↦ absurd (true≢false (sym (and_from (is_key t) (one (item.Group k f t) it) fine here) ∙ (ap (λ v. group_named k f v it) (sym (same_is w t is)) ∙ other)))
        | inr isnt ↦ isnt
      ]

      alike_texts : (q : Word) → same (text a k q f) t ≡ same (text b k q f) t
      alike_texts q = elim (field_stays k q f) [
        | inl texts ↦ ap (λ w. same w t) texts
        | inr others ↦
            let groups = (or_false (one (item.Field k q f) it) (group_named k f (text a k q f) it || group_named k f (text b k q f) it) others).1 in
            let both = or_false (group_named k f (text a k q f) it) (group_named k f (text b k q f) it) groups in
            not_it (text a k q f) both.0 ∙ sym (not_it (text b k q f) both.1)
      ]

  body_rests : (n : ℕ) → (body_at b n ≡ body_at a n) ⊎ (moved_body a b n it ≡ false)
  unfolding Rests
  body_rests n = subst (λ c. (body_at c n ≡ body_at a n) ⊎ (moved_body a b n it ≡ false)) (sym is) (rests_fold a b it n a commits refl none)

  same_then : (i : Item) → it ≡ i → is_item i ≡ true → differs a b i ≡ false
  same_then (item.Field k q f) at fine = elim (field_stays k q f) [
    | inl texts ↦ ap not ((bytes_eq-Decides (text a k q f) (text b k q f)).1 texts)
    | inr others ↦ absurd (true≢false (sym (ap (one (item.Field k q f)) at ∙ one_self (item.Field k q f)) ∙ (or_false (one (item.Field k q f) it) _ others).0))
  ]
  same_then (item.Row k q) at fine = ap not (alike (is_row a k q) (is_row b k q)
      (row_stays k q (or_left (one (item.Row k q) it) (one (item.List k) it) (ap (one (item.Row k q)) at ∙ one_self (item.Row k q)))))
  same_then (item.List k) at fine = ap not (lists_same (keys a k) (keys b k) (keys_stay k (ap (one (item.List k)) at ∙ one_self (item.List k))))
  same_then (item.Group k f t) at fine = ap not (lists_same (group a k f t) (group b k f t) (group_stays k f t fine (ap (one (item.Group k f t)) at ∙ one_self (item.Group k f t))))
  same_then (item.Template n) at fine = elim (body_rests n) [
    | inl same_bodies ↦ ap not ((body-Decides (body_at a n) (body_at b n)).1 (sym same_bodies))
    | inr none ↦ elim (cases_Bool (not (same_body (body_at a n) (body_at b n)))) [
      | inl other ↦ absurd (true≢false (sym (and_from (not (same_body (body_at a n) (body_at b n))) (one (item.Template n) it) other (ap (one (item.Template n)) at ∙ one_self (item.Template n))) ∙ none))
      | inr alike ↦ alike
    ]
  ]

-- a list by its members
contains_has : (items : List Item) (it : Item) → Contains items it → has_item items it ≡ true
contains_has [] it (k, below, is) = absurd (omega (arith, below))
contains_has (x ∷ xs) it (zero, below, is) = or_left (one x it) (has_item xs it) (ap (λ i. one i it) is ∙ one_self it)
contains_has (x ∷ xs) it (suc k, below, is) = or_right (one x it) (has_item xs it) (contains_has xs it (k, omega (arith, below), is))

rises_of : (items : List Item) → IsStrictlySortedBy item_cmp items → items_rise items ≡ true
unfolding IsStrictlySortedBy
rises_of [] h = refl
rises_of (x ∷ []) h = refl
rises_of (x ∷ y ∷ ys) h = and_from (is_lt (item_cmp x y)) (items_rise (y ∷ ys)) (ap is_lt h.0.0) (rises_of (y ∷ ys) h.1)

pub changed_are : (a b : Content) (commits : List Commit) (items : List Item) → b ≡ fold after a commits → TablesRise a → TablesRise b → RowsFit a → RowsFit b →
    AreNoted items (moved_by a b commits) → AreChanged a b items
changed_are a b commits items is rises_a rises_b fits_a fits_b noted = record {
  rising = rises_of items noted.order;
  all = λ it fine h. elim (cases_Bool (moved_by a b commits it)) [
    | inl moved ↦ contained items it (noted.each it ∙ moved)
    | inr none ↦ absurd (true≢false (sym h ∙ same_then a b commits is rises_a rises_b fits_a fits_b it none it refl fine))
  ];
  only = λ it inside. by_sound a b rises_a rises_b it commits (sym (noted.each it) ∙ contains_has items it inside);
}
