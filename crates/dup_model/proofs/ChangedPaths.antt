-- The list of changed paths: it has just these, and they rise.
use Rattle.std.proofs.Common.{◌≡◌, ℕ, zero, inl, inr, Bool, true, false, not, cond, ◌||◌, List, [], ◌∷◌, ◌++◌, Option, Some, None, map, refl, sym, ap, subst, ◌∙◌}
use Rattle.std.specs.Option.{is_some, option_map, option_eq}
use Rattle.std.specs.List.{filter}
use Rattle.std.specs.declared.cmp.Ordering.{Ordering}
use Rattle.std.specs.declared.cmp.Ordering.TheVariants.{Less, Equal, Greater}
use Rattle.std.specs.Ordering.{eq_by_cmp, is_lt}
use Rattle.std.specs.Cmp.{Equal-is}
use Rattle.std.specs.Cmp.Lexicographic.{nat_list_cmp_total}
use Rattle.std.proofs.lemmas.Bool.{true≢false, and_parts, and_from, or_cases}
use Rattle.std.specs.FinMap as fin
use Rattle.std.specs.FinMap.Entries.{is_some-find, is_sorted, below_all}
use Rattle.dup_model.proofs.Reached.{tie_same, tie_itself, has_filter}
use Rattle.dup_names.specs.Words.{Path}
use Rattle.dup_names.specs.declared.value.Look.{Look}
use Rattle.dup_model.specs.Editions.{Page, has, Edition, looks, target_looks}
use Rattle.dup_model.specs.Needs.{same_look, changed}
use Rattle.dup_names.specs.Order.{text_cmp}
use Rattle.dup_model.specs.Pages.{Target}
use Rattle.dup_model.specs.Bundles.{paths_of, changed_paths}

pub firsts : (ks : List Path) → map (λ x. x.0) (map (λ p. let pair : Path × ℕ = (p, zero) in pair) ks) ≡ ks
firsts [] = refl
firsts (k ∷ ks) = ap (λ rest. k ∷ rest) (firsts ks)

pub has_append : (xs ys : List Path) (q : Path) → has (xs ++ ys) q ≡ (has xs q || has ys q)
has_append [] ys q = refl
has_append (x ∷ xs) ys q = rw (has_append xs ys q) (or_assoc (eq_by_cmp text_cmp q x) (has xs q) (has ys q))
  where
    or_assoc : (a b c : Bool) → (a || (b || c)) ≡ ((a || b) || c)
    or_assoc true b c = refl
    or_assoc false b c = refl

has_paths_of : (e : Edition) (t : Target) (q : Path) → has (paths_of e t) q ≡ (fin.contains_key e q || fin.contains_key t q)
has_paths_of e t q =
    let es : List (Path × ℕ) = map (λ p. (p, zero)) (fin.keys e ++ fin.keys t) in
    sym (fin.contains_key-keys (fin.from_entries {R = text_cmp} es) q)
    ∙ ap is_some (fin.get-from_entries nat_list_cmp_total es q)
    ∙ is_some-find text_cmp q es
    ∙ ap (λ ks. has ks q) (firsts (fin.keys e ++ fin.keys t))
    ∙ has_append (fin.keys e) (fin.keys t) q
    ∙ rw (fin.contains_key-keys e q, fin.contains_key-keys t q)

changed_known : (a : Option Page) (b : Option Look) → not (option_eq same_look (option_map (λ page. page.look) a) b) ≡ true → (is_some a || is_some b) ≡ true
changed_known None None h = absurd (true≢false (sym h))
changed_known None (Some b) h = refl
changed_known (Some a) b h = refl

module _ (e : Edition) (t : Target) where
  pub only_changed : (q : Path) → has (changed_paths e t) q ≡ true → changed (looks e) (target_looks t) q ≡ true
  only_changed q inside = (and_parts _ _ (sym (has_filter (changed (looks e) (target_looks t)) (paths_of e t) q) ∙ inside)).1

  pub all_changed : (q : Path) → changed (looks e) (target_looks t) q ≡ true → has (changed_paths e t) q ≡ true
  all_changed q changes =
      has_filter (changed (looks e) (target_looks t)) (paths_of e t) q
      ∙ and_from _ _ (has_paths_of e t q ∙ changed_known (fin.get e q) (fin.get t q) changes) changes

no_less : (p q : Path) → text_cmp p q ≡ Less → is_lt (text_cmp q p) ≡ false
no_less p q h = rw (nat_list_cmp_total.antisymm q p, h)

not_itself : (p : Path) → is_lt (text_cmp p p) ≡ false
not_itself p = rw ((Equal-is (text_cmp p p)).0 (tie_itself p))

head_or : Path → List Path → Path
head_or k [] = k
head_or k (x ∷ xs) = x

same_head : (k p : Path) (xs ys : List Path) → k ∷ xs ≡ p ∷ ys → k ≡ p
unfolding head_or
same_head k p xs ys is = ap (head_or k) is

least_at : (b : Bool) (k p : Path) (kept ps : List Path) (q : Path) → (has kept q ≡ true → text_cmp k q ≡ Less) →
    (kept ≡ p ∷ ps → has kept q ≡ true → is_lt (text_cmp q p) ≡ false) →
    cond b (k ∷ kept) kept ≡ p ∷ ps → has (cond b (k ∷ kept) kept) q ≡ true → is_lt (text_cmp q p) ≡ false
least_at true k p kept ps q above rest is inside =
    let first : k ≡ p = same_head k p kept ps is in
    elim (or_cases _ _ inside) [
      | inl tie ↦ rw (tie_same q k tie, first) (not_itself p)
      | inr later ↦ no_less p q (subst (λ k. text_cmp k q ≡ Less) first (above later))
    ]
least_at false k p kept ps q above rest is inside = rest is inside

-- in a sorted list the first is the least
module _ {X : Type 0} where
  rises : (k : Path) (es : List (Path × X)) → below_all text_cmp k es ≡ true → (q : Path) → has (map (λ x. x.0) es) q ≡ true → text_cmp k q ≡ Less
  rises k [] below q inside = absurd (true≢false (sym inside))
  rises k (x ∷ es) below q inside = elim (or_cases _ _ inside) [
    | inl tie ↦ rw (tie_same q x.0 tie) (is_less _ (and_parts _ _ below).0)
    | inr later ↦ rises k es (and_parts _ _ below).1 q later
  ]
    where
      is_less : (o : Ordering) → is_lt o ≡ true → o ≡ Less
      is_less Less h = refl
      is_less Equal h = absurd (true≢false (sym h))
      is_less Greater h = absurd (true≢false (sym h))

  pub first_least : (f : Path → Bool) (es : List (Path × X)) → is_sorted text_cmp es ≡ true → (p : Path) (ps : List Path) → filter f (map (λ x. x.0) es) ≡ p ∷ ps →
      (q : Path) → has (filter f (map (λ x. x.0) es)) q ≡ true → is_lt (text_cmp q p) ≡ false
  first_least f [] sorted p ps is q inside = absurd (true≢false (sym inside))
  first_least f (x ∷ es) sorted p ps is q inside =
      least_at (f x.0) x.0 p (filter f (map (λ x. x.0) es)) ps q
      (λ later. rises x.0 es (and_parts _ _ sorted).0 q (and_parts _ _ (sym (has_filter f (map (λ x. x.0) es) q) ∙ later)).0)
      (λ is inside. first_least f es (and_parts _ _ sorted).1 p ps is q inside)
      is inside
