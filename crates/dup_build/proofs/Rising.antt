-- The pages of a content rise by their paths.
use Rattle.std.proofs.Common.{◌≡◌, Bool, true, false, ◌&&◌, List, [], ◌∷◌, map, refl, sym, ap, ◌∙◌}
use Rattle.std.specs.FinMap.Entries.{below_all, is_sorted}
use Rattle.std.specs.Ordering.{is_lt, ordering_reverse}
use Rattle.std.specs.declared.cmp.Ordering.{Ordering}
use Rattle.std.specs.declared.cmp.Ordering.TheVariants.{Less, Equal, Greater}
use Rattle.std.specs.Cmp.Lexicographic.{nat_list_cmp_total}
use Rattle.std.proofs.lemmas.Bool.{true≢false}
use Rattle.dup_names.specs.Order.{text_cmp}
use Rattle.dup_names.specs.Words.{Path, in_order, put, put_at}
use Rattle.dup_names.specs.declared.object.Obj.{Obj}
use Rattle.dup_names.specs.declared.value.Look.{Look}
use Rattle.dup_model.specs.Content.{Content}
use Rattle.dup_model.specs.Looks.{look}
use Rattle.dup_model.specs.Pages.{page_looks, pages, pages_of}
use Rattle.std.specs.List.{flat_map}

pub both : (a b : Bool) → a ≡ true → b ≡ true → (a && b) ≡ true
both true b p q = q
both false b p q = p

pub parts : (a b : Bool) → (a && b) ≡ true → (a ≡ true) × (b ≡ true)
parts true b h = (refl, h)
parts false b h = absurd (true≢false (sym h))

pub less : (r : Ordering) → is_lt r ≡ true → r ≡ Less
less Less h = refl
less Equal h = absurd (true≢false (sym h))
less Greater h = absurd (true≢false (sym h))

module _ {X : Type 0} where
  abbrev page_cmp : Path × X → Path × X → Ordering
  page_cmp p q = text_cmp p.0 q.0

  pub below_after : (k m : Path) → text_cmp k m ≡ Less → (es : List (Path × X)) → below_all text_cmp m es ≡ true → below_all text_cmp k es ≡ true
  below_after k m first [] h = refl
  below_after k m first (e ∷ es) h =
      let here : (is_lt (text_cmp m e.0) ≡ true) × (below_all text_cmp m es ≡ true) = parts (is_lt (text_cmp m e.0)) (below_all text_cmp m es) h in
      both (is_lt (text_cmp k e.0)) (below_all text_cmp k es) (ap is_lt (nat_list_cmp_total.trans k m e.0 first (less (text_cmp m e.0) here.0))) (below_after k m first es here.1)

  below_put : (k : Path) (x : Path × X) (ys : List (Path × X)) → text_cmp k x.0 ≡ Less → below_all text_cmp k ys ≡ true → below_all text_cmp k (put page_cmp x ys) ≡ true
  below_put k x [] first all = both (is_lt (text_cmp k x.0)) true (ap is_lt first) refl
  below_put k x (y ∷ ys) first all = by_cmp (text_cmp x.0 y.0) (below_put k x ys first (parts (is_lt (text_cmp k y.0)) (below_all text_cmp k ys) all).1)
    where
      by_cmp : (r : Ordering) → below_all text_cmp k (put page_cmp x ys) ≡ true → below_all text_cmp k (put_at r x y ys (put page_cmp x ys)) ≡ true
      by_cmp Less later = both (is_lt (text_cmp k x.0)) (below_all text_cmp k (y ∷ ys)) (ap is_lt first) all
      by_cmp Equal later = all
      by_cmp Greater later = both (is_lt (text_cmp k y.0)) (below_all text_cmp k (put page_cmp x ys)) (parts (is_lt (text_cmp k y.0)) (below_all text_cmp k ys) all).0 later

  sorted_put : (x : Path × X) (ys : List (Path × X)) → is_sorted text_cmp ys ≡ true → is_sorted text_cmp (put page_cmp x ys) ≡ true
  sorted_put x [] h = refl
  sorted_put x (y ∷ ys) h = by_cmp (text_cmp x.0 y.0) refl (sorted_put x ys here.1)
    where
      here : (below_all text_cmp y.0 ys ≡ true) × (is_sorted text_cmp ys ≡ true)
      here = parts (below_all text_cmp y.0 ys) (is_sorted text_cmp ys) h

      by_cmp : (r : Ordering) → text_cmp x.0 y.0 ≡ r → is_sorted text_cmp (put page_cmp x ys) ≡ true → is_sorted text_cmp (put_at r x y ys (put page_cmp x ys)) ≡ true
      by_cmp Less is later =
          both (below_all text_cmp x.0 (y ∷ ys)) (is_sorted text_cmp (y ∷ ys))
          (both (is_lt (text_cmp x.0 y.0)) (below_all text_cmp x.0 ys) (ap is_lt is) (below_after x.0 y.0 is ys here.0)) h
      by_cmp Equal is later = h
      by_cmp Greater is later =
          both (below_all text_cmp y.0 (put page_cmp x ys)) (is_sorted text_cmp (put page_cmp x ys))
          (below_put y.0 x ys (nat_list_cmp_total.antisymm y.0 x.0 ∙ ap ordering_reverse is) here.0) later

  sorted_in_order : (xs : List (Path × X)) → is_sorted text_cmp (in_order page_cmp xs) ≡ true
  sorted_in_order [] = refl
  sorted_in_order (x ∷ xs) = sorted_put x (in_order page_cmp xs) (sorted_in_order xs)

module _ (c : Content) where
  below_shown : (k : Path) (ps : List (Path × Obj)) → below_all text_cmp k (map {B = Path × Look} (λ p. (p.0, look c p.1)) ps) ≡ below_all text_cmp k ps
  below_shown k [] = refl
  below_shown k (p ∷ ps) = ap (λ b. is_lt (text_cmp k p.0) && b) (below_shown k ps)

  sorted_shown : (ps : List (Path × Obj)) → is_sorted text_cmp (map {B = Path × Look} (λ p. (p.0, look c p.1)) ps) ≡ is_sorted text_cmp ps
  sorted_shown [] = refl
  sorted_shown (p ∷ ps) = λ i. below_shown p.0 ps i && sorted_shown ps i

  pub page_looks_rise : is_sorted text_cmp (page_looks c) ≡ true
  page_looks_rise = sorted_shown (pages c) ∙ sorted_in_order (flat_map (pages_of c) c.frame.pages)
