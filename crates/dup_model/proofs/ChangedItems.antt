-- The list of all changed items.
use Rattle.std.proofs.Common.{◌≡◌, ◌⊎◌, ℕ, zero, suc, ◌+◌, inl, inr, Bool, true, false, not, cond, ◌&&◌, List, [], ◌∷◌, ◌++◌, map, refl, sym, ap, subst, ◌∙◌, arith}
use Rattle.std.specs.Prelude.{Option, Some, None, is_some, IsTrue, ◌↔◌}
use Rattle.std.specs.List.{list_any, flat_map, filter, find, slice_get, Contains, AllByRecursion}
use Rattle.std.specs.Option.{option_map, unwrap_or}
use Rattle.std.specs.Ordering.{eq_by_cmp, is_lt}
use Rattle.std.specs.Cmp.Lexicographic.{pointwise}
use Rattle.std.specs.Cmp.{Equal-is, eq_by_cmp_equiv}
use Rattle.std.proofs.lemmas.Bool.{true≢false, and_parts, and_from, or_cases, or_left}
use Rattle.std.proofs.lemmas.Option.{none-some, same_Some}
use Rattle.std.proofs.lemmas.Slice.Eq.{bytes_eq-Decides}
use Rattle.dup_names.specs.Grammar.{is_key}
use Rattle.dup_names.specs.Order.{item_cmp}
use Rattle.dup_names.specs.Words.{Word, same, in_order}
use Rattle.dup_names.specs.declared.object.Obj.{Obj}
use Rattle.dup_names.specs.declared.object.Item.{Item}
use Rattle.dup_names.specs.declared.object.Item.TheVariants as item
use Rattle.dup_model.specs.Content.{Content, Entry, Table, body_at, table, texts_at, row, text, keys, group}
use Rattle.dup_template.specs.SameBody.{same_body}
use Rattle.dup_template.specs.declared.statement.Statement.{Statement}
use Rattle.dup_model.specs.Skeletons.{reads}
use Rattle.dup_model.specs.Touched.{AreChanged, differs, is_item, items_rise, touched}
use Rattle.dup_model.specs.ChangedItems.{ChangesExist}
use Rattle.dup_model.proofs.Canonical.{Rises, rises_in_order}
use Rattle.dup_names.proofs.ItemOrder.{item_tied, item_total}
use Rattle.dup_model.proofs.Ordering.{any_append, any_in_order, all_in_order}
use Rattle.dup_model.proofs.Reached.{or_right}

-- the item is in the list
abbrev pub member : List Item → Item → Bool
member items it = list_any (eq_by_cmp item_cmp it) items

item_itself : (it : Item) → eq_by_cmp item_cmp it it ≡ true
item_itself it = (eq_by_cmp_equiv item_total).refl it

here_first : (it : Item) (items : List Item) → member (it ∷ items) it ≡ true
here_first it items = or_left _ _ (item_itself it)

next_in : (it x : Item) (items : List Item) → member items it ≡ true → member (x ∷ items) it ≡ true
next_in it x items h = or_right (eq_by_cmp item_cmp it x) (member items it) h

in_front : (it : Item) (xs ys : List Item) → member xs it ≡ true → member (xs ++ ys) it ≡ true
in_front it xs ys h = any_append (eq_by_cmp item_cmp it) xs ys ∙ or_left _ _ h

behind : (it : Item) (xs ys : List Item) → member ys it ≡ true → member (xs ++ ys) it ≡ true
behind it xs ys h = any_append (eq_by_cmp item_cmp it) xs ys ∙ or_right _ _ h

same_is : (v w : Word) → same v w ≡ true → v ≡ w
same_is v w is = (bytes_eq-Decides v w).0 is

-- all items that may have a value other than the empty one
abbrev of_texts : ℕ → Word → ℕ → List Word → List Item
of_texts k key f [] = []
of_texts k key f (t ∷ ts) = item.Field k key f ∷ (item.Group k f t ∷ of_texts k key (suc f) ts)

abbrev of_entry : ℕ → Entry → List Item
of_entry k e = item.Row k e.0 ∷ of_texts k e.0 0 e.1

abbrev of_table : ℕ → Table → List Item
of_table k es = item.List k ∷ flat_map (of_entry k) es

abbrev from_tables : ℕ → List Table → List Item
from_tables k [] = []
from_tables k (es ∷ rest) = of_table k es ++ from_tables (suc k) rest

abbrev from_bodies : {B : Type 0} → ℕ → List B → List Item
from_bodies n [] = []
from_bodies n (body ∷ rest) = item.Template n ∷ from_bodies (suc n) rest

abbrev items_of : Content → List Item
items_of c = from_tables 0 c.tables ++ from_bodies 0 c.bodies

module _ (k : ℕ) (key : Word) where
  text_in : (f i : ℕ) (ts : List Word) (t : Word) → slice_get ts i ≡ Some t → (member (of_texts k key f ts) (item.Field k key (f + i)) ≡ true) × (member (of_texts k key f ts) (item.Group k (f + i) t) ≡ true)
  text_in f i [] t is = absurd (none-some t is)
  text_in f zero (x ∷ ts) t is =
      let end : f + 0 ≡ f = omega arith in
      let one : x ≡ t = same_Some x t is in (
        subst (λ g. member (of_texts k key f (x ∷ ts)) (item.Field k key g) ≡ true) (sym end) (here_first (item.Field k key f) (item.Group k f x ∷ of_texts k key (suc f) ts)),
        subst (λ g. member (of_texts k key f (x ∷ ts)) (item.Group k g t) ≡ true) (sym end)
            (subst (λ w. member (of_texts k key f (x ∷ ts)) (item.Group k f w) ≡ true) one (next_in (item.Group k f x) (item.Field k key f) (item.Group k f x ∷ of_texts k key (suc f) ts) (here_first (item.Group k f x) (of_texts k key (suc f) ts)))),
      )
  text_in f (suc i) (x ∷ ts) t is =
      let rest : (member (of_texts k key (suc f) ts) (item.Field k key (suc f + i)) ≡ true) × (member (of_texts k key (suc f) ts) (item.Group k (suc f + i) t) ≡ true) = text_in (suc f) i ts t is in
      let next : suc f + i ≡ f + suc i = omega arith in (
        subst (λ g. member (of_texts k key f (x ∷ ts)) (item.Field k key g) ≡ true) next (next_in (item.Field k key (suc f + i)) (item.Field k key f) (item.Group k f x ∷ of_texts k key (suc f) ts) (next_in (item.Field k key (suc f + i)) (item.Group k f x) (of_texts k key (suc f) ts) rest.0)),
        subst (λ g. member (of_texts k key f (x ∷ ts)) (item.Group k g t) ≡ true) next (next_in (item.Group k (suc f + i) t) (item.Field k key f) (item.Group k f x ∷ of_texts k key (suc f) ts) (next_in (item.Group k (suc f + i) t) (item.Group k f x) (of_texts k key (suc f) ts) rest.1)),
      )

from_start : (k : ℕ) (key : Word) (f : ℕ) (ts : List Word) (t : Word) → slice_get ts f ≡ Some t → (member (of_texts k key 0 ts) (item.Field k key f) ≡ true) × (member (of_texts k key 0 ts) (item.Group k f t) ≡ true)
from_start k key f ts t is =
    let both : (member (of_texts k key 0 ts) (item.Field k key (0 + f)) ≡ true) × (member (of_texts k key 0 ts) (item.Group k (0 + f) t) ≡ true) = text_in k key 0 f ts t is in
    let end : 0 + f ≡ f = omega arith in
    (subst (λ g. member (of_texts k key 0 ts) (item.Field k key g) ≡ true) end both.0, subst (λ g. member (of_texts k key 0 ts) (item.Group k g t) ≡ true) end both.1)

-- in the rows of a kind
module _ (k : ℕ) where
  field_in : (q : Word) (f : ℕ) (es : Table) → (texts_at (option_map (λ e. e.1) (find (λ e. same e.0 q) es)) f ≡ [] → ⊥) → member (flat_map (of_entry k) es) (item.Field k q f) ≡ true
  field_in q f [] some = absurd (some refl)
  field_in q f (e ∷ es) some = by_test (same e.0 q) refl (λ later. field_in q f es later) some
    where
      at_text : (o : Option Word) → slice_get e.1 f ≡ o → (unwrap_or o [] ≡ [] → ⊥) → member (of_texts k e.0 0 e.1) (item.Field k e.0 f) ≡ true
      at_text None is some = absurd (some refl)
      at_text (Some t) is some = (from_start k e.0 f e.1 t is).0

      by_test : (b : Bool) → same e.0 q ≡ b → ((texts_at (option_map (λ e. e.1) (find (λ e. same e.0 q) es)) f ≡ [] → ⊥) → member (flat_map (of_entry k) es) (item.Field k q f) ≡ true) →
          (texts_at (option_map (λ e. e.1) (cond b (Some e) (find (λ e. same e.0 q) es))) f ≡ [] → ⊥) → member (of_entry k e ++ flat_map (of_entry k) es) (item.Field k q f) ≡ true
      by_test true is later some =
          in_front (item.Field k q f) (of_entry k e) (flat_map (of_entry k) es)
          (subst (λ w. member (of_entry k e) (item.Field k w f) ≡ true) (same_is e.0 q is) (next_in (item.Field k e.0 f) (item.Row k e.0) (of_texts k e.0 0 e.1) (at_text (slice_get e.1 f) refl some)))
      by_test false is later some = behind (item.Field k q f) (of_entry k e) (flat_map (of_entry k) es) (later some)

  row_in : (q : Word) (es : Table) → is_some (option_map (λ e. e.1) (find (λ e. same e.0 q) es)) ≡ true → member (flat_map (of_entry k) es) (item.Row k q) ≡ true
  row_in q [] there = absurd (true≢false (sym there))
  row_in q (e ∷ es) there = by_test (same e.0 q) refl (λ later. row_in q es later) there
    where
      by_test : (b : Bool) → same e.0 q ≡ b → (is_some (option_map (λ e. e.1) (find (λ e. same e.0 q) es)) ≡ true → member (flat_map (of_entry k) es) (item.Row k q) ≡ true) →
          is_some (option_map (λ e. e.1) (cond b (Some e) (find (λ e. same e.0 q) es))) ≡ true → member (of_entry k e ++ flat_map (of_entry k) es) (item.Row k q) ≡ true
      by_test true is later there =
          in_front (item.Row k q) (of_entry k e) (flat_map (of_entry k) es) (subst (λ w. member (of_entry k e) (item.Row k w) ≡ true) (same_is e.0 q is) (here_first (item.Row k e.0) (of_texts k e.0 0 e.1)))
      by_test false is later there = behind (item.Row k q) (of_entry k e) (flat_map (of_entry k) es) (later there)

  group_in : (f : ℕ) (q : Word) (es : Table) → (q ≡ [] → ⊥) → (map (λ e. e.0) (filter (λ e. same (texts_at (Some e.1) f) q) es) ≡ [] → ⊥) → member (flat_map (of_entry k) es) (item.Group k f q) ≡ true
  group_in f q [] full some = absurd (some refl)
  group_in f q (e ∷ es) full some = by_test (same (texts_at (Some e.1) f) q) refl (λ later. group_in f q es full later) some
    where
      at_text : (o : Option Word) → slice_get e.1 f ≡ o → unwrap_or o [] ≡ q → member (of_texts k e.0 0 e.1) (item.Group k f q) ≡ true
      at_text None is at = absurd (full (sym at))
      at_text (Some t) is at = subst (λ w. member (of_texts k e.0 0 e.1) (item.Group k f w) ≡ true) at (from_start k e.0 f e.1 t is).1

      by_test : (b : Bool) → same (texts_at (Some e.1) f) q ≡ b → ((map (λ e. e.0) (filter (λ e. same (texts_at (Some e.1) f) q) es) ≡ [] → ⊥) → member (flat_map (of_entry k) es) (item.Group k f q) ≡ true) →
          (map (λ e. e.0) (cond b (e ∷ filter (λ e. same (texts_at (Some e.1) f) q) es) (filter (λ e. same (texts_at (Some e.1) f) q) es)) ≡ [] → ⊥) →
          member (of_entry k e ++ flat_map (of_entry k) es) (item.Group k f q) ≡ true
      by_test true is later some =
          in_front (item.Group k f q) (of_entry k e) (flat_map (of_entry k) es) (next_in (item.Group k f q) (item.Row k e.0) (of_texts k e.0 0 e.1) (at_text (slice_get e.1 f) refl (same_is (texts_at (Some e.1) f) q is)))
      by_test false is later some = behind (item.Group k f q) (of_entry k e) (flat_map (of_entry k) es) (later some)

-- in the tables
table_in : (it : Item) (i k : ℕ) (tables : List Table) (es : Table) → slice_get tables i ≡ Some es → member (of_table (k + i) es) it ≡ true → member (from_tables k tables) it ≡ true
table_in it i k [] es is h = absurd (none-some es is)
table_in it zero k (t ∷ ts) es is h =
    let end : k + 0 ≡ k = omega arith in
    in_front it (of_table k t) (from_tables (suc k) ts)
    (subst (λ l. member (of_table k l) it ≡ true) (sym (same_Some t es is)) (subst (λ n. member (of_table n es) it ≡ true) end h))
table_in it (suc i) k (t ∷ ts) es is h =
    let next : k + suc i ≡ suc k + i = omega arith in
    behind it (of_table k t) (from_tables (suc k) ts) (table_in it i (suc k) ts es is (subst (λ n. member (of_table n es) it ≡ true) next h))

-- the templates
template_in : {B : Type 0} (i n : ℕ) (bodies : List B) (body : B) → slice_get bodies i ≡ Some body → member (from_bodies n bodies) (item.Template (n + i)) ≡ true
template_in i n [] body is = absurd (none-some body is)
template_in zero n (b ∷ bs) body is =
    let end : n + 0 ≡ n = omega arith in
    subst (λ m. member (from_bodies n (b ∷ bs)) (item.Template m) ≡ true) (sym end) (here_first (item.Template n) (from_bodies (suc n) bs))
template_in (suc i) n (b ∷ bs) body is =
    let next : suc n + i ≡ n + suc i = omega arith in
    subst (λ m. member (from_bodies n (b ∷ bs)) (item.Template m) ≡ true) next
    (next_in (item.Template (suc n + i)) (item.Template n) (from_bodies (suc n) bs) (template_in i (suc n) bs body is))

template_of : (c : Content) (n : ℕ) → (body_at c n ≡ [] → ⊥) → member (items_of c) (item.Template n) ≡ true
template_of c n some = by_option (slice_get c.bodies n) refl some
  where
    by_option : (o : Option (List Statement)) → slice_get c.bodies n ≡ o → (unwrap_or o [] ≡ [] → ⊥) → member (items_of c) (item.Template n) ≡ true
    by_option None is some = absurd (some refl)
    by_option (Some body) is some =
        let start : 0 + n ≡ n = omega arith in
        behind (item.Template n) (from_tables 0 c.tables) (from_bodies 0 c.bodies)
        (subst (λ m. member (from_bodies 0 c.bodies) (item.Template m) ≡ true) start (template_in n 0 c.bodies body is))

module _ (c : Content) (k : ℕ) (it : Item) where
  in_items : (es : Table) → slice_get c.tables k ≡ Some es → member (of_table k es) it ≡ true → member (items_of c) it ≡ true
  in_items es is h =
      let end : k ≡ 0 + k = omega arith in
      in_front it (from_tables 0 c.tables) (from_bodies 0 c.bodies)
      (table_in it k 0 c.tables es is (subst (λ n. member (of_table n es) it ≡ true) end h))

  -- an item of a kind whose rows are there
  by_table : (P : Table → Type 0) → (P [] → ⊥) → ((es : Table) → P es → member (of_table k es) it ≡ true) → P (table c k) → member (items_of c) it ≡ true
  by_table P none some h = by_option (slice_get c.tables k) refl h
    where
      by_option : (o : Option Table) → slice_get c.tables k ≡ o → P (unwrap_or o []) → member (items_of c) it ≡ true
      by_option None is h = absurd (none h)
      by_option (Some es) is h = in_items es is (some es h)

in_of_table : (k : ℕ) (es : Table) (it : Item) → member (flat_map (of_entry k) es) it ≡ true → member (of_table k es) it ≡ true
in_of_table k es it h = next_in it (item.List k) (flat_map (of_entry k) es) h

list_in : (k : ℕ) (es : Table) → member (of_table k es) (item.List k) ≡ true
list_in k es = here_first (item.List k) (flat_map (of_entry k) es)

-- whatever differs is an item of one of the two
some_or_none : {A : Type 0} (xs : List A) → (xs ≡ []) ⊎ (xs ≡ [] → ⊥)
some_or_none [] = inl refl
some_or_none (x ∷ xs) = inr (λ is. cc)

module _ (a b : Content) where
  either : (it : Item) → (member (items_of a) it ≡ true) ⊎ (member (items_of b) it ≡ true) → member (items_of a ++ items_of b) it ≡ true
  either it (inl h) = in_front it (items_of a) (items_of b) h
  either it (inr h) = behind it (items_of a) (items_of b) h

  field_of : (c : Content) (k : ℕ) (q : Word) (f : ℕ) → (text c k q f ≡ [] → ⊥) → member (items_of c) (item.Field k q f) ≡ true
  field_of c k q f some =
      by_table c k (item.Field k q f) (λ es. texts_at (option_map (λ e. e.1) (find (λ e. same e.0 q) es)) f ≡ [] → ⊥) (λ h. h refl)
      (λ es h. in_of_table k es (item.Field k q f) (field_in k q f es h)) some

  row_of : (c : Content) (k : ℕ) (q : Word) → is_some (row c k q) ≡ true → member (items_of c) (item.Row k q) ≡ true
  row_of c k q some =
      by_table c k (item.Row k q) (λ es. is_some (option_map (λ e. e.1) (find (λ e. same e.0 q) es)) ≡ true) (λ h. true≢false (sym h))
      (λ es h. in_of_table k es (item.Row k q) (row_in k q es h)) some

  list_of : (c : Content) (k : ℕ) → (keys c k ≡ [] → ⊥) → member (items_of c) (item.List k) ≡ true
  list_of c k some = by_table c k (item.List k) (λ es. map (λ e. e.0) es ≡ [] → ⊥) (λ h. h refl) (λ es h. list_in k es) some

  group_of : (c : Content) (k f : ℕ) (q : Word) → (q ≡ [] → ⊥) → (group c k f q ≡ [] → ⊥) → member (items_of c) (item.Group k f q) ≡ true
  group_of c k f q full some =
      by_table c k (item.Group k f q) (λ es. map (λ e. e.0) (filter (λ e. same (texts_at (Some e.1) f) q) es) ≡ [] → ⊥) (λ h. h refl)
      (λ es h. in_of_table k es (item.Group k f q) (group_in k f q es full h)) some

  key_full : (q : Word) → is_key q ≡ true → q ≡ [] → ⊥
  key_full q h is = true≢false (sym h ∙ ap is_key is)

  of_some : {A : Type 0} (xs ys : List A) (it : Item) → ((xs ≡ [] → ⊥) → member (items_of a) it ≡ true) → ((ys ≡ [] → ⊥) → member (items_of b) it ≡ true) →
      (xs ≡ [] → ys ≡ [] → ⊥) → member (items_of a ++ items_of b) it ≡ true
  of_some xs ys it one two differ = elim (some_or_none xs) [
    | inr some ↦ either it (inl (one some))
    | inl none ↦ elim (some_or_none ys) [
      | inr some ↦ either it (inr (two some))
      | inl also ↦ absurd (differ none also)
    ]
  ]

  field_differs : (k : ℕ) (q : Word) (f : ℕ) → differs a b (item.Field k q f) ≡ true → text a k q f ≡ [] → text b k q f ≡ [] → ⊥
  field_differs k q f h one two = true≢false (sym h ∙ ap (λ w. not (same w (text b k q f))) one ∙ ap (λ w. not (same [] w)) two)

  row_differs : (x y : Bool) → not (cond x y (not y)) ≡ true → (x ≡ true) ⊎ (y ≡ true)
  row_differs true y h = inl refl
  row_differs false true h = inr refl
  row_differs false false h = absurd (true≢false (sym h))

  list_differs : (k : ℕ) → differs a b (item.List k) ≡ true → keys a k ≡ [] → keys b k ≡ [] → ⊥
  list_differs k h one two = true≢false (sym h ∙ ap (λ ks. not (pointwise same ks (keys b k))) one ∙ ap (λ ks. not (pointwise same [] ks)) two)

  group_differs : (k f : ℕ) (q : Word) → differs a b (item.Group k f q) ≡ true → group a k f q ≡ [] → group b k f q ≡ [] → ⊥
  group_differs k f q h one two = true≢false (sym h ∙ ap (λ ks. not (pointwise same ks (group b k f q))) one ∙ ap (λ ks. not (pointwise same [] ks)) two)

  body_differs : (n : ℕ) → differs a b (item.Template n) ≡ true → body_at a n ≡ [] → body_at b n ≡ [] → ⊥
  body_differs n h one two = true≢false (sym h ∙ ap (λ body. not (same_body body (body_at b n))) one ∙ ap (λ body. not (same_body [] body)) two)

  complete : (it : Item) → is_item it ≡ true → differs a b it ≡ true → member (items_of a ++ items_of b) it ≡ true
  complete (item.Field k q f) fine h = of_some (text a k q f) (text b k q f) (item.Field k q f) (field_of a k q f) (field_of b k q f) (field_differs k q f h)
  complete (item.Row k q) fine h = elim (row_differs (is_some (row a k q)) (is_some (row b k q)) h) [
    | inl there ↦ either (item.Row k q) (inl (row_of a k q there))
    | inr there ↦ either (item.Row k q) (inr (row_of b k q there))
  ]
  complete (item.List k) fine h = of_some (keys a k) (keys b k) (item.List k) (list_of a k) (list_of b k) (list_differs k h)
  complete (item.Group k f q) fine h =
      of_some (group a k f q) (group b k f q) (item.Group k f q) (group_of a k f q (key_full q fine)) (group_of b k f q (key_full q fine)) (group_differs k f q h)
  complete (item.Template n) fine h = of_some (body_at a n) (body_at b n) (item.Template n) (template_of a n) (template_of b n) (body_differs n h)

  -- the list
  passes : Item → Bool
  passes it = is_item it && differs a b it

  abbrev changes : List Item
  changes = in_order item_cmp (filter passes (items_of a ++ items_of b))

-- lists and tests
member_filter : (f : Item → Bool) (items : List Item) (it : Item) → member items it ≡ true → f it ≡ true → member (filter f items) it ≡ true
member_filter f [] it h k = absurd (true≢false (sym h))
member_filter f (x ∷ xs) it h k = by_test (f x) refl (or_cases (eq_by_cmp item_cmp it x) (member xs it) h) (λ inside. member_filter f xs it inside k)
  where
    by_test : (b : Bool) → f x ≡ b → (eq_by_cmp item_cmp it x ≡ true) ⊎ (member xs it ≡ true) → (member xs it ≡ true → member (filter f xs) it ≡ true) → member (cond b (x ∷ filter f xs) (filter f xs)) it ≡ true
    by_test true is (inl here) more = or_left (eq_by_cmp item_cmp it x) (member (filter f xs) it) here
    by_test true is (inr inside) more = or_right (eq_by_cmp item_cmp it x) (member (filter f xs) it) (more inside)
    by_test false is (inl here) more = absurd (true≢false (sym k ∙ ap f (item_tied it x ((Equal-is (item_cmp it x)).0 here)) ∙ is))
    by_test false is (inr inside) more = more inside

filter_all : (f : Item → Bool) (items : List Item) → AllByRecursion (λ it. f it ≡ true) (filter f items)
filter_all f [] = tt
filter_all f (x ∷ xs) = by_test (f x) refl (filter_all f xs)
  where
    by_test : (b : Bool) → f x ≡ b → AllByRecursion (λ it. f it ≡ true) (filter f xs) → AllByRecursion (λ it. f it ≡ true) (cond b (x ∷ filter f xs) (filter f xs))
    by_test true is rest = (is, rest)
    by_test false is rest = rest

pub contained : (items : List Item) (it : Item) → member items it ≡ true → Contains items it
contained [] it h = absurd (true≢false (sym h))
contained (x ∷ xs) it h = elim (or_cases (eq_by_cmp item_cmp it x) (member xs it) h) [
  | inl here ↦ (0, omega arith, sym (item_tied it x ((Equal-is (item_cmp it x)).0 here)))
  | inr inside ↦ let rest : Contains xs it = contained xs it inside in (suc rest.0, omega (arith, rest.1), rest.2)
]

pub contains_test : (f : Item → Bool) (items : List Item) (it : Item) → AllByRecursion (λ it. f it ≡ true) items → Contains items it → f it ≡ true
contains_test f [] it all (k, below, is) = absurd (omega (arith, below))
contains_test f (x ∷ xs) it all (zero, below, is) = ap f (sym is) ∙ all.0
contains_test f (x ∷ xs) it all (suc k, below, is) = contains_test f xs it all.1 (k, omega (arith, below), is)

rises_of : (items : List Item) → Rises item_cmp item_total item_tied items → items_rise items ≡ true
rises_of [] h = refl
rises_of (x ∷ []) h = refl
rises_of (x ∷ y ∷ ys) h = and_from (is_lt (item_cmp x y)) (items_rise (y ∷ ys)) (ap is_lt h.0.0) (rises_of (y ∷ ys) h.1)

pub changes_exist : ChangesExist
unfolding passes
changes_exist a b = (
  changes a b,
  record {
    rising = rises_of (changes a b) (rises_in_order item_cmp item_total item_tied (filter (passes a b) (items_of a ++ items_of b)));
    all = λ it fine h. contained (changes a b) it
        (any_in_order item_cmp (eq_by_cmp item_cmp it) (λ x y tie. ap (eq_by_cmp item_cmp it) (item_tied x y tie)) (filter (passes a b) (items_of a ++ items_of b))
        ∙ member_filter (passes a b) (items_of a ++ items_of b) it (complete a b it fine h) (and_from (is_item it) (differs a b it) fine h));
    only = λ it inside. (and_parts (is_item it) (differs a b it)
        (contains_test (passes a b) (changes a b) it (all_in_order item_cmp (λ it. passes a b it ≡ true) (filter (passes a b) (items_of a ++ items_of b)) (filter_all (passes a b) (items_of a ++ items_of b))) inside)).1;
  },
)

-- an object is touched where it reads a changed item
any_contains : (f : Item → Bool) (items : List Item) → list_any f items ≡ true → (it : Item) × Contains items it × (f it ≡ true)
any_contains f [] h = absurd (true≢false (sym h))
any_contains f (x ∷ xs) h = elim (or_cases (f x) (list_any f xs) h) [
  | inl here ↦ (x, (0, omega arith, refl), here)
  | inr inside ↦ let rest : (it : Item) × Contains xs it × (f it ≡ true) = any_contains f xs inside in (rest.0, (suc rest.1.0, omega (arith, rest.1.1), rest.1.2), rest.2)
]

contains_any : (f : Item → Bool) (items : List Item) (it : Item) → Contains items it → f it ≡ true → list_any f items ≡ true
contains_any f [] it (k, below, is) h = absurd (omega (arith, below))
contains_any f (x ∷ xs) it (zero, below, is) h = or_left (f x) (list_any f xs) (ap f is ∙ h)
contains_any f (x ∷ xs) it (suc k, below, is) h = or_right (f x) (list_any f xs) (contains_any f xs it (k, omega (arith, below), is) h)

pub touched_from : (a b : Content) (items : List Item) (o : Obj) → AreChanged a b items → AllByRecursion (λ it. IsTrue (is_item it)) (reads a o) →
    (IsTrue (touched a b o) ↔ ((it : Item) × Contains items it × Contains (reads a o) it))
touched_from a b items o are fine = (
  λ h.
      let one : (it : Item) × Contains (reads a o) it × (differs a b it ≡ true) = any_contains (differs a b) (reads a o) h in
      (one.0, are.all one.0 (contains_test is_item (reads a o) one.0 fine one.1) one.2, one.1),
  λ (it, changed, read). contains_any (differs a b) (reads a o) it read (are.only it changed),
)
