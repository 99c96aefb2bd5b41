-- The pages of two contents with the same keys.
use Rattle.std.proofs.Common.{◌≡◌, ℕ, Bool, true, false, not, inl, inr, List, [], ◌∷◌, ◌++◌, map, Option, Some, None, refl, sym, ap, ◌∙◌}
use Rattle.std.specs.List.{Contains, flat_map, list_any}
use Rattle.std.proofs.lemmas.Bool.{true≢false, cases_Bool, eq-eqb, or_left}
use Rattle.dup_model.proofs.Reached.{or_right}
use Rattle.std.proofs.lemmas.List.Folds.{list_any_at}
use Rattle.std.proofs.lemmas.Slice.Eq.{bytes_eq-Decides, slice_eq-Decides}
use Rattle.std.specs.Cmp.Lexicographic.{pointwise}
use Rattle.dup_names.specs.Order.{text_cmp}
use Rattle.dup_names.specs.Words.{Path, Word, in_order, same}
use Rattle.dup_names.specs.declared.object.Item.{Item}
use Rattle.dup_names.specs.declared.object.Item.TheVariants as item
use Rattle.dup_names.specs.declared.object.Obj.{Obj}
use Rattle.dup_template.specs.Frame.{Frame}
use Rattle.dup_template.specs.declared.site.PageRule.{PageRule}
use Rattle.dup_template.specs.declared.site.PageRule.TheVariants.{Fixed, Family}
use Rattle.dup_model.specs.Content.{Content, keys}
use Rattle.dup_model.specs.Names.{kind_named, object_of, template_at}
use Rattle.dup_model.specs.Pages.{keys_of, pages, pages_of}
use Rattle.dup_model.specs.Touched.{AreChanged, differs}
use Rattle.dup_build.specs.Paged.{is_family_of, is_kind, lists_pages}

tested : (f : Item → Bool) (items : List Item) (it : Item) → Contains items it → f it ≡ true → list_any f items ≡ true
tested f items it at h = list_any_at f items at.0 it at.1 (ap f at.2 ∙ h)

not_false : (b : Bool) → not b ≡ false → b ≡ true
not_false true h = refl
not_false false h = absurd (true≢false h)

-- the content's kind of a template is one kind
is_own : (kind : ℕ) → is_kind kind (Some kind) ≡ true
is_own kind = eq-eqb kind kind refl

pub none_lists : (frame : Frame) (items : List Item) → not (list_any (lists_pages frame) items) ≡ true → list_any (lists_pages frame) items ≡ false
none_lists frame items h = elim (cases_Bool (list_any (lists_pages frame) items)) [
  | inr none ↦ none
  | inl some ↦ absurd (true≢false (sym h ∙ ap not some))
]

module _ (a b : Content) (frames : a.frame ≡ b.frame) (items : List Item) (changed : AreChanged a b items) (none : list_any (lists_pages a.frame) items ≡ false) where
  list_stays : (kind : ℕ) → list_any (is_family_of a.frame kind) a.frame.pages ≡ true → differs a b (item.List kind) ≡ false
  list_stays kind listed = elim (cases_Bool (differs a b (item.List kind))) [
    | inr stays ↦ stays
    | inl differ ↦ absurd (true≢false (sym (tested (lists_pages a.frame) items (item.List kind) (changed.all (item.List kind) refl differ) listed) ∙ none))
  ]

  keys_stay : (kind : ℕ) → list_any (is_family_of a.frame kind) a.frame.pages ≡ true → keys a kind ≡ keys b kind
  keys_stay kind listed = (slice_eq-Decides bytes_eq-Decides (keys a kind) (keys b kind) (pointwise same (keys a kind) (keys b kind)) refl).0 (not_false (pointwise same (keys a kind) (keys b kind)) (list_stays kind listed))

  -- a test that a declaration passes, one of these does
  abbrev IsOne : PageRule → Type 0
  IsOne rule = (f : PageRule → Bool) → f rule ≡ true → list_any f a.frame.pages ≡ true

  family_stays : (prefix template : Word) → IsOne (Family prefix template) → (kind : Option ℕ) → kind_named a.frame template ≡ kind → keys_of a kind ≡ keys_of b kind
  family_stays prefix template one None is = refl
  family_stays prefix template one (Some kind) is = keys_stay kind (one (is_family_of a.frame kind) (ap (is_kind kind) is ∙ is_own kind))

  declared_stay : (rule : PageRule) → IsOne rule → pages_of a rule ≡ pages_of b rule
  declared_stay (Fixed path template) one = ap (λ (f : Frame). pages_at f) frames
    where
      pages_at : Frame → List (Path × Obj)
      pages_at f = (path, object_of f (template_at f template) None) ∷ []
  declared_stay (Family prefix template) one =
      (λ i. pages_by (frames i) (family_stays prefix template one (kind_named a.frame template) refl i)) ∙ ap (λ (f : Frame). pages_by b.frame (keys_of b (kind_named f template))) frames
    where
      pages_by : Frame → List Word → List (Path × Obj)
      pages_by f ks = map (λ key. (let p : Path × Obj = (prefix ++ 47 ∷ key, object_of f (template_at f template) (Some key)) in p)) ks

  all_stay : (rules : List PageRule) → ((f : PageRule → Bool) → list_any f rules ≡ true → list_any f a.frame.pages ≡ true) → flat_map (pages_of a) rules ≡ flat_map (pages_of b) rules
  all_stay [] inside = refl
  all_stay (r ∷ rules) inside =
      let here : pages_of a r ≡ pages_of b r = declared_stay r (λ f h. inside f (or_left (f r) (list_any f rules) h)) in
      let rest : flat_map (pages_of a) rules ≡ flat_map (pages_of b) rules = all_stay rules (λ f h. inside f (or_right (f r) (list_any f rules) h)) in
      λ i. here i ++ rest i

  pub pages_stay : pages a ≡ pages b
  pages_stay =
      ap (in_order (λ (p q : Path × Obj). text_cmp p.0 q.0)) (all_stay a.frame.pages (λ f h. h))
      ∙ ap (λ (f : Frame). in_order (λ (p q : Path × Obj). text_cmp p.0 q.0) (flat_map (pages_of b) f.pages)) frames
