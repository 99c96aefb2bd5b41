-- Expansions.
use Rattle.std.proofs.Common.{◌≡◌, Bool, true, false, not, cond, ◌||◌, List, [], ◌∷◌, map, refl, sym, ap, ◌∙◌}
use Rattle.std.specs.Prelude.{Some, None}
use Rattle.std.specs.List.{list_any}
use Rattle.std.proofs.lemmas.Option.{none-some}
use Rattle.dup_names.specs.declared.object.Item.{Item}
use Rattle.dup_template.specs.declared.value.Value.{Value}
use Rattle.dup_model.specs.Content.{Content, value}
use Rattle.dup_model.specs.Skeletons.{reads}
use Rattle.dup_model.specs.Touched.{same_value, differs}
use Rattle.dup_model.specs.Expansions.{notes, stale}
use Rattle.dup_model.specs.Expansions.{Holds, ExpansionsAreGood, GoodIsRight}
use Rattle.dup_model.specs.Incremental.{IsSameAlone}
use Rattle.dup_model.proofs.Incremental.{value_same, untouched_same}
use Rattle.dup_model.proofs.Finds.{value_itself}

items_of : (c : Content) (its : List Item) → map (λ n. n.0) (map (λ it. let n : Item × Value = (it, value c it) in n) its) ≡ its
items_of c [] = refl
items_of c (it ∷ its) = ap (λ l. it ∷ l) (items_of c its)

none_differs : (c d : Content) (its : List Item) → Holds d (map (λ it. (it, value c it)) its) → list_any (differs c d) its ≡ false
none_differs c d [] h = refl
none_differs c d (it ∷ its) h =
    rw (none_differs c d its h.1) (ap (λ v. not (same_value (value c it) v) || false) h.0 ∙ ap (λ b. not b || false) (value_itself (value c it)))

pub expansions_good : ExpansionsAreGood
expansions_good c o = record {
  items = λ d is h. items_of c (reads c o) ∙ (same d is h).reads;
  gives = λ d is h. sym (same d is h).skeleton;
}
  where
    same : (d : Content) → d.frame ≡ c.frame → Holds d (notes c o) → IsSameAlone c d o
    same d is h = untouched_same c d o (sym is) (none_differs c d (reads c o) h)

holds : (c : Content) (ns : List (Item × Value)) → stale c ns ≡ None → Holds c ns
holds c [] h = tt
holds c (n ∷ ns) h = by_test (same_value (value c n.0) n.1) refl (λ later. holds c ns later) h
  where
    by_test : (b : Bool) → same_value (value c n.0) n.1 ≡ b → (stale c ns ≡ None → Holds c ns) → cond (not b) (Some n) (stale c ns) ≡ None → Holds c (n ∷ ns)
    by_test true is later h = (value_same (value c n.0) n.1 is, later h)
    by_test false is later h = absurd (none-some n (sym h))

pub good_right : GoodIsRight
good_right e c good is h = (good.items c is (holds c e.notes h), sym (good.gives c is (holds c e.notes h)))
