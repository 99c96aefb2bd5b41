-- The order of items.
use Rattle.std.proofs.Common.{◌≡◌, ℕ, [], refl, ap, subst, rules}
use Rattle.std.specs.Ordering.{nat_cmp, ordering_then}
use Rattle.std.specs.declared.cmp.Ordering.{Ordering}
use Rattle.std.specs.declared.cmp.Ordering.TheVariants.{Less, Equal, Greater}
use Rattle.std.specs.FinMap as fin
use Rattle.std.specs.Cmp.{IsTotalOrder, nat_cmp_total}
use Rattle.std.specs.Cmp.Lexicographic.{nat_list_cmp_total}
use Rattle.std.proofs.lemmas.Cmp.{then_total, on_total}
use Rattle.dup_names.specs.Order.{text_cmp, item_cmp}
use Rattle.dup_names.specs.Words.{Word}
use Rattle.dup_names.specs.declared.object.Item.{Item}
use Rattle.dup_names.specs.declared.object.Item.TheVariants as item
use Rattle.dup_names.specs.contracts.object.ItemOrd.TheImpl.{ghosts as items}
use Rattle.dup_names.proofs.ObjectOrder.{then_equal}

abbrev form : Item → ℕ
form (item.Field k q f) = 0
form (item.Row k q) = 1
form (item.List k) = 2
form (item.Group k f q) = 3
form (item.Template t) = 4

abbrev kind_part : Item → ℕ
kind_part (item.Field k q f) = k
kind_part (item.Row k q) = k
kind_part (item.List k) = k
kind_part (item.Group k f q) = k
kind_part (item.Template t) = t

abbrev first_part : Item → ℕ
first_part (item.Group k f q) = f
first_part _ = 0

abbrev key_part : Item → Word
key_part (item.Field k q f) = q
key_part (item.Row k q) = q
key_part (item.List k) = []
key_part (item.Group k f q) = q
key_part (item.Template t) = []

abbrev last_part : Item → ℕ
last_part (item.Field k q f) = f
last_part _ = 0

abbrev by_parts : Item → Item → Ordering
by_parts a b =
    ordering_then (nat_cmp (form a) (form b))
    (ordering_then (nat_cmp (kind_part a) (kind_part b))
    (ordering_then (nat_cmp (first_part a) (first_part b))
    (ordering_then (text_cmp (key_part a) (key_part b)) (nat_cmp (last_part a) (last_part b)))))

then_end : (o : Ordering) → ordering_then o Equal ≡ o
then_end Less = refl
then_end Equal = refl
then_end Greater = refl

item_by_parts : (a b : Item) → by_parts a b ≡ item_cmp a b
item_by_parts (item.Field k q f) (item.Field l r g) = refl
item_by_parts (item.Field k q f) (item.Row l r) = refl
item_by_parts (item.Field k q f) (item.List l) = refl
item_by_parts (item.Field k q f) (item.Group l g r) = refl
item_by_parts (item.Field k q f) (item.Template u) = refl
item_by_parts (item.Row k q) (item.Field l r g) = refl
item_by_parts (item.Row k q) (item.Row l r) = ap (ordering_then (nat_cmp k l)) (then_end (text_cmp q r))
item_by_parts (item.Row k q) (item.List l) = refl
item_by_parts (item.Row k q) (item.Group l g r) = refl
item_by_parts (item.Row k q) (item.Template u) = refl
item_by_parts (item.List k) (item.Field l r g) = refl
item_by_parts (item.List k) (item.Row l r) = refl
item_by_parts (item.List k) (item.List l) = then_end (nat_cmp k l)
item_by_parts (item.List k) (item.Group l g r) = refl
item_by_parts (item.List k) (item.Template u) = refl
item_by_parts (item.Group k f q) (item.Field l r g) = refl
item_by_parts (item.Group k f q) (item.Row l r) = refl
item_by_parts (item.Group k f q) (item.List l) = refl
item_by_parts (item.Group k f q) (item.Group l g r) = ap (λ o. ordering_then (nat_cmp k l) (ordering_then (nat_cmp f g) o)) (then_end (text_cmp q r))
item_by_parts (item.Group k f q) (item.Template u) = refl
item_by_parts (item.Template t) (item.Field l r g) = refl
item_by_parts (item.Template t) (item.Row l r) = refl
item_by_parts (item.Template t) (item.List l) = refl
item_by_parts (item.Template t) (item.Group l g r) = refl
item_by_parts (item.Template t) (item.Template u) = then_end (nat_cmp t u)

pub item_total : IsTotalOrder item_cmp
item_total = subst IsTotalOrder (λ i a b. item_by_parts a b i)
    (then_total (on_total form nat_cmp_total)
    (then_total (on_total kind_part nat_cmp_total)
    (then_total (on_total first_part nat_cmp_total)
    (then_total (on_total key_part nat_list_cmp_total) (on_total last_part nat_cmp_total)))))

-- tied items are one
word_tied : (a b : Word) → text_cmp a b ≡ Equal → a ≡ b
word_tied a b is = fin.slice_cmp-IsAntisymmetric fin.nat_cmp-IsAntisymmetric a b is

pub item_tied : (x y : Item) → item_cmp x y ≡ Equal → x ≡ y
item_tied (item.Field k q f) (item.Field l r g) is =
    let one : (nat_cmp k l ≡ Equal) × (ordering_then (text_cmp q r) (nat_cmp f g) ≡ Equal) = then_equal _ _ is in
    let two : (text_cmp q r ≡ Equal) × (nat_cmp f g ≡ Equal) = then_equal _ _ one.1 in
    λ i. item.Field (fin.nat_cmp-IsAntisymmetric k l one.0 i) (word_tied q r two.0 i) (fin.nat_cmp-IsAntisymmetric f g two.1 i)
item_tied (item.Field k q f) (item.Row l r) is = cc
item_tied (item.Field k q f) (item.List l) is = cc
item_tied (item.Field k q f) (item.Group l g r) is = cc
item_tied (item.Field k q f) (item.Template u) is = cc
item_tied (item.Row k q) (item.Field l r g) is = cc
item_tied (item.Row k q) (item.Row l r) is =
    let one : (nat_cmp k l ≡ Equal) × (text_cmp q r ≡ Equal) = then_equal _ _ is in
    λ i. item.Row (fin.nat_cmp-IsAntisymmetric k l one.0 i) (word_tied q r one.1 i)
item_tied (item.Row k q) (item.List l) is = cc
item_tied (item.Row k q) (item.Group l g r) is = cc
item_tied (item.Row k q) (item.Template u) is = cc
item_tied (item.List k) (item.Field l r g) is = cc
item_tied (item.List k) (item.Row l r) is = cc
item_tied (item.List k) (item.List l) is = ap item.List (fin.nat_cmp-IsAntisymmetric k l is)
item_tied (item.List k) (item.Group l g r) is = cc
item_tied (item.List k) (item.Template u) is = cc
item_tied (item.Group k f q) (item.Field l r g) is = cc
item_tied (item.Group k f q) (item.Row l r) is = cc
item_tied (item.Group k f q) (item.List l) is = cc
item_tied (item.Group k f q) (item.Group l g r) is =
    let one : (nat_cmp k l ≡ Equal) × (ordering_then (nat_cmp f g) (text_cmp q r) ≡ Equal) = then_equal _ _ is in
    let two : (nat_cmp f g ≡ Equal) × (text_cmp q r ≡ Equal) = then_equal _ _ one.1 in
    λ i. item.Group (fin.nat_cmp-IsAntisymmetric k l one.0 i) (fin.nat_cmp-IsAntisymmetric f g two.0 i) (word_tied q r two.1 i)
item_tied (item.Group k f q) (item.Template u) is = cc
item_tied (item.Template t) (item.Field l r g) is = cc
item_tied (item.Template t) (item.Row l r) is = cc
item_tied (item.Template t) (item.List l) is = cc
item_tied (item.Template t) (item.Group l g r) is = cc
item_tied (item.Template t) (item.Template u) is = ap item.Template (fin.nat_cmp-IsAntisymmetric t u is)

-- the derived order of items
pub item_cmp_at : (a b : Item) → items.cmp a b ≡ item_cmp a b
item_cmp_at a b = search rules

pub item_cmp_is : items.cmp ≡ item_cmp
item_cmp_is i a b = item_cmp_at a b i
