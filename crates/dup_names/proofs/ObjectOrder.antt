-- Sameness and order of objects.
use Rattle.std.proofs.Common.{◌≡◌, ℕ, Bool, true, ◌==◌, List, Option, Some, None, refl, sym, ap, subst, rules}
use Rattle.std.specs.Prelude.{bytes_eq}
use Rattle.std.specs.Option.{option_cmp, option_eq}
use Rattle.std.specs.Ordering.{nat_cmp, ordering_then}
use Rattle.std.specs.declared.cmp.Ordering.{Ordering}
use Rattle.std.specs.declared.cmp.Ordering.TheVariants.{Less, Equal, Greater}
use Rattle.std.specs.FinMap as fin
use Rattle.std.specs.Cmp.{IsTotalOrder, nat_cmp_total, nat_eq_equiv}
use Rattle.std.specs.Cmp.Lexicographic.{nat_list_cmp_total, nat_list_eq_equiv, options_equiv, options_total}
use Rattle.std.proofs.lemmas.Bool.{true≢false, and_from, and_parts}
use Rattle.std.proofs.lemmas.Bool.Decides.{Decides-eqb}
use Rattle.std.proofs.lemmas.Cmp.{then_total, on_total}
use Rattle.std.proofs.lemmas.Slice.Eq.{bytes_eq-Decides}
use Rattle.dup_names.specs.Objects.{same_obj}
use Rattle.dup_names.specs.Order.{text_cmp, key_cmp, obj_cmp}
use Rattle.dup_names.specs.Words.{Word}
use Rattle.dup_names.specs.declared.object.Obj.{Obj}
use Rattle.dup_names.specs.contracts.object.ObjOrd.TheImpl.{ghosts as objects}

-- two tied objects are one

pub then_equal : (a b : Ordering) → ordering_then a b ≡ Equal → (a ≡ Equal) × (b ≡ Equal)
then_equal Less b is = cc
then_equal Equal b is = (refl, is)
then_equal Greater b is = cc

key_tied : (a b : Option Word) → key_cmp a b ≡ Equal → a ≡ b
key_tied None None is = refl
key_tied None (Some b) is = cc
key_tied (Some a) None is = cc
key_tied (Some a) (Some b) is = ap Some (fin.slice_cmp-IsAntisymmetric fin.nat_cmp-IsAntisymmetric a b is)

pub obj_tied : (a b : Obj) → obj_cmp a b ≡ Equal → a ≡ b
obj_tied a b is =
    let both : (nat_cmp a.template b.template ≡ Equal) × (key_cmp a.key b.key ≡ Equal) = then_equal _ _ is in
    λ i. record { template = fin.nat_cmp-IsAntisymmetric a.template b.template both.0 i; key = key_tied a.key b.key both.1 i }

pub obj_itself : (o : Obj) → same_obj o o ≡ true
obj_itself o = and_from _ _ (nat_eq_equiv.refl o.template) ((options_equiv nat_list_eq_equiv).refl o.key)

-- the same objects are one
pub option_same : {A : Type 0} (E : A → A → Bool) → ((x y : A) → E x y ≡ true → x ≡ y) → (a b : Option A) → option_eq E a b ≡ true → a ≡ b
option_same E same None None is = refl
option_same E same None (Some y) is = absurd (true≢false (sym is))
option_same E same (Some x) None is = absurd (true≢false (sym is))
option_same E same (Some x) (Some y) is = ap Some (same x y is)

pub bytes_same : (a b : List ℕ) → bytes_eq a b ≡ true → a ≡ b
bytes_same a b is = (bytes_eq-Decides a b).0 is

pub obj_same : (a b : Obj) → same_obj a b ≡ true → a ≡ b
obj_same a b is =
    let both : (a.template == b.template) ≡ true × (option_eq bytes_eq a.key b.key ≡ true) = and_parts _ _ is in
    λ i. record { template = (Decides-eqb a.template b.template).0 both.0 i; key = option_same bytes_eq bytes_same a.key b.key both.1 i }

-- the order is total, and is the derived one
key_is : (a b : Option Word) → option_cmp text_cmp a b ≡ key_cmp a b
key_is None None = refl
key_is None (Some b) = refl
key_is (Some a) None = refl
key_is (Some a) (Some b) = refl

pub obj_total : IsTotalOrder obj_cmp
obj_total = subst IsTotalOrder (λ i a b. ordering_then (nat_cmp a.template b.template) (key_is a.key b.key i))
    (then_total (on_total (λ o. o.template) nat_cmp_total) (on_total (λ o. o.key) (options_total nat_list_cmp_total)))

pub obj_cmp_at : (a b : Obj) → objects.cmp a b ≡ obj_cmp a b
obj_cmp_at a b = search rules

pub obj_cmp_is : objects.cmp ≡ obj_cmp
obj_cmp_is i a b = obj_cmp_at a b i
