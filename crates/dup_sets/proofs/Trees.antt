-- What trees of objects say of their keys, in the order of objects.
use Rattle.std.proofs.Common.{◌≡◌, Bool, true, false, not, cond, ◌&&◌, ◌||◌, inl, inr, List, [], ◌∷◌, Some, refl, sym, ap, subst, ◌∙◌, rules}
use Rattle.std.specs.Bool.{Decides}
use Rattle.std.proofs.lemmas.Slice.Eq.{bytes_eq-Decides}
use Rattle.std.specs.List.{filter, find, list_any}
use Rattle.std.specs.List.Sorted.{IsStrictlySortedBy}
use Rattle.std.specs.Set.{remove_key}
use Rattle.std.specs.Ordering.{is_eq, is_lt, match_ordering}
use Rattle.std.specs.BTreeMap.{is_at}
use Rattle.std.specs.BTreeMap.Range.{range_contains}
use Rattle.std.specs.BTreeSet.{insert_key}
use Rattle.std.specs.declared.ops.Bound.TheVariants.{Excluded, Unbounded}
use Rattle.std.specs.declared.cmp.Ordering.{Ordering}
use Rattle.std.specs.declared.cmp.Ordering.TheVariants.{Less, Equal, Greater}
use Rattle.std.proofs.lemmas.Bool.{true≢false, cases_Bool, or_left}
use Rattle.dup_names.specs.Order.{obj_cmp}
use Rattle.dup_names.specs.Words.{in_order, put, put_at}
use Rattle.dup_names.specs.declared.object.Obj.{Obj}
use Rattle.dup_names.specs.contracts.object.ObjOrd.TheImpl.{ghosts as order}
use Rattle.dup_names.specs.contracts.object.ObjPartialEq.TheImpl.{ghosts as equal}
use Rattle.dup_names.specs.Objects.{same_obj, is_in}
use Rattle.dup_model.specs.Touched.{without}
use Rattle.dup_machine.specs.Works.{first_of}
use Rattle.dup_names.proofs.ObjectOrder.{obj_same}
use Rattle.dup_model.proofs.Reached.{or_right}
use Rattle.dup_names.proofs.ObjectOrder.{obj_itself}
use Rattle.dup_model.proofs.Objects.{IsOnce, once_in_order}
use Rattle.dup_machine.proofs.InOrder.{IsOrdered, sorted_stays, ordered_put, tied_obj}

cmp_at : (a b : Obj) → order.cmp a b ≡ obj_cmp a b
cmp_at a b = search rules

pub cmp_is : order.cmp ≡ obj_cmp
cmp_is i a b = cmp_at a b i

pub same_decides : (a b : Obj) → Decides (equal.eq a b) (a ≡ b)
same_decides a b = search (rules, bytes_eq-Decides)

pub at_is : (o x : Obj) → is_at (order.cmp o) x ≡ same_obj o x
at_is o x = ap is_eq (cmp_at o x) ∙ tied_obj o x

pub tree_ordered : (os : List Obj) → IsStrictlySortedBy order.cmp os → IsOrdered os
tree_ordered os h = sorted_stays os (subst (λ by. IsStrictlySortedBy by os) (λ i a b. cmp_at a b i) h)

pub contains_is : (o : Obj) (os : List Obj) → list_any (is_at (order.cmp o)) os ≡ is_in os o
contains_is o [] = refl
contains_is o (x ∷ xs) = λ i. at_is o x i || contains_is o xs i

-- one is put in

match_is : (r : Ordering) (x y : Obj) (ys rest : List Obj) → match_ordering r (x ∷ y ∷ ys) (y ∷ ys) (y ∷ rest) ≡ put_at r x y ys rest
match_is Less x y ys rest = refl
match_is Equal x y ys rest = refl
match_is Greater x y ys rest = refl

insert_puts : (o : Obj) (os : List Obj) → insert_key order.cmp os o ≡ put obj_cmp o os
insert_puts o [] = refl
insert_puts o (x ∷ xs) =
    (λ i. match_ordering (cmp_at o x i) (o ∷ x ∷ xs) (x ∷ xs) (x ∷ insert_puts o xs i)) ∙ match_is (obj_cmp o x) o x xs (put obj_cmp o xs)

pub insert_is : (o : Obj) (os : List Obj) → IsOrdered os → insert_key order.cmp os o ≡ in_order obj_cmp (o ∷ os)
insert_is o os h = insert_puts o os ∙ ordered_put o os h

-- one is taken out

pub all_kept : (test : Obj → Bool) (os : List Obj) → ((x : Obj) → is_in os x ≡ true → test x ≡ false) → without test os ≡ os
all_kept test [] none = refl
all_kept test (o ∷ os) none =
    ap (λ b. cond (not b) (o ∷ without test os) (without test os)) (none o (or_left (same_obj o o) (is_in os o) (obj_itself o)))
    ∙ ap (λ l. o ∷ l) (all_kept test os (λ x h. none x (or_right (same_obj x o) (is_in os x) h)))

remove_once : (o : Obj) (os : List Obj) → IsOnce os → remove_key (is_at (order.cmp o)) os ≡ without (same_obj o) os
remove_once o [] h = refl
remove_once o (x ∷ xs) h =
    ap (λ b. cond b xs (x ∷ remove_key (is_at (order.cmp o)) xs)) (at_is o x)
    ∙ by_test (same_obj o x) refl (remove_once o xs h.1)
  where
    by_test : (b : Bool) → same_obj o x ≡ b → remove_key (is_at (order.cmp o)) xs ≡ without (same_obj o) xs →
        cond b xs (x ∷ remove_key (is_at (order.cmp o)) xs) ≡ cond (not b) (x ∷ without (same_obj o) xs) (without (same_obj o) xs)
    by_test true is more = sym (all_kept (same_obj o) xs (λ y inside. elim (cases_Bool (same_obj o y)) [
      | inr apart ↦ apart
      | inl tie ↦ absurd (true≢false (sym (ap (is_in xs) (sym (obj_same o x is) ∙ obj_same o y tie) ∙ inside) ∙ h.0))
    ]))
    by_test false is more = ap (λ l. x ∷ l) more

pub once_ordered : (os : List Obj) → IsOrdered os → IsOnce os
once_ordered os h = subst IsOnce h (once_in_order os)

pub remove_is : (o : Obj) (os : List Obj) → IsOrdered os → remove_key (is_at (order.cmp o)) os ≡ without (same_obj o) os
remove_is o os h = remove_once o os (once_ordered os h)

-- the first that passes

pub find_first : (f g : Obj → Bool) → ((x : Obj) → f x ≡ g x) → (os : List Obj) → find g os ≡ first_of (filter f os)
find_first f g same [] = refl
find_first f g same (x ∷ xs) = ap (λ b. cond b (Some x) (find g xs)) (sym (same x)) ∙ by_test (f x) (find_first f g same xs)
  where
    by_test : (b : Bool) → find g xs ≡ first_of (filter f xs) → cond b (Some x) (find g xs) ≡ first_of (cond b (x ∷ filter f xs) (filter f xs))
    by_test true more = refl
    by_test false more = more

-- the part of a tree behind an object begins with the next one
pub next_by : (last : Obj) (os part : List Obj) → part ≡ filter (range_contains order.cmp (Excluded last) Unbounded) os → find (λ o. is_lt (obj_cmp last o)) os ≡ first_of part
next_by last os part is =
    find_first (range_contains order.cmp (Excluded last) Unbounded) (λ o. is_lt (obj_cmp last o))
    (λ o. and_true (is_lt (order.cmp last o)) ∙ ap is_lt (cmp_at last o)) os
    ∙ ap first_of (sym is)
  where
    and_true : (b : Bool) → (b && true) ≡ b
    and_true true = refl
    and_true false = refl
