-- Uses that are put one after the other are in order.
use Rattle.std.proofs.Common.{◌≡◌, List, [], ◌∷◌, ◌++◌, refl, sym, ap, ◌∙◌, append_assoc, append-nil, rules}
use Rattle.std.specs.List.{fold}
use Rattle.std.specs.Ordering.{ordering_reverse}
use Rattle.dup_names.proofs.ObjectOrder.{obj_total, obj_tied}
use Rattle.std.specs.declared.cmp.Ordering.{Ordering}
use Rattle.std.specs.declared.cmp.Ordering.TheVariants.{Less, Equal, Greater}
use Rattle.dup_names.specs.Order.{obj_cmp}
use Rattle.dup_names.specs.Words.{Word, put, in_order}
use Rattle.dup_model.specs.JoinedLooks.{use_cmp}
use Rattle.dup_names.specs.declared.object.Obj.{Obj}
use Rattle.dup_names.specs.contracts.object.ObjOrd.TheImpl.{ghosts as order}
use Rattle.std.specs.BTreeMap.{insert_entry}
use Rattle.dup_join.specs.Uses.{with_uses}

abbrev pub Use : Type 0
Use = Obj × Word

abbrev with_use : List Use → Use → List Use
with_use uses one = insert_entry obj_cmp uses one.0 one.1

reversed : (p q : Use) (r : Ordering) → use_cmp p q ≡ r → use_cmp q p ≡ ordering_reverse r
reversed p q r is = obj_total.antisymm q.0 p.0 ∙ ap ordering_reverse is

tied : (p q : Use) → use_cmp p q ≡ Equal → p.0 ≡ q.0
tied p q is = obj_tied p.0 q.0 is

cmp_at : (a b : Obj) → order.cmp a b ≡ obj_cmp a b
cmp_at a b = search rules

cmp_is : order.cmp ≡ obj_cmp
cmp_is i a b = cmp_at a b i

-- two uses before all others
meet : (x n : Use) (rest : List Use) (r : Ordering) → use_cmp x n ≡ r → with_use rest n ≡ n ∷ rest → put use_cmp x rest ≡ x ∷ rest
    → with_use (x ∷ rest) n ≡ put use_cmp x (n ∷ rest)
meet x n rest Less is new old = simp (is, reversed x n Less is) (ap (λ l. x ∷ l) new)
meet x n rest Equal is new old = simp (is, reversed x n Equal is) (ap (λ (p : Obj). (p, n.1) ∷ rest) (tied x n is))
meet x n rest Greater is new old = simp (is, reversed x n Greater is) (ap (λ l. n ∷ l) (sym old))

turn : (x n y : Use) (rest : List Use) (r s : Ordering) → use_cmp x y ≡ r → use_cmp n y ≡ s
    → with_use (put use_cmp x rest) n ≡ put use_cmp x (with_use rest n)
    → with_use (put use_cmp x (y ∷ rest)) n ≡ put use_cmp x (with_use (y ∷ rest) n)
turn x n y rest Less Less one two more =
    let old : put use_cmp x (y ∷ rest) ≡ x ∷ y ∷ rest = simp one refl in
    let new : with_use (y ∷ rest) n ≡ n ∷ y ∷ rest = simp two refl in
    ap (λ l. with_use l n) old ∙ (meet x n (y ∷ rest) (use_cmp x n) refl new old ∙ ap (put use_cmp x) (sym new))
turn x n y rest Less Equal one two more =
    let far : use_cmp x n ≡ Less = ap (obj_cmp x.0) (tied n y two) ∙ one in
    simp (one, two, reversed x n Less far) refl
turn x n y rest Less Greater one two more =
    let far : use_cmp x n ≡ Less = obj_total.trans x.0 y.0 n.0 one (reversed n y Greater two) in
    simp (one, two, reversed x n Less far) refl
turn x n y rest Equal Less one two more =
    let far : use_cmp n x ≡ Less = ap (obj_cmp n.0) (tied x y one) ∙ two in
    simp (one, two, reversed n x Less far) refl
turn x n y rest Equal Equal one two more = simp (one, two) refl
turn x n y rest Equal Greater one two more = simp (one, two) refl
turn x n y rest Greater Less one two more =
    let far : use_cmp n x ≡ Less = obj_total.trans n.0 y.0 x.0 two (reversed x y Greater one) in
    simp (one, two, reversed n x Less far) refl
turn x n y rest Greater Equal one two more = simp (one, two) refl
turn x n y rest Greater Greater one two more = simp (one, two) (ap (λ l. y ∷ l) more)

-- an earlier use and a later one may be put in either order
put_turn : (x n : Use) (ys : List Use) → with_use (put use_cmp x ys) n ≡ put use_cmp x (with_use ys n)
put_turn x n [] = meet x n [] (use_cmp x n) refl refl refl
put_turn x n (y ∷ ys) = turn x n y ys (use_cmp x y) (use_cmp n y) refl refl (put_turn x n ys)

in_order_push : (xs : List Use) (n : Use) → with_use (in_order use_cmp xs) n ≡ in_order use_cmp (xs ++ n ∷ [])
in_order_push [] n = refl
in_order_push (x ∷ xs) n = put_turn x n (in_order use_cmp xs) ∙ ap (put use_cmp x) (in_order_push xs n)

put_onto : (xs ys : List Use) → fold with_use (in_order use_cmp xs) ys ≡ in_order use_cmp (xs ++ ys)
put_onto xs [] = ap (in_order use_cmp) (sym (append-nil xs))
put_onto xs (y ∷ ys) =
    ap (λ l. fold with_use l ys) (in_order_push xs y)
    ∙ (put_onto (xs ++ y ∷ []) ys ∙ ap (in_order use_cmp) (append_assoc xs (y ∷ []) ys))

pub with_uses_in_order : (ys : List Use) → with_uses [] ys ≡ in_order use_cmp ys
with_uses_in_order ys = ap (λ cmp. fold (λ (uses : List Use) (one : Use). insert_entry cmp uses one.0 one.1) [] ys) cmp_is ∙ put_onto [] ys
