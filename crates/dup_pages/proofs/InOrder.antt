-- Pages that are put one after the other are in order.
use Rattle.std.proofs.Common.{◌≡◌, List, [], ◌∷◌, ◌++◌, refl, sym, ap, ◌∙◌, append_assoc, append-nil}
use Rattle.std.specs.List.{fold}
use Rattle.std.specs.Ordering.{ordering_reverse}
use Rattle.std.specs.FinMap as fin
use Rattle.std.specs.Cmp.Lexicographic.{nat_list_cmp_total}
use Rattle.std.specs.declared.cmp.Ordering.{Ordering}
use Rattle.std.specs.declared.cmp.Ordering.TheVariants.{Less, Equal, Greater}
use Rattle.dup_names.specs.Order.{text_cmp}
use Rattle.dup_names.specs.Words.{Path, put, in_order}
use Rattle.dup_names.specs.declared.object.Obj.{Obj}
use Rattle.dup_pages.specs.Listing.{with_page, with_pages}

abbrev pub Page : Type 0
Page = Path × Obj

abbrev pub by_path : Page → Page → Ordering
by_path p q = text_cmp p.0 q.0

reversed : (p q : Page) (r : Ordering) → by_path p q ≡ r → by_path q p ≡ ordering_reverse r
reversed p q r is = nat_list_cmp_total.antisymm q.0 p.0 ∙ ap ordering_reverse is

tied : (p q : Page) → by_path p q ≡ Equal → p.0 ≡ q.0
tied p q is = fin.slice_cmp-IsAntisymmetric fin.nat_cmp-IsAntisymmetric p.0 q.0 is

-- two pages before all others
meet : (x n : Page) (rest : List Page) (r : Ordering) → by_path x n ≡ r → with_page rest n ≡ n ∷ rest → put by_path x rest ≡ x ∷ rest
    → with_page (x ∷ rest) n ≡ put by_path x (n ∷ rest)
meet x n rest Less is new old = simp (is, reversed x n Less is) (ap (λ l. x ∷ l) new)
meet x n rest Equal is new old = simp (is, reversed x n Equal is) (ap (λ (p : Path). (p, n.1) ∷ rest) (tied x n is))
meet x n rest Greater is new old = simp (is, reversed x n Greater is) (ap (λ l. n ∷ l) (sym old))

turn : (x n y : Page) (rest : List Page) (r s : Ordering) → by_path x y ≡ r → by_path n y ≡ s
    → with_page (put by_path x rest) n ≡ put by_path x (with_page rest n)
    → with_page (put by_path x (y ∷ rest)) n ≡ put by_path x (with_page (y ∷ rest) n)
turn x n y rest Less Less one two more =
    let old : put by_path x (y ∷ rest) ≡ x ∷ y ∷ rest = simp one refl in
    let new : with_page (y ∷ rest) n ≡ n ∷ y ∷ rest = simp two refl in
    ap (λ l. with_page l n) old ∙ (meet x n (y ∷ rest) (by_path x n) refl new old ∙ ap (put by_path x) (sym new))
turn x n y rest Less Equal one two more =
    let far : by_path x n ≡ Less = ap (text_cmp x.0) (tied n y two) ∙ one in
    simp (one, two, reversed x n Less far) refl
turn x n y rest Less Greater one two more =
    let far : by_path x n ≡ Less = nat_list_cmp_total.trans x.0 y.0 n.0 one (reversed n y Greater two) in
    simp (one, two, reversed x n Less far) refl
turn x n y rest Equal Less one two more =
    let far : by_path n x ≡ Less = ap (text_cmp n.0) (tied x y one) ∙ two in
    simp (one, two, reversed n x Less far) refl
turn x n y rest Equal Equal one two more = simp (one, two) refl
turn x n y rest Equal Greater one two more = simp (one, two) refl
turn x n y rest Greater Less one two more =
    let far : by_path n x ≡ Less = nat_list_cmp_total.trans n.0 y.0 x.0 two (reversed x y Greater one) in
    simp (one, two, reversed n x Less far) refl
turn x n y rest Greater Equal one two more = simp (one, two) refl
turn x n y rest Greater Greater one two more = simp (one, two) (ap (λ l. y ∷ l) more)

-- an earlier page and a later one may be put in either order
put_turn : (x n : Page) (ys : List Page) → with_page (put by_path x ys) n ≡ put by_path x (with_page ys n)
put_turn x n [] = meet x n [] (by_path x n) refl refl refl
put_turn x n (y ∷ ys) = turn x n y ys (by_path x y) (by_path n y) refl refl (put_turn x n ys)

in_order_push : (xs : List Page) (n : Page) → with_page (in_order by_path xs) n ≡ in_order by_path (xs ++ n ∷ [])
in_order_push [] n = refl
in_order_push (x ∷ xs) n = put_turn x n (in_order by_path xs) ∙ ap (put by_path x) (in_order_push xs n)

put_onto : (xs ys : List Page) → fold with_page (in_order by_path xs) ys ≡ in_order by_path (xs ++ ys)
put_onto xs [] = ap (in_order by_path) (sym (append-nil xs))
put_onto xs (y ∷ ys) =
    ap (λ l. fold with_page l ys) (in_order_push xs y)
    ∙ (put_onto (xs ++ y ∷ []) ys ∙ ap (in_order by_path) (append_assoc xs (y ∷ []) ys))

pub with_pages_in_order : (ys : List Page) → with_pages [] ys ≡ in_order by_path ys
with_pages_in_order ys = put_onto [] ys
