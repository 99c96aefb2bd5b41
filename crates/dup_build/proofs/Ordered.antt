-- Paths that rise, with what rises behind them.
use Rattle.std.proofs.Common.{◌≡◌, Bool, true, false, cond, List, [], ◌∷◌, ◌++◌, map, refl, sym, ap, subst}
use Rattle.std.specs.List.{AllByRecursion}
use Rattle.std.specs.List.Sorted.{IsStrictlySortedBy}
use Rattle.std.specs.FinMap.Entries.{below_all, is_sorted}
use Rattle.std.specs.Ordering.{is_lt}
use Rattle.std.specs.Cmp.Lexicographic.{nat_list_cmp_total}
use Rattle.std.specs.declared.cmp.Ordering.TheVariants.{Less}
use Rattle.dup_names.specs.Order.{text_cmp}
use Rattle.dup_names.specs.Words.{Path}
use Rattle.dup_names.specs.declared.value.Look.{Look}
use Rattle.dup_build.proofs.Rising.{less, parts}

-- these paths rise
abbrev pub Rise : List Path → Type 0
Rise = IsStrictlySortedBy text_cmp

abbrev pub IsBelow : Path → List Path → Type 0
IsBelow p ps = AllByRecursion (λ q. text_cmp p q ≡ Less) ps

-- the paths of pages
abbrev pub paths_in : List (Path × Look) → List Path
paths_in es = map (λ e. e.0) es

below_paths : (p : Path) (es : List (Path × Look)) → below_all text_cmp p es ≡ true → IsBelow p (paths_in es)
below_paths p [] h = tt
below_paths p (e ∷ es) h =
    let here : (is_lt (text_cmp p e.0) ≡ true) × (below_all text_cmp p es ≡ true) = parts (is_lt (text_cmp p e.0)) (below_all text_cmp p es) h in
    (less (text_cmp p e.0) here.0, below_paths p es here.1)

pub rise_paths : (es : List (Path × Look)) → is_sorted text_cmp es ≡ true → Rise (paths_in es)
unfolding IsStrictlySortedBy
rise_paths [] h = tt
rise_paths (e ∷ es) h =
    let here : (below_all text_cmp e.0 es ≡ true) × (is_sorted text_cmp es ≡ true) = parts (below_all text_cmp e.0 es) (is_sorted text_cmp es) h in
    (below_paths e.0 es here.0, rise_paths es here.1)

pub push_on : (ps : List Path) (d : Path) (os : List Path) → (ps ++ d ∷ []) ++ os ≡ ps ++ d ∷ os
push_on [] d os = refl
push_on (p ∷ ps) d os = ap (λ l. p ∷ l) (push_on ps d os)

-- what is below a path is below what that is below
below_further : (d e : Path) (ns : List Path) → text_cmp d e ≡ Less → IsBelow e ns → IsBelow d ns
below_further d e [] first all = tt
below_further d e (n ∷ ns) first all = (nat_list_cmp_total.trans d e n first all.0, below_further d e ns first all.1)

below_between : (q : Path) (ps : List Path) (d e : Path) (os ns : List Path) → IsBelow q (ps ++ d ∷ os) → IsBelow q (ps ++ e ∷ ns) → IsBelow q (ps ++ d ∷ e ∷ ns)
below_between q [] d e os ns h k = (h.0, k)
below_between q (p ∷ ps) d e os ns h k = (h.0, below_between q ps d e os ns h.1 k.1)

-- of two heads the lesser stands before the other
pub rise_between : (ps : List Path) (d e : Path) (os ns : List Path) → text_cmp d e ≡ Less → Rise (ps ++ d ∷ os) → Rise (ps ++ e ∷ ns) → Rise (ps ++ d ∷ e ∷ ns)
unfolding IsStrictlySortedBy
rise_between [] d e os ns first h k = ((first, below_further d e ns first k.0), k)
rise_between (p ∷ ps) d e os ns first h k = (below_between p ps d e os ns h.0 k.0, rise_between ps d e os ns first h.1 k.1)

below_but : (q : Path) (ps : List Path) (d : Path) (os : List Path) → IsBelow q (ps ++ d ∷ os) → IsBelow q (ps ++ os)
below_but q [] d os h = h.1
below_but q (p ∷ ps) d os h = (h.0, below_but q ps d os h.1)

-- without one of them
pub rise_but : (ps : List Path) (d : Path) (os : List Path) → Rise (ps ++ d ∷ os) → Rise (ps ++ os)
unfolding IsStrictlySortedBy
rise_but [] d os h = h.1
rise_but (p ∷ ps) d os h = (below_but p ps d os h.0, rise_but ps d os h.1)

-- the path of both heads is put in or left out
pub rise_if : (b : Bool) (ps : List Path) (d : Path) (os : List Path) → Rise (ps ++ d ∷ os) → Rise (cond b ps (ps ++ d ∷ []) ++ os)
rise_if true ps d os h = rise_but ps d os h
rise_if false ps d os h = subst Rise (sym (push_on ps d os)) h
