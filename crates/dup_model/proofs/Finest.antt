-- The finest closed sets.
use Rattle.dup_model.proofs.Closed.{closed_by, IsClosedBy, IsFinestBundleBy, IsFinestBy}
use Rattle.std.proofs.Common.{◌≡◌, ℕ, zero, suc, ◌≤◌, ◌<◌, ◌⊎◌, inl, inr, Bool, true, false, not, cond, ◌||◌, ◌&&◌, List, [], ◌∷◌, ◌++◌, Option, Some, None, map, length, refl, sym, ap, subst, ◌∙◌, arith}
use Rattle.std.specs.Option.{option_map}
use Rattle.std.specs.List.{list_all, filter, find}
use Rattle.std.specs.Ordering.{is_lt, eq_by_cmp}
use Rattle.std.proofs.lemmas.Bool.{true≢false, cases_Bool, and_parts, and_from, or_cases, or_left}
use Rattle.std.proofs.lemmas.Option.{none-some, same_Some}
use Rattle.std.specs.FinMap as fin
use Rattle.std.specs.Bool.{IsTrue}
use Rattle.dup_model.proofs.Editions.{closed_after}
use Rattle.dup_model.proofs.Reached.{tie_same, tie_itself, has_filter, closed_reached, reached_itself, through, Reaches-closed, Reaches-from_reached, or_right}
use Rattle.dup_names.proofs.Truth.{from_T}
use Rattle.dup_model.proofs.ChangedPaths.{only_changed, all_changed, first_least}
use Rattle.dup_names.specs.Words.{Path}
use Rattle.dup_model.specs.Needs.{Looks, Paths, needs, changed}
use Rattle.dup_names.specs.Order.{text_cmp}
use Rattle.dup_model.specs.Editions.{has, Edition, IsConsistent, absorb, bundle_of, looks, target_looks}
use Rattle.dup_model.specs.Pages.{Target, target}
use Rattle.dup_template.specs.declared.site.Parts.{Parts}
use Rattle.dup_model.specs.Commits.{Commit}
use Rattle.dup_model.specs.Bundles.{reached, is_knot, paths_of, changed_paths, bundle}
use Rattle.dup_model.specs.Versions.{content}

-- tests over lists

all_at : (f : Path → Bool) (l : List Path) → list_all f l ≡ true → (q : Path) → has l q ≡ true → f q ≡ true
all_at f [] all q inside = absurd (true≢false (sym inside))
all_at f (x ∷ l) all q inside = elim (or_cases _ _ inside) [
  | inl tie ↦ subst (λ x. f x ≡ true) (sym (tie_same q x tie)) (and_parts _ _ all).0
  | inr later ↦ all_at f l (and_parts _ _ all).1 q later
]

all_from : (f : Path → Bool) (l : List Path) → ((q : Path) → has l q ≡ true → f q ≡ true) → list_all f l ≡ true
all_from f [] each = refl
all_from f (x ∷ l) each = and_from _ _ (each x (or_left _ _ (tie_itself x))) (all_from f l (λ q inside. each q (or_right _ _ inside)))

not_all : (f : Path → Bool) (l : List Path) → list_all f l ≡ false → (x : Path) × (has l x ≡ true) × (f x ≡ false)
not_all f [] none = absurd (true≢false none)
not_all f (x ∷ l) none = by_first (f x) refl none (λ later. not_all f l later)
  where
    by_first : (b : Bool) → f x ≡ b → (b && list_all f l) ≡ false → (list_all f l ≡ false → (x : Path) × (has l x ≡ true) × (f x ≡ false)) → (y : Path) × (has (x ∷ l) y ≡ true) × (f y ≡ false)
    by_first true is none later = let one : (y : Path) × (has l y ≡ true) × (f y ≡ false) = later none in (one.0, or_right _ _ one.1, one.2)
    by_first false is none later = (x, or_left _ _ (tie_itself x), is)

find_head : (f : Path → Bool) (l : List Path) (p : Path) → find f l ≡ Some p → (ps : List Path) × (filter f l ≡ p ∷ ps)
find_head f [] p is = absurd (none-some p is)
find_head f (x ∷ l) p is = by_first (f x) is (λ later. find_head f l p later)
  where
    by_first : (b : Bool) → cond b (Some x) (find f l) ≡ Some p → (find f l ≡ Some p → (ps : List Path) × (filter f l ≡ p ∷ ps)) → (ps : List Path) × (cond b (x ∷ filter f l) (filter f l) ≡ p ∷ ps)
    by_first true is later = (filter f l, ap (λ p. p ∷ filter f l) (same_Some x p is))
    by_first false is later = later is

find_none : (f : Path → Bool) (l : List Path) → find f l ≡ None → (q : Path) → has l q ≡ true → f q ≡ false
find_none f [] is q inside = absurd (true≢false (sym inside))
find_none f (x ∷ l) is q inside = by_first (f x) refl is (or_cases _ _ inside) (λ is. find_none f l is q)
  where
    by_first : (b : Bool) → f x ≡ b → cond b (Some x) (find f l) ≡ None → (eq_by_cmp text_cmp q x ≡ true) ⊎ (has l q ≡ true) → (find f l ≡ None → has l q ≡ true → f q ≡ false) → f q ≡ false
    by_first true at is where_it later = absurd (none-some x (sym is))
    by_first false at is (inl tie) later = ap f (tie_same q x tie) ∙ at
    by_first false at is (inr inside) later = later is inside

filter_twice : (f g : Path → Bool) (l : List Path) → filter f (filter g l) ≡ filter (λ x. g x && f x) l
filter_twice f g [] = refl
filter_twice f g (x ∷ l) = by_test (g x) (f x) refl (filter_twice f g l)
  where
    by_test : (a b : Bool) → f x ≡ b → filter f (filter g l) ≡ filter (λ x. g x && f x) l → filter f (cond a (x ∷ filter g l) (filter g l)) ≡ cond (a && b) (x ∷ filter (λ x. g x && f x) l) (filter (λ x. g x && f x) l)
    by_test true true is rest = rw is (ap (λ l. x ∷ l) rest)
    by_test true false is rest = rw is rest
    by_test false b is rest = rest

-- a test that passes less keeps no more, and fewer where it loses one
no_more : (f g : Path → Bool) → ((x : Path) → f x ≡ true → g x ≡ true) → (l : List Path) → length (filter f l) ≤ length (filter g l)
no_more f g weaker [] = omega arith
no_more f g weaker (x ∷ l) = by_tests (f x) (g x) refl refl (no_more f g weaker l)
  where
    by_tests : (a b : Bool) → f x ≡ a → g x ≡ b → length (filter f l) ≤ length (filter g l) → length (cond a (x ∷ filter f l) (filter f l)) ≤ length (cond b (x ∷ filter g l) (filter g l))
    by_tests true true p q rest = omega (arith, rest)
    by_tests true false p q rest = absurd (true≢false (sym (weaker x p) ∙ q))
    by_tests false true p q rest = omega (arith, rest)
    by_tests false false p q rest = rest

fewer : (f g : Path → Bool) → ((x : Path) → f x ≡ true → g x ≡ true) → (l : List Path) (y : Path) → has l y ≡ true → g y ≡ true → f y ≡ false → length (filter f l) < length (filter g l)
fewer f g weaker [] y inside passes fails = absurd (true≢false (sym inside))
fewer f g weaker (x ∷ l) y inside passes fails = by_tests (f x) (g x) refl refl (or_cases _ _ inside) (λ later. fewer f g weaker l y later passes fails)
  where
    by_tests : (a b : Bool) → f x ≡ a → g x ≡ b → (eq_by_cmp text_cmp y x ≡ true) ⊎ (has l y ≡ true) → (has l y ≡ true → length (filter f l) < length (filter g l)) →
        length (cond a (x ∷ filter f l) (filter f l)) < length (cond b (x ∷ filter g l) (filter g l))
    by_tests true true p q (inl tie) later = absurd (true≢false (sym p ∙ ap f (sym (tie_same y x tie)) ∙ fails))
    by_tests true true p q (inr inside) later = omega (arith, later inside)
    by_tests true false p q w later = absurd (true≢false (sym (weaker x p) ∙ q))
    by_tests false true p q w later = omega (arith, no_more f g weaker l)
    by_tests false false p q (inl tie) later = absurd (true≢false (sym passes ∙ ap g (tie_same y x tie) ∙ q))
    by_tests false false p q (inr inside) later = later inside

or_not : (a b : Bool) → (not a || b) ≡ true → a ≡ true → b ≡ true
or_not true b h is = h
or_not false b h is = absurd (true≢false (sym is))

not_or : (a b : Bool) → (a ≡ true → b ≡ true) → (not a || b) ≡ true
not_or true b h = h refl
not_or false b h = refl

or_fails : (a b : Bool) → (not a || b) ≡ false → (a ≡ true) × (b ≡ false)
or_fails true b h = (refl, h)
or_fails false b h = absurd (true≢false h)

module _ (e t : Looks) (ps : List Path) (only : (r : Path) → has ps r ≡ true → changed e t r ≡ true) (all : (r : Path) → changed e t r ≡ true → has ps r ≡ true) where
  set_of : Path → Paths
  set_of p = has (filter (reached (needs e t) ps p) ps)

  set_parts : (p q : Path) → set_of p q ≡ true → (has ps q ≡ true) × (reached (needs e t) ps p q ≡ true)
  unfolding set_of
  set_parts p q inside = and_parts _ _ (sym (has_filter (reached (needs e t) ps p) ps q) ∙ inside)

  to_set : (p q : Path) → has ps q ≡ true → reached (needs e t) ps p q ≡ true → set_of p q ≡ true
  unfolding set_of
  to_set p q inside h = has_filter (reached (needs e t) ps p) ps q ∙ and_from _ _ inside h

  set_closed : (p : Path) → IsClosedBy e t (set_of p)
  unfolding set_of
  set_closed p = closed_reached e t ps only all p

  -- what a closed set has leads to nothing outside it
  stays : (r : Paths) → IsClosedBy e t r → (x y : Path) → r x ≡ true → has ps y ≡ true → reached (needs e t) ps x y ≡ true → r y ≡ true
  stays r closed x y start inside h = Reaches-closed e t r closed start (Reaches-from_reached e t ps only x y (only y inside) h)

  knot_back : (p q : Path) → is_knot (needs e t) ps p ≡ true → has ps q ≡ true → reached (needs e t) ps p q ≡ true → reached (needs e t) ps q p ≡ true
  knot_back p q knot inside h = or_not _ _ (all_at (λ q. not (reached (needs e t) ps p q) || reached (needs e t) ps q p) ps knot q inside) h

  -- what a knot reaches is one
  knot_reached : (p q : Path) → is_knot (needs e t) ps p ≡ true → has ps p ≡ true → has ps q ≡ true → reached (needs e t) ps p q ≡ true → is_knot (needs e t) ps q ≡ true
  knot_reached p q knot p_in q_in h = all_from (λ y. not (reached (needs e t) ps q y) || reached (needs e t) ps y q) ps (λ y y_in.
      not_or (reached (needs e t) ps q y) (reached (needs e t) ps y q) (λ q_y.
      through (needs e t) ps p y q p_in (knot_back p y knot y_in (through (needs e t) ps q p y q_in h q_y)) h))

  finest_set : (p : Path) → has ps p ≡ true → is_knot (needs e t) ps p ≡ true → IsFinestBy e t (set_of p)
  finest_set p p_in knot = record {
    some = (p, to_set p p p_in (reached_itself (needs e t) ps p));
    only = λ q inside. only q (set_parts p q inside).0;
    closed = set_closed p;
    finest = λ r (x, x_in) within closed q q_in.
        let x_is : (has ps x ≡ true) × (reached (needs e t) ps p x ≡ true) = set_parts p x (within x x_in) in
        let q_is : (has ps q ≡ true) × (reached (needs e t) ps p q ≡ true) = set_parts p q q_in in
        stays r closed x q x_in q_is.0 (through (needs e t) ps p x q p_in (knot_back p x knot x_is.0 x_is.1) q_is.1);
  }

  -- each member of a finest set is a knot
  finest_knot : (r : Paths) → IsFinestBy e t r → (q : Path) → r q ≡ true → is_knot (needs e t) ps q ≡ true
  finest_knot r is q q_in = all_from (λ y. not (reached (needs e t) ps q y) || reached (needs e t) ps y q) ps (λ y y_in.
      not_or (reached (needs e t) ps q y) (reached (needs e t) ps y q) (λ q_y.
      (set_parts y q (is.finest (set_of y) (y, to_set y y y_in (reached_itself (needs e t) ps y))
      (λ z z_in. stays r is.closed y z (stays r is.closed q y q_in y_in q_y) (set_parts y z z_in).0 (set_parts y z z_in).1)
      (set_closed y) q q_in)).1))

  -- what isn't a knot reaches one that reaches less
  reaches_less : (p : Path) → has ps p ≡ true → is_knot (needs e t) ps p ≡ false →
      (q : Path) × (has ps q ≡ true) × (length (filter (reached (needs e t) ps q) ps) < length (filter (reached (needs e t) ps p) ps))
  reaches_less p p_in none =
      let one : (q : Path) × (has ps q ≡ true) × ((not (reached (needs e t) ps p q) || reached (needs e t) ps q p) ≡ false) =
      not_all (λ q. not (reached (needs e t) ps p q) || reached (needs e t) ps q p) ps none in
      let fails : (reached (needs e t) ps p one.0 ≡ true) × (reached (needs e t) ps one.0 p ≡ false) = or_fails _ _ one.2 in (
        one.0,
        one.1,
        fewer (reached (needs e t) ps one.0) (reached (needs e t) ps p)
            (λ x h. through (needs e t) ps one.0 p x one.1 fails.0 h) ps p p_in (reached_itself (needs e t) ps p) fails.1,
      )

  -- where there is a path, there is a knot
  a_knot : (n : ℕ) (p : Path) → has ps p ≡ true → length (filter (reached (needs e t) ps p) ps) ≤ n → (k : Path) × (has ps k ≡ true) × (is_knot (needs e t) ps k ≡ true)
  a_knot zero p p_in few = elim (cases_Bool (is_knot (needs e t) ps p)) [
    | inl knot ↦ (p, p_in, knot)
    | inr none ↦ absurd (omega (arith, few, (reaches_less p p_in none).2))
  ]
  a_knot (suc n) p p_in few = elim (cases_Bool (is_knot (needs e t) ps p)) [
    | inl knot ↦ (p, p_in, knot)
    | inr none ↦
        let less : (q : Path) × (has ps q ≡ true) × (length (filter (reached (needs e t) ps q) ps) < length (filter (reached (needs e t) ps p) ps)) = reaches_less p p_in none in
        a_knot n less.0 less.1 (omega (arith, few, less.2))
  ]

  -- the first knot's set is the finest whose least path is least
  first_knot : (p : Path) → has ps p ≡ true → is_knot (needs e t) ps p ≡ true → ((q : Path) → has ps q ≡ true → is_knot (needs e t) ps q ≡ true → is_lt (text_cmp q p) ≡ false) →
      IsFinestBundleBy e t (set_of p)
  first_knot p p_in knot first = (
    p,
    finest_set p p_in knot,
    (
      to_set p p p_in (reached_itself (needs e t) ps p),
      λ q q_in. let q_is : (has ps q ≡ true) × (reached (needs e t) ps p q ≡ true) = set_parts p q q_in in first q q_is.0 (knot_reached p q knot p_in q_is.0 q_is.1),
    ),
    λ r q is least. first q (all q (is.only q least.0)) (finest_knot r is q least.0),
  )

  set_is : (p q : Path) → set_of p q ≡ has (filter (reached (needs e t) ps p) ps) q
  unfolding set_of
  set_is p q = refl

  pub finest_bundle : (p : Path) → has ps p ≡ true → is_knot (needs e t) ps p ≡ true → ((q : Path) → has ps q ≡ true → is_knot (needs e t) ps q ≡ true → is_lt (text_cmp q p) ≡ false) →
      IsFinestBundleBy e t (has (filter (reached (needs e t) ps p) ps))
  unfolding set_of
  finest_bundle p p_in knot first = first_knot p p_in knot first

  pub none_left : find (is_knot (needs e t) ps) ps ≡ None → (q : Path) → has ps q ≡ false
  none_left is q = elim (cases_Bool (has ps q)) [
    | inl inside ↦
        let k : (k : Path) × (has ps k ≡ true) × (is_knot (needs e t) ps k ≡ true) = a_knot (length (filter (reached (needs e t) ps q) ps)) q inside (omega arith) in
        absurd (true≢false (sym k.2 ∙ find_none (is_knot (needs e t) ps) ps is k.0 k.1))
    | inr out ↦ out
  ]

module _ (e : Edition) (t : Target) where
  -- the first that passes a test is the least that does
  first_found : (test : Path → Bool) (p : Path) (rest : List Path) → filter test (changed_paths e t) ≡ p ∷ rest → (q : Path) → has (changed_paths e t) q ≡ true → test q ≡ true → is_lt (text_cmp q p) ≡ false
  first_found test p rest is q inside passes =
      first_least (λ x. changed (looks e) (target_looks t) x && test x) (fin.entries (fin.from_entries {R = text_cmp} (map (λ p. (p, zero)) (fin.keys e ++ fin.keys t))))
      (from_T _ (fin.entries_sorted (fin.from_entries {R = text_cmp} (map (λ p. (p, zero)) (fin.keys e ++ fin.keys t))))) p rest
      (sym (filter_twice test (changed (looks e) (target_looks t)) (paths_of e t)) ∙ is) q
      (ap (λ l. has l q) (sym (filter_twice test (changed (looks e) (target_looks t)) (paths_of e t))) ∙ has_filter test (changed_paths e t) q ∙ and_from _ _ inside passes)

  found_at : (o : Option Path) → find (is_knot (needs (looks e) (target_looks t)) (changed_paths e t)) (changed_paths e t) ≡ o → (paths : List Path) →
      option_map (λ p. filter (reached (needs (looks e) (target_looks t)) (changed_paths e t) p) (changed_paths e t)) o ≡ Some paths → IsFinestBundleBy (looks e) (target_looks t) (has paths)
  found_at None is paths answer = absurd (none-some paths answer)
  found_at (Some p) is paths answer =
      let ps : List Path = changed_paths e t in
      let knot : Path → Bool = is_knot (needs (looks e) (target_looks t)) ps in
      let head : (rest : List Path) × (filter knot ps ≡ p ∷ rest) = find_head knot ps p is in
      let p_is : (has ps p ≡ true) × (knot p ≡ true) = and_parts _ _ (sym (has_filter knot ps p) ∙ ap (λ l. has l p) head.1 ∙ or_left _ _ (tie_itself p)) in
      subst (λ paths. IsFinestBundleBy (looks e) (target_looks t) (has paths)) (same_Some _ paths answer)
      (finest_bundle (looks e) (target_looks t) ps (only_changed e t) (all_changed e t) p p_is.0 p_is.1 (first_found knot p head.0 head.1))

  pub finest_is : (paths : List Path) → bundle e t ≡ Some paths → IsFinestBundleBy (looks e) (target_looks t) (has paths)
  finest_is paths answer = found_at _ refl paths answer

  pub finest_none : bundle e t ≡ None → (q : Path) → changed (looks e) (target_looks t) q ≡ false
  finest_none answer q = elim (cases_Bool (changed (looks e) (target_looks t) q)) [
    | inl changes ↦ absurd (true≢false (sym (all_changed e t q changes) ∙ none_left (looks e) (target_looks t) (changed_paths e t) (only_changed e t) (all_changed e t) (none_found _ _ answer) q))
    | inr same ↦ same
  ]
    where
      none_found : {A B : Type 0} (f : A → B) (o : Option A) → option_map f o ≡ None → o ≡ None
      none_found f None is = refl
      none_found f (Some x) is = absurd (none-some (f x) (sym is))

-- a bundle is closed
pub closed_finest : (e t : Looks) (s : Paths) → IsFinestBundleBy e t s → IsClosedBy e t s
closed_finest e t s (p, is, least, first) = is.closed

-- a part of a finest bundle that gives a consistent edition is the whole of it
pub no_part : (site : Parts) (before commits : List Commit) (e : Edition) (paths part : List Path) →
    IsConsistent site before e → bundle e (target (content site (before ++ commits))) ≡ Some paths →
    ((p : Path) × IsTrue (has part p)) → ((p : Path) → IsTrue (has part p) → IsTrue (has paths p)) →
    IsConsistent site (before ++ commits) (absorb e (bundle_of (target (content site (before ++ commits))) (length (before ++ commits)) commits part)) →
    (p : Path) → IsTrue (has paths p) → IsTrue (has part p)
no_part site before commits e paths part consistent answer some within after =
    let is : IsFinestBundleBy (looks e) (target_looks (target (content site (before ++ commits)))) (has paths) = finest_is e (target (content site (before ++ commits))) paths answer in
    is.1.finest (has part) some within (closed_by (looks e) (target_looks (target (content site (before ++ commits)))) (has part) (closed_after site before commits e consistent (target (content site (before ++ commits))) refl part after))
