-- Paths that wait at one that holds them.
use Rattle.std.proofs.Common.{◌≡◌, ◌+◌, ◌*◌, ◌-◌, ◌<◌, ◌≤◌, length, ℕ, ◌++◌, Bool, true, false, not, cond, ◌||◌, ◌&&◌, ◌⊎◌, List, [], ◌∷◌, Option, Some, None, inl, inr, refl, sym, ap, subst, ◌∙◌, arith}
use Rattle.std.specs.List.{AllByRecursion, filter, find, list_all}
use Rattle.std.specs.Option.{is_some, option_map}
use Rattle.std.specs.Ordering.{eq_by_cmp, is_eq, is_lt, ordering_reverse}
use Rattle.std.specs.List.Sorted.{IsStrictlySortedBy}
use Rattle.std.specs.Prelude.{nat_lt, IfNone, IfSome}
use Rattle.std.specs.declared.alloc.Global.{Global}
use Rattle.std.specs.declared.cmp.Ordering.{Ordering}
use Rattle.std.specs.declared.cmp.Ordering.TheVariants.{Less, Greater}
use Rattle.std.specs.declared.collections.BTreeMap.{BTreeMap}
use Rattle.std.specs.declared.vec.Vec.{Vec}
use Rattle.std.proofs.lemmas.List.Folds.{list_any-append}
use Rattle.std.proofs.lemmas.Map.Keys.{IsDistinct-from_sorted}
use Rattle.std.proofs.lemmas.Map.Made.{length-le_from_is_member}
use Rattle.std.proofs.lemmas.Option.{none-some, same_Some}
use Rattle.std.specs.Cmp.{eq_by_cmp_equiv}
use Rattle.std.specs.Cmp.Lexicographic.{nat_list_cmp_total}
use Rattle.std.proofs.lemmas.Bool.{true≢false, and_parts, and_from, or_cases, or_left, lt-ltb, ltb-true}
use Rattle.dup_names.specs.Order.{text_cmp}
use Rattle.dup_names.specs.Words.{Path}
use Rattle.dup_model.specs.Bundles.{bundle_from, is_knot, reached}
use Rattle.dup_model.specs.Editions.{has}
use Rattle.dup_model.proofs.Reached.{has_filter, or_right, reached_itself, reached_needed, through, tie_itself, tie_same}
use Rattle.dup_bundle.specs.Hinted.{linkers_of}
use Rattle.dup_bundle.specs.Waiting.{Adds, is_below, level_of, AreLevelled, AreLevels, AreWaiting, IsHeldBy}
use Rattle.dup_bundle.proofs.Paths.{IsInOrder}
use Rattle.dup_bundle.proofs.Steps.{all_at}
use Rattle.dup_bundle.proofs.Walk.{in_closed}

no_right : (a b : Bool) → a ≡ false → (a || b) ≡ true → b ≡ true
no_right true b none h = absurd (true≢false none)
no_right false b none h = h

fails : (b : Bool) → (b ≡ true → ⊥) → b ≡ false
fails true none = absurd (none refl)
fails false none = refl

all_from : (f : Path → Bool) (l : List Path) → ((q : Path) → has l q ≡ true → f q ≡ true) → list_all f l ≡ true
all_from f [] each = refl
all_from f (x ∷ l) each = and_from _ _ (each x (or_left _ _ (tie_itself x))) (all_from f l (λ q inside. each q (or_right _ _ inside)))

not-false : (b : Bool) → b ≡ false → not b ≡ true
not-false b is = ap not is

not-true : (b : Bool) → not b ≡ true → b ≡ false
not-true true h = sym h
not-true false h = refl

-- the first that passes a test, where all that pass it are among some paths in order
less_at : (k : Path) (l : List Path) → AllByRecursion (λ y. text_cmp k y ≡ Less) l → (y : Path) → has l y ≡ true → text_cmp k y ≡ Less
less_at k [] all y inside = absurd (true≢false (sym inside))
less_at k (x ∷ l) (first, rest) y inside = elim (or_cases _ _ inside) [
  | inl tie ↦ subst (λ x. text_cmp k x ≡ Less) (sym (tie_same y x tie)) first
  | inr later ↦ less_at k l rest y later
]

greater : (x h : Path) → text_cmp h x ≡ Less → text_cmp x h ≡ Greater
greater x h less = nat_list_cmp_total.antisymm x h ∙ ap ordering_reverse less

is_less_greater : (r : Ordering) → r ≡ Less → r ≡ Greater → ⊥
is_less_greater r a b = true≢false (sym (ap is_lt a) ∙ ap is_lt b)

not_among : (x : Path) (rest : List Path) → AllByRecursion (λ y. text_cmp x y ≡ Less) rest → (h : Path) → text_cmp h x ≡ Less → has (x ∷ rest) h ≡ false
not_among x rest above h less = fails (has (x ∷ rest) h) (λ inside. elim (or_cases _ _ inside) [
  | inl tie ↦ true≢false (sym tie ∙ ap is_eq less)
  | inr later ↦ is_less_greater (text_cmp x h) (less_at x rest above h later) (greater x h less)
])

module _ (f : Path → Bool) (x : Path) (rest : List Path) (passes : f x ≡ true) where
  pub found_first : IsInOrder (x ∷ rest) → (l : List Path) → IsInOrder l → has l x ≡ true → ((z : Path) → has l z ≡ true → has (x ∷ rest) z ≡ false → f z ≡ false) → find f l ≡ Some x
  unfolding IsStrictlySortedBy
  found_first order [] sorted inside none = absurd (true≢false (sym inside))
  found_first order (h ∷ l) sorted inside none = by_tie (eq_by_cmp text_cmp x h) refl (found_first order l sorted.1)
    where
      by_tie : (b : Bool) → eq_by_cmp text_cmp x h ≡ b → (has l x ≡ true → ((z : Path) → has l z ≡ true → has (x ∷ rest) z ≡ false → f z ≡ false) → find f l ≡ Some x) → cond (f h) (Some h) (find f l) ≡ Some x
      by_tie true tie later = subst (λ h. cond (f h) (Some h) (find f l) ≡ Some x) (tie_same x h tie) (ap (λ b. cond b (Some x) (find f l)) passes)
      by_tie false apart later =
          let behind : has l x ≡ true = no_right (eq_by_cmp text_cmp x h) (has l x) apart inside in
          ap (λ b. cond b (Some h) (find f l)) (none h (or_left _ _ (tie_itself h)) (not_among x rest order.0 h (less_at h l sorted.0 x behind)))
          ∙ later behind (λ z z_in. none z (or_right _ _ z_in))

pub found_none : (f : Path → Bool) (l : List Path) → ((z : Path) → has l z ≡ true → f z ≡ false) → find f l ≡ None
found_none f [] none = refl
found_none f (h ∷ l) none = ap (λ b. cond b (Some h) (find f l)) (none h (or_left _ _ (tie_itself h))) ∙ found_none f l (λ z inside. none z (or_right _ _ inside))

module _ (need : Path → Path → Bool) (left : List Path) where
  -- what is held is no knot
  pub held_no_knot : (p q : Path) → IsHeldBy need left p q → is_knot need left p ≡ false
  held_no_knot p q held = fails (is_knot need left p) (λ knot. true≢false (sym
      (all_at (λ q. not (reached need left p q) || reached need left q p) left knot q held.inside)
      ∙ ap (λ b. not b || reached need left q p) held.reaches ∙ held.apart))

  module _ (ready : List Path) (waiting : BTreeMap Path (Vec Path Global) Global) (are : AreWaiting need left ready waiting) where
    waiting_no_knot : (z : Path) → has left z ≡ true → has ready z ≡ false → is_knot need left z ≡ false
    waiting_no_knot z inside apart = let held : (q : Path) × IsHeldBy need left z q × (has (linkers_of waiting q) z ≡ true) = are z inside apart in held_no_knot z held.0 held.1

    -- the bundle is that of the first ready path, if it is a knot
    pub first_knot : IsInOrder left → (x : Path) (rest : List Path) → ready ≡ x ∷ rest → IsInOrder ready → has left x ≡ true → is_knot need left x ≡ true → (paths : List Path) →
        paths ≡ filter (reached need left x) left → Some paths ≡ bundle_from need left
    first_knot sorted x rest is order inside knot paths reach =
        ap Some reach ∙ sym (ap (option_map (λ p. filter (reached need left p) left))
        (found_first (is_knot need left) x rest knot (subst IsInOrder is order) left sorted inside (λ z z_in apart. waiting_no_knot z z_in (ap (λ l. has l z) is ∙ apart))))

    pub no_bundle : ready ≡ [] → None ≡ bundle_from need left
    no_bundle is = sym (ap (option_map (λ p. filter (reached need left p) left)) (found_none (is_knot need left) left (λ z z_in. waiting_no_knot z z_in (ap (λ l. has l z) is))))

  -- once a path is looked at
  pub stays_waiting : (x : Path) (rest ready : List Path) (waiting waiting' : BTreeMap Path (Vec Path Global) Global) → ready ≡ x ∷ rest → AreWaiting need left ready waiting →
      ((p q : Path) → has (linkers_of waiting p) q ≡ true → has (linkers_of waiting' p) q ≡ true) →
      (has left x ≡ true → (q : Path) × IsHeldBy need left x q × (has (linkers_of waiting' q) x ≡ true)) → AreWaiting need left rest waiting'
  stays_waiting x rest ready waiting waiting' is are keeps held p inside apart = by_tie (eq_by_cmp text_cmp p x) refl
    where
      by_tie : (b : Bool) → eq_by_cmp text_cmp p x ≡ b → (q : Path) × IsHeldBy need left p q × (has (linkers_of waiting' q) p ≡ true)
      by_tie true tie = subst (λ p. (q : Path) × IsHeldBy need left p q × (has (linkers_of waiting' q) p ≡ true)) (sym (tie_same p x tie)) (held (ap (has left) (sym (tie_same p x tie)) ∙ inside))
      by_tie false other =
          let old : (q : Path) × IsHeldBy need left p q × (has (linkers_of waiting q) p ≡ true) = are p inside (ap (λ l. has l p) is ∙ ap (λ b. b || has rest p) other ∙ apart) in
          (old.0, old.1, keeps old.0 p old.2)

  -- once what is reached from x is published
  module _ (x : Path) (inside_x : has left x ≡ true) (paths : List Path) (is : paths ≡ filter (reached need left x) left) where
    rest_of : List Path
    rest_of = filter (λ q. not (has paths q)) left

    in_paths : (z : Path) → has paths z ≡ true → (has left z ≡ true) × (reached need left x z ≡ true)
    in_paths z h = and_parts _ _ (sym (has_filter (reached need left x) left z) ∙ ap (λ l. has l z) (sym is) ∙ h)

    to_paths : (z : Path) → has left z ≡ true → reached need left x z ≡ true → has paths z ≡ true
    to_paths z inside h = ap (λ l. has l z) is ∙ has_filter (reached need left x) left z ∙ and_from _ _ inside h

    pub closed_paths : (p q : Path) → has paths p ≡ true → has left q ≡ true → need p q ≡ true → has paths q ≡ true
    closed_paths p q p_in q_in needed = to_paths q q_in (through need left p x q (in_paths p p_in).0 (in_paths p p_in).1 (reached_needed need left p q needed))

    in_rest : (z : Path) → has rest_of z ≡ true → (has left z ≡ true) × (has paths z ≡ false)
    unfolding rest_of
    in_rest z h =
        let parts : (has left z ≡ true) × (not (has paths z) ≡ true) = and_parts _ _ (sym (has_filter (λ q. not (has paths q)) left z) ∙ h) in
        (parts.0, not-true _ parts.1)

    to_rest : (z : Path) → has left z ≡ true → has paths z ≡ false → has rest_of z ≡ true
    unfolding rest_of
    to_rest z inside apart = has_filter (λ q. not (has paths q)) left z ∙ and_from _ _ inside (not-false _ apart)

    fewer_reach : (p q : Path) → has left p ≡ true → has rest_of q ≡ true → reached need rest_of p q ≡ true → reached need left p q ≡ true
    fewer_reach p q p_in q_in h = (and_parts _ _ (in_closed need rest_of (λ z. has left z && reached need left p z)
        (λ a z a_is z_in needed. and_from _ _ (in_rest z z_in).0 (through need left a p z (and_parts _ _ a_is).0 (and_parts _ _ a_is).1 (reached_needed need left a z needed)))
        rest_of (λ r r_in. r_in) p q (and_from _ _ p_in (reached_itself need left p)) q_in h)).1

    still_reach : (p q : Path) → has left p ≡ true → has paths p ≡ false → has left q ≡ true → has paths q ≡ false → reached need left p q ≡ true → reached need rest_of p q ≡ true
    still_reach p q p_in p_out q_in q_out h = (and_parts _ _ (no_right (has paths q) _ q_out (in_closed need left (λ z. has paths z || has rest_of z && reached need rest_of p z)
        (λ a z a_is z_in needed. step a z (or_cases _ _ a_is) z_in needed (has paths z) refl)
        left (λ r r_in. r_in) p q (or_right _ _ (and_from _ _ (to_rest p p_in p_out) (reached_itself need rest_of p))) q_in h))).1
      where
        step : (a z : Path) → (has paths a ≡ true) ⊎ ((has rest_of a && reached need rest_of p a) ≡ true) → has left z ≡ true → need a z ≡ true → (b : Bool) → has paths z ≡ b → (has paths z || has rest_of z && reached need rest_of p z) ≡ true
        step a z w z_in needed true is = or_left _ _ is
        step a z (inl a_in) z_in needed false is = or_left _ _ (closed_paths a z a_in z_in needed)
        step a z (inr a_is) z_in needed false is = or_right _ _ (and_from _ _ (to_rest z z_in is)
            (through need rest_of a p z (and_parts _ _ a_is).0 (and_parts _ _ a_is).1 (reached_needed need rest_of a z needed)))

    still_held : (p q : Path) → has left p ≡ true → has paths p ≡ false → has paths q ≡ false → IsHeldBy need left p q → IsHeldBy need rest_of p q
    still_held p q p_in p_out q_out held = record {
      inside = to_rest q held.inside q_out;
      reaches = still_reach p q p_in p_out held.inside q_out held.reaches;
      apart = fails _ (λ h. true≢false (sym (fewer_reach q p held.inside (to_rest p p_in p_out) h) ∙ held.apart));
    }

    pub woken : (rest ready ready' : List Path) (waiting : BTreeMap Path (Vec Path Global) Global) → ready ≡ x ∷ rest → AreWaiting need left ready waiting →
        ((p : Path) → has rest p ≡ true → has ready' p ≡ true) → ((p q : Path) → has paths q ≡ true → has (linkers_of waiting q) p ≡ true → has ready' p ≡ true) →
        AreWaiting need (filter (λ q. not (has paths q)) left) ready' waiting
    unfolding rest_of
    woken rest ready ready' waiting at_first are keeps wakes p inside apart = by_holder held.0 held.1 held.2 (has paths held.0) refl
      where
        p_is : (has left p ≡ true) × (has paths p ≡ false)
        p_is = in_rest p inside

        not_first : has ready p ≡ false
        not_first = ap (λ l. has l p) at_first ∙ fails (has (x ∷ rest) p) (λ h. elim (or_cases _ _ h) [
          | inl tie ↦ true≢false (sym (to_paths p p_is.0 (subst (λ y. reached need left x y ≡ true) (sym (tie_same p x tie)) (reached_itself need left x))) ∙ p_is.1)
          | inr later ↦ true≢false (sym (keeps p later) ∙ apart)
        ])

        held : (q : Path) × IsHeldBy need left p q × (has (linkers_of waiting q) p ≡ true)
        held = are p p_is.0 not_first

        by_holder : (q : Path) → IsHeldBy need left p q → has (linkers_of waiting q) p ≡ true → (b : Bool) → has paths q ≡ b → (q : Path) × IsHeldBy need (filter (λ q. not (has paths q)) left) p q × (has (linkers_of waiting q) p ≡ true)
        by_holder q is_held noted true out = absurd (true≢false (sym (wakes p q out noted) ∙ apart))
        by_holder q is_held noted false out = (q, still_held p q p_is.0 p_is.1 out is_held, noted)

-- levels
is_below-more : (o : Option ℕ) (n k : ℕ) → is_below o n ≡ true → nat_lt n k ≡ true → is_below o k ≡ true
is_below-more None n k h less = absurd (true≢false (sym h))
is_below-more (Some level) n k h less = lt-ltb level k (omega (arith, ltb-true level n h, ltb-true n k less))

is_below-next : (o : Option ℕ) (n : ℕ) → is_below o n ≡ true → is_below o (n + 1) ≡ true
is_below-next None n h = absurd (true≢false (sym h))
is_below-next (Some level) n h = lt-ltb level (n + 1) (omega (arith, ltb-true level n h))

-- a path of a lower level holds those that reach it
pub held_below : (need : Path → Path → Bool) (left : List Path) (levels : BTreeMap Path ℕ Global) (n : ℕ) → AreLevels need left levels → (p q : Path) → has left p ≡ true → has left q ≡ true → reached need left p q ≡ true →
    is_below (level_of levels p) n ≡ false → is_below (level_of levels q) n ≡ true → IsHeldBy need left p q
held_below need left levels n falls p q p_in q_in reaches over under = record {
  inside = q_in;
  reaches = reaches;
  apart = fails _ (λ h. true≢false (sym (in_closed need left (λ z. is_below (level_of levels z) n) (λ a z a_is z_in needed. falls n a z a_is z_in needed) left (λ r r_in. r_in) q p under p_in h) ∙ over));
}

pub levels_within : (need : Path → Path → Bool) (f : Path → Bool) (left : List Path) (levels : BTreeMap Path ℕ Global) → AreLevels need left levels → AreLevels need (filter f left) levels
levels_within need f left levels falls n p q under inside needed = falls n p q under (and_parts _ _ (sym (has_filter f left q) ∙ inside)).0 needed

module _ (need : Path → Path → Bool) (changed left : List Path) (start : Path) (levels levels' : BTreeMap Path ℕ Global) (n : ℕ) (paths : List Path) (inside_start : has left start ≡ true) (is : paths ≡ filter (reached need left start) left)
    (put : (q : Path) → level_of levels' q ≡ cond (has paths q) (Some n) (level_of levels q)) (were : AreLevelled need changed left levels n) where
  in_left : (q : Path) → has paths q ≡ true → has left q ≡ true
  in_left q h = (and_parts _ _ (sym (has_filter (reached need left start) left q) ∙ ap (λ l. has l q) (sym is) ∙ h)).0

  put_at : (q : Path) (b : Bool) → has paths q ≡ b → level_of levels' q ≡ cond b (Some n) (level_of levels q)
  put_at q b at = put q ∙ ap (λ b. cond b (Some n) (level_of levels q)) at

  falls_at : (k : ℕ) (p q : Path) (at_p at_q in_q : Bool) → has paths p ≡ at_p → has paths q ≡ at_q → has left q ≡ in_q → is_below (cond at_p (Some n) (level_of levels p)) k ≡ true →
      has changed q ≡ true → need p q ≡ true → is_below (cond at_q (Some n) (level_of levels q)) k ≡ true
  falls_at k p q true true in_q p_is q_is l_is under inside needed = under
  falls_at k p q true false true p_is q_is l_is under inside needed = absurd (true≢false (sym (closed_paths need left start inside_start paths is p q p_is l_is needed) ∙ q_is))
  falls_at k p q true false false p_is q_is l_is under inside needed = is_below-more (level_of levels q) n k (were.taken q inside l_is) under
  falls_at k p q false true in_q p_is q_is l_is under inside needed = absurd (true≢false (sym (were.falls k p q under inside needed) ∙ ap (λ o. is_below o k) (were.bare q (in_left q q_is))))
  falls_at k p q false false in_q p_is q_is l_is under inside needed = were.falls k p q under inside needed

  taken_at : (q : Path) (at in_q : Bool) → has paths q ≡ at → has left q ≡ in_q → has changed q ≡ true → (in_q && not at) ≡ false → is_below (cond at (Some n) (level_of levels q)) (n + 1) ≡ true
  taken_at q true in_q at_is l_is inside out = lt-ltb n (n + 1) (omega arith)
  taken_at q false true at_is l_is inside out = absurd (true≢false out)
  taken_at q false false at_is l_is inside out = is_below-next (level_of levels q) n (were.taken q inside l_is)

  pub levelled : AreLevelled need changed (filter (λ q. not (has paths q)) left) levels' (n + 1)
  levelled = record {
    falls = λ k p q under inside needed. ap (λ o. is_below o k) (put q) ∙ falls_at k p q (has paths p) (has paths q) (has left q) refl refl refl (ap (λ o. is_below o k) (sym (put p)) ∙ under) inside needed;
    taken = λ q inside out. ap (λ o. is_below o (n + 1)) (put q) ∙ taken_at q (has paths q) (has left q) refl refl inside (sym (has_filter (λ q. not (has paths q)) left q) ∙ out);
    bare = λ q h.
        let parts : (has left q ≡ true) × (not (has paths q) ≡ true) = and_parts _ _ (sym (has_filter (λ q. not (has paths q)) left q) ∙ h) in
        put_at q false (not-true _ parts.1) ∙ were.bare q parts.0;
  }

pub levelled_more : (need : Path → Path → Bool) (changed left : List Path) (levels : BTreeMap Path ℕ Global) (n : ℕ) → AreLevelled need changed left levels n → AreLevelled need changed left levels (n + 1)
levelled_more need changed left levels n were = record {
  falls = were.falls;
  taken = λ q inside out. is_below-next (level_of levels q) n (were.taken q inside out);
  bare = were.bare;
}

pub levelled_start : (need : Path → Path → Bool) (changed left : List Path) (levels : BTreeMap Path ℕ Global) → left ≡ changed → ((q : Path) → level_of levels q ≡ None) → AreLevelled need changed left levels 0
levelled_start need changed left levels same none = record {
  falls = λ k p q under inside needed. absurd (true≢false (sym under ∙ ap (λ o. is_below o k) (none p)));
  taken = λ q inside out. absurd (true≢false (sym inside ∙ ap (λ l. has l q) (sym same) ∙ out));
  bare = λ q h. none q;
}

pub levels_none : (need : Path → Path → Bool) (left : List Path) (levels : BTreeMap Path ℕ Global) → ((q : Path) → level_of levels q ≡ None) → AreLevels need left levels
levels_none need left levels none k p q under inside needed = absurd (true≢false (sym under ∙ ap (λ o. is_below o k) (none p)))

pub all_ready : (need : Path → Path → Bool) (left ready : List Path) (waiting : BTreeMap Path (Vec Path Global) Global) → ready ≡ left → AreWaiting need left ready waiting
all_ready need left ready waiting same p inside apart = absurd (true≢false (sym inside ∙ ap (λ l. has l p) (sym same) ∙ apart))

-- one more path of a kind
pub added_last : (kind : Path → Bool) (before old new : List Path) (x : Path) → new ≡ old ++ x ∷ [] → kind x ≡ true → Adds kind before old → Adds kind before new
added_last kind before old new x is good were q h = elim (or_cases _ _ (sym (list_any-append (eq_by_cmp text_cmp q) old (x ∷ [])) ∙ ap (λ l. has l q) (sym is) ∙ h)) [
  | inl early ↦ were q early
  | inr last ↦ inr (ap kind (tie_same q x (only_one _ last)) ∙ good)
]
  where
    only_one : (b : Bool) → (b || false) ≡ true → b ≡ true
    only_one true h = refl
    only_one false h = h

-- a walk back along needs
module _ (need : Path → Path → Bool) (changed : List Path) (to : Path) where
  pub back_start : has changed to ≡ true → (l : List Path) → ((q : Path) → has l q ≡ true → eq_by_cmp text_cmp q to ≡ true) → (q : Path) → has l q ≡ true → (has changed q && reached need changed q to) ≡ true
  back_start inside l one q h = subst (λ q. (has changed q && reached need changed q to) ≡ true) (sym (tie_same q to (one q h))) (and_from _ _ inside (reached_itself need changed to))

  pub back_step : (path : Path) → (has changed path && reached need changed path to) ≡ true → (found : List Path) → Adds (λ q. has changed q && need q path) [] found →
      (old new : List Path) → ((q : Path) → has old q ≡ true → (has changed q && reached need changed q to) ≡ true) → Adds (has found) old new →
      (q : Path) → has new q ≡ true → (has changed q && reached need changed q to) ≡ true
  back_step path path_is found finds old new were adds q h = elim (adds q h) [
    | inl early ↦ were q early
    | inr later ↦ elim (finds q later) [
      | inl none ↦ absurd (true≢false (sym none))
      | inr kind ↦ and_from _ _ (and_parts _ _ kind).0 (through need changed path q to (and_parts _ _ path_is).0 (reached_needed need changed q path (and_parts _ _ kind).1) (and_parts _ _ path_is).1)
    ]
  ]

pub some_fewer : (seen changed : List Path) → IsInOrder seen → ((q : Path) → has seen q ≡ true → has changed q ≡ true) → length seen ≤ length changed
some_fewer seen changed order within = length-le_from_is_member (eq_by_cmp_equiv nat_list_cmp_total) seen changed (IsDistinct-from_sorted text_cmp seen order) within

find_holds : (f : Path → Bool) (l : List Path) (y : Path) → Some y ≡ find f l → (has l y ≡ true) × (f y ≡ true)
find_holds f [] y is = absurd (none-some y (sym is))
find_holds f (h ∷ l) y is = by_test (f h) refl is (find_holds f l y)
  where
    by_test : (b : Bool) → f h ≡ b → Some y ≡ cond b (Some h) (find f l) → (Some y ≡ find f l → (has l y ≡ true) × (f y ≡ true)) → (has (h ∷ l) y ≡ true) × (f y ≡ true)
    by_test true at is later = let same : y ≡ h = same_Some y h is in (or_left _ _ (ap (λ h. eq_by_cmp text_cmp y h) (sym same) ∙ tie_itself y), ap f same ∙ at)
    by_test false at is later = let found : (has l y ≡ true) × (f y ≡ true) = later is in (or_right _ _ found.0, found.1)

find_fails : (f : Path → Bool) (l : List Path) → None ≡ find f l → (y : Path) → has l y ≡ true → f y ≡ false
find_fails f [] is y inside = absurd (true≢false (sym inside))
find_fails f (h ∷ l) is y inside = by_test (f h) refl is (find_fails f l)
  where
    by_test : (b : Bool) → f h ≡ b → None ≡ cond b (Some h) (find f l) → (None ≡ find f l → (y : Path) → has l y ≡ true → f y ≡ false) → f y ≡ false
    by_test true at is later = absurd (none-some h is)
    by_test false at is later = elim (or_cases _ _ inside) [
      | inl tie ↦ ap f (tie_same y h tie) ∙ at
      | inr behind ↦ later is y behind
    ]

module _ (need : Path → Path → Bool) (changed : List Path) (x : Path) (paths : List Path) (is : paths ≡ filter (reached need changed x) changed) where
  pub paths_within : (q : Path) → has paths q ≡ true → has changed q ≡ true
  paths_within q h = (and_parts _ _ (sym (has_filter (reached need changed x) changed q) ∙ ap (λ l. has l q) (sym is) ∙ h)).0

  -- one that is reached and doesn't lead back holds the path, and if there is none, the path is a knot
  pub found_holder : (y : Path) → Some y ≡ find (λ q. not (reached need changed q x)) paths → IsHeldBy need changed x y
  found_holder y found =
      let there : (has paths y ≡ true) × (not (reached need changed y x) ≡ true) = find_holds (λ q. not (reached need changed q x)) paths y found in
      let both : (has changed y && reached need changed x y) ≡ true = sym (has_filter (reached need changed x) changed y) ∙ ap (λ l. has l y) (sym is) ∙ there.0 in
      record { inside = (and_parts _ _ both).0; reaches = (and_parts _ _ both).1; apart = not-true _ there.1 }

  pub no_holder : None ≡ find (λ q. not (reached need changed q x)) paths → is_knot need changed x ≡ true
  no_holder none = all_from (λ q. not (reached need changed x q) || reached need changed q x) changed (λ q inside. at q inside (reached need changed x q) refl)
    where
      not-not : (b : Bool) → not b ≡ false → b ≡ true
      not-not true h = refl
      not-not false h = sym h

      at : (q : Path) → has changed q ≡ true → (b : Bool) → reached need changed x q ≡ b → (not (reached need changed x q) || reached need changed q x) ≡ true
      at q inside true reaches = or_right _ _ (not-not _ (find_fails (λ q. not (reached need changed q x)) paths none q (ap (λ l. has l q) is ∙ has_filter (reached need changed x) changed q ∙ and_from _ _ inside reaches)))
      at q inside false reaches = or_left _ _ (not-false _ reaches)

pub only_one : (b : Bool) → (b || false) ≡ true → b ≡ true
only_one true h = refl
only_one false h = h

pub popped_early : (rest : List Path) (path q : Path) → has rest q ≡ true → has (rest ++ path ∷ []) q ≡ true
popped_early rest path q h = list_any-append (eq_by_cmp text_cmp q) rest (path ∷ []) ∙ or_left _ _ h

pub walk_smaller : (n s s' d d' p : ℕ) → s ≤ s' → s' ≤ n → d' + s ≡ p + s' → d ≡ p + 1 → 2 * (n - s') + d' < 2 * (n - s) + d
walk_smaller n s s' d d' p grows fits count popped = omega (arith, grows, fits, count, popped)

pub none_fact : {X : Type 0} {P : Type 0} (o : Option X) → is_some o ≡ false → IfNone o P → P
none_fact None none fact = fact
none_fact (Some x) none fact = absurd (true≢false none)

module _ (need : Path → Path → Bool) (changed : List Path) (x : Path) (paths : List Path) (is : paths ≡ filter (reached need changed x) changed) where
  pub knot_unless : (o : Option Path) → o ≡ find (λ q. not (reached need changed q x)) paths → IfNone o (is_knot need changed x ≡ true)
  knot_unless None found = no_holder need changed x paths is found
  knot_unless (Some y) found = tt

  pub held_if : (o : Option Path) → o ≡ find (λ q. not (reached need changed q x)) paths → IfSome o (IsHeldBy need changed x)
  held_if None found = tt
  held_if (Some y) found = found_holder need changed x paths is y found

pub added_within : (changed seen seen' : List Path) (path : Path) → has changed path ≡ true → ((q : Path) → has seen' q ≡ (eq_by_cmp text_cmp q path || has seen q)) → ((q : Path) → has seen q ≡ true → has changed q ≡ true) →
    (q : Path) → has seen' q ≡ true → has changed q ≡ true
added_within changed seen seen' path inside adds within q h = elim (or_cases _ _ (sym (adds q) ∙ h)) [
  | inl tie ↦ ap (has changed) (tie_same q path tie) ∙ inside
  | inr old ↦ within q old
]

pub one_more : (n s s' : ℕ) → s' ≤ n → s' ≡ s + 1 → n - s' < n - s
one_more n s s' fits more = omega (arith, fits, more)

pub none_is : {X : Type 0} {P : Type 0} (o : Option X) → o ≡ None → IfNone o P → P
none_is None is fact = fact
none_is (Some x) is fact = absurd (none-some x (sym is))

pub some_is : {X : Type 0} (P : X → Type 0) (o : Option X) (x : X) → o ≡ Some x → IfSome o P → P x
some_is P None x is fact = absurd (none-some x is)
some_is P (Some y) x is fact = subst P (same_Some y x is) fact

pub none_popped : (l : List Path) → (0 < length l → ⊥) → l ≡ []
none_popped [] none = refl
none_popped (x ∷ l) none = absurd (none (omega arith))
