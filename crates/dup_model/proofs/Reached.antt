-- What is reached by needs.
use Rattle.dup_model.proofs.Closed.{IsClosedBy, ReachesBy}
use Rattle.std.proofs.Common.{◌≡◌, ◌↔◌, inl, inr, Bool, true, false, cond, ◌||◌, ◌&&◌, List, [], ◌∷◌, refl, sym, subst, ◌∙◌}
use Rattle.std.specs.List.{filter}
use Rattle.std.specs.Ordering.{eq_by_cmp}
use Rattle.std.specs.Cmp.{Equal-is, eq_by_cmp_equiv}
use Rattle.std.specs.Cmp.Lexicographic.{nat_list_cmp_total}
use Rattle.std.specs.Prelude.{bytes_eq}
use Rattle.std.proofs.lemmas.Bool.{true≢false, and_parts, and_from, or_cases, or_left}
use Rattle.std.proofs.Math.Bool.{or-true}
use Rattle.std.proofs.lemmas.Slice.Eq.{bytes_eq-Decides}
use Rattle.std.specs.FinMap as fin
use Rattle.dup_model.proofs.Closed.ReachesBy.{itself-by, further-by}
use Rattle.dup_names.specs.Words.{Path}
use Rattle.dup_model.specs.Needs.{Looks, Paths, needs, changed}
use Rattle.dup_names.specs.Order.{text_cmp}
use Rattle.dup_model.specs.Editions.{has}
use Rattle.dup_model.specs.Bundles.{reached}

pub or_right : (x y : Bool) → y ≡ true → (x || y) ≡ true
or_right x y h = rw h (or-true x)

pub tie_same : (p q : Path) → eq_by_cmp text_cmp p q ≡ true → p ≡ q
tie_same p q tie = fin.slice_cmp-IsAntisymmetric fin.nat_cmp-IsAntisymmetric p q ((Equal-is _).0 tie)

pub tie_itself : (p : Path) → eq_by_cmp text_cmp p p ≡ true
tie_itself p = (eq_by_cmp_equiv nat_list_cmp_total).refl p

bytes_itself : (p : Path) → bytes_eq p p ≡ true
bytes_itself p = (bytes_eq-Decides p p).1 refl

module _ (need : Path → Path → Bool) where
  pub reached_itself : (rs : List Path) (p : Path) → reached need rs p p ≡ true
  reached_itself [] p = or_left (bytes_eq p p) (need p p) (bytes_itself p)
  reached_itself (r ∷ rs) p = or_left _ _ (reached_itself rs p)

  pub reached_needed : (rs : List Path) (p q : Path) → need p q ≡ true → reached need rs p q ≡ true
  reached_needed [] p q h = or_right _ _ h
  reached_needed (r ∷ rs) p q h = or_left _ _ (reached_needed rs p q h)

  to_first : (r : Path) (rs : List Path) (p : Path) → reached need (r ∷ rs) p r ≡ true → reached need rs p r ≡ true
  to_first r rs p h = elim (or_cases _ _ h) [ inl direct ↦ direct | inr both ↦ (and_parts _ _ both).0 ]

  from_first : (r : Path) (rs : List Path) (q : Path) → reached need (r ∷ rs) r q ≡ true → reached need rs r q ≡ true
  from_first r rs q h = elim (or_cases _ _ h) [ inl direct ↦ direct | inr both ↦ (and_parts _ _ both).1 ]

  by_first : (r : Path) (rs : List Path) (p q : Path) → reached need rs p r ≡ true → reached need rs r q ≡ true → reached need (r ∷ rs) p q ≡ true
  by_first r rs p q h k = or_right (reached need rs p q) _ (and_from _ _ h k)

  -- through one of the list, reaching is transitive
  pub through : (rs : List Path) (z p q : Path) → has rs z ≡ true → reached need rs p z ≡ true → reached need rs z q ≡ true → reached need rs p q ≡ true
  through [] z p q inside h k = absurd (true≢false (sym inside))
  through (r ∷ rs) z p q inside h k = elim (or_cases _ _ inside) [
    | inl tie ↦
        let same : z ≡ r = tie_same z r tie in
        by_first r rs p q (to_first r rs p (subst (λ z. reached need (r ∷ rs) p z ≡ true) same h)) (from_first r rs q (subst (λ z. reached need (r ∷ rs) z q ≡ true) same k))
    | inr later ↦ elim (or_cases _ _ h) [
      | inl p_z ↦ elim (or_cases _ _ k) [
        | inl z_q ↦ or_left _ _ (through rs z p q later p_z z_q)
        | inr z_r_q ↦ by_first r rs p q (through rs z p r later p_z (and_parts _ _ z_r_q).0) (and_parts _ _ z_r_q).1
      ]
      | inr p_r_z ↦ elim (or_cases _ _ k) [
        | inl z_q ↦ by_first r rs p q (and_parts _ _ p_r_z).0 (through rs z r q later (and_parts _ _ p_r_z).1 z_q)
        | inr z_r_q ↦ by_first r rs p q (and_parts _ _ p_r_z).0 (and_parts _ _ z_r_q).1
      ]
    ]
  ]

module _ (e t : Looks) where
  Reaches-then : {p q r : Path} → ReachesBy e t p q → ReachesBy e t q r → ReachesBy e t p r
  Reaches-then h itself-by = h
  Reaches-then h (further-by k r needed changes) = further-by (Reaches-then h k) r needed changes

  pub Reaches-from_reached : (rs : List Path) → ((r : Path) → has rs r ≡ true → changed e t r ≡ true) → (p q : Path) → changed e t q ≡ true → reached (needs e t) rs p q ≡ true → ReachesBy e t p q
  Reaches-from_reached [] all p q changes h = elim (or_cases _ _ h) [
    | inl same ↦ subst (ReachesBy e t p) ((bytes_eq-Decides p q).0 same) itself-by
    | inr needed ↦ further-by itself-by q needed changes
  ]
  Reaches-from_reached (r ∷ rs) all p q changes h = elim (or_cases _ _ h) [
    | inl direct ↦ Reaches-from_reached rs (λ x inside. all x (or_right _ _ inside)) p q changes direct
    | inr both ↦ Reaches-then
        (Reaches-from_reached rs (λ x inside. all x (or_right _ _ inside)) p r (all r (or_left _ _ (tie_itself r))) (and_parts _ _ both).0)
        (Reaches-from_reached rs (λ x inside. all x (or_right _ _ inside)) r q changes (and_parts _ _ both).1)
  ]

  -- what is reached is in each closed set that has the start
  pub Reaches-closed : (s : Paths) → IsClosedBy e t s → {p q : Path} → s p ≡ true → ReachesBy e t p q → s q ≡ true
  Reaches-closed s closed start itself-by = start
  Reaches-closed s closed start (further-by {q} h r needed changes) = closed q r (Reaches-closed s closed start h) needed changes

and_false : (b : Bool) → (b && false) ≡ false
and_false true = refl
and_false false = refl

has_filter_at : (f : Path → Bool) (p q : Path) (kept : List Path) (more : Bool) → has kept q ≡ (more && f q) → (tie : Bool) → eq_by_cmp text_cmp q p ≡ tie → (b : Bool) → f p ≡ b →
    has (cond b (p ∷ kept) kept) q ≡ ((tie || more) && f q)
has_filter_at f p q kept more rest true is true keeps = rw (is, tie_same q p is, keeps)
has_filter_at f p q kept more rest true is false keeps = rest ∙ rw (tie_same q p is, keeps) (and_false more)
has_filter_at f p q kept more rest false is true keeps = rw is rest
has_filter_at f p q kept more rest false is false keeps = rest

pub has_filter : (f : Path → Bool) (rs : List Path) (q : Path) → has (filter f rs) q ≡ (has rs q && f q)
has_filter f [] q = refl
has_filter f (p ∷ rs) q = has_filter_at f p q (filter f rs) (has rs q) (has_filter f rs q) (eq_by_cmp text_cmp q p) refl (f p) refl

-- the bundle, as a test, over changed paths that are all there are
module _ (e t : Looks) (ps : List Path) (only : (r : Path) → has ps r ≡ true → changed e t r ≡ true) (all : (r : Path) → changed e t r ≡ true → has ps r ≡ true) where
  of_reached : (p q : Path) → has (filter (reached (needs e t) ps p) ps) q ≡ true → (has ps q ≡ true) × (reached (needs e t) ps p q ≡ true)
  of_reached p q inside = and_parts _ _ (sym (has_filter (reached (needs e t) ps p) ps q) ∙ inside)

  to_reached : (p q : Path) → has ps q ≡ true → reached (needs e t) ps p q ≡ true → has (filter (reached (needs e t) ps p) ps) q ≡ true
  to_reached p q inside h = has_filter (reached (needs e t) ps p) ps q ∙ and_from _ _ inside h

  pub closed_reached : (p : Path) → IsClosedBy e t (has (filter (reached (needs e t) ps p) ps))
  closed_reached p q r inside needed changes =
      let q_is : (has ps q ≡ true) × (reached (needs e t) ps p q ≡ true) = of_reached p q inside in
      to_reached p r (all r changes) (through (needs e t) ps q p r q_is.0 q_is.1 (reached_needed (needs e t) ps q r needed))

  pub start_reached : (p : Path) → has ps p ≡ true → has (filter (reached (needs e t) ps p) ps) p ≡ true
  start_reached p inside = to_reached p p inside (reached_itself (needs e t) ps p)

  pub exactly_reached : (p : Path) → has ps p ≡ true → (q : Path) → (has (filter (reached (needs e t) ps p) ps) q ≡ true) ↔ ReachesBy e t p q
  exactly_reached p inside q = (
    λ h. Reaches-from_reached e t ps only p q (only q (of_reached p q h).0) (of_reached p q h).1,
    Reaches-closed e t (has (filter (reached (needs e t) ps p) ps)) (closed_reached p) (start_reached p inside),
  )
