-- The bundles of a target are known at once: publishing one leaves the needs among the other changed paths.
use Rattle.std.proofs.Common.{◌≡◌, Bool, true, false, not, cond, ◌||◌, ◌&&◌, ◌<◌, List, [], ◌∷◌, ◌++◌, append_assoc, drop, length, Option, Some, None, refl, sym, ap, subst, ◌∙◌}
use Rattle.std.specs.Option.{is_none, option_eq, option_map}
use Rattle.std.specs.Prelude.{bytes_eq}
use Rattle.std.specs.List.{filter, find, list_all, slice_get}
use Rattle.std.proofs.lemmas.Bool.{true≢false, and_from, and_parts, or_left}
use Rattle.std.proofs.lemmas.Option.{none-some, same_Some}
use Rattle.std.proofs.lemmas.List.Kept.{IsStrictlySortedBy-filter}
use Rattle.dup_names.specs.Order.{text_cmp}
use Rattle.dup_names.specs.Words.{Path}
use Rattle.dup_names.specs.declared.value.Look.{Look}
use Rattle.dup_model.specs.Bundles.{bundle_from, changed_paths, is_knot, reached, start_of}
use Rattle.dup_model.specs.Commits.{Commit}
use Rattle.dup_model.specs.Editions.{bundle_of, edition, has, looks, target_looks}
use Rattle.dup_model.specs.Needs.{IsSound, Looks, Paths, changed, clash, links, mixed, needs, same_look}
use Rattle.dup_model.proofs.Absorb.{looks_after_bundle}
use Rattle.dup_model.proofs.Push.{edition_snoc}
use Rattle.dup_model.proofs.Reached.{has_filter, or_right, reached_itself, tie_itself}
use Rattle.dup_model.proofs.SameLooks.{changed_mixed, option_itself}
use Rattle.dup_model.proofs.Sound.{needed_changed}
use Rattle.dup_model.specs.Finest.{IsFinest}
use Rattle.dup_edition.specs.Logged.{Logged, appended}
use Rattle.dup_bundle.specs.Between.{bundle, is_needed, AreChanged}
use Rattle.dup_bundle.specs.Schedule.{IsOrder, IsSchedule}
use Rattle.dup_bundle.specs.Targets.{Aim}
use Rattle.dup_bundle.proofs.Exact.{changed_in_order, exact, has_changed}
use Rattle.dup_bundle.proofs.Knots.{found_there}
use Rattle.dup_bundle.proofs.Paths.{shorter}

-- a need looks at the edition at its end alone
pub needs_stay : (e t : Looks) (s : Paths) (p q : Path) → s q ≡ false → needs (mixed s e t) t p q ≡ needs e t p q
needs_stay e t s p q out =
    let at : Option Look → Bool = λ o. not (bytes_eq p q) && (clash (t p) o || links (t p) q && is_none o || is_none (t p) && links o p) in
    ap (λ b. at (cond b (t q) (e q))) out

not-true : (b : Bool) → not b ≡ true → b ≡ false
not-true true h = sym h
not-true false h = refl

-- a finest set of which nothing is published stays one
module _ (e t : Looks) (s r : Paths) (sound : IsSound t) (is : IsFinest e t r) (apart : (p : Path) → r p ≡ true → s p ≡ false) where
  change_stays : (p : Path) → s p ≡ false → changed (mixed s e t) t p ≡ changed e t p
  change_stays p out = ap (λ b. not (option_eq same_look (cond b (t p) (e p)) (t p))) out

  no_change : (p : Path) → s p ≡ true → changed (mixed s e t) t p ≡ false
  no_change p inside = ap (λ b. not (option_eq same_look (cond b (t p) (e p)) (t p))) inside ∙ ap not (option_itself (t p))

  still : (p : Path) → r p ≡ true → changed (mixed s e t) t p ≡ true
  still p inside = change_stays p (apart p inside) ∙ is.only p inside

  closed_at : (p q : Path) → r p ≡ true → needs (mixed s e t) t p q ≡ true → (b : Bool) → s q ≡ b → r q ≡ true
  closed_at p q inside needed true out = absurd (true≢false (sym (needed_changed (mixed s e t) t sound p q (still p inside) needed) ∙ no_change q out))
  closed_at p q inside needed false out = is.closed p q inside (sym (needs_stay e t s p q out) ∙ needed)

  pub finest_stays : IsFinest (mixed s e t) t r
  finest_stays = record {
    some = is.some;
    only = still;
    closed = λ p q inside needed. closed_at p q inside needed (s q) refl;
    finest = λ part some within closed p inside. is.finest part some within
        (λ x y x_in needed. closed x y x_in (needs_stay e t s x y (apart y (is.closed x y (within x x_in) needed)) ∙ needed)) p inside;
  }

-- what is reached, where it starts and the bundle depend on the needs of these paths alone
module _ (a b : Path → Path → Bool) (ps : List Path) (same : (p q : Path) → has ps q ≡ true → a p q ≡ b p q) where
  same_reached : (rs : List Path) → ((r : Path) → has rs r ≡ true → has ps r ≡ true) → (p q : Path) → has ps q ≡ true → reached a rs p q ≡ reached b rs p q
  same_reached [] within p q inside = ap (λ n. bytes_eq p q || n) (same p q inside)
  same_reached (r ∷ rs) within p q inside =
      let later : (x : Path) → has rs x ≡ true → has ps x ≡ true = λ x h. within x (or_right _ _ h) in
      let r_in : has ps r ≡ true = within r (or_left _ _ (tie_itself r)) in
      rw (same_reached rs later p q inside, same_reached rs later p r r_in, same_reached rs later r q inside) refl

  whole : (p q : Path) → has ps q ≡ true → reached a ps p q ≡ reached b ps p q
  whole p q inside = same_reached ps (λ r h. h) p q inside

  same_all : (f g : Path → Bool) (rs : List Path) → ((r : Path) → has rs r ≡ true → f r ≡ g r) → list_all f rs ≡ list_all g rs
  same_all f g [] each = refl
  same_all f g (r ∷ rs) each = rw (each r (or_left _ _ (tie_itself r)), same_all f g rs (λ x h. each x (or_right _ _ h))) refl

  same_find : (f g : Path → Bool) (rs : List Path) → ((r : Path) → has rs r ≡ true → f r ≡ g r) → find f rs ≡ find g rs
  same_find f g [] each = refl
  same_find f g (r ∷ rs) each = rw (each r (or_left _ _ (tie_itself r)), same_find f g rs (λ x h. each x (or_right _ _ h))) refl

  same_filter : (f g : Path → Bool) (rs : List Path) → ((r : Path) → has rs r ≡ true → f r ≡ g r) → filter f rs ≡ filter g rs
  same_filter f g [] each = refl
  same_filter f g (r ∷ rs) each = rw (each r (or_left _ _ (tie_itself r)), same_filter f g rs (λ x h. each x (or_right _ _ h))) refl

  same_knot : (p : Path) → has ps p ≡ true → is_knot a ps p ≡ is_knot b ps p
  same_knot p inside = same_all (λ q. not (reached a ps p q) || reached a ps q p) (λ q. not (reached b ps p q) || reached b ps q p) ps
      (λ q q_in. rw (whole p q q_in, whole q p inside) refl)

  same_start : start_of a ps ≡ start_of b ps
  same_start = same_find (is_knot a ps) (is_knot b ps) ps same_knot

  at_start : (o : Option Path) → option_map (λ p. filter (reached a ps p) ps) o ≡ option_map (λ p. filter (reached b ps p) ps) o
  at_start None = refl
  at_start (Some p) = ap Some (same_filter (reached a ps p) (reached b ps p) ps (λ q inside. whole p q inside))

  pub same_bundle : bundle_from a ps ≡ bundle_from b ps
  same_bundle = ap (λ s. option_map (λ p. filter (reached a ps p) ps) s) same_start ∙ at_start (start_of b ps)

pub swap : (a b : Bool) → (a && b) ≡ (b && a)
swap true true = refl
swap true false = refl
swap false true = refl
swap false false = refl

-- once paths are published as the target has them
module _ (e : Logged) (t : Aim) (commits : List Commit) (paths : List Path) where
  after : Logged
  after = appended e (bundle_of t.pages t.version commits paths)

  looks_after : (q : Path) → looks (edition after.log) q ≡ mixed (has paths) (looks (edition e.log)) (target_looks t.pages) q
  unfolding after
  looks_after q = ap (λ m. looks m q) (edition_snoc e.log (bundle_of t.pages t.version commits paths)) ∙ looks_after_bundle t.pages t.version (edition e.log) commits paths q

  still_changed : (q : Path) → changed (looks (edition after.log)) (target_looks t.pages) q ≡ (not (has paths q) && changed (looks (edition e.log)) (target_looks t.pages) q)
  still_changed q =
      ap (λ o. not (option_eq same_look o (target_looks t.pages q))) (looks_after q)
      ∙ changed_mixed (has paths q) (looks (edition e.log) q) (target_looks t.pages q)

  left_after : filter (λ q. not (has paths q)) (changed_paths (edition e.log) t.pages) ≡ changed_paths (edition after.log) t.pages
  left_after = exact (edition after.log) t.pages (filter (λ q. not (has paths q)) (changed_paths (edition e.log) t.pages))
      (IsStrictlySortedBy-filter text_cmp (λ q. not (has paths q)) (changed_paths (edition e.log) t.pages) (changed_in_order (edition e.log) t.pages))
      (λ q. has_filter (λ q. not (has paths q)) (changed_paths (edition e.log) t.pages) q
      ∙ swap (has (changed_paths (edition e.log) t.pages) q) (not (has paths q))
      ∙ ap (λ b. not (has paths q) && b) (has_changed (edition e.log) t.pages q)
      ∙ sym (still_changed q))

  need_after : (p q : Path) → has paths q ≡ false → is_needed after t p q ≡ is_needed e t p q
  need_after p q out =
      let at : Option Look → Bool = λ o. not (bytes_eq p q) && (clash (target_looks t.pages p) o || links (target_looks t.pages p) q && is_none o || is_none (target_looks t.pages p) && links o p) in
      ap at (looks_after q) ∙ needs_stay (looks (edition e.log)) (target_looks t.pages) (has paths) p q out

  out_of : (q : Path) → has (filter (λ q. not (has paths q)) (changed_paths (edition e.log) t.pages)) q ≡ true → (has (changed_paths (edition e.log) t.pages) q ≡ true) × (has paths q ≡ false)
  out_of q inside =
      let parts : (has (changed_paths (edition e.log) t.pages) q ≡ true) × (not (has paths q) ≡ true) = and_parts _ _ (sym (has_filter (λ q. not (has paths q)) (changed_paths (edition e.log) t.pages) q) ∙ inside) in
      (parts.0, not-true _ parts.1)

-- what is changed once paths are published
pub left_published : (e : Logged) (t : Aim) (commits : List Commit) (paths : List Path) →
    filter (λ q. not (has paths q)) (changed_paths (edition e.log) t.pages) ≡ changed_paths (edition (appended e (bundle_of t.pages t.version commits paths)).log) t.pages
unfolding after
left_published e t commits paths = left_after e t commits paths

-- so the bundles over the changed paths and their needs are those that are published
pub scheduled : (need : Path → Path → Bool) (t : Aim) (bundles : List (List Path)) (e : Logged) → ((p q : Path) → has (changed_paths (edition e.log) t.pages) q ≡ true → is_needed e t p q ≡ need p q) →
    IsOrder need (changed_paths (edition e.log) t.pages) bundles → IsSchedule e t bundles
unfolding after
scheduled need t [] e same none = same_bundle (is_needed e t) need (changed_paths (edition e.log) t.pages) same ∙ none
scheduled need t (paths ∷ later) e same (first, rest) = (
  same_bundle (is_needed e t) need (changed_paths (edition e.log) t.pages) same ∙ first,
  λ commits. scheduled need t later (after e t commits paths)
      (λ p q inside.
      let out : (has (changed_paths (edition e.log) t.pages) q ≡ true) × (has paths q ≡ false) = out_of e t commits paths q (ap (λ l. has l q) (left_after e t commits paths) ∙ inside) in
      need_after e t commits paths p q out.1 ∙ same p q out.0)
      (subst (λ l. IsOrder need l later) (left_after e t commits paths) rest),
)

-- the same where the changed paths are known
pub ordered : (e : Logged) (t : Aim) (bundles : List (List Path)) (left : List Path) → left ≡ changed_paths (edition e.log) t.pages → IsOrder (is_needed e t) left bundles → IsSchedule e t bundles
ordered e t bundles left is order = scheduled (is_needed e t) t bundles e (λ p q inside. refl) (subst (λ l. IsOrder (is_needed e t) l bundles) is order)

-- what is published next, and what then
pub next_is : (e : Logged) (t : Aim) (bundles : List (List Path)) → IsSchedule e t bundles → slice_get bundles 0 ≡ bundle e t
next_is e t [] none = sym none
next_is e t (paths ∷ later) (first, rest) = sym first

pub goes_on : (e : Logged) (t : Aim) (commits : List Commit) (bundles : List (List Path)) (paths : List Path) → bundle e t ≡ Some paths → IsSchedule e t bundles →
    IsSchedule (appended e (bundle_of t.pages t.version commits paths)) t (drop 1 bundles)
goes_on e t commits [] paths is none = absurd (none-some paths (sym none ∙ is))
goes_on e t commits (first ∷ later) paths is (first_is, rest) =
    subst (λ ps. IsSchedule (appended e (bundle_of t.pages t.version commits ps)) t later) (same_Some first paths (sym first_is ∙ is)) (rest commits)

-- the bundles that are taken one after the other
pub left_changed : (e : Logged) (t : Aim) (f : Path → Bool) (left : List Path) → AreChanged e t left → AreChanged e t (filter f left)
left_changed e t f left are = record {
  only = λ q inside. are.only q (and_parts _ _ (sym (has_filter f left q) ∙ inside)).0;
  order = IsStrictlySortedBy-filter text_cmp f left are.order;
}

module _ (need : Path → Path → Bool) (left paths : List Path) (first : bundle_from need left ≡ Some paths) where
  at_start_of : (o : Option Path) → start_of need left ≡ o → option_map (λ p. filter (reached need left p) left) o ≡ Some paths → (p : Path) × (has left p ≡ true) × (has paths p ≡ true)
  at_start_of None is answer = absurd (none-some paths answer)
  at_start_of (Some p) is answer =
      let inside : has left p ≡ true = found_there (is_knot need left) left p is in (
        p,
        inside,
        ap (λ l. has l p) (sym (same_Some _ paths answer)) ∙ has_filter (reached need left p) left p ∙ and_from _ _ inside (reached_itself need left p),
      )

  pub fewer_left : length (filter (λ q. not (has paths q)) left) < length left
  fewer_left =
      let start : (p : Path) × (has left p ≡ true) × (has paths p ≡ true) = at_start_of (start_of need left) refl first in
      shorter (λ q. not (has paths q)) left start.0 start.1 (ap not start.2)

  pub taken : (changed : List Path) (done : List (List Path)) → ((later : List (List Path)) → IsOrder need left later → IsOrder need changed (done ++ later)) →
      (later : List (List Path)) → IsOrder need (filter (λ q. not (has paths q)) left) later → IsOrder need changed ((done ++ paths ∷ []) ++ later)
  taken changed done so_far later rest = subst (IsOrder need changed) (sym (append_assoc done (paths ∷ []) later)) (so_far (paths ∷ later) (first, rest))
