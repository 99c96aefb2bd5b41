-- Publishing comes to an end.
use Rattle.std.proofs.Common.{◌≡◌, ℕ, zero, suc, ◌+◌, ◌<◌, ◌≤◌, inl, inr, Bool, true, false, not, cond, ◌&&◌, List, [], ◌∷◌, length, take, drop, refl, sym, ap, subst, ◌∙◌, arith}
use Rattle.std.specs.Prelude.{Option, Some, None}
use Rattle.std.specs.Option.{option_eq}
use Rattle.std.specs.List.{fold, filter}
use Rattle.std.proofs.lemmas.Bool.{true≢false, or_cases, and_parts}
use Rattle.std.specs.Ordering.{eq_by_cmp}
use Rattle.dup_names.specs.Order.{text_cmp}
use Rattle.dup_template.specs.declared.site.Parts.{Parts}
use Rattle.dup_names.specs.Words.{Path}
use Rattle.dup_model.specs.Pages.{target_at}
use Rattle.dup_model.specs.Journal.{Limits}
use Rattle.dup_model.specs.Pages.{Target}
use Rattle.dup_model.specs.Needs.{changed, same_look}
use Rattle.dup_model.specs.Editions.{Bundle, edition, history, looks, target_looks, bundle_of, has}
use Rattle.dup_model.specs.Bundles.{bundle, changed_paths}
use Rattle.dup_machine.specs.World.{Told, World, told}
use Rattle.dup_machine.specs.World.Told.{NothingChanged}
use Rattle.dup_machine.specs.World.Event.{Publish}
use Rattle.dup_machine.specs.Press.{target_of, published_by}
use Rattle.dup_machine.specs.Presses.{version_of}
use Rattle.dup_machine.specs.Run.{step}
use Rattle.dup_machine.specs.Until.{LastTold}
use Rattle.dup_machine.specs.Settle.{AllPublished, IsPublished, PublishEnds, publishing}
use Rattle.dup_machine.proofs.LastReply.{told_once}
use Rattle.dup_model.proofs.Absorb.{looks_after_bundle}
use Rattle.dup_model.proofs.Reached.{tie_same}
use Rattle.dup_model.proofs.ChangedPaths.{all_changed}
use Rattle.dup_model.proofs.BundleFacts.{bundle_first, bundle_none}
use Rattle.dup_model.proofs.Push.{edition_snoc}
use Rattle.dup_model.proofs.SameLooks.{changed_mixed}

count : (Path → Bool) → List Path → ℕ
count f ps = length (filter f ps)

no_more : (f g : Path → Bool) → ((q : Path) → g q ≡ true → f q ≡ true) → (ps : List Path) → count g ps ≤ count f ps
unfolding count
no_more f g less [] = omega arith
no_more f g less (p ∷ ps) = by_both (g p) (f p) (less p) (no_more f g less ps)
  where
    by_both : (x y : Bool) → (x ≡ true → y ≡ true) → length (filter g ps) ≤ length (filter f ps) → length (cond x (p ∷ filter g ps) (filter g ps)) ≤ length (cond y (p ∷ filter f ps) (filter f ps))
    by_both true true h rest = omega (arith, rest)
    by_both true false h rest = absurd (true≢false (sym (h refl)))
    by_both false true h rest = omega (arith, rest)
    by_both false false h rest = rest

fewer : (f g : Path → Bool) → ((q : Path) → g q ≡ true → f q ≡ true) → (ps : List Path) (p : Path) → has ps p ≡ true → f p ≡ true → g p ≡ false → suc (count g ps) ≤ count f ps
unfolding count
fewer f g less [] p inside was isnt = absurd (true≢false (sym inside))
fewer f g less (x ∷ ps) p inside was isnt = elim (or_cases (eq_by_cmp text_cmp p x) (has ps p) inside) [
  | inl tie ↦
      let one : p ≡ x = tie_same p x tie in
      rw (ap f (sym one) ∙ was, ap g (sym one) ∙ isnt) (omega (arith, no_more f g less ps))
  | inr later ↦ by_both (g x) (f x) (less x) (fewer f g less ps p later was isnt)
]
  where
    by_both : (a b : Bool) → (a ≡ true → b ≡ true) → suc (length (filter g ps)) ≤ length (filter f ps) → suc (length (cond a (x ∷ filter g ps) (filter g ps))) ≤ length (cond b (x ∷ filter f ps) (filter f ps))
    by_both true true h rest = omega (arith, rest)
    by_both true false h rest = absurd (true≢false (sym (h refl)))
    by_both false true h rest = omega (arith, rest)
    by_both false false h rest = rest

module _ (site : Parts) (limits : Limits) (w : World) where
  abbrev t : Target
  t = target_of site w w.target

  abbrev Changed : World → Path → Bool
  Changed v = changed (looks (edition v.log)) (target_looks t)

  record IsSamePress (v : World) : Type 0 where
    pub work : v.work ≡ w.work
    pub target : v.target ≡ w.target
    pub commits : v.commits ≡ w.commits

  target_at_same : (v : World) (o : Option ℕ) → v.commits ≡ w.commits → target_of site v o ≡ target_of site w o
  target_at_same v None same = refl
  target_at_same v (Some n) same = ap (λ cs. target_at site cs n) same

  target_same : (v : World) → IsSamePress v → target_of site v v.target ≡ t
  target_same v s = target_at_same v v.target s.commits ∙ ap (target_of site w) s.target

  module _ (v : World) (s : IsSamePress v) (paths : List Path) (chosen : bundle (edition v.log) t ≡ Some paths) where
    abbrev next : World
    next = published_by t (version_of v.target) (Some paths) v

    goes : step site limits v Publish ≡ next
    goes =
        (λ i. published_by (target_same v s i) (version_of v.target) (bundle (edition v.log) (target_same v s i)) v)
        ∙ ap (λ o. published_by t (version_of v.target) o v) chosen

    after : (q : Path) → Changed next q ≡ (not (has paths q) && Changed v q)
    after q =
        let b : Bundle = bundle_of t (version_of v.target) (drop (length (history v.log)) (take (version_of v.target) v.commits)) paths in
        ap (λ l. not (option_eq same_look l (target_looks t q)))
        (ap (λ e. looks e q) (edition_snoc v.log (bundle_of t (version_of v.target) (drop (length (history v.log)) (take (version_of v.target) v.commits)) paths))
        ∙ looks_after_bundle t (version_of v.target) (edition v.log) (drop (length (history v.log)) (take (version_of v.target) v.commits)) paths q)
        ∙ changed_mixed (has paths q) (looks (edition v.log) q) (target_looks t q)

    first : (p : Path) × (Changed v p ≡ true) × (has paths p ≡ true)
    first = bundle_first (edition v.log) t paths chosen

    still : (q : Path) → Changed next q ≡ true → Changed v q ≡ true
    still q h = (and_parts (not (has paths q)) (Changed v q) (sym (after q) ∙ h)).1

    gone : Changed next first.0 ≡ false
    gone = after first.0 ∙ ap (λ b. not b && Changed v first.0) first.2

  has_count : (f : Path → Bool) (ps : List Path) (p : Path) → has ps p ≡ true → f p ≡ true → 1 ≤ count f ps
  has_count f ps p inside is = omega (arith, fewer f (λ q. false) (λ q h. absurd (true≢false (sym h))) ps p inside is refl)

  -- publishing from this state until nothing is changed
  abbrev Published : World → Type 0
  Published v = (k : ℕ) × AllPublished site limits v k × IsPublished site w (fold (step site limits) v (publishing k))

  nothing_left : (v : World) → IsSamePress v → bundle (edition v.log) t ≡ None → Published v
  nothing_left v s is =
      let goes : step site limits v Publish ≡ told NothingChanged v =
      (λ i. published_by (target_same v s i) (version_of v.target) (bundle (edition v.log) (target_same v s i)) v)
      ∙ ap (λ o. published_by t (version_of v.target) o v) is in (
        0,
        ((v.replies, ap (λ u. u.replies) goes), λ i less. absurd (omega (arith, less))),
        subst (λ u. IsPublished site w u) (sym goes) (record { work = s.work; target = s.target; commits = s.commits; none = bundle_none (edition v.log) t is }),
      )

  one_more : (v : World) (s : IsSamePress v) (paths : List Path) (chosen : bundle (edition v.log) t ≡ Some paths) → Published (next v s paths chosen) → Published v
  one_more v s paths chosen rest = (
    suc rest.0,
    (subst (λ u. LastTold (fold (step site limits) u (publishing rest.0)) NothingChanged) (sym (goes v s paths chosen)) rest.1.0, before),
    subst (λ u. IsPublished site w (fold (step site limits) u (publishing rest.0))) (sym (goes v s paths chosen)) rest.2,
  )
    where
      before : (i : ℕ) → i < suc rest.0 → LastTold (fold (step site limits) v (publishing i)) NothingChanged → ⊥
      before zero less tells =
          let b : Bundle = bundle_of t (version_of v.target) (drop (length (history v.log)) (take (version_of v.target) v.commits)) paths in
          let e : Told.Published (length v.log + 1) (version_of v.target) (length b.puts) (length b.drops) ≡ NothingChanged =
          told_once (step site limits v Publish) (Told.Published (length v.log + 1) (version_of v.target) (length b.puts) (length b.drops)) NothingChanged
          (v.replies, ap (λ u. u.replies) (goes v s paths chosen)) tells in
          absurd (cc)
      before (suc i) less tells =
          rest.1.1 i (omega (arith, less)) (subst (λ u. LastTold (fold (step site limits) u (publishing i)) NothingChanged) (goes v s paths chosen) tells)

  ends : (n : ℕ) (ps : List Path) (v : World) → IsSamePress v → ((q : Path) → Changed v q ≡ true → has ps q ≡ true) → count (Changed v) ps ≤ n → Published v
  ends zero ps v s all small = by_bundle (bundle (edition v.log) t) refl
    where
      by_bundle : (o : Option (List Path)) → bundle (edition v.log) t ≡ o → Published v
      by_bundle None is = nothing_left v s is
      by_bundle (Some paths) is =
          let p : (p : Path) × (Changed v p ≡ true) × (has paths p ≡ true) = first v s paths is in
          absurd (omega (arith, small, has_count (Changed v) ps p.0 (all p.0 p.1) p.1))
  ends (suc n) ps v s all small = by_bundle (λ u. ends n ps u) (bundle (edition v.log) t) refl
    where
      by_bundle : ((u : World) → IsSamePress u → ((q : Path) → Changed u q ≡ true → has ps q ≡ true) → count (Changed u) ps ≤ n → Published u) →
          (o : Option (List Path)) → bundle (edition v.log) t ≡ o → Published v
      by_bundle onward None is = nothing_left v s is
      by_bundle onward (Some paths) is =
          let p : (p : Path) × (Changed v p ≡ true) × (has paths p ≡ true) = first v s paths is in
          one_more v s paths is (onward (next v s paths is) (record { work = s.work; target = s.target; commits = s.commits })
          (λ q h. all q (still v s paths is q h))
          (omega (arith, small, fewer (Changed v) (Changed (next v s paths is)) (still v s paths is) ps p.0 (all p.0 p.1) p.1 (gone v s paths is))))

pub publish_ends : PublishEnds
publish_ends site limits w =
    ends site limits w (count (Changed site limits w w) (changed_paths (edition w.log) (target_of site w w.target))) (changed_paths (edition w.log) (target_of site w w.target)) w
    (record { work = refl; target = refl; commits = refl }) (all_changed (edition w.log) (target_of site w w.target)) (omega arith)
