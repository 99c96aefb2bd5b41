-- The status tells what is pending.
use Rattle.std.proofs.Common.{◌≡◌, ◌↔◌, ℕ, Bool, true, false, not, ◌||◌, Option, Some, None, length, refl, sym, ap, ◌∙◌}
use Rattle.std.specs.Prelude.{is_some, ◌==◌}
use Rattle.std.proofs.lemmas.Bool.{true≢false}
use Rattle.std.proofs.lemmas.Bool.Decides.{Decides-eqb}
use Rattle.std.proofs.Math.Seq.{take-length}
use Rattle.dup_template.specs.declared.site.Parts.{Parts}
use Rattle.dup_model.specs.Versions.{content}
use Rattle.dup_model.specs.Pages.{target}
use Rattle.dup_model.specs.Needs.{changed}
use Rattle.dup_model.specs.Editions.{edition, looks, target_looks}
use Rattle.dup_model.specs.Bundles.{bundle}
use Rattle.dup_machine.specs.World.{World}
use Rattle.dup_machine.specs.Press.{target_of}
use Rattle.dup_machine.specs.Status.{NothingPending, is_of, is_pending, PendingIsTold}
use Rattle.dup_model.proofs.BundleFacts.{bundle_is_none}

or_false : (a b : Bool) → (a || b) ≡ false → (a ≡ false) × (b ≡ false)
or_false true b h = absurd (true≢false h)
or_false false b h = (refl, h)

none_of : {A : Type 0} (o : Option A) → is_some o ≡ false → o ≡ None
none_of None h = refl
none_of (Some x) h = absurd (true≢false h)

of_last : (n : ℕ) (o : Option ℕ) → not (is_of n o) ≡ false → o ≡ Some n
of_last n None h = absurd (true≢false h)
of_last n (Some v) h = by_test (v == n) refl h
  where
    by_test : (b : Bool) → (v == n) ≡ b → not b ≡ false → Some v ≡ Some n
    by_test true is h = ap Some ((Decides-eqb v n).0 is)
    by_test false is h = absurd (true≢false h)

is_last : (n : ℕ) → not (is_of n (Some n)) ≡ false
is_last n = ap not ((Decides-eqb n n).1 refl)

module _ (site : Parts) (w : World) where
  pub last_target : w.target ≡ Some (length w.commits) → target_of site w w.target ≡ target (content site w.commits)
  last_target made = ap (target_of site w) made ∙ ap (λ l. target (content site l)) (take-length w.commits)

  pending_told : (is_pending site w ≡ false) ↔ NothingPending site w
  pending_told = (
    λ h.
        let one : ((is_some w.work || not (is_of (length w.commits) w.target)) ≡ false) × (is_some (bundle (edition w.log) (target_of site w w.target)) ≡ false) =
        or_false (is_some w.work || not (is_of (length w.commits) w.target)) (is_some (bundle (edition w.log) (target_of site w w.target))) h in
        let two : (is_some w.work ≡ false) × (not (is_of (length w.commits) w.target) ≡ false) = or_false (is_some w.work) (not (is_of (length w.commits) w.target)) one.0 in
        let made : w.target ≡ Some (length w.commits) = of_last (length w.commits) w.target two.1 in
        record {
          idle = none_of w.work two.0;
          made = made;
          published = λ p. ap (λ t. changed (looks (edition w.log)) (target_looks t) p) (sym (last_target made))
              ∙ (bundle_is_none (edition w.log) (target_of site w w.target)).0 (none_of _ one.1) p;
        },
    λ n.
        let none : bundle (edition w.log) (target_of site w w.target) ≡ None =
        (bundle_is_none (edition w.log) (target_of site w w.target)).1 (λ p. ap (λ t. changed (looks (edition w.log)) (target_looks t) p) (last_target n.made) ∙ n.published p) in
        ap (λ o. is_some o || not (is_of (length w.commits) w.target) || is_some (bundle (edition w.log) (target_of site w w.target))) n.idle
        ∙ ap (λ o. not (is_of (length w.commits) o) || is_some (bundle (edition w.log) (target_of site w w.target))) n.made
        ∙ ap (λ b. b || is_some (bundle (edition w.log) (target_of site w w.target))) (is_last (length w.commits))
        ∙ ap is_some none,
  )

pub pending_is_told : PendingIsTold
pending_is_told site w = pending_told site w
