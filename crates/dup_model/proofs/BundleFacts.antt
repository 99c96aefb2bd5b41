-- What the rest needs of a bundle: it is closed, it has a changed path, and there is none exactly where nothing is changed.
use Rattle.std.proofs.Common.{◌≡◌, ◌↔◌, true, false, List, Option, Some, None, refl, sym, ◌∙◌}
use Rattle.std.proofs.lemmas.Bool.{true≢false}
use Rattle.dup_names.specs.Words.{Path}
use Rattle.dup_model.specs.Pages.{Target}
use Rattle.dup_model.specs.Needs.{changed}
use Rattle.dup_model.specs.Editions.{Edition, looks, target_looks, has}
use Rattle.dup_model.specs.Bundles.{bundle}
use Rattle.dup_model.proofs.Closed.{IsClosedBy, IsFinestBundleBy}
use Rattle.dup_model.proofs.Finest.{finest_is, finest_none}

module _ (e : Edition) (t : Target) where
  pub bundle_closed : (paths : List Path) → bundle e t ≡ Some paths → IsClosedBy (looks e) (target_looks t) (has paths)
  bundle_closed paths is =
      let b : IsFinestBundleBy (looks e) (target_looks t) (has paths) = finest_is e t paths is in
      b.1.closed

  pub bundle_first : (paths : List Path) → bundle e t ≡ Some paths → (p : Path) × (changed (looks e) (target_looks t) p ≡ true) × (has paths p ≡ true)
  bundle_first paths is =
      let b : IsFinestBundleBy (looks e) (target_looks t) (has paths) = finest_is e t paths is in
      (b.1.some.0, b.1.only b.1.some.0 b.1.some.1, b.1.some.1)

  pub bundle_none : bundle e t ≡ None → (p : Path) → changed (looks e) (target_looks t) p ≡ false
  bundle_none is = finest_none e t is

  none_where : (o : Option (List Path)) → bundle e t ≡ o → ((p : Path) → changed (looks e) (target_looks t) p ≡ false) → o ≡ None
  none_where None is none = refl
  none_where (Some paths) is none =
      let first : (p : Path) × (changed (looks e) (target_looks t) p ≡ true) × (has paths p ≡ true) = bundle_first paths is in
      absurd (true≢false (sym first.1 ∙ none first.0))

  pub bundle_is_none : (bundle e t ≡ None) ↔ ((p : Path) → changed (looks e) (target_looks t) p ≡ false)
  bundle_is_none = (bundle_none, none_where (bundle e t) refl)
