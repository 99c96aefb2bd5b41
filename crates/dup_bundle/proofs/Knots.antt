-- What is reached, and what is found.
use Rattle.std.proofs.Common.{◌≡◌, Bool, true, false, cond, ◌&&◌, List, [], ◌∷◌, Some, ap, ◌∙◌}
use Rattle.std.specs.List.{filter, find}
use Rattle.dup_names.specs.Words.{Path}
use Rattle.dup_model.specs.Bundles.{reached}
use Rattle.dup_model.specs.Editions.{has}
use Rattle.std.proofs.lemmas.Bool.{or_left}
use Rattle.std.proofs.lemmas.Option.{none-some, same_Some}
use Rattle.std.specs.Ordering.{eq_by_cmp}
use Rattle.dup_names.specs.Order.{text_cmp}
use Rattle.dup_model.proofs.Reached.{has_filter, or_right, tie_itself}

module _ (need : Path → Path → Bool) (ps : List Path) where
  pub has_reached : (p q : Path) → has ps q ≡ true → has (filter (reached need ps p) ps) q ≡ reached need ps p q
  has_reached p q inside = has_filter (reached need ps p) ps q ∙ ap (λ b. b && reached need ps p q) inside

pub found_there : (f : Path → Bool) (ps : List Path) (p : Path) → find f ps ≡ Some p → has ps p ≡ true
found_there f [] p is = absurd (none-some p is)
found_there f (x ∷ ps) p is = by_test (f x) is (found_there f ps p)
  where
    by_test : (b : Bool) → cond b (Some x) (find f ps) ≡ Some p → (find f ps ≡ Some p → has ps p ≡ true) → has (x ∷ ps) p ≡ true
    by_test true is later = or_left _ _ (ap (λ y. eq_by_cmp text_cmp p y) (same_Some x p is) ∙ tie_itself p)
    by_test false is later = or_right _ _ (later is)
