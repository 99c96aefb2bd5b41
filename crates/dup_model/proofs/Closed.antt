-- Sets that are closed among the changed paths, and what is reached through changed paths.
use Rattle.std.proofs.Common.{◌≡◌, false}
use Rattle.std.specs.Prelude.{IsTrue}
use Rattle.dup_names.specs.Words.{Path}
use Rattle.dup_model.specs.Needs.{Looks, Paths, needs, changed, IsClosed, NeededAreChanged}
use Rattle.dup_model.specs.Finest.{IsFinest, IsLeastOf, IsFinestBundle}
use Rattle.std.specs.Ordering.{is_lt}
use Rattle.dup_names.specs.Order.{text_cmp}

abbrev pub IsClosedBy : Looks → Looks → Paths → Type 0
IsClosedBy e t s = (p q : Path) → IsTrue (s p) → IsTrue (needs e t p q) → IsTrue (changed e t q) → IsTrue (s q)

pub data ReachesBy (e t : Looks) (p : Path) : Path → Type 0 where
  itself-by : ReachesBy e t p p
  further-by : {q : Path} → ReachesBy e t p q → (r : Path) → IsTrue (needs e t q r) → IsTrue (changed e t r) → ReachesBy e t p r

pub record IsFinestBy (e t : Looks) (s : Paths) : Type 0 where
  pub some : (p : Path) × IsTrue (s p)
  pub only : (p : Path) → IsTrue (s p) → IsTrue (changed e t p)
  pub closed : IsClosedBy e t s
  pub finest : (r : Paths) → ((p : Path) × IsTrue (r p)) → ((p : Path) → IsTrue (r p) → IsTrue (s p)) → IsClosedBy e t r → (p : Path) → IsTrue (s p) → IsTrue (r p)

abbrev pub IsFinestBundleBy : Looks → Looks → Paths → Type 0
IsFinestBundleBy e t s = (p : Path) × IsFinestBy e t s × IsLeastOf s p × ((r : Paths) (q : Path) → IsFinestBy e t r → IsLeastOf r q → is_lt (text_cmp q p) ≡ false)

module _ (e t : Looks) where
  pub closed_by : (s : Paths) → IsClosed e t s → IsClosedBy e t s
  closed_by s closed p q inside needed changes = closed p q inside needed

  module _ (needed_changed : NeededAreChanged e t) where
    pub closed_of : (s : Paths) → ((p : Path) → IsTrue (s p) → IsTrue (changed e t p)) → IsClosedBy e t s → IsClosed e t s
    closed_of s only closed p q inside needed = closed p q inside needed (needed_changed p q (only p inside) needed)

    pub finest_of : (s : Paths) → IsFinestBy e t s → IsFinest e t s
    finest_of s is = record {
      some = is.some;
      only = is.only;
      closed = closed_of s is.only is.closed;
      finest = λ r some within closed. is.finest r some within (closed_by r closed);
    }

    pub finest_by : (s : Paths) → IsFinest e t s → IsFinestBy e t s
    finest_by s is = record {
      some = is.some;
      only = is.only;
      closed = closed_by s is.closed;
      finest = λ r some within closed. is.finest r some within (closed_of r (λ p inside. is.only p (within p inside)) closed);
    }

    pub finest_bundle_of : (s : Paths) → IsFinestBundleBy e t s → IsFinestBundle e t s
    finest_bundle_of s (p, is, least, first) = (p, finest_of s is, least, λ r q other of. first r q (finest_by r other) of)
