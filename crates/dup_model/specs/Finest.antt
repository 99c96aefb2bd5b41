-- The finest closed sets of changed paths, and which of them is the bundle. The law above: `bundle_law`.
use Rattle.std.specs.Prelude.{◌≡◌, false, IsTrue}
use Rattle.std.specs.Ordering.{is_lt}
use Rattle.dup_names.specs.Order.{text_cmp}
use Rattle.dup_names.specs.Words.{Path}
use Rattle.dup_model.specs.Needs.{Looks, Paths, changed, IsClosed}

-- a closed set of changed paths that isn't empty and has no smaller one in it
pub record IsFinest (e t : Looks) (s : Paths) : Type 0 where
  pub some : (p : Path) × IsTrue (s p)
  pub only : (p : Path) → IsTrue (s p) → IsTrue (changed e t p)
  pub closed : IsClosed e t s
  pub finest : (r : Paths) → ((p : Path) × IsTrue (r p)) → ((p : Path) → IsTrue (r p) → IsTrue (s p)) →
      IsClosed e t r → (p : Path) → IsTrue (s p) → IsTrue (r p)

-- p is in the set, and no path of the set comes before it
abbrev pub IsLeastOf : Paths → Path → Type 0
IsLeastOf s p = IsTrue (s p) × ((q : Path) → IsTrue (s q) → is_lt (text_cmp q p) ≡ false)

-- a finest set, whose least path is least among those of all finest sets
abbrev pub IsFinestBundle : Looks → Looks → Paths → Type 0
IsFinestBundle e t s = (p : Path) × IsFinest e t s × IsLeastOf s p
    × ((r : Paths) (q : Path) → IsFinest e t r → IsLeastOf r q → is_lt (text_cmp q p) ≡ false)
