-- Which changed paths wait until others are published.
use Rattle.std.specs.Prelude.{◌≡◌, ℕ, Bool, true, false, ◌⊎◌, List, Option, Some, None, nat_lt}
use Rattle.std.specs.BTreeMap as tree
use Rattle.std.specs.declared.alloc.Global.{Global}
use Rattle.std.specs.declared.collections.BTreeMap.{BTreeMap}
use Rattle.std.specs.declared.vec.Vec.{Vec}
use Rattle.dup_names.specs.Order.{text_cmp}
use Rattle.dup_names.specs.Words.{Path}
use Rattle.dup_model.specs.Bundles.{reached}
use Rattle.dup_model.specs.Editions.{has}
use Rattle.dup_bundle.specs.Hinted.{linkers_of}

-- more paths, all of one kind
abbrev pub Adds : (Path → Bool) → List Path → List Path → Type 0
Adds kind old new = (q : Path) → has new q ≡ true → (has old q ≡ true) ⊎ (kind q ≡ true)

-- the level of a path, where it has one
abbrev pub level_of : BTreeMap Path ℕ Global → Path → Option ℕ
level_of levels p = tree.get text_cmp levels p

abbrev pub is_below : Option ℕ → ℕ → Bool
is_below None n = false
is_below (Some level) n = nat_lt level n

-- a path below n needs only paths below n
abbrev pub AreLevels : (Path → Path → Bool) → List Path → BTreeMap Path ℕ Global → Type 0
AreLevels need paths levels = (n : ℕ) (p q : Path) → is_below (level_of levels p) n ≡ true →
    has paths q ≡ true → need p q ≡ true → is_below (level_of levels q) n ≡ true

-- of the paths those that are left have no level, and the others one below n
pub record AreLevelled (need : Path → Path → Bool) (paths left : List Path)
    (levels : BTreeMap Path ℕ Global) (n : ℕ) : Type 0 where
  pub falls : AreLevels need paths levels
  pub taken : (q : Path) → has paths q ≡ true → has left q ≡ false → is_below (level_of levels q) n ≡ true
  pub bare : (q : Path) → has left q ≡ true → level_of levels q ≡ None

-- p reaches q, which is left and doesn't reach it back: so p is no knot before q is published
pub record IsHeldBy (need : Path → Path → Bool) (left : List Path) (p q : Path) : Type 0 where
  pub inside : has left q ≡ true
  pub reaches : reached need left p q ≡ true
  pub apart : reached need left q p ≡ false

-- each path that is left is ready, or waits at one that holds it
abbrev pub AreWaiting : (Path → Path → Bool) → List Path → List Path →
    BTreeMap Path (Vec Path Global) Global → Type 0
AreWaiting need left ready waiting = (p : Path) → has left p ≡ true → has ready p ≡ false →
    (q : Path) × IsHeldBy need left p q × (has (linkers_of waiting q) p ≡ true)
