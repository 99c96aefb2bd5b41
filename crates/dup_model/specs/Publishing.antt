-- What publishing a set of paths keeps. The laws above: `targets_law`, `closed_law`, `bundle_law`.
use Rattle.std.specs.Prelude.{◌≡◌, ◌↔◌, ◌++◌, List, Some, None, IsTrue, false, length}
use Rattle.dup_names.specs.Words.{Path}
use Rattle.dup_template.specs.declared.site.Parts.{Parts}
use Rattle.dup_model.specs.Content.{Content}
use Rattle.dup_model.specs.Commits.{Commit}
use Rattle.dup_model.specs.Versions.{content}
use Rattle.dup_model.specs.Pages.{Target, target}
use Rattle.dup_model.specs.Needs.{Looks, Paths, IsSound, IsClosed, NeededAreChanged, changed, mixed}
use Rattle.dup_model.specs.Editions.{Edition, IsConsistent, looks, target_looks, absorb, bundle_of, has}
use Rattle.dup_model.specs.Bundles.{bundle}
use Rattle.dup_model.specs.Finest.{IsFinestBundle}

-- in each target links lead to pages, and no object is shown in two ways
abbrev pub TargetsAreSound : Type 0
TargetsAreSound = (c : Content) → IsSound (target_looks (target c))

-- so what a path needs is changed
abbrev pub NeededChange : Type 0
NeededChange = (e t : Looks) → IsSound t → NeededAreChanged e t

-- from sound looks, publishing paths as a sound target has them gives sound looks exactly where the paths are
-- closed
abbrev pub SoundWhereClosed : Type 0
SoundWhereClosed = (e t : Looks) (s : Paths) → IsSound e → IsSound t →
    (IsSound (mixed s e t) ↔ IsClosed e t s)

-- from a consistent edition, publishing paths as the target of a later version has them gives a consistent
-- edition exactly where the paths are closed
abbrev pub ConsistentWhereClosed : Type 0
ConsistentWhereClosed = (site : Parts) (before commits : List Commit) (e : Edition) (paths : List Path) →
    let t = target (content site (before ++ commits)) in
    IsConsistent site before e →
    (IsConsistent site (before ++ commits) (absorb e (bundle_of t (length (before ++ commits)) commits paths))
    ↔ IsClosed (looks e) (target_looks t) (has paths))

-- what `bundle` answers is the finest closed set whose least path is least
abbrev pub BundleIsFinest : Type 0
BundleIsFinest = (e : Edition) (t : Target) (paths : List Path) →
    NeededAreChanged (looks e) (target_looks t) → bundle e t ≡ Some paths →
    IsFinestBundle (looks e) (target_looks t) (has paths)

-- there is no bundle exactly where nothing is changed
abbrev pub NoBundle : Type 0
NoBundle = (e : Edition) (t : Target) → (bundle e t ≡ None)
    ↔ ((p : Path) → changed (looks e) (target_looks t) p ≡ false)

-- no nonempty proper part of a bundle would have given a consistent edition
abbrev pub NoPartServes : Type 0
NoPartServes = (site : Parts) (before commits : List Commit) (e : Edition) (paths part : List Path) →
    let t = target (content site (before ++ commits)) in
    IsConsistent site before e → bundle e t ≡ Some paths →
    ((p : Path) × IsTrue (has part p)) → ((p : Path) → IsTrue (has part p) → IsTrue (has paths p)) →
    IsConsistent site (before ++ commits) (absorb e (bundle_of t (length (before ++ commits)) commits part)) →
    (p : Path) → IsTrue (has paths p) → IsTrue (has part p)
