-- What lies between an edition and a target, in the words of the definitions.
use Rattle.std.specs.Prelude.{◌≡◌, Bool, true, ◌&&◌, List, Option}
use Rattle.std.specs.List.{list_any}
use Rattle.std.specs.List.Sorted.{IsStrictlySortedBy}
use Rattle.std.specs.Ordering.{eq_by_cmp}
use Rattle.std.specs.declared.alloc.Global.{Global}
use Rattle.std.specs.declared.sync.Arc.{Arc}
use Rattle.dup_names.specs.Order.{text_cmp}
use Rattle.dup_names.specs.declared.value.Look.{Look}
use Rattle.dup_names.specs.Words.{Path}
use Rattle.dup_model.specs.Needs as looks
use Rattle.dup_model.specs.Editions.{Page, edition, has, looks, target_looks}
use Rattle.dup_model.specs.Bundles as definition
use Rattle.dup_edition.specs.Logged.{Logged}
use Rattle.dup_bundle.specs.Targets.{Aim}

abbrev pub is_changed : Logged → Aim → Path → Bool
is_changed e t = looks.changed (looks (edition e.log)) (target_looks t.pages)

abbrev pub is_needed : Logged → Aim → Path → Path → Bool
is_needed e t = looks.needs (looks (edition e.log)) (target_looks t.pages)

abbrev pub changed_paths : Logged → Aim → List Path
changed_paths e t = definition.changed_paths (edition e.log) t.pages

abbrev pub bundle : Logged → Aim → Option (List Path)
bundle e t = definition.bundle (edition e.log) t.pages

-- one of the pages, or of the looks, is at this path
abbrev pub has_page : List (Arc Page Global) → Path → Bool
has_page pages q = list_any (λ p. eq_by_cmp text_cmp q p.value.path) pages

abbrev pub has_look : List (Path × Arc Look Global) → Path → Bool
has_look pages q = list_any (λ p. eq_by_cmp text_cmp q p.0) pages

-- the page at p needs q, which is one of the changed paths
abbrev pub needs_changed : Logged → Aim → List Path → Path → Path → Bool
needs_changed e t changed p q = has changed q && is_needed e t p q

-- changed paths, in order
pub record AreChanged (e : Logged) (t : Aim) (paths : List Path) : Type 0 where
  pub only : (q : Path) → has paths q ≡ true → is_changed e t q ≡ true
  pub order : IsStrictlySortedBy text_cmp paths
