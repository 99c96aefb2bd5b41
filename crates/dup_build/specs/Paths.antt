-- The paths at which a target may have another look than the last one.
use Rattle.std.specs.Prelude.{◌≡◌, ◌&&◌, Bool, true, false, not, List, map, Option, Some, None}
use Rattle.std.specs.FinMap as fin
use Rattle.std.specs.List.{All}
use Rattle.dup_names.specs.Order.{text_cmp}
use Rattle.dup_names.specs.declared.object.Obj.{Obj}
use Rattle.dup_names.specs.declared.value.Look.{Look}
use Rattle.dup_names.specs.Objects.{is_in, same_obj}
use Rattle.dup_names.specs.Words.{Path}
use Rattle.dup_model.specs.Content.{Content}
use Rattle.dup_model.specs.Editions.{has}
use Rattle.dup_model.specs.Looks.{look}

-- whether a path's page is new or gone, or shows another object, or one of these
abbrev pub is_touched : List Obj → Option Look → Option Look → Bool
is_touched objs None None = false
is_touched objs (Some l) (Some m) = not (same_obj l.obj m.obj && not (is_in objs m.obj))
is_touched objs _ _ = true

-- these are the paths of such pages
abbrev pub AreTouched : List Obj → List (Path × Look) → List (Path × Look) → List Path → Type 0
AreTouched objs old new paths = (p : Path) →
    has paths p ≡ is_touched objs (fin.find text_cmp p old) (fin.find text_cmp p new)

-- away from these paths the pages have the looks that they had
abbrev pub SameElsewhere : List Path → List (Path × Look) → List (Path × Look) → Type 0
SameElsewhere paths old new = (p : Path) → has paths p ≡ false → fin.find text_cmp p old ≡ fin.find text_cmp p new

-- the looks of these pages
abbrev pub looks_in : List (Path × Look) → List Look
looks_in pages = map (λ p. p.1) pages

-- each of these pages shows an object that has a look
abbrev pub AreLooked : List Obj → List (Path × Obj) → Type 0
AreLooked looked pages = All (λ p. is_in looked p.1 ≡ true) pages

-- these pages with their objects' looks at a content
abbrev pub looks_shown : Content → List (Path × Obj) → List (Path × Look)
looks_shown c pages = map (λ p. (p.0, look c p.1)) pages

-- the look of an object that has one, which the work didn't join, is the object's at the content
abbrev pub IsCurrent : Content → List Obj → List Obj → Look → Type 0
IsCurrent c looked once l = is_in looked l.obj ≡ true → is_in once l.obj ≡ false → l ≡ look c l.obj
