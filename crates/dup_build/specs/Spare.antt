-- Pages that are kept from the target before the last, to be renewed as those of the next.
use Rattle.std.specs.Prelude.{◌≡◌, Bool, false, List, map, Option, Some, None, IsTrue, IfSome, if◌then◌else◌}
use Rattle.std.specs.FinMap as fin
use Rattle.std.specs.FinMap.Entries.{is_sorted}
use Rattle.std.specs.Option.{option_map}
use Rattle.dup_names.specs.Order.{text_cmp}
use Rattle.dup_names.specs.declared.object.Obj.{Obj}
use Rattle.dup_names.specs.declared.value.Look.{Look}
use Rattle.dup_names.specs.Objects.{is_in}
use Rattle.dup_names.specs.Words.{Path}
use Rattle.dup_template.specs.declared.site.Parts.{Parts}
use Rattle.dup_template.specs.Paths.{path_at}
use Rattle.dup_model.specs.Content.{Content}
use Rattle.dup_model.specs.Editions.{has}
use Rattle.dup_model.specs.Looks.{look}
use Rattle.dup_model.specs.Pages.{pages}
use Rattle.dup_build.specs.declared.spare.Spare.{Spare}
use Rattle.dup_build.specs.Paths.{SameElsewhere}
use Rattle.dup_build.specs.Targets.{looks_by_path}

-- the object that each of these pages shows
abbrev pub objs_by_path : List (Path × Look) → List (Path × Obj)
objs_by_path pages = map (λ p. (p.0, p.1.obj)) pages

-- whether a look is of one of these objects
abbrev pub is_of_one : List Obj → Option Look → Bool
is_of_one objs None = false
is_of_one objs (Some l) = is_in objs l.obj

-- an object that one of these pages shows has that page's path
abbrev pub HaveOwnPaths : Parts → List (Path × Look) → Type 0
HaveOwnPaths site pages = (p : Path) (l : Look) → fin.find text_cmp p pages ≡ Some l → path_at site l.obj ≡ Some p

-- each object that one of these pages shows has a look
abbrev pub ShowLooked : List Obj → List (Path × Look) → Type 0
ShowLooked looked pages = (p : Path) (l : Look) → fin.find text_cmp p pages ≡ Some l → IsTrue (is_in looked l.obj)

-- at these paths the new pages have the looks of the old pages' objects at a content, and the old looks elsewhere
abbrev pub AreRenewed : Content → List Path → List (Path × Look) → List (Path × Look) → Type 0
AreRenewed c paths old new = (p : Path) → fin.find text_cmp p new
    ≡ option_map (λ l. if has paths p then look c l.obj else l) (fin.find text_cmp p old)

-- what is spare has the target's pages, with their looks but at the paths where it is behind
pub record IsSpare (pages : List (Path × Look)) (s : Spare) : Type 0 where
  pub rising : IsTrue (is_sorted text_cmp (looks_by_path s.pages.items))
  pub shown : objs_by_path (looks_by_path s.pages.items) ≡ objs_by_path pages
  pub elsewhere : SameElsewhere s.behind.items (looks_by_path s.pages.items) pages

-- where the pages are said to be the same still, the target's are those of the content; and what is spare, if
-- anything is, is so for this target
pub record AreTurned (same : Bool) (c : Content) (target : List (Path × Look)) (kept : Option Spare) : Type 0 where
  pub listed : IsTrue same → objs_by_path target ≡ pages c
  pub spare : IfSome kept (IsSpare target)
