-- Targets of versions, and what stays between them and an edition.
use Rattle.std.proofs.Common.{◌≡◌, ℕ, ◌≤◌, List, [], ◌∷◌, ◌++◌, Option, Some, None, length, refl, sym, ap, ◌∙◌}
use Rattle.std.specs.Prelude.{IsTrue}
use Rattle.std.proofs.lemmas.Cmp.{nat_list_cmp_total}
use Rattle.std.specs.FinMap as fin
use Rattle.std.specs.FinMap.{nat_cmp-IsAntisymmetric, slice_cmp-IsAntisymmetric}
use Rattle.std.specs.FinMap.Entries.{is_sorted}
use Rattle.std.proofs.lemmas.List.{take-append-le}
use Rattle.dup_names.specs.Order.{text_cmp}
use Rattle.dup_names.specs.Words.{Path}
use Rattle.dup_names.specs.declared.value.Look.{Look}
use Rattle.dup_template.specs.declared.site.Parts.{Parts}
use Rattle.dup_model.specs.Commits.{Commit}
use Rattle.dup_model.specs.Editions.{Bundle, bundle_of}
use Rattle.dup_model.specs.Pages.{page_looks, target}
use Rattle.dup_model.specs.Versions.{content, version}
use Rattle.dup_machine.specs.Presses.{target_by, version_of}
use Rattle.dup_edition.specs.Logged.{Logged, appended}
use Rattle.dup_edition.proofs.Shelves.{to_T}
use Rattle.dup_build.specs.Paths.{SameElsewhere}
use Rattle.dup_bundle.specs.Between.{bundle}
use Rattle.dup_bundle.specs.Schedule.{IsSchedule}
use Rattle.dup_bundle.specs.Targets.{Aim, IsSameElsewhere}
use Rattle.dup_press.specs.Press.{aim_at}
use Rattle.dup_press.specs.Worked.{pages_at}

-- the look that a target has at a path, by its pages
pub get_target : (site : Parts) (commits : List Commit) (at : Option ℕ) (p : Path) →
    fin.get (target_by site commits at) p ≡ fin.find text_cmp p (pages_at site commits at)
get_target site commits None p = fin.get-empty text_cmp p
get_target site commits (Some v) p = fin.get-from_entries nat_list_cmp_total (page_looks (version site commits v)) p

-- pages whose paths rise make one map, however it is made
pub sorted_entries : (pages : List (Path × Look)) → IsTrue (is_sorted text_cmp pages) →
    fin.from_sorted {R = text_cmp} pages ≡ fin.from_entries {R = text_cmp} pages
sorted_entries pages rising =
    fin.same_map nat_list_cmp_total (slice_cmp-IsAntisymmetric nat_cmp-IsAntisymmetric) (fin.from_sorted {R = text_cmp} pages) (fin.from_entries {R = text_cmp} pages)
    (λ q. fin.get-from_sorted text_cmp pages q (to_T _ rising) ∙ sym (fin.get-from_entries nat_list_cmp_total pages q))

-- away from the touched paths the target is as it was
pub same_elsewhere : (site : Parts) (commits : List Commit) (old new : Option ℕ) (touched : List Path) →
    SameElsewhere touched (pages_at site commits old) (pages_at site commits new) → IsSameElsewhere touched (aim_at site commits old) (aim_at site commits new)
same_elsewhere site commits old new touched same p out =
    get_target site commits old p ∙ same p out ∙ sym (get_target site commits new p)

-- a target of a version that was made stays, whatever comes
pub aim_stays : (site : Parts) (commits more : List Commit) (at : Option ℕ) → version_of at ≤ length commits → aim_at site (commits ++ more) at ≡ aim_at site commits at
aim_stays site commits more None within = refl
aim_stays site commits more (Some v) within =
    ap (λ (l : List Commit). record { version = v; pages = target (content site l) }) (take-append-le v commits more within)

-- bundles don't depend on the site that an edition names
pub other_edition : (l : List (List Path)) (e d : Logged) (t : Aim) → e.log ≡ d.log → IsSchedule e t l → IsSchedule d t l
other_edition [] e d t same is = ap (λ (log : List Bundle). bundle (record e { log = log }) t) (sym same) ∙ is
other_edition (paths ∷ later) e d t same is = (
  ap (λ (log : List Bundle). bundle (record e { log = log }) t) (sym same) ∙ is.0,
  λ commits. other_edition later (appended e (bundle_of t.pages t.version commits paths)) (appended d (bundle_of t.pages t.version commits paths)) t
      (ap (λ (log : List Bundle). log ++ bundle_of t.pages t.version commits paths ∷ []) same) (is.1 commits),
)
