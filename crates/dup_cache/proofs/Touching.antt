-- A cache whose entry came to the front.
use Rattle.std.proofs.Common.{◌≡◌, ℕ, true, false, cond, List, [], ◌∷◌, take, Option, Some, None, refl, sym, ap, ◌∙◌}
use Rattle.std.proofs.lemmas.Slice.Eq.{bytes_eq-Decides}
use Rattle.std.specs.Prelude.{bytes_eq}
use Rattle.std.specs.List.{find}
use Rattle.std.specs.Option.{option_map_or}
use Rattle.dup_names.specs.Words.{Path}
use Rattle.dup_model.specs.declared.mode.Mode.{Mode}
use Rattle.dup_model.specs.Editions.{Page}
use Rattle.dup_model.specs.Caches.{Cache, with_first}
use Rattle.dup_cache.specs.Entries.{touched, without}

abbrev first_by : Path → ℕ → List Page → Option Page → List Page
first_by path cap es o = option_map_or (λ page. take cap (page ∷ without es path)) o es

pub found_path : (path : Path) (es : List Page) (page : Page) → find (λ page. bytes_eq page.path path) es ≡ Some page → page.path ≡ path
found_path path [] page is = absurd (cc)
found_path path (first ∷ es) page is = (elim (bytes_eq first.path path) as (λ b. bytes_eq first.path path ≡ b → cond b (Some first) (find (λ page. bytes_eq page.path path) es) ≡ Some page → page.path ≡ path) [
  | true ↦ λ t h. let same : first ≡ page = cc in ap (λ (q : Page). q.path) (sym same) ∙ (bytes_eq-Decides first.path path).0 t
  | false ↦ λ t h. found_path path es page h
]) refl is

-- the entries alone change
by_entry : (path : Path) (cache : Cache) (o : Option Page) →
    record cache { entries = first_by path cache.capacity cache.entries o } ≡ option_map_or (λ page. record cache { entries = take cache.capacity (page ∷ without cache.entries path) }) o cache
by_entry path cache None = refl
by_entry path cache (Some page) = refl

own_path : (path : Path) (cache : Cache) (o : Option Page) → find (λ page. bytes_eq page.path path) cache.entries ≡ o →
    option_map_or (λ page. record cache { entries = take cache.capacity (page ∷ without cache.entries path) }) o cache ≡ option_map_or (λ page. with_first page cache) o cache
own_path path cache None is = refl
own_path path cache (Some page) is = ap (λ q. record cache { entries = take cache.capacity (page ∷ without cache.entries q) }) (sym (found_path path cache.entries page is))

pub seen_touched : (path : Path) (cap number : ℕ) (mode : Mode) (es : List Page) (cap' : ℕ) (es' : List Page) → cap' ≡ cap → es' ≡ first_by path cap es (find (λ page. bytes_eq page.path path) es) →
    let new : Cache = record { capacity = cap'; mode = mode; number = number; entries = es' } in
    let old : Cache = record { capacity = cap; mode = mode; number = number; entries = es } in
    new ≡ touched path old
seen_touched path cap number mode es cap' es' cap-is es-is =
    let old : Cache = record { capacity = cap; mode = mode; number = number; entries = es } in
    (λ i. record { capacity = cap-is i; mode = mode; number = number; entries = es-is i })
    ∙ by_entry path old (find (λ page. bytes_eq page.path path) es)
    ∙ own_path path old (find (λ page. bytes_eq page.path path) es) refl
