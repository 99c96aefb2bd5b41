-- Which paths are published together. The law above: `bundle_law`.
use Rattle.std.specs.Prelude.{zero, Bool, not, ◌&&◌, ◌||◌, List, [], ◌∷◌, ◌++◌, Option, bytes_eq, map}
use Rattle.std.specs.List.{filter, find, list_all}
use Rattle.std.specs.Option.{option_map}
use Rattle.std.specs.FinMap as fin
use Rattle.dup_names.specs.Order.{text_cmp}
use Rattle.dup_names.specs.Words.{Path}
use Rattle.dup_model.specs.Pages.{Target}
use Rattle.dup_model.specs.Needs.{needs, changed}
use Rattle.dup_model.specs.Editions.{Edition, looks, target_looks}

-- the paths of either, in order, each once
abbrev pub paths_of : Edition → Target → List Path
paths_of e t = fin.keys (fin.from_entries {R = text_cmp} (map (λ p. (p, zero)) (fin.keys e ++ fin.keys t)))

-- the changed paths, in order
abbrev pub changed_paths : Edition → Target → List Path
changed_paths e t = filter (changed (looks e) (target_looks t)) (paths_of e t)

-- q is reached from p by needs, over the paths rs at most
abbrev pub reached : (Path → Path → Bool) → List Path → Path → Path → Bool
reached need [] p q = bytes_eq p q || need p q
reached need (r ∷ rs) p q = reached need rs p q || reached need rs p r && reached need rs r q

-- all that p reaches reaches it back
abbrev pub is_knot : (Path → Path → Bool) → List Path → Path → Bool
is_knot need ps p = list_all (λ q. not (reached need ps p q) || reached need ps q p) ps

-- the path of these from which a bundle is reached: the first that all it reaches reach back
abbrev pub start_of : (Path → Path → Bool) → List Path → Option Path
start_of need ps = find (is_knot need ps) ps

-- all of these that the start reaches
abbrev pub bundle_from : (Path → Path → Bool) → List Path → Option (List Path)
bundle_from need ps = option_map (λ p. filter (reached need ps p) ps) (start_of need ps)

-- the paths that are published next: the finest closed set of changed paths whose least path is least
abbrev pub bundle : Edition → Target → Option (List Path)
bundle e t = bundle_from (needs (looks e) (target_looks t)) (changed_paths e t)
