-- What changed since an edition.
use Rattle.std.specs.Prelude.{◌≡◌, ◌-◌, ◌<◌, ◌≤◌, ℕ, List, length, drop, map}
use Rattle.dup_model.specs.Editions.{Bundle}
use Rattle.dup_edition.specs.declared.edition.Changes.{Changes}
use Rattle.dup_edition.specs.declared.edition.Changes.TheVariants.{All, Named}

-- over 64 bundles aren't named
abbrev pub IsSince : List Bundle → ℕ → Changes → Type 0
IsSince log from All = 64 < length log - from
IsSince log from (Named records) = (length log - from ≤ 64)
    × (map (λ r. r.value) records.now ≡ drop from log)
