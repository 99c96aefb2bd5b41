-- Why an opening is refused.
use Rattle.std.specs.Prelude.{◌≡◌, ℕ, Result, Ok, Err}
use Rattle.dup_io.specs.Causes.{Rose}
use Rattle.dup_live.specs.declared.places.LiveRefusal.{LiveRefusal}
use Rattle.dup_live.specs.declared.places.LiveRefusal.TheVariants.{NoMemory, NoPlace}

-- no place comes only where the faults rose
abbrev pub HasPlaces : {T : Type 0} → ℕ → ℕ → Result T LiveRefusal → Type 0
HasPlaces before now (Ok _) = now ≡ before
HasPlaces before now (Err NoMemory) = now ≡ before
HasPlaces before now (Err NoPlace) = Rose before now
