-- Events that go on until a reply comes. The law above: `settle_law`.
use Rattle.std.specs.Prelude.{◌≡◌, ℕ, ◌<◌, List, [], ◌∷◌, ◌++◌}
use Rattle.std.specs.List.{fold}
use Rattle.dup_template.specs.declared.site.Parts.{Parts}
use Rattle.dup_model.specs.Journal.{Limits}
use Rattle.dup_machine.specs.World.{World, Told, Event}
use Rattle.dup_machine.specs.Run.{step}

-- the last reply
abbrev pub LastTold : World → Told → Type 0
LastTold w reply = (before : List Told) × (w.replies ≡ before ++ reply ∷ [])

-- the n-th of these lists of events ends with this reply, and none before it does
abbrev pub FirstTold : Parts → Limits → World → (ℕ → List Event) → Told → ℕ → Type 0
FirstTold site limits w events reply n = LastTold (fold (step site limits) w (events n)) reply
    × ((i : ℕ) → i < n → LastTold (fold (step site limits) w (events i)) reply → ⊥)
