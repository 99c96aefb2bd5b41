-- What eyes and windows see.
use Rattle.std.specs.Prelude.{◌≡◌, ◌+◌, ◌-◌, ◌^◌, ℕ, List, [], min}
use Rattle.dup_template.specs.declared.site.Parts.{Parts}
use Rattle.dup_model.specs.Editions.{Bundle}
use Rattle.dup_cache.specs.Holding.{BeginsWith}
use Rattle.dup_edition.specs.Logged.{Logged}
use Rattle.dup_live.specs.declared.sight.Sight.{Sight}
use Rattle.dup_live.specs.declared.sight.Pane.{Pane}
use Rattle.dup_live.specs.Kept.{Reads}

-- a count rose by one, or stays at its last value
abbrev pub IsRaised : ℕ → ℕ → Type 0
IsRaised before now = now ≡ min (before + 1) (2 ^ 64 - 1)

-- an eye that has seen nothing
abbrev pub new_sight : List Bundle → Sight
new_sight told = record { seen = []; told = told; entries = 0; blanks = 0 }

-- a window that has read nothing
abbrev pub new_pane : List Bundle → Pane
new_pane told = record { eye = new_sight told; log = [] }

-- an edition of the site, whose good log is seen now. It begins with all that the eye had seen and was told of
pub record IsHandedOut (site : Parts) (before after : Sight) (e : Logged) : Type 0 where
  pub site_is : e.site ≡ site
  pub reads : Reads site before.seen e.log after.seen
  pub told : BeginsWith e.log before.told

-- an entry gave what is published
abbrev pub Enters : Sight → Sight → Type 0
Enters before after = IsRaised before.entries after.entries × (after.blanks ≡ before.blanks)

-- an entry gave nothing
abbrev pub Misses : Sight → Sight → Type 0
Misses before after = IsRaised before.blanks after.blanks × (after.entries ≡ before.entries)

-- the eye handed an edition out, whose log is the window's now. It begins with all that the eye had seen and
-- was told of
pub record ReadsOn (before after : Pane) : Type 0 where
  pub enters : Enters before.eye after.eye
  pub seen : after.eye.seen ≡ after.log
  pub later : BeginsWith after.log before.eye.seen
  pub told : BeginsWith after.log before.eye.told

-- the eye handed nothing out, and the window's log stays
pub record IsBlank (before after : Pane) : Type 0 where
  pub misses : Misses before.eye after.eye
  pub stays : after.log ≡ before.log
