-- What an object shows. The law above: `shows_law`.
use Rattle.std.specs.Prelude.{ℕ, zero, suc, [], if◌then◌else◌, ◌==◌}
use Rattle.std.specs.List.{flat_map}
use Rattle.dup_names.specs.declared.object.Obj.{Obj}
use Rattle.dup_model.specs.declared.mark.Mark.{Mark}
use Rattle.dup_model.specs.declared.mark.Mark.TheVariants as mark
use Rattle.dup_names.specs.Words.{Word}
use Rattle.dup_model.specs.Content.{Content}
use Rattle.dup_model.specs.Marks.{marks}

-- a mark's bytes, an embedding's by `below`
abbrev pub shown : (Obj → Word) → Mark → Word
shown below (mark.Plain bytes) = bytes
shown below (mark.Hole o) = below o
shown below (mark.Read it) = []
shown below (mark.Goes path) = []

-- what the objects of the first n templates show
abbrev pub show_below : Content → ℕ → Obj → Word
show_below c zero o = []
show_below c (suc n) o = if o.template == n then flat_map (shown (show_below c n)) (marks c o)
    else show_below c n o

-- a template embeds earlier templates alone
abbrev pub show : Content → Obj → Word
show c o = show_below c (suc o.template) o
