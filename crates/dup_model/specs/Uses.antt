-- What an object uses, in words. The law above: `uses_law`.
use Rattle.std.specs.Prelude.{◌≡◌, ◌↔◌, IsTrue}
use Rattle.std.specs.List.{flat_map, Contains}
use Rattle.dup_names.specs.declared.object.Obj.{Obj}
use Rattle.dup_model.specs.Content.{Content}
use Rattle.dup_model.specs.Marks.{marks}
use Rattle.dup_model.specs.Show.{show, shown}
use Rattle.dup_model.specs.Skeletons.{embeds}
use Rattle.dup_model.specs.Looks.{look, uses}
use Rattle.dup_names.specs.Objects.{is_in}
use Rattle.dup_model.specs.Embeddings.{EmbedsEarlier}

-- f is o, or is embedded by an object that o uses
pub data Uses (c : Content) (o : Obj) : Obj → Type 0 where
  itself : Uses c o o
  further : {f : Obj} → Uses c o f → (g : Obj) → IsTrue (is_in (embeds c f) g) → Uses c o g

-- an object shows its marks, and in each embedding what the embedded object shows
abbrev pub ShowIsOfMarks : Type 0
ShowIsOfMarks = (c : Content) (o : Obj) → EmbedsEarlier c → show c o ≡ flat_map (shown (show c)) (marks c o)

-- `uses` has o and all that it embeds, followed down, and nothing else
abbrev pub UsesAreAll : Type 0
UsesAreAll = (c : Content) (o f : Obj) → EmbedsEarlier c → IsTrue (is_in (uses c o) f) ↔ Uses c o f

-- a look has each used object with the bytes that it shows
abbrev pub LooksShow : Type 0
LooksShow = (c : Content) (o f : Obj) → EmbedsEarlier c → Uses c o f → Contains (look c o).uses (f, show c f)
