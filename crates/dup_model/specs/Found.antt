-- What a work has found and what waits in it, and the same in words. The law above: `jobs_law`.
use Rattle.std.specs.Prelude.{◌↔◌, List, map, IsTrue}
use Rattle.std.specs.List.{flat_map}
use Rattle.dup_names.specs.Order.{obj_cmp}
use Rattle.dup_names.specs.Words.{in_order}
use Rattle.dup_model.specs.Looks.{reached_from}
use Rattle.dup_names.specs.declared.object.Obj.{Obj}
use Rattle.dup_model.specs.Content.{Content}
use Rattle.dup_model.specs.Skeletons.{embeds}
use Rattle.dup_model.specs.Pages.{pages}
use Rattle.dup_names.specs.Objects.{is_in}
use Rattle.dup_model.specs.Touched.{without}
use Rattle.dup_model.specs.Embeddings.{EmbedsEarlier}

-- the pages' objects, and what is embedded by a found object that is done
abbrev pub found : Content → List Obj → List Obj
found c done = in_order obj_cmp (flat_map (λ p. reached_from c (is_in done) p.1) (pages c))

-- what is found and isn't done
abbrev pub waiting : Content → List Obj → List Obj
waiting c done = without (is_in done) (found c done)

-- a page's object, or one that a found object which is done embeds
pub data Found (c : Content) (done : List Obj) : Obj → Type 0 where
  of_page : {o : Obj} → IsTrue (is_in (map (λ p. p.1) (pages c)) o) → Found c done o
  embedded : {f : Obj} → Found c done f → IsTrue (is_in done f) → (g : Obj) → IsTrue (is_in (embeds c f) g) →
      Found c done g

abbrev pub FoundIsFound : Type 0
FoundIsFound = (c : Content) (done : List Obj) (o : Obj) → EmbedsEarlier c → IsTrue (is_in (found c done) o)
    ↔ Found c done o
