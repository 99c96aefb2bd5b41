-- How what a work has found grows. The law above: `found_law`.
use Rattle.std.specs.Prelude.{◌↔◌, ◌⊎◌, false, List, ◌∷◌, map, IsTrue}
use Rattle.dup_names.specs.Order.{obj_cmp}
use Rattle.dup_names.specs.Words.{in_order}
use Rattle.dup_names.specs.declared.object.Obj.{Obj}
use Rattle.dup_model.specs.Content.{Content}
use Rattle.dup_model.specs.Skeletons.{embeds}
use Rattle.dup_model.specs.Pages.{pages}
use Rattle.dup_names.specs.Objects.{is_in}
use Rattle.dup_model.specs.Found.{found}
use Rattle.dup_model.specs.Embeddings.{EmbedsEarlier}
use Rattle.dup_machine.specs.Reached.{Reached, opened}

-- the pages' objects
abbrev pub page_objs : Content → List Obj
page_objs c = map (λ p. p.1) (pages c)

-- what is found is what is reached from the pages' objects through those that are done
abbrev pub FoundIsReached : Type 0
FoundIsReached = (c : Content) (done : List Obj) (g : Obj) → EmbedsEarlier c →
    (IsTrue (is_in (found c done) g) ↔ Reached (opened c done) (λ _. false) (page_objs c) g)

-- once a found object is done, only what it reaches by objects that are done is new
abbrev pub FoundGrows : Type 0
FoundGrows = (c : Content) (done : List Obj) (o g : Obj) → EmbedsEarlier c → IsTrue (is_in (found c done) o) →
    (IsTrue (is_in (found c (in_order obj_cmp (o ∷ done))) g)
    ↔ (IsTrue (is_in (found c done) g) ⊎ Reached (opened c done) (is_in (found c done)) (embeds c o) g))
