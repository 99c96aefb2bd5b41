-- What is kept of the objects of a content: which are done, and which have looks.
use Rattle.std.specs.Prelude.{◌||◌, Bool, List}
use Rattle.std.specs.List.{filter, list_all}
use Rattle.dup_names.specs.declared.object.Obj.{Obj}
use Rattle.dup_model.specs.Content.{Content}
use Rattle.dup_model.specs.Skeletons.{embeds}
use Rattle.dup_names.specs.Objects.{is_in}
use Rattle.dup_model.specs.Touched.{without}
use Rattle.dup_model.specs.Found.{found, waiting}

pub record Stocked : Type 0 where
  pub content : Content
  pub done : List Obj
  pub looked : List Obj

-- the objects that wait
abbrev pub waiting_in : Stocked → List Obj
waiting_in s = waiting s.content s.done

-- the found objects without a look
abbrev pub unjoined_in : Stocked → List Obj
unjoined_in s = without (is_in s.looked) (found s.content s.done)

-- an object that has a look, or is found without one
abbrev pub is_met : Stocked → Obj → Bool
is_met s o = is_in s.looked o || is_in (unjoined_in s) o

-- those of them whose embedded objects all have looks
abbrev pub level_in : Stocked → List Obj
level_in s = filter (λ o. list_all (is_in s.looked) (embeds s.content o)) (unjoined_in s)
