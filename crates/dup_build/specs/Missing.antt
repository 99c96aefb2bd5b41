-- How many of the objects that an object embeds have no look.
use Rattle.std.specs.Prelude.{◌≡◌, ◌-◌, ℕ, List, Option, Some, IsTrue, length}
use Rattle.std.specs.Option.{option_map}
use Rattle.dup_names.specs.declared.object.Obj.{Obj}
use Rattle.dup_names.specs.Objects.{is_in}
use Rattle.dup_model.specs.Touched.{without}
use Rattle.dup_build.specs.declared.node.Node.{Node}
use Rattle.dup_build.specs.Nodes.{children_of}
use Rattle.dup_sets.specs.Entries.{at, objs}

-- a number is lower by one, where there is one above 0
abbrev pub less : Option ℕ → Option ℕ
less n = option_map (λ n. n - 1) n

-- for each of these objects that has a node, this is how many of its children have no look
abbrev pub AreCounts : List (Obj × Node) → List Obj → List Obj → List (Obj × ℕ) → Type 0
AreCounts nodes looked among missing = (x : Obj) → IsTrue (is_in among x) → IsTrue (is_in (objs nodes) x) →
    at missing x ≡ Some (length (without (is_in looked) (children_of (at nodes x))))
