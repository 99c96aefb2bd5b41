-- How a stock is kept.
use Rattle.std.specs.Prelude.{◌≡◌, ℕ, List, [], IsTrue}
use Rattle.std.specs.Option.{ForSome}
use Rattle.dup_names.specs.declared.object.Obj.{Obj}
use Rattle.dup_template.specs.Paths.{KeyOk}
use Rattle.dup_model.specs.Content.{Content}
use Rattle.dup_model.specs.Looks.{look}
use Rattle.dup_names.specs.Objects.{is_in}
use Rattle.dup_model.specs.Pages.{pages}
use Rattle.dup_model.specs.Touched.{without}
use Rattle.dup_model.specs.Found.{found, waiting}
use Rattle.dup_model.specs.ChangedItems.{KeysAreKeys}
use Rattle.dup_build.specs.declared.node.Node.{Node}
use Rattle.dup_build.specs.declared.node.Shown.{Shown}
use Rattle.dup_build.specs.declared.survey.Survey.{Survey}
use Rattle.dup_machine.specs.Closed.{IsClosed}
use Rattle.dup_sets.specs.Entries.{at, objs}
use Rattle.dup_build.specs.Loose.{shown_by, HoldsBut}
use Rattle.dup_build.specs.Missing.{AreCounts}
use Rattle.dup_build.specs.Nodes.{IsNode}

-- each node and each look is the object's own at the content, the pages and the sets are those that a work has
-- there, and what isn't held is loose
pub record IsStock
    (c : Content) (nodes : List (Obj × Node)) (looks : List (Obj × Shown)) (o : Survey) : Type 0 where
  pub nodes_are : (x : Obj) → ForSome (at nodes x) (IsNode c x)
  pub looks_are : (x : Obj) → ForSome (at looks x) (λ s. s.look.value ≡ look c x)
  pub closed : IsClosed c (objs nodes) (objs looks)
  pub pages : o.pages.value ≡ pages c
  pub waits : o.waiting ≡ waiting c (objs nodes)
  pub unjoined : o.unjoined ≡ without (is_in (objs looks)) (found c (objs nodes))
  pub held : HoldsBut (shown_by o.pages.value) nodes [] o.loose
  pub keyed : (x : Obj) → IsTrue (is_in (objs nodes) x) → KeyOk x.key
  pub keys : KeysAreKeys c

-- and of each found object without a look it is known how many of its children have none
pub record IsCounted
    (c : Content) (nodes : List (Obj × Node)) (looks : List (Obj × Shown)) (o : Survey) (missing : List (Obj × ℕ))
    : Type 0 where
  pub stock : IsStock c nodes looks o
  pub counts : AreCounts nodes (objs looks) o.unjoined missing
