-- What a work's skeletons and looks keep: whatever has a look has a skeleton, and what it embeds has looks
-- too. The law above: `closed_law`.
use Rattle.std.specs.Prelude.{◌≡◌, List, [], ◌∷◌, ◌++◌, IsTrue}
use Rattle.dup_names.specs.Order.{obj_cmp}
use Rattle.dup_names.specs.Words.{in_order}
use Rattle.dup_names.specs.declared.object.Obj.{Obj}
use Rattle.dup_model.specs.Content.{Content}
use Rattle.dup_model.specs.Skeletons.{embeds}
use Rattle.dup_model.specs.Pages.{live}
use Rattle.dup_names.specs.Objects.{is_in}
use Rattle.dup_model.specs.Touched.{without, touched, affected}
use Rattle.dup_machine.specs.World.{Work}
use Rattle.dup_model.specs.Found.{waiting}
use Rattle.dup_machine.specs.Works.{unjoined, level, with_joined}
use Rattle.dup_model.specs.Embeddings.{EmbedsEarlier}

pub record IsClosed (c : Content) (done looked : List Obj) : Type 0 where
  pub is_done : (o : Obj) → IsTrue (is_in looked o) → IsTrue (is_in done o)
  pub embedded : (o g : Obj) → IsTrue (is_in looked o) → IsTrue (is_in (embeds c o) g) →
      IsTrue (is_in looked g)

abbrev pub ClosedAtFirst : Type 0
ClosedAtFirst = (c : Content) → IsClosed c [] []

-- one more object is done
abbrev pub ClosedOnceDone : Type 0
ClosedOnceDone = (c : Content) (done looked : List Obj) (o : Obj) → IsClosed c done looked →
    IsClosed c (in_order obj_cmp (o ∷ done)) looked

-- a level is joined
abbrev pub ClosedOnceJoined : Type 0
ClosedOnceJoined = (c : Content) (work : Work) → IsClosed c work.done work.looked → waiting c work.done ≡ [] →
    IsClosed c work.done (in_order obj_cmp (level c work ++ work.looked))

-- the touched objects and the affected looks leave
abbrev pub ClosedOnceMoved : Type 0
ClosedOnceMoved = (a b : Content) (done looked : List Obj) → a.frame ≡ b.frame →
    EmbedsEarlier a → IsClosed a done looked →
    IsClosed b (without (touched a b) done) (without (affected a b) looked)

-- what pages use
abbrev pub ClosedLive : Type 0
ClosedLive = (c : Content) → EmbedsEarlier c → IsClosed c (live c) (live c)

-- once a level is joined, the others are left
abbrev pub LevelLeaves : Type 0
LevelLeaves = (c : Content) (work : Work) → unjoined c (with_joined (level c work) work)
    ≡ without (is_in (level c work)) (unjoined c work)
