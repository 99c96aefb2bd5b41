-- The state of the machine, its events and its replies. The law above: `runs_law`.
use Rattle.std.specs.Prelude.{ℕ, Bool, List, [], ◌++◌, ◌∷◌, Option, None}
use Rattle.std.specs.Ordering.{nat_cmp}
use Rattle.std.specs.FinMap as fin
use Rattle.dup_names.specs.declared.object.Obj.{Obj}
use Rattle.dup_names.specs.declared.object.Item.{Item}
use Rattle.dup_template.specs.declared.value.Value.{Value}
use Rattle.dup_names.specs.Words.{Path}
use Rattle.dup_model.specs.Commits.{Commit, Refusal}
use Rattle.dup_model.specs.Editions.{Bundle, Page}
use Rattle.dup_model.specs.Caches.{Cache}
use Rattle.dup_model.specs.declared.mode.Mode.{Mode}
use Rattle.dup_model.specs.Answers.{Reply, How}

-- a work: its version, the object last handed, the objects whose skeletons and whose looks it has, those that
-- it joined, and two counts
pub record Work : Type 0 where
  pub version : ℕ
  pub last_handed : Option Obj
  pub done : List Obj
  pub looked : List Obj
  pub once : List Obj
  pub expanded : ℕ
  pub joined : ℕ

-- a job: an object, and the version at which it was handed
pub record Slot : Type 0 where
  pub obj : Obj
  pub version : ℕ

-- what `begin` answers
pub data Begun : Type 0 where
  Same : ℕ → Begun  -- a work is open at the last version
  Nothing : ℕ → Begun  -- no work is open, and the target is of the last version
  Opened : ℕ → ℕ → Begun  -- the version, and how many wait

-- what `join` answers
pub data Joined : Type 0 where
  Idle : Joined  -- no work is open
  Waiting : ℕ → Joined  -- so many objects wait
  Done : Joined  -- every found object has a look
  Level : ℕ → Joined  -- so many objects got their looks

-- what a work did, and how many live objects it never joined
pub record Counts : Type 0 where
  pub version : ℕ
  pub expanded : ℕ
  pub joined : ℕ
  pub kept : ℕ

-- what `finish` answers
pub data Ended : Type 0 where
  Idle : Ended  -- no work is open
  Waiting : ℕ → Ended  -- so many objects wait
  Unjoined : ℕ → Ended  -- so many found objects have no look
  Report : Counts → Ended  -- the work is closed

-- the reply to an event
pub data Told : Type 0 where
  Committed : ℕ → Told
  Refused : Refusal → Told
  Begins : Begun → Told
  SlotBusy : ℕ → Told
  Handed : Obj → Told
  NoneWaits : Told
  SlotEmpty : ℕ → Told
  Kept : Obj → ℕ → Told  -- the object, and how many wait
  Stale : Item → Value → Value → Told  -- the item, its noted and its present value
  Unasked : Obj → Told
  Joins : Joined → Told
  Finished : Ended → Told
  Published : ℕ → ℕ → ℕ → ℕ → Told  -- the number, the version, and the numbers of puts and drops
  NothingChanged : Told
  NodeMade : ℕ → Told
  NodeTaken : ℕ → Told
  NoNode : ℕ → Told
  Delivered : ℕ → ℕ → ℕ → Told  -- the node, its edition and its entries
  Found : ℕ → Page → How → Told  -- the edition, the page, and how
  Absent : ℕ → Told  -- the edition
  Ahead : ℕ → ℕ → Told  -- the pass, and the edition
  Evicted : Bool → Told

-- what a request is told
abbrev pub answered : Reply → Told
answered (Reply.Found e page how) = Told.Found e page how
answered (Reply.Absent e) = Told.Absent e
answered (Reply.Ahead pass e) = Told.Ahead pass e

-- the commits that came, the version of the target, the open work, the log, the caches of the nodes and the
-- filled slots by their numbers, and the replies
pub record World : Type 0 where
  pub commits : List Commit
  pub target : Option ℕ
  pub work : Option Work
  pub log : List Bundle
  pub nodes : fin.FinMap nat_cmp Cache
  pub slots : fin.FinMap nat_cmp Slot
  pub replies : List Told

-- what may happen
pub data Event : Type 0 where
  Comes : Commit → Event  -- a commit comes
  Begin : Event
  Hand : ℕ → Event  -- into this slot
  Put : ℕ → Event  -- from this slot
  Join : Event
  Finish : Event
  Publish : Event
  Node : ℕ → ℕ → Mode → Event  -- its number, capacity and mode
  Deliver : ℕ → Event
  Request : ℕ → ℕ → Path → Bool → Event  -- the node, the pass, the path, and whether a miss is kept
  Evict : ℕ → Path → Event

-- before the first event
abbrev pub first_world : World
first_world = record {
  commits = [];
  target = None;
  work = None;
  log = [];
  nodes = fin.empty;
  slots = fin.empty;
  replies = [];
}

-- the reply is given, and the rest stands
abbrev pub told : Told → World → World
told reply w = record w { replies = w.replies ++ reply ∷ [] }
