-- A build: the works of a press, one after the other, and the pages of its target. Its steps are those of
-- the machine.
use Rattle.std.specs.Prelude.{ℕ, Bool, false, List, [], Option, Some, None}
use Rattle.dup_names.specs.declared.object.Obj.{Obj}
use Rattle.dup_names.specs.declared.object.Item.{Item}
use Rattle.dup_template.specs.declared.value.Value.{Value}
use Rattle.dup_names.specs.declared.value.Look.{Look}
use Rattle.dup_names.specs.Objects.{is_in}
use Rattle.dup_names.specs.Words.{Path}
use Rattle.dup_model.specs.Content.{Content}
use Rattle.dup_model.specs.Found.{waiting}
use Rattle.dup_model.specs.Pages.{live, page_looks}
use Rattle.dup_machine.specs.Builds.{Build, begin_in, finish_in, hand_in, join_in, opened_at, put_in}
use Rattle.dup_machine.specs.World.{Begun, Ended, Joined, Told, Work}
use Rattle.dup_machine.specs.World.Ended.{Report}
use Rattle.dup_machine.specs.Works.{first_work, level, moved, unjoined, work_from}

-- the machine's build, and the look of each page of the target in path order; no page without a target
pub record Built : Type 0 where
  pub works : Build
  pub pages : List (Path × Look)

-- before the first `begin`
abbrev pub first_works : Content → Build
first_works c = record { version = 0; content = c; target = None; work = None }

abbrev pub first_build : Content → Built
first_build c = record { works = first_works c; pages = [] }

-- `begin` at version v with content c
abbrev pub begun : ℕ → Content → Build → Begun × Build
begun v c b = begin_in v c b.work b.target b

-- `hand`
abbrev pub handed : Build → Option Obj × Build
handed b = hand_in b.work b

-- `put` of an expansion of o with these notes
abbrev pub put : Obj → List (Item × Value) → Build → Told × Build
put o notes b = put_in o notes b.work b

-- `join`
abbrev pub joins : Build → Joined × Build
joins b = join_in b.work b

-- `finish`
abbrev pub finished : Build → Ended × Build
finished b = finish_in b.work b

-- the works are these, and the target's pages stay
abbrev pub with_works : Build → Built → Built
with_works w b = record b { works = w }

-- the target's pages once `finish` has given this answer
abbrev pub pages_after : Ended → Built → List (Path × Look)
pages_after (Report counts) b = page_looks b.works.content
pages_after _ b = b.pages

abbrev pub closed : Ended × Build → Built → Built
closed r b = record { works = r.1; pages = pages_after r.0 b }

-- what the build has skeletons of: the open work's, or all that is live at the target
abbrev pub done_by : Content → Option ℕ → Option Work → List Obj
done_by c target (Some work) = work.done
done_by c (Some a) None = live c
done_by c None None = []

-- what it has looks of
abbrev pub looked_by : Content → Option ℕ → Option Work → List Obj
looked_by c target (Some work) = work.looked
looked_by c (Some a) None = live c
looked_by c None None = []

abbrev pub done_in : Build → List Obj
done_in b = done_by b.content b.target b.work

abbrev pub looked_in : Build → List Obj
looked_in b = looked_by b.content b.target b.work

-- the work that is opened at version v with content c: the open one moved, one from the target, or the first
abbrev pub next_work_by : ℕ → Content → Content → Option Work → Option ℕ → Work
next_work_by v a c (Some work) target = moved a v c work
next_work_by v a c None (Some t) = work_from a v c
next_work_by v a c None None = first_work v

abbrev pub opened : ℕ → Content → Build → Begun × Build
opened v c b = opened_at v c (next_work_by v b.content c b.work b.target) b

-- what the open work joined
abbrev pub once_by : Option Work → List Obj
once_by None = []
once_by (Some work) = work.once

-- whether an object waits
abbrev pub waits_by : Content → Option Work → Obj → Bool
waits_by c None o = false
waits_by c (Some work) o = is_in (waiting c work.done) o

-- what waits, what has no look, and what is joined next, where a work is open
abbrev pub waiting_by : Content → Option Work → List Obj
waiting_by c None = []
waiting_by c (Some work) = waiting c work.done

abbrev pub unjoined_by : Content → Option Work → List Obj
unjoined_by c None = []
unjoined_by c (Some work) = unjoined c work

abbrev pub level_by : Content → Option Work → List Obj
level_by c None = []
level_by c (Some work) = level c work
