-- The steps of works by themselves: over a build, which keeps no journal.
use Rattle.std.specs.Prelude.{ℕ, ◌==◌, List, [], ◌∷◌, Option, Some, None, length, if◌then◌else◌}
use Rattle.dup_names.specs.declared.object.Item.{Item}
use Rattle.dup_names.specs.declared.object.Obj.{Obj}
use Rattle.dup_template.specs.declared.value.Value.{Value}
use Rattle.dup_model.specs.Content.{Content, value}
use Rattle.dup_model.specs.Expansions.{stale}
use Rattle.dup_model.specs.Found.{waiting}
use Rattle.dup_model.specs.Pages.{live}
use Rattle.dup_names.specs.Objects.{is_in}
use Rattle.dup_model.specs.Touched.{without}
use Rattle.dup_machine.specs.World.{Begun, Ended, Joined, Told, Work}
use Rattle.dup_machine.specs.World.Begun.{Nothing, Opened, Same}
use Rattle.dup_machine.specs.World.Told.{Kept, Stale, Unasked}
use Rattle.dup_machine.specs.Works.{first_work, level, moved, next_of, unjoined, with_done, with_joined, work_from}

-- a build: the version and the content of the last `begin`, the version of the target, and the open work
pub record Build : Type 0 where
  pub version : ℕ
  pub content : Content
  pub target : Option ℕ
  pub work : Option Work

-- this work is open at version v with content c
abbrev pub opened_at : ℕ → Content → Work → Build → Begun × Build
opened_at v c work b =
    (Opened v (length (waiting c work.done)), record b { version = v; content = c; work = Some work })

-- `begin` at version v with content c, with the open work and the version of the target, if any
abbrev pub begin_in : ℕ → Content → Option Work → Option ℕ → Build → Begun × Build
begin_in v c (Some work) target b =
    if work.version == v then (Same work.version, b) else opened_at v c (moved b.content v c work) b
begin_in v c None None b = opened_at v c (first_work v) b
begin_in v c None (Some a) b = if a == v then (Nothing a, b) else opened_at v c (work_from b.content v c) b

-- this object waits next, if any
abbrev pub handed_by : Work → Option Obj → Build → Option Obj × Build
handed_by work None b = (None, b)
handed_by work (Some o) b = (Some o, record b { work = Some (record work { last_handed = Some o }) })

-- `hand`, with the open work: the object that is handed, if any
abbrev pub hand_in : Option Work → Build → Option Obj × Build
hand_in None b = (None, b)
hand_in (Some work) b = handed_by work (next_of work.last_handed (waiting b.content work.done)) b

-- an expansion that is asked for, whose first stale note is this, if any
abbrev pub kept_by : Obj → Work → Option (Item × Value) → Build → Told × Build
kept_by o work (Some note) b = (Stale note.0 note.1 (value b.content note.0), b)
kept_by o work None b =
    (Kept o (length (waiting b.content (with_done o work).done)), record b { work = Some (with_done o work) })

-- `put`: an expansion of o with these notes is brought back
abbrev pub put_in : Obj → List (Item × Value) → Option Work → Build → Told × Build
put_in o ns None b = (Unasked o, b)
put_in o ns (Some work) b =
    if is_in (waiting b.content work.done) o then kept_by o work (stale b.content ns) b else (Unasked o, b)

-- `join` in an open work, by what waits, what has no look, and the next level
abbrev pub joined_in : Work → List Obj → List Obj → List Obj → Build → Joined × Build
joined_in work (o ∷ os) us level b = (Joined.Waiting (length (o ∷ os)), b)
joined_in work [] [] level b = (Joined.Done, b)
joined_in work [] (u ∷ us) level b =
    (Joined.Level (length level), record b { work = Some (with_joined level work) })

abbrev pub join_in : Option Work → Build → Joined × Build
join_in None b = (Joined.Idle, b)
join_in (Some work) b =
    joined_in work (waiting b.content work.done) (unjoined b.content work) (level b.content work) b

-- `finish` in an open work, by what waits and what has no look
abbrev pub finished_in : Work → List Obj → List Obj → Build → Ended × Build
finished_in work (o ∷ os) us b = (Ended.Waiting (length (o ∷ os)), b)
finished_in work [] (u ∷ us) b = (Ended.Unjoined (length (u ∷ us)), b)
finished_in work [] [] b = (
  Ended.Report (record {
    version = work.version;
    expanded = work.expanded;
    joined = work.joined;
    kept = length (without (is_in work.once) (live b.content));
  }),
  record b { target = Some work.version; work = None },
)

abbrev pub finish_in : Option Work → Build → Ended × Build
finish_in None b = (Ended.Idle, b)
finish_in (Some work) b = finished_in work (waiting b.content work.done) (unjoined b.content work) b
