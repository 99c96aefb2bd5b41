-- The steps of the press in the world: each is the step of the press by itself, and tells its reply.
use Rattle.std.specs.Prelude.{ℕ, List, Option, Some, None}
use Rattle.std.specs.FinMap as fin
use Rattle.dup_names.specs.Words.{Path}
use Rattle.dup_names.specs.declared.object.Item.{Item}
use Rattle.dup_names.specs.declared.object.Obj.{Obj}
use Rattle.dup_template.specs.declared.value.Value.{Value}
use Rattle.dup_template.specs.declared.site.Parts.{Parts}
use Rattle.dup_model.specs.Commits.{Commit, Refusal}
use Rattle.dup_model.specs.Content.{Content}
use Rattle.dup_model.specs.Expansions.{notes}
use Rattle.dup_model.specs.Pages.{Target}
use Rattle.dup_model.specs.Versions.{content, version}
use Rattle.dup_machine.specs.Builds.{finished_in, handed_by, joined_in, kept_by, opened_at}
use Rattle.dup_machine.specs.Presses.{Press, begin_step, begins, build_at, build_with, commit_step, finish_step, finishes, hand_step, hands, join_step, joins, publish_by, publish_step, put_step, puts, target_by}
use Rattle.dup_machine.specs.World.{Slot, Told, Work, World, told}
use Rattle.dup_machine.specs.World.Told.{Handed, NoneWaits, SlotBusy, SlotEmpty}

-- the press of a world
abbrev pub press_of : World → Press
press_of w = record { commits = w.commits; target = w.target; work = w.work; log = w.log }

abbrev pub with_press : Press → World → World
with_press p w = record w { commits = p.commits; target = p.target; work = p.work; log = p.log }

-- the press gave this reply, and is so now
abbrev pub replied : Told × Press → World → World
replied r w = told r.0 (with_press r.1 w)

-- the content of a version of the journal
abbrev pub at : Parts → World → ℕ → Content
at site w v = version site w.commits v

-- a commit comes, and is refused for this cause, if any
abbrev pub committed : Commit → Option Refusal → World → World
committed c why w = replied (commit_step c why (press_of w)) w

-- this work is open at the last version
abbrev pub opened : Parts → Work → World → World
opened site work w =
    let c = content site w.commits in
    let p = press_of w in
    replied (begins (opened_at work.version c work (build_with work.version c p)) p) w

-- `begin`, with the open work and the version of the target, if any
abbrev pub begun : Parts → Option Work → Option ℕ → World → World
begun site work target w = replied (begin_step site work target (press_of w)) w

-- the object that is handed goes into the slot, with the version of its work
abbrev pub into_slot : ℕ → ℕ → Option Obj → World → World
into_slot slot v None w = told NoneWaits w
into_slot slot v (Some o) w =
    told (Handed o) (record w { slots = fin.insert w.slots slot (record { obj = o; version = v }) })

abbrev pub hands_over : ℕ → ℕ → Option Obj × Press → World → World
hands_over slot v r w = into_slot slot v r.0 (with_press r.1 w)

-- this object waits next, if any
abbrev pub handed_to : Parts → ℕ → Work → Option Obj → World → World
handed_to site slot work o w =
    let p = press_of w in
    hands_over slot work.version (hands (handed_by work o (build_at site work.version p)) p) w

-- `hand`, with the open work and what the slot holds, if anything
abbrev pub handed : Parts → ℕ → Option Work → Option Slot → World → World
handed site slot work (Some held) w = told (SlotBusy slot) w
handed site slot None None w = told NoneWaits w
handed site slot (Some work) None w =
    hands_over slot work.version (hand_step site (Some work) w.target (press_of w)) w

-- an expansion that is asked for, whose first stale note is this, if any
abbrev pub kept : Content → Obj → Work → Option (Item × Value) → World → World
kept c o work why w =
    let p = press_of w in
    replied (puts (kept_by o work why (build_with work.version c p)) p) w

-- an expansion of o with these notes is brought back
abbrev pub put_back : Parts → Obj → List (Item × Value) → Option Work → World → World
put_back site o ns work w = replied (put_step site o ns work w.target (press_of w)) w

-- `put`, with what the slot holds, if anything: the object is expanded over the content of the job, and the
-- slot is emptied
abbrev pub put_from : Parts → ℕ → Option Slot → World → World
put_from site slot None w = told (SlotEmpty slot) w
put_from site slot (Some held) w =
    put_back site held.obj (notes (at site w held.version) held.obj) w.work
    (record w { slots = fin.remove w.slots slot })

-- `join` in an open work, by what waits, what has no look, and the next level
abbrev pub joined_by : Parts → Work → List Obj → List Obj → List Obj → World → World
joined_by site work os us level w =
    let p = press_of w in
    replied (joins (joined_in work os us level (build_at site work.version p)) p) w

abbrev pub joined : Parts → Option Work → World → World
joined site work w = replied (join_step site work w.target (press_of w)) w

-- `finish` in an open work, by what waits and what has no look
abbrev pub finished_by : Content → Work → List Obj → List Obj → World → World
finished_by c work os us w =
    let p = press_of w in
    replied (finishes (finished_in work os us (build_with work.version c p)) p) w

abbrev pub finished : Parts → Option Work → World → World
finished site work w = replied (finish_step site work w.target (press_of w)) w

-- a press without a target has the empty target, of version 0
abbrev pub target_of : Parts → World → Option ℕ → Target
target_of site w target = target_by site w.commits target

-- the bundle of these paths goes behind the log
abbrev pub published_by : Target → ℕ → Option (List Path) → World → World
published_by t v paths w = replied (publish_by t v paths (press_of w)) w

abbrev pub published : Parts → Option ℕ → World → World
published site target w = replied (publish_step site target (press_of w)) w
