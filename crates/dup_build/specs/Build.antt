-- How a build is kept.
use Rattle.std.specs.Prelude.{◌≡◌, Some, None, List, [], IsTrue, IfSome, if◌then◌else◌}
use Rattle.std.specs.List.{All}
use Rattle.std.specs.FinMap.Entries.{is_sorted}
use Rattle.std.specs.Option.{option_map}
use Rattle.dup_names.specs.Order.{text_cmp}
use Rattle.dup_names.specs.declared.object.Obj.{Obj}
use Rattle.dup_machine.specs.Builds.{Build}
use Rattle.dup_machine.specs.World.{Work}
use Rattle.dup_build.specs.declared.build.Build.TheInside.{Inside}
use Rattle.dup_build.specs.Built.{Built, done_in, looked_in}
use Rattle.dup_build.specs.Paths.{IsCurrent, looks_in}
use Rattle.dup_build.specs.Spare.{AreTurned}
use Rattle.dup_build.specs.Stocked.{level_in}
use Rattle.dup_build.specs.Targets.{pages_in}
use Rattle.dup_walk.specs.OverReads.{HasReads}

-- the work, where one is open
abbrev pub work_in : Inside → Work
work_in a = record {
  version = a.version;
  last_handed = a.last_handed;
  done = a.stock.done;
  looked = a.stock.looked;
  once = a.once;
  expanded = a.expanded;
  joined = a.joined;
}

abbrev pub works_in : Inside → Build
works_in a = record {
  version = a.version;
  content = a.stock.content;
  target = option_map (λ t. t.version) a.target;
  work = if a.is_open then Some (work_in a) else None;
}

abbrev pub as_built : Inside → Built
as_built a = record { works = works_in a; pages = pages_in a.target }

-- what the open work joined
abbrev pub once_in : Inside → List Obj
once_in a = if a.is_open then a.once else []

-- between two works the stock has all that is live at the target, and the graph has what is done; what the
-- open work didn't join is shown as the target shows it, whose paths rise; a level that is planned is the next;
-- and what is spare is so for the target
pub record IsBuild (a : Inside) : Type 0 where
  pub is_done : a.stock.done ≡ done_in (works_in a)
  pub is_looked : a.stock.looked ≡ looked_in (works_in a)
  pub reads : HasReads a.stock.content a.stock.done a.graph
  pub rising : IsTrue (is_sorted text_cmp (pages_in a.target))
  pub shown : All (IsCurrent a.stock.content a.stock.looked (once_in a)) (looks_in (pages_in a.target))
  pub turned : AreTurned a.same_pages a.stock.content (pages_in a.target) a.spare
  pub planned : IfSome a.next (λ objs. objs.items ≡ level_in a.stock)
