-- The steps of a press by itself. Its site never changes and is handed in.
use Rattle.std.specs.Prelude.{ℕ, ◌+◌, List, [], ◌∷◌, ◌++◌, drop, take, Option, Some, None, length}
use Rattle.std.specs.FinMap as fin
use Rattle.dup_names.specs.Words.{Path}
use Rattle.dup_names.specs.declared.object.Item.{Item}
use Rattle.dup_names.specs.declared.object.Obj.{Obj}
use Rattle.dup_template.specs.declared.value.Value.{Value}
use Rattle.dup_template.specs.declared.site.Parts.{Parts}
use Rattle.dup_model.specs.Bundles.{bundle}
use Rattle.dup_model.specs.Commits.{Commit, Refusal}
use Rattle.dup_model.specs.Content.{Content}
use Rattle.dup_model.specs.Editions.{Bundle, bundle_of, edition, history}
use Rattle.dup_model.specs.Journal.{unless_refused}
use Rattle.dup_model.specs.Pages.{Target, target_at}
use Rattle.dup_model.specs.Versions.{content, version}
use Rattle.dup_machine.specs.Builds.{Build, begin_in, finish_in, hand_in, join_in, put_in}
use Rattle.dup_machine.specs.World.{Begun, Ended, Joined, Told, Work}
use Rattle.dup_machine.specs.World.Told.{Begins, Committed, Finished, Joins, NothingChanged, Published, Refused}

-- a press: the commits that came, the version of the target, the open work, and the log
pub record Press : Type 0 where
  pub commits : List Commit
  pub target : Option ℕ
  pub work : Option Work
  pub log : List Bundle

-- the works of a press whose last `begin` was at version v with content c
abbrev pub build_with : ℕ → Content → Press → Build
build_with v c p = record { version = v; content = c; target = p.target; work = p.work }

-- the version of the last `begin`, by the open work and the version of the target, if any
abbrev pub begun_version : Option Work → Option ℕ → ℕ
begun_version (Some work) target = work.version
begun_version None (Some a) = a
begun_version None None = 0

abbrev pub build_at : Parts → ℕ → Press → Build
build_at site v p = build_with v (version site p.commits v) p

abbrev pub with_build : Build → Press → Press
with_build b p = record p { target = b.target; work = b.work }

-- what is told of a commit behind these, which is refused for this cause, if any
abbrev pub commit_told : List Commit → Option Refusal → Told
commit_told commits None = Committed (length commits + 1)
commit_told commits (Some why) = Refused why

-- a commit comes, and is refused for this cause, if any
abbrev pub commit_step : Commit → Option Refusal → Press → Told × Press
commit_step c why p = (commit_told p.commits why, record p { commits = unless_refused p.commits c why })

abbrev pub begins : Begun × Build → Press → Told × Press
begins r p = (Begins r.0, with_build r.1 p)

-- `begin`, with the open work and the version of the target, if any
abbrev pub begin_step : Parts → Option Work → Option ℕ → Press → Told × Press
begin_step site work target p =
    begins (begin_in (length p.commits) (content site p.commits) work target
    (build_at site (begun_version work target) p)) p

abbrev pub hands : Option Obj × Build → Press → Option Obj × Press
hands r p = (r.0, with_build r.1 p)

-- `hand`, with the open work: the object that is handed, if any
abbrev pub hand_step : Parts → Option Work → Option ℕ → Press → Option Obj × Press
hand_step site work target p = hands (hand_in work (build_at site (begun_version work target) p)) p

abbrev pub puts : Told × Build → Press → Told × Press
puts r p = (r.0, with_build r.1 p)

-- `put`: an expansion of o with these notes is brought back
abbrev pub put_step : Parts → Obj → List (Item × Value) → Option Work → Option ℕ → Press → Told × Press
put_step site o notes work target p =
    puts (put_in o notes work (build_at site (begun_version work target) p)) p

abbrev pub joins : Joined × Build → Press → Told × Press
joins r p = (Joins r.0, with_build r.1 p)

abbrev pub join_step : Parts → Option Work → Option ℕ → Press → Told × Press
join_step site work target p = joins (join_in work (build_at site (begun_version work target) p)) p

abbrev pub finishes : Ended × Build → Press → Told × Press
finishes r p = (Finished r.0, with_build r.1 p)

abbrev pub finish_step : Parts → Option Work → Option ℕ → Press → Told × Press
finish_step site work target p = finishes (finish_in work (build_at site (begun_version work target) p)) p

-- a press without a target has the empty target, of version 0
abbrev pub target_by : Parts → List Commit → Option ℕ → Target
target_by site commits None = fin.empty
target_by site commits (Some v) = target_at site commits v

abbrev pub version_of : Option ℕ → ℕ
version_of None = 0
version_of (Some v) = v

-- the bundle of these paths goes behind the log
abbrev pub publish_by : Target → ℕ → Option (List Path) → Press → Told × Press
publish_by t v None p = (NothingChanged, p)
publish_by t v (Some paths) p =
    let b = bundle_of t v (drop (length (history p.log)) (take v p.commits)) paths in
    (Published (length p.log + 1) v (length b.puts) (length b.drops), record p { log = p.log ++ b ∷ [] })

-- `publish`, with the version of the target, if any
abbrev pub publish_step : Parts → Option ℕ → Press → Told × Press
publish_step site target p =
    publish_by (target_by site p.commits target) (version_of target)
    (bundle (edition p.log) (target_by site p.commits target)) p
