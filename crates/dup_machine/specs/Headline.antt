-- The headline. The laws above: `headline`, `runs_law`.
use Rattle.std.specs.Prelude.{◌≡◌, ℕ, ◌≤◌, ◌<◌, ◌++◌, Bool, List, Some, None, length, take, slice_get}
use Rattle.std.specs.FinMap as fin
use Rattle.dup_template.specs.declared.site.Parts.{Parts}
use Rattle.dup_names.specs.Words.{Path}
use Rattle.dup_model.specs.Commits.{Commit}
use Rattle.dup_model.specs.Versions.{content}
use Rattle.dup_model.specs.Journal.{Limits}
use Rattle.dup_model.specs.Pages.{target}
use Rattle.dup_model.specs.Editions.{Page, Bundle, edition, history, looks, target_looks}
use Rattle.dup_model.specs.Logs.{IsGoodLog}
use Rattle.dup_model.specs.Answers.{Reply, How}
use Rattle.dup_model.specs.Answers.Reply.{Found, Absent, Ahead}
use Rattle.dup_machine.specs.World.{Event, Told, answered}
use Rattle.dup_machine.specs.World.Event.{Request}
use Rattle.dup_machine.specs.Status.{NothingPending}
use Rattle.dup_machine.specs.Run.{run}

abbrev pub IsPrefixOf : List Commit → List Commit → Type 0
IsPrefixOf xs ys = (rest : List Commit) × (xs ++ rest ≡ ys)

-- the i-th event is this request, and the i-th reply is this
abbrev pub Replied : List Event → List Told → ℕ → ℕ → Path → Reply → Type 0
Replied events replies i pass path reply =
    (node : ℕ) × ((kept : Bool) × (slice_get events i ≡ Some (Request node pass path kept))
    × (slice_get replies i ≡ Some (answered reply)))

-- the log is good, and its commits are the first of those that came
abbrev pub LogIsGood : Parts → Limits → List Event → Type 0
LogIsGood site limits events = IsGoodLog site (run site limits events).log
    × IsPrefixOf (history (run site limits events).log) (run site limits events).commits

-- what is found is its path's page in one edition that is no older than the pass; what is absent isn't in one
abbrev pub RepliesAreTrue : Parts → Limits → List Event → Type 0
RepliesAreTrue site limits events =
    ((i pass e : ℕ) (path : Path) (page : Page) (how : How) →
    Replied events (run site limits events).replies i pass path (Found e page how) →
    (pass ≤ e) × (e ≤ length (run site limits events).log)
    × (fin.get (edition (take e (run site limits events).log)) path ≡ Some page))
    × ((i pass e : ℕ) (path : Path) → Replied events (run site limits events).replies i pass path (Absent e) →
    (pass ≤ e) × (e ≤ length (run site limits events).log)
    × (fin.get (edition (take e (run site limits events).log)) path ≡ None))

-- a reply that one is ahead names the length of the log at its step
abbrev pub AheadIsTrue : Parts → Limits → List Event → Type 0
AheadIsTrue site limits events =
    (i pass named e : ℕ) (path : Path) →
    Replied events (run site limits events).replies i pass path (Ahead named e) →
    (e ≡ length (run site limits (take i events)).log) × (e < pass) × (named ≡ pass)

-- where nothing is pending, the newest edition is the whole site at the last commit
abbrev pub SettledIsWhole : Parts → Limits → List Event → Type 0
SettledIsWhole site limits events =
    let w = run site limits events in
    NothingPending site w → (p : Path) →
    looks (edition w.log) p ≡ target_looks (target (content site w.commits)) p

-- the four clauses of the headline, at these events
abbrev pub HeadlineAt : Parts → Limits → List Event → Type 0
HeadlineAt site limits events =
    LogIsGood site limits events × RepliesAreTrue site limits events × AheadIsTrue site limits events
    × SettledIsWhole site limits events

-- over every list of events
abbrev pub Headline : Type 0
Headline = (site : Parts) (limits : Limits) (events : List Event) → HeadlineAt site limits events

-- each event has one reply, the i-th that of the i-th
abbrev pub EachEventIsAnswered : Type 0
EachEventIsAnswered = (site : Parts) (limits : Limits) (events : List Event) →
    length (run site limits events).replies ≡ length events

-- the log after the first events is a first part of the log after all
abbrev pub LogGrows : Type 0
LogGrows = (site : Parts) (limits : Limits) (events : List Event) (i : ℕ) →
    (more : List Bundle) × ((run site limits (take i events)).log ++ more ≡ (run site limits events).log)
