-- The events of settling, what it reports, and that it leaves nothing pending. The law above: `settle_law`.
use Rattle.std.specs.Prelude.{◌≡◌, ◌==◌, ℕ, zero, suc, ◌≤◌, ◌-◌, ◌^◌, ◌&&◌, not, List, [], ◌∷◌, ◌++◌, Option, Some, None, length, if◌then◌else◌, false}
use Rattle.std.specs.List.{fold, filter}
use Rattle.std.specs.FinMap as fin
use Rattle.dup_names.specs.Words.{Path}
use Rattle.dup_template.specs.declared.site.Parts.{Parts}
use Rattle.dup_model.specs.Content.{Content}
use Rattle.dup_model.specs.Versions.{content, target_content}
use Rattle.dup_model.specs.Journal.{Limits}
use Rattle.dup_model.specs.Pages.{live}
use Rattle.dup_names.specs.Objects.{is_in}
use Rattle.dup_model.specs.Touched.{expanded, joined, without}
use Rattle.dup_model.specs.Needs.{changed}
use Rattle.dup_model.specs.Editions.{edition, looks, target_looks}
use Rattle.dup_machine.specs.World.{World, Work, Counts, Event}
use Rattle.dup_machine.specs.World.Event.{Begin, Hand, Put, Join, Finish, Publish}
use Rattle.dup_machine.specs.World.Begun.{Nothing}
use Rattle.dup_machine.specs.World.Joined.{Done}
use Rattle.dup_machine.specs.World.Told.{Begins, Finished, Joins, NoneWaits, NothingChanged}
use Rattle.dup_machine.specs.Until.{FirstTold, LastTold}
use Rattle.dup_machine.specs.World.Ended.{Report}
use Rattle.dup_machine.specs.Works.{moved, more}
use Rattle.dup_machine.specs.Press.{at, target_of}
use Rattle.dup_machine.specs.Run.{step}
use Rattle.dup_machine.specs.Status.{NothingPending}
use Rattle.dup_model.specs.Embeddings.{EmbedsEarlier}

-- a hand and a put, so many times
abbrev pub hands : ℕ → List Event
hands zero = []
hands (suc k) = Hand 0 ∷ Put 0 ∷ hands k

abbrev pub joins : ℕ → List Event
joins zero = []
joins (suc m) = Join ∷ joins m

abbrev pub publishes : ℕ → List Event
publishes zero = []
publishes (suc n) = Publish ∷ publishes n

-- so many objects are handed and put back, and one hand comes after them
abbrev pub handing : ℕ → List Event
handing k = hands k ++ Hand 0 ∷ []

-- so many levels are joined, and one join comes after them
abbrev pub joining : ℕ → List Event
joining m = joins m ++ Join ∷ []

-- so many bundles are published, and one publish comes after them
abbrev pub publishing : ℕ → List Event
publishing n = publishes n ++ Publish ∷ []

-- settling up to its report
abbrev pub settling : ℕ → ℕ → List Event
settling k m = Begin ∷ (handing k ++ (joining m ++ Finish ∷ []))

-- from a state with an open work, so many objects are handed until none waits, and then so many levels are
-- joined until every object has a look
pub record IsWorked (site : Parts) (limits : Limits) (w : World) (k m : ℕ) : Type 0 where
  pub handed : FirstTold site limits w handing NoneWaits k
  pub joined : FirstTold site limits (fold (step site limits) w (handing k)) joining (Joins Done) m

-- so many bundles are published until nothing is changed
abbrev pub AllPublished : Parts → Limits → World → ℕ → Type 0
AllPublished site limits w n = FirstTold site limits w publishing NothingChanged n

-- what a settle does and counts: a work is begun, handed, joined and finished, and bundles are published
-- until nothing is changed; where there is nothing to begin, bundles are published at once
pub data Settles (site : Parts) (limits : Limits) (w : World) : List Event → Counts → Type 0 where
  by_work : (k m n : ℕ) (counts : Counts) →
      IsWorked site limits (step site limits w Begin) k m →
      LastTold (fold (step site limits) w (settling k m)) (Finished (Report counts)) →
      AllPublished site limits (fold (step site limits) w (settling k m)) n →
      Settles site limits w (settling k m ++ publishing n) counts
  at_once : (v n : ℕ) → LastTold (step site limits w Begin) (Begins (Nothing v)) →
      AllPublished site limits (step site limits w Begin) n →
      Settles site limits w (Begin
      ∷ publishing n) (record {
        version = v;
        expanded = 0;
        joined = 0;
        kept = length (live (content site w.commits));
      })

-- the counts on the way from a target to version v with content b; a count is the size, or its last value
abbrev pub counts_of : Option Content → Content → ℕ → Counts
counts_of a b v = record {
  version = v;
  expanded = more 0 (length (expanded a b));
  joined = more 0 (length (joined a b));
  kept = length (without (is_in (joined a b)) (live b));
}

-- the work that is open once `begin` was called over an open work: the same, or moved to the last version
abbrev pub begun_work : Parts → World → Work → Work
begun_work site w work =
    if work.version == length w.commits then work
    else moved (at site w work.version) (length w.commits) (content site w.commits) work

-- the counts of a work that is open at version v with content b: what it did before, and what it has left
abbrev pub counts_from : Content → ℕ → Work → Counts
counts_from b v work = record {
  version = v;
  expanded = more work.expanded (length (without (is_in work.done) (live b)));
  joined = more work.joined (length (without (is_in work.looked) (live b)));
  kept = length (filter (λ o. is_in work.looked o && not (is_in work.once o)) (live b));
}

-- no work is open any more, the target is of the last version, the slot is empty, and the last reply is this
-- report; all else is as it was
pub record IsSettled (w : World) (counts : Counts) (v : World) : Type 0 where
  pub idle : v.work ≡ None
  pub target : v.target ≡ Some (length w.commits)
  pub commits : v.commits ≡ w.commits
  pub log : v.log ≡ w.log
  pub nodes : v.nodes ≡ w.nodes
  pub slot : fin.get v.slots 0 ≡ None
  pub report : LastTold v (Finished (Report counts))

-- from a state with no work, whose target isn't of the last version, settling hands just what is to be
-- expanded, and reports
abbrev pub SettleReports : Type 0
SettleReports = (site : Parts) (limits : Limits) (w : World) → EmbedsEarlier (content site w.commits) →
    w.work ≡ None → (w.target ≡ Some (length w.commits) → ⊥) → fin.get w.slots 0 ≡ None →
    let made = target_content site w.commits w.target in
    let last = content site w.commits in
    let k = length (expanded made last) in
    (m : ℕ) × IsWorked site limits (step site limits w Begin) k m
    × IsSettled w (counts_of made last (length w.commits)) (fold (step site limits) w (settling k m))

-- where the target is of the last version, the same counts say that nothing is done
abbrev pub NothingIsDone : Type 0
NothingIsDone = (c : Content) (v : ℕ) →
    counts_of (Some c) c v ≡ record { version = v; expanded = 0; joined = 0; kept = length (live c) }

-- from a state with an open work, at whatever version, settling hands what is left, and reports the whole
-- work
abbrev pub SettleResumes : Type 0
SettleResumes = (site : Parts) (limits : Limits) (w : World) (work : Work) → EmbedsEarlier (content site w.commits) →
    w.work ≡ Some work → fin.get w.slots 0 ≡ None → work.expanded ≤ 2 ^ 64 - 1 → work.joined ≤ 2 ^ 64 - 1 →
    let begun = begun_work site w work in
    let last = content site w.commits in
    let k = length (without (is_in begun.done) (live last)) in
    (m : ℕ) × IsWorked site limits (step site limits w Begin) k m
    × IsSettled w (counts_from last (length w.commits) begun) (fold (step site limits) w (settling k m))

-- the press is as it was but for its log, and no path is changed
pub record IsPublished (site : Parts) (w : World) (v : World) : Type 0 where
  pub work : v.work ≡ w.work
  pub target : v.target ≡ w.target
  pub commits : v.commits ≡ w.commits
  pub none : (p : Path) → changed (looks (edition v.log)) (target_looks (target_of site w w.target)) p ≡ false

-- publishing comes to an end
abbrev pub PublishEnds : Type 0
PublishEnds = (site : Parts) (limits : Limits) (w : World) → (n : ℕ) × AllPublished site limits w n
    × IsPublished site w (fold (step site limits) w (publishing n))

-- every state whose slot is empty can be settled, and nothing is pending then
abbrev pub SettleEnds : Type 0
SettleEnds = (site : Parts) (limits : Limits) (w : World) → EmbedsEarlier (content site w.commits) →
    fin.get w.slots 0 ≡ None →
    (events : List Event) × ((counts : Counts) × Settles site limits w events counts
    × NothingPending site (fold (step site limits) w events))
