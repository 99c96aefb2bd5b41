-- What stands written at each status that a fault or want of memory gives.
use Rattle.std.proofs.Common.{◌≡◌, ◌≢◌, inl, inr, ℕ, Bool, true, refl, sym, ap, ◌∙◌, subst, List, [], ◌++◌, append-nil, take, length, zero, suc, arith}
use Rattle.std.specs.Prelude.{◌⊎◌, None, Some, Option, Result, Ok, Err, IsSomeAnd}
use Rattle.std.specs.Io.KnownBytes.{Appends}
use Rattle.std.proofs.KnownBytes.{Appends-trans, Appends-nil}
use Rattle.std.proofs.lemmas.Option.{same_Some}
use Rattle.dup_io.specs.Causes.{AppendsPrefix, Rose}
use Rattle.dup_names.specs.Lines.{Reading, reading}
use Rattle.dup_names.specs.Words.{Word}
use Rattle.dup_template.specs.declared.site.Parts.{Parts}
use Rattle.dup_transcript.specs.Beginnings.{BreaksOff}
use Rattle.dup_transcript.specs.Inputs.{site_is_read, site_text}
use Rattle.dup_transcript.specs.Transcript.{DoesRead, DoesSite, IsTranscript, ending, site_for}
use Rattle.dup_transcript.specs.declared.task.Task.{Task}
use Rattle.dup_transcript.specs.declared.task.Task.TheVariants as tasks
use Rattle.dup_transcript.proofs.Beginnings.{beginnings_go_on}
use Rattle.dup_main.specs.Breaks.{Breaks, IsGoodInput, IsWithin, StopsReading, WritesBroken, WritesPart, WritesPartOf, WritesReadFault, WritesSome, last_line, read_fault}
use Rattle.dup_main.specs.Stops.{StopsAt, stop_status, stop_text, writes}
use Rattle.dup_main.specs.Transcript.{WritesTranscript, grammars}
use Rattle.dup_main.specs.declared.stop.Stop.{Stop}
use Rattle.dup_main.specs.declared.stop.Stop.TheVariants as stops
use Rattle.dup_main.proofs.PlayedRuns.{grammars_good, line_written}
use Rattle.dup_main.proofs.Prefixes.{prefix_behind, prefix_longer}

-- nothing is a part of any text
pub nothing_part : (old : Option Word) → AppendsPrefix old old []
nothing_part old = (0, omega arith, Appends-nil old)

-- status 3
fault_line : (task : Task) (input left old mid new : Option Word) → Breaks task stops.ReadFault input left old mid → Appends mid new read_fault → WritesReadFault task input left old new
fault_line task None left old mid new b put = tt
fault_line task (Some input) left old mid new b put = (b.0, b.1, Appends-trans old mid new _ _ b.2 put)

pub fault_told : (asked : Option Task) (task : Task) (stop : Stop) (input left old mid new : Option Word) → asked ≡ Some task → stop ≡ stops.ReadFault → Breaks task stop input left old mid
    → Appends mid new read_fault → IsSomeAnd asked (λ t. WritesReadFault t input left old new)
fault_told asked task stop input left old mid new is at b put =
    subst (λ (o : Option Task). IsSomeAnd o (λ t. WritesReadFault t input left old new)) (sym is)
    (fault_line task input left old mid new (subst (λ (s : Stop). Breaks task s input left old mid) at b) put)

-- status 6
broken : (task : Task) (stop : Stop) (input left old mid : Option Word) → stop ≢ stops.ReadFault → stop ≢ stops.WriteFault → Breaks task stop input left old mid → WritesBroken task input old mid
broken task stop None left old mid read write b = tt
broken task stops.ReadFault (Some input) left old mid read write b = absurd (read refl)
broken task stops.WriteFault (Some input) left old mid read write b = absurd (write refl)
broken task (stops.BadSite why) (Some input) left old mid read write b = b
broken task stops.NoMemory (Some input) left old mid read write b = b
broken task (stops.LineTooLong n) (Some input) left old mid read write b = b
broken task stops.InputTooLong (Some input) left old mid read write b = b

pub broken_told : (asked : Option Task) (task : Task) (stop : Stop) (input left old mid new : Option Word) → asked ≡ Some task → (stop ≢ stops.ReadFault) × (stop ≢ stops.WriteFault)
    → Breaks task stop input left old mid → new ≡ mid → IsSomeAnd asked (λ t. WritesBroken t input old new)
broken_told asked task stop input left old mid new is other b same =
    subst (λ (o : Option Task). IsSomeAnd o (λ t. WritesBroken t input old new)) (sym is)
    (subst (λ (o : Option Word). WritesBroken task input old o) (sym same) (broken task stop input left old mid other.0 other.1 b))

-- status 4
some_goes_on : (task : Task) (r : Reading) (out : Word) → WritesSome task r out → (more : Word) × (status : ℕ) × IsTranscript grammars task r status (out ++ more)
some_goes_on task r out w = elim w [
  | inl some_lines ↦ let on = beginnings_go_on grammars grammars_good task r out some_lines in (on.1, on.0, on.2)
  | inr every ↦ ([], every.0, subst (IsTranscript grammars task r every.0) (sym (append-nil out)) every.1)
]

part_then_nothing : (old mid new : Option Word) (out : Word) → AppendsPrefix old mid out → AppendsPrefix mid new [] → AppendsPrefix old new out
part_then_nothing old mid new out part none = (
  part.0,
  part.1,
  subst (Appends old new) (append-nil (take part.0 out)) (Appends-trans old mid new _ [] part.2 (subst (Appends mid new) (take_none none.0) none.2)),
)
  where
    take_none : (n : ℕ) → take {A = ℕ} n [] ≡ []
    take_none zero = refl
    take_none (suc n) = refl

part_at : (task : Task) (stop : Stop) (input : Word) (left old mid new : Option Word) → stop ≢ stops.NoMemory → Breaks task stop (Some input) left old mid
    → StopsAt task stop (Some input) old mid → AppendsPrefix mid new (last_line stop) → WritesPart task (Some input) left old new
part_at task stops.ReadFault input left old mid new other b s put = (b.0 ++ read_fault, prefix_behind old mid new b.0 read_fault b.2 put, inr (b.0, b.1, refl))
part_at task stops.WriteFault input left old mid new other b s put =
    let on = some_goes_on task (reading 0 0 input) b.0 b.1 in
    (b.0 ++ on.0, prefix_longer old new b.0 on.0 (part_then_nothing old mid new b.0 b.2 put), inl (on.1, on.2))
part_at task stops.NoMemory input left old mid new other b s put = absurd (other refl)
part_at task (stops.BadSite why) input left old mid new other b s put =
    let d = s refl in (d.0 ++ stop_text (stops.BadSite why), prefix_behind old mid new d.0 _ d.2 put, inl (5, d.1))
part_at task (stops.LineTooLong n) input left old mid new other b s put =
    let d = s refl in (d.0 ++ stop_text (stops.LineTooLong n), prefix_behind old mid new d.0 _ d.2 put, inl (7, d.1))
part_at task stops.InputTooLong input left old mid new other b s put =
    let d = s refl in (d.0 ++ stop_text stops.InputTooLong, prefix_behind old mid new d.0 _ d.2 put, inl (7, d.1))

part : (task : Task) (stop : Stop) (input left old mid new : Option Word) → stop ≢ stops.NoMemory → Breaks task stop input left old mid
    → StopsAt task stop input old mid → AppendsPrefix mid new (last_line stop) → WritesPart task input left old new
part task stop None left old mid new other b s put = tt
part task stop (Some input) left old mid new other b s put = part_at task stop input left old mid new other b s put

pub part_told : (asked : Option Task) (task : Task) (stop : Stop) (input left old mid new : Option Word) → asked ≡ Some task → (stop ≢ stops.NoMemory) × AppendsPrefix mid new (last_line stop)
    → Breaks task stop input left old mid → StopsAt task stop input old mid → WritesPartOf asked input left old new
part_told asked task stop input left old mid new is put b s =
    subst (λ (o : Option Task). WritesPartOf o input left old new) (sym is) (part task stop input left old mid new put.0 b s put.1)

-- a good input gives no other status
no_other : (task : Task) (r : Reading) (status : ℕ) (out : Word) → IsWithin task r → IsTranscript grammars task r status out → status ≡ 0
no_other task r status out within made =
    let site : Parts = within.1.0 in
    let read : DoesRead grammars task true r made.0 status out = subst (λ (b : Bool). DoesRead grammars task b r made.0 status out) within.0 made.1 in
    let does : DoesSite grammars task (Ok site) r made.0 status out = subst (λ (s : Result Parts Word). DoesSite grammars task s r made.0 status out) within.1.1 read in
    by_task task within.2 does
  where
    by_task : (t : Task) → (t ≢ tasks.Check → ending r ≡ 0) → DoesSite grammars t (Ok within.1.0) r made.0 status out → status ≡ 0
    by_task tasks.Play ends does = does.0 ∙ ends (λ e. absurd (cc))
    by_task tasks.Check ends does = does.1.0
    by_task tasks.Render ends does = does.1.0 ∙ ends (λ e. absurd (cc))

pub none_bad : (asked : Option Task) (input old new : Option Word) (status : ℕ) → IsSomeAnd asked (λ task. IsGoodInput task input) → IsSomeAnd asked (λ task. WritesTranscript task input old new status) → status ≡ 0
none_bad None input old new status good w = absurd good
none_bad (Some task) None old new status good w = absurd good
none_bad (Some task) (Some input) old new status good w = no_other task (reading 0 0 input) status w.0 good w.1

pub none_cut : (asked : Option Task) (task : Task) (stop : Stop) (input old mid new : Option Word) (status : ℕ) → asked ≡ Some task → StopsAt task stop input old mid
    → (writes stop ≡ true) × (status ≡ stop_status stop) × Appends mid new (stop_text stop) → IsSomeAnd asked (λ t. IsGoodInput t input) → status ≡ 0
none_cut asked task stop input old mid new status is s written good =
    let w : WritesTranscript task input old new status = line_written task stop input old mid new status s written.0 written.1 written.2 in
    none_bad (Some task) input old new status (subst (λ (o : Option Task). IsSomeAnd o (λ t. IsGoodInput t input)) is good) w
