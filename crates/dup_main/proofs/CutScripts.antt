-- Stops behind the site text: what was answered before them, whatever the task.
use Rattle.std.proofs.Common.{◌≡◌, inl, inr, ℕ, refl, sym, ap, ◌∙◌, subst, ◌++◌}
use Rattle.std.specs.Prelude.{None, Some, Option, Result, Ok, Err, IfErr, IsErrAnd, ◌⊎◌}
use Rattle.std.specs.Io.KnownBytes.{Appends}
use Rattle.dup_names.specs.Lines.{Reading, LongLine, LongInput}
use Rattle.dup_io.specs.declared.lines.LineFault.{LineFault}
use Rattle.dup_names.specs.Words.{Word}
use Rattle.dup_main.specs.declared.stop.Stop.{Stop}
use Rattle.dup_main.specs.declared.stop.Stop.TheVariants as stops
use Rattle.dup_main.specs.LineStops.{stop_of}
use Rattle.dup_main.specs.Stops.{StopsInScript}
use Rattle.dup_transcript.specs.Transcript.{ending, too_long_line, too_long_input}
use Rattle.dup_main.proofs.SiteSoFar.{IsDue}

-- of the lines some were answered by done: it is all that may be written before the line on what is too long
pub record IsAnswered (may : Reading → Word → Type 0) (all rest : Reading) (done : Word) : Type 0 where
  pub ends : ending all ≡ ending rest
  pub line : (n : ℕ) → rest ≡ LongLine n → may all (done ++ too_long_line n)
  pub input : rest ≡ LongInput → may all (done ++ too_long_input)

abbrev pub Reaches : (Reading → Word → Type 0) → Option Reading → Option Reading → Option Word → Option Word → Type 0
Reaches may None rest old new = Unit {0}
Reaches may (Some all) None old new = ⊥
Reaches may (Some all) (Some rest) old new = (done : Word) × Appends old new done × IsAnswered may all rest done

cut : (stop : Stop) (may : Reading → Word → Type 0) (a r : Option Reading) (old new : Option Word) → Reaches may a r old new → IsDue stop r → StopsInScript stop may a old new
cut (stops.LineTooLong n) may None r old new p due = inl tt
cut (stops.LineTooLong n) may (Some all) None old new p due = absurd p
cut (stops.LineTooLong n) may (Some all) (Some r) old new p due = (λ is. (p.0, p.2.ends ∙ ap ending due, p.2.line n due, p.1), inl tt)
cut stops.InputTooLong may None r old new p due = inl tt
cut stops.InputTooLong may (Some all) None old new p due = absurd p
cut stops.InputTooLong may (Some all) (Some r) old new p due = (λ is. (p.0, p.2.ends ∙ ap ending due, p.2.input due, p.1), inl tt)
cut stops.WriteFault may a r old new p due = absurd due
cut (stops.BadSite why) may a r old new p due = absurd due
cut stops.ReadFault may None r old new p due = inl tt
cut stops.ReadFault may (Some all) r old new p due = (λ is. absurd (cc), inl tt)
cut stops.NoMemory may None r old new p due = inl tt
cut stops.NoMemory may (Some all) r old new p due = (λ is. absurd (cc), inl tt)

pub stops_in_script : {X : Type 0} (result : Result X Stop) (f : LineFault) (may : Reading → Word → Type 0) (a r : Option Reading) (old new : Option Word)
    → Reaches may a r old new → IsDue (stop_of f) r → IsErrAnd result (λ stop. stop ≡ stop_of f) → IfErr result (λ stop. StopsInScript stop may a old new)
stops_in_script (Ok x) f may a r old new p due is = tt
stops_in_script (Err stop) f may a r old new p due is =
    subst (λ (s : Stop). StopsInScript s may a old new) (sym is) (cut (stop_of f) may a r old new p due)

-- want of memory, and a fault of writing, say nothing of what was read
pub quiet : (stop : Stop) (may : Reading → Word → Type 0) (a : Option Reading) (old new : Option Word) → (stop ≡ stops.NoMemory) ⊎ (stop ≡ stops.WriteFault)
    → StopsInScript stop may a old new
quiet (stops.LineTooLong n) may a old new (inl e) = absurd (cc)
quiet (stops.LineTooLong n) may a old new (inr e) = absurd (cc)
quiet stops.InputTooLong may a old new (inl e) = absurd (cc)
quiet stops.InputTooLong may a old new (inr e) = absurd (cc)
quiet stops.WriteFault may None old new e = inr refl
quiet stops.WriteFault may (Some all) old new e = (λ is. absurd (cc), inr refl)
quiet (stops.BadSite why) may a old new (inl e) = absurd (cc)
quiet (stops.BadSite why) may a old new (inr e) = absurd (cc)
quiet stops.ReadFault may a old new (inl e) = absurd (cc)
quiet stops.ReadFault may a old new (inr e) = absurd (cc)
quiet stops.NoMemory may None old new e = inl tt
quiet stops.NoMemory may (Some all) old new e = (λ is. absurd (cc), inl tt)

pub stops_quietly : {X : Type 0} (result : Result X Stop) (may : Reading → Word → Type 0) (a : Option Reading) (old new : Option Word)
    → IsErrAnd result (λ stop. (stop ≡ stops.NoMemory) ⊎ (stop ≡ stops.WriteFault)) → IfErr result (λ stop. StopsInScript stop may a old new)
stops_quietly (Ok x) may a old new is = tt
stops_quietly (Err stop) may a old new is = quiet stop may a old new is

pub stops_on_write : {X : Type 0} (result : Result X Stop) (may : Reading → Word → Type 0) (a : Option Reading) (old new : Option Word)
    → IsErrAnd result (λ stop. stop ≡ stops.WriteFault) → IfErr result (λ stop. StopsInScript stop may a old new)
stops_on_write (Ok x) may a old new is = tt
stops_on_write (Err stop) may a old new is = quiet stop may a old new (inr is)
