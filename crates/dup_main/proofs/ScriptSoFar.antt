-- A script so far, and one answer more.
use Rattle.std.proofs.Common.{◌≡◌, inl, inr, ℕ, zero, suc, ◌+◌, refl, sym, ap, ◌∙◌, subst, List, [], ◌∷◌, ◌++◌, append_assoc, append-nil}
use Rattle.std.specs.Prelude.{None, Some, Option, Result, Ok, Err, IfErr, IsErrAnd}
use Rattle.std.specs.Io.KnownBytes.{Appends}
use Rattle.std.proofs.KnownBytes.{Appends-trans, Appends-nil}
use Rattle.dup_names.specs.Lines.{Reading, Whole, Next, LongLine, LongInput}
use Rattle.dup_io.specs.Readings.{GivesLine, GoesOnWith, IsReading, StopsInLine}
use Rattle.dup_io.specs.Causes.{AppendsPrefix}
use Rattle.dup_io.specs.declared.lines.LineFault.{LineFault}
use Rattle.dup_io.specs.declared.lines.LineFault.TheVariants as fault
use Rattle.dup_names.specs.Words.{Word}
use Rattle.dup_template.specs.declared.site.Parts.{Parts}
use Rattle.dup_model.specs.Journal.{usual_limits}
use Rattle.dup_transcript.specs.Commands.{Command}
use Rattle.dup_script.specs.Commands.{command_of}
use Rattle.dup_transcript.specs.Turns.{PlaysFrom, Standing, Turns, Writes, first_standing}
use Rattle.dup_transcript.specs.Beginnings.{behind_lines, first_lines}
use Rattle.dup_transcript.proofs.Beginnings.{commands_cut}
use Rattle.dup_main.specs.Breaks.{BreaksScript, Nothing, PlayBegins}
use Rattle.dup_main.specs.LineStops.{stop_of}
use Rattle.dup_main.specs.declared.stop.Stop.{Stop}
use Rattle.dup_main.specs.declared.stop.Stop.TheVariants as stops
use Rattle.dup_main.proofs.LinesSoFar.{command_behind, line_behind, long_behind}
use Rattle.dup_main.proofs.Prefixes.{prefix_behind}
use Rattle.dup_main.specs.Stops.{WritesScript}
use Rattle.dup_transcript.specs.Transcript.{commands, ending, too_long}
use Rattle.dup_transcript.proofs.MachineTurns.{plays_nothing, plays_turn}
use Rattle.dup_main.proofs.CutScripts.{Reaches}

-- of a script, some lines were answered by done, and the rest goes on from where the machine stands
pub record IsPlayed (site : Parts) (all rest : Reading) (s : Standing) (before now : ℕ) (done : Word) : Type 0 where
  pub lines : ℕ
  pub behind : behind_lines lines all ≡ rest
  pub goes : (cs : List Command) (last out : Word) → PlaysFrom site usual_limits s now cs last out
      → PlaysFrom site usual_limits first_standing before (commands command_of (first_lines lines all) ++ cs) last (done ++ out)
  pub ends : ending all ≡ ending rest

abbrev pub Played : Parts → Option Reading → Option Reading → Option Word → Option Word → ℕ → ℕ → Standing → Type 0
Played site None rest old new before now s = Unit {0}
Played site (Some all) None old new before now s = ⊥
Played site (Some all) (Some rest) old new before now s = (done : Word) × Appends old new done × IsPlayed site all rest s before now done

pub begun : (site : Parts) (r : Option Reading) (old : Option Word) (n : ℕ) (s : Standing) → s ≡ first_standing → Played site r r old old n n s
begun site None old n s is = tt
begun site (Some r) old n s is = ([], Appends-nil old, record { lines = zero; behind = refl; goes = λ cs last out w. subst (λ (t : Standing). PlaysFrom site usual_limits t n cs last out) is w; ends = refl })

one_more : (site : Parts) (all rest : Reading) (s t : Standing) (before now : ℕ) (done text said : Word) → IsPlayed site all (Next text rest) s before now done
    → Turns site usual_limits s (now + 1) (command_of text) said t → IsPlayed site all rest t before (now + 1) (done ++ said)
one_more site all rest s t before now done text said p turns = record {
  lines = suc p.lines;
  behind = line_behind p.lines all rest text p.behind;
  goes = λ cs last out w.
      let asked : commands command_of (first_lines p.lines all) ++ command_of text ∷ cs ≡ commands command_of (first_lines (suc p.lines) all) ++ cs =
      sym (append_assoc (commands command_of (first_lines p.lines all)) (command_of text ∷ []) cs) ∙ ap (λ (l : List Command). l ++ cs) (sym (command_behind command_of p.lines all rest text p.behind)) in
      subst (λ (l : List Command). PlaysFrom site usual_limits first_standing before l last ((done ++ said) ++ out)) asked
      (subst (PlaysFrom site usual_limits first_standing before _ last) (sym (append_assoc done said out))
      (p.goes (command_of text ∷ cs) last (said ++ out) (plays_turn site usual_limits s t now (command_of text) cs last said out turns w)));
  ends = p.ends;
}

-- all that may be written
whole : (site : Parts) (all rest : Reading) (s : Standing) (before now : ℕ) (done out : Word) → IsPlayed site all rest s before now done → Writes command_of site s now rest out
    → Writes command_of site first_standing before all (done ++ out)
whole site all rest s before now done out p w =
    let asked : commands command_of (first_lines p.lines all) ++ commands command_of rest ≡ commands command_of all =
    ap (λ (r : Reading). commands command_of (first_lines p.lines all) ++ commands command_of r) (sym p.behind) ∙ commands_cut command_of p.lines all in
    let last : too_long rest ≡ too_long all = ap too_long (sym p.behind) ∙ sym (long_behind p.lines all) in
    subst (λ (l : Word). PlaysFrom site usual_limits first_standing before (commands command_of all) l (done ++ out)) last
    (subst (λ (cs : List Command). PlaysFrom site usual_limits first_standing before cs (too_long rest) (done ++ out)) asked
    (p.goes (commands command_of rest) (too_long rest) out w))

-- what was written is the output for these lines
pub begins : (site : Parts) (all rest : Reading) (s : Standing) (before now : ℕ) (done : Word) → (p : IsPlayed site all rest s before now done) → PlayBegins site before (first_lines p.lines all) done
begins site all rest s before now done p =
    subst (λ (cs : List Command). PlaysFrom site usual_limits first_standing before cs [] done) (append-nil (commands command_of (first_lines p.lines all)))
    (subst (PlaysFrom site usual_limits first_standing before _ []) (append-nil done) (p.goes [] [] [] (plays_nothing site usual_limits s now [])))

pub more : (site : Parts) (a r u : Option Reading) (old mid new : Option Word) (before now then_ number : ℕ) (s t : Standing) (line text : Word) (command : Command)
    → Played site a r old mid before now s → GivesLine r u line → command ≡ command_of line → Turns site usual_limits s number command text t
    → number ≡ now + 1 → then_ ≡ number → Appends mid new text → Played site a u old new before then_ t
more site None r u old mid new before now then_ number s t line text command p gives is turns n m put = tt
more site (Some all) None u old mid new before now then_ number s t line text command p gives is turns n m put = absurd p
more site (Some all) (Some r) None old mid new before now then_ number s t line text command p gives is turns n m put = absurd gives
more site (Some all) (Some r) (Some rest) old mid new before now then_ number s t line text command p gives is turns n m put =
    let at_line : Turns site usual_limits s (now + 1) (command_of line) text t =
    subst (λ (c : Command). Turns site usual_limits s (now + 1) c text t) is (subst (λ (k : ℕ). Turns site usual_limits s k command text t) n turns) in
    let step : IsPlayed site all rest t before (now + 1) (p.0 ++ text) =
    one_more site all rest s t before now p.0 line text (subst (λ (x : Reading). IsPlayed site all x s before now p.0) gives p.2) at_line in
    (p.0 ++ text, Appends-trans old mid new _ _ p.1 put, subst (λ (k : ℕ). IsPlayed site all rest t before k (p.0 ++ text)) (sym (m ∙ n)) step)

pub ended : (site : Parts) (a r : Option Reading) (old new : Option Word) (before now : ℕ) (s : Standing) → Played site a r old new before now s → IsReading r Whole
    → WritesScript (Writes command_of site first_standing before) a old new
ended site None r old new before now s p is = tt
ended site (Some all) None old new before now s p is = absurd p
ended site (Some all) (Some r) old new before now s p is =
    let q = subst (λ (x : Reading). IsPlayed site all x s before now p.0) is p.2 in
    (p.0 ++ [], q.ends, whole site all Whole s before now p.0 [] q (λ events f. ([], refl)), subst (Appends old new) (sym (append-nil p.0)) p.1)

-- what was answered so far, where the rest is too long
pub reaches : (site : Parts) (a r : Option Reading) (old new : Option Word) (before now : ℕ) (s : Standing) → Played site a r old new before now s
    → Reaches (Writes command_of site first_standing before) a r old new
reaches site None r old new before now s p = tt
reaches site (Some all) None old new before now s p = absurd p
reaches site (Some all) (Some r) old new before now s p = (
  p.0,
  p.1,
  record {
    ends = p.2.ends;
    line = λ n is. whole site all (LongLine n) s before now p.0 _ (subst (λ (x : Reading). IsPlayed site all x s before now p.0) is p.2) (λ events f. ([], refl));
    input = λ is. whole site all LongInput s before now p.0 _ (subst (λ (x : Reading). IsPlayed site all x s before now p.0) is p.2) (λ events f. ([], refl));
  },
)

-- where the script breaks off behind what was answered
abbrev pub PlayBreaks : Parts → ℕ → Stop → Option Reading → Option Word → Option Word → Option Word → Type 0
PlayBreaks site before stop a left old new = BreaksScript stop (PlayBegins site before) Nothing Nothing a left old new

breaks_reading : (site : Parts) (a r : Option Reading) (left old new : Option Word) (before now : ℕ) (s : Standing) → Played site a r old new before now s → StopsInLine r left
    → PlayBreaks site before stops.ReadFault a left old new
breaks_reading site None r left old new before now s p stops = tt
breaks_reading site (Some all) None left old new before now s p stops = absurd p
breaks_reading site (Some all) (Some r) None old new before now s p stops = absurd stops
breaks_reading site (Some all) (Some r) (Some left) old new before now s p stops =
    (p.2.lines, p.0, subst (λ (x : Reading). GoesOnWith x left) (sym p.2.behind) stops, begins site all r s before now p.0 p.2, p.1)

breaks_else : (site : Parts) (a r : Option Reading) (left old new : Option Word) (before now : ℕ) (s : Standing) → Played site a r old new before now s
    → PlayBreaks site before stops.NoMemory a left old new
breaks_else site None r left old new before now s p = tt
breaks_else site (Some all) None left old new before now s p = absurd p
breaks_else site (Some all) (Some r) left old new before now s p = (p.0, inl (p.2.lines, begins site all r s before now p.0 p.2), p.1)

breaks_long : (site : Parts) (n : ℕ) (a r : Option Reading) (left old new : Option Word) (before now : ℕ) (s : Standing) → Played site a r old new before now s
    → PlayBreaks site before (stops.LineTooLong n) a left old new
breaks_long site n None r left old new before now s p = tt
breaks_long site n (Some all) None left old new before now s p = absurd p
breaks_long site n (Some all) (Some r) left old new before now s p = (p.0, inl (p.2.lines, begins site all r s before now p.0 p.2), p.1)

breaks_input : (site : Parts) (a r : Option Reading) (left old new : Option Word) (before now : ℕ) (s : Standing) → Played site a r old new before now s
    → PlayBreaks site before stops.InputTooLong a left old new
breaks_input site None r left old new before now s p = tt
breaks_input site (Some all) None left old new before now s p = absurd p
breaks_input site (Some all) (Some r) left old new before now s p = (p.0, inl (p.2.lines, begins site all r s before now p.0 p.2), p.1)

breaks_by : (site : Parts) (f : LineFault) (a r : Option Reading) (left old new : Option Word) (before now : ℕ) (s : Standing) → Played site a r old new before now s
    → (f ≡ fault.ReadFault → StopsInLine r left) → PlayBreaks site before (stop_of f) a left old new
breaks_by site fault.ReadFault a r left old new before now s p stops = breaks_reading site a r left old new before now s p (stops refl)
breaks_by site (fault.LineTooLong n) a r left old new before now s p stops = breaks_long site n a r left old new before now s p
breaks_by site fault.InputTooLong a r left old new before now s p stops = breaks_input site a r left old new before now s p
breaks_by site fault.NoMemory a r left old new before now s p stops = breaks_else site a r left old new before now s p

pub breaks_on_line : {X : Type 0} (result : Result X Stop) (site : Parts) (f : LineFault) (a r : Option Reading) (left old new : Option Word) (before now : ℕ) (s : Standing)
    → Played site a r old new before now s → (f ≡ fault.ReadFault → StopsInLine r left) → IsErrAnd result (λ stop. stop ≡ stop_of f)
    → IfErr result (λ stop. PlayBreaks site before stop a left old new)
breaks_on_line (Ok x) site f a r left old new before now s p stops is = tt
breaks_on_line (Err stop) site f a r left old new before now s p stops is =
    subst (λ (k : Stop). PlayBreaks site before k a left old new) (sym is) (breaks_by site f a r left old new before now s p stops)

pub breaks_for_memory : {X : Type 0} (result : Result X Stop) (site : Parts) (a r : Option Reading) (left old new : Option Word) (before now : ℕ) (s : Standing)
    → Played site a r old new before now s → IsErrAnd result (λ stop. stop ≡ stops.NoMemory) → IfErr result (λ stop. PlayBreaks site before stop a left old new)
breaks_for_memory (Ok x) site a r left old new before now s p is = tt
breaks_for_memory (Err stop) site a r left old new before now s p is =
    subst (λ (k : Stop). PlayBreaks site before k a left old new) (sym is) (breaks_else site a r left old new before now s p)

-- where an answer is written in part
breaks_part : (site : Parts) (a r u : Option Reading) (left old mid new : Option Word) (before now number : ℕ) (s t : Standing) (line text : Word) (command : Command)
    → Played site a r old mid before now s → GivesLine r u line → command ≡ command_of line → Turns site usual_limits s number command text t
    → number ≡ now + 1 → AppendsPrefix mid new text → PlayBreaks site before stops.WriteFault a left old new
breaks_part site None r u left old mid new before now number s t line text command p gives is turns n put = tt
breaks_part site (Some all) None u left old mid new before now number s t line text command p gives is turns n put = absurd p
breaks_part site (Some all) (Some r) None left old mid new before now number s t line text command p gives is turns n put = absurd gives
breaks_part site (Some all) (Some r) (Some rest) left old mid new before now number s t line text command p gives is turns n put =
    let at_line : Turns site usual_limits s (now + 1) (command_of line) text t =
    subst (λ (c : Command). Turns site usual_limits s (now + 1) c text t) is (subst (λ (k : ℕ). Turns site usual_limits s k command text t) n turns) in
    let step : IsPlayed site all rest t before (now + 1) (p.0 ++ text) =
    one_more site all rest s t before now p.0 line text (subst (λ (x : Reading). IsPlayed site all x s before now p.0) gives p.2) at_line in
    (p.0 ++ text, inl (step.lines, begins site all rest t before (now + 1) (p.0 ++ text) step), prefix_behind old mid new p.0 text p.1 put)

pub breaks_on_write : {X : Type 0} (result : Result X Stop) (site : Parts) (a r u : Option Reading) (left old mid new : Option Word) (before now number : ℕ) (s t : Standing) (line text : Word) (command : Command)
    → Played site a r old mid before now s → GivesLine r u line → command ≡ command_of line → Turns site usual_limits s number command text t
    → number ≡ now + 1 → AppendsPrefix mid new text → IsErrAnd result (λ stop. stop ≡ stops.WriteFault) → IfErr result (λ stop. PlayBreaks site before stop a left old new)
breaks_on_write (Ok x) site a r u left old mid new before now number s t line text command p gives is turns n put stop = tt
breaks_on_write (Err e) site a r u left old mid new before now number s t line text command p gives is turns n put stop =
    subst (λ (k : Stop). PlayBreaks site before k a left old new) (sym stop) (breaks_part site a r u left old mid new before now number s t line text command p gives is turns n put)

-- where memory runs out before any line
pub breaks_at_once : {X : Type 0} (result : Result X Stop) (site : Parts) (a : Option Reading) (left old : Option Word) (before : ℕ)
    → IsErrAnd result (λ stop. stop ≡ stops.NoMemory) → IfErr result (λ stop. PlayBreaks site before stop a left old old)
breaks_at_once (Ok x) site a left old before is = tt
breaks_at_once (Err stop) site a left old before is = subst (λ (k : Stop). PlayBreaks site before k a left old old) (sym is) (at_once a)
  where
    at_once : (r : Option Reading) → PlayBreaks site before stops.NoMemory r left old old
    at_once None = tt
    at_once (Some all) = ([], inl (zero, plays_nothing site usual_limits first_standing before []), Appends-nil old)
