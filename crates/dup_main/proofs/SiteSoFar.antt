-- The lines of a site text so far.
use Rattle.std.proofs.Common.{◌≡◌, ℕ, zero, suc, ◌+◌, Bool, true, false, refl, sym, ap, ◌∙◌, subst, [], ◌++◌, append_assoc, append-nil, arith}
use Rattle.std.specs.Prelude.{None, Some, Option, Result, Ok, Err, IfErr, IsErrAnd, if◌then◌else◌}
use Rattle.dup_io.specs.declared.lines.LineFault.{LineFault}
use Rattle.dup_io.specs.declared.lines.LineFault.TheVariants as fault
use Rattle.dup_main.specs.LineStops.{stop_of}
use Rattle.dup_names.specs.Lines.{Reading, Whole, Next, LongLine, LongInput}
use Rattle.dup_io.specs.Readings.{GivesLine, IsReading}
use Rattle.dup_names.specs.Words.{Word}
use Rattle.dup_main.specs.declared.stop.Stop.{Stop}
use Rattle.dup_main.specs.declared.stop.Stop.TheVariants as stops
use Rattle.dup_names.specs.Lines.{line}
use Rattle.dup_io.specs.Readings.{GoesOnWith, StopsInLine}
use Rattle.dup_transcript.specs.Beginnings.{behind_lines, first_lines, has_end}
use Rattle.dup_main.specs.Breaks.{BreaksSite, EndsSite}
use Rattle.dup_main.proofs.LinesSoFar.{end_behind, line_behind}
use Rattle.dup_main.specs.Stops.{IsSiteText, ReadsSite, CountsSite, StopsInSite}
use Rattle.dup_transcript.specs.Inputs.{is_end, site_text, site_lines, script, site_is_read}
use Rattle.dup_transcript.specs.Transcript.{ending, too_long}

-- of a reading, this text was read, and the rest is left; from a number of lines to a number of lines
pub record IsSoFar (all rest : Reading) (text : Word) (before now : ℕ) : Type 0 where
  pub says : site_text all ≡ text ++ site_text rest
  pub behind : script all ≡ script rest
  pub whole : site_is_read all ≡ site_is_read rest
  pub lines : before + site_lines all ≡ now + site_lines rest
  pub ends : ending all ≡ ending rest
  pub long : too_long all ≡ too_long rest
  pub count : ℕ
  pub at : behind_lines count all ≡ rest
  pub none : has_end (first_lines count all) ≡ false
  pub end : has_end all ≡ has_end rest

abbrev pub SoFar : Option Reading → Option Reading → Word → ℕ → ℕ → Type 0
SoFar None rest text before now = Unit {0}
SoFar (Some all) None text before now = ⊥
SoFar (Some all) (Some rest) text before now = IsSoFar all rest text before now

pub begins : (r : Option Reading) (text : Word) (n : ℕ) → text ≡ [] → SoFar r r text n n
begins None text n none = tt
begins (Some r) text n none = subst (λ (t : Word). IsSoFar r r t n n) (sym none) (record { says = refl; behind = refl; whole = refl; lines = refl; ends = refl; long = refl; count = zero; at = refl; none = refl; end = refl })

goes_on : (all rest : Reading) (text l : Word) (before now : ℕ) → IsSoFar all (Next l rest) text before now → is_end l ≡ false → IsSoFar all rest (text ++ line l) before (now + 1)
goes_on all rest text l before now p e = record {
  says = p.says ∙ ap (λ (b : Bool). text ++ (if b then [] else (line l ++ site_text rest))) e ∙ sym (append_assoc text (line l) (site_text rest));
  behind = p.behind ∙ ap (λ (b : Bool). if b then rest else script rest) e;
  whole = p.whole ∙ ap (λ (b : Bool). if b then true else site_is_read rest) e;
  lines = let h : now + (if is_end l then 1 else (1 + site_lines rest)) ≡ now + (1 + site_lines rest) = ap (λ (b : Bool). now + (if b then 1 else (1 + site_lines rest))) e in omega (arith, p.lines, h);
  ends = p.ends;
  long = p.long;
  count = suc p.count;
  at = line_behind p.count all rest l p.at;
  none = end_behind p.count all rest l p.at e p.none;
  end = p.end ∙ ap (λ (b : Bool). if b then true else has_end rest) e;
}

pub more : (a r s : Option Reading) (text l next : Word) (before now then_ : ℕ) → SoFar a r text before now → GivesLine r s l → is_end l ≡ false
    → next ≡ text ++ line l → then_ ≡ now + 1 → SoFar a s next before then_
more None r s text l next before now then_ p gives e t n = tt
more (Some all) None s text l next before now then_ p gives e t n = absurd p
more (Some all) (Some r) None text l next before now then_ p gives e t n = absurd gives
more (Some all) (Some r) (Some rest) text l next before now then_ p gives e t n =
    rw (t, n) (goes_on all rest text l before now (subst (λ (x : Reading). IsSoFar all x text before now) gives p) e)

ends_here : (all rest : Reading) (text l : Word) (before now : ℕ) → IsSoFar all (Next l rest) text before now → is_end l ≡ true → IsSiteText all rest text
ends_here all rest text l before now p e = record {
  whole = p.whole ∙ ap (λ (b : Bool). if b then true else site_is_read rest) e;
  says = p.says ∙ ap (λ (b : Bool). text ++ (if b then [] else (line l ++ site_text rest))) e ∙ append-nil text;
  behind = p.behind ∙ ap (λ (b : Bool). if b then rest else script rest) e;
  ends = p.ends;
}

pub at_end_line : (a r s : Option Reading) (text l : Word) (before now : ℕ) → SoFar a r text before now → GivesLine r s l → is_end l ≡ true → ReadsSite a s text
at_end_line None r s text l before now p gives e = tt
at_end_line (Some all) None s text l before now p gives e = absurd p
at_end_line (Some all) (Some r) None text l before now p gives e = absurd gives
at_end_line (Some all) (Some r) (Some rest) text l before now p gives e =
    ends_here all rest text l before now (subst (λ (x : Reading). IsSoFar all x text before now) gives p) e

pub counted : (a r s : Option Reading) (text l : Word) (before now behind : ℕ) → SoFar a r text before now → GivesLine r s l → is_end l ≡ true → behind ≡ now + 1 → CountsSite a before behind
counted None r s text l before now behind p gives e n = tt
counted (Some all) None s text l before now behind p gives e n = absurd p
counted (Some all) (Some r) None text l before now behind p gives e n = absurd gives
counted (Some all) (Some r) (Some rest) text l before now behind p gives e n =
    let q : IsSoFar all (Next l rest) text before now = subst (λ (x : Reading). IsSoFar all x text before now) gives p in
    let h : now + (if is_end l then 1 else (1 + site_lines rest)) ≡ now + 1 = ap (λ (b : Bool). now + (if b then 1 else (1 + site_lines rest))) e in
    omega (arith, q.lines, h)

pub at_input_end : (a r : Option Reading) (text : Word) (before now : ℕ) → SoFar a r text before now → IsReading r Whole → ReadsSite a (Some Whole) text
at_input_end None r text before now p is = tt
at_input_end (Some all) None text before now p is = absurd p
at_input_end (Some all) (Some r) text before now p is =
    let q : IsSoFar all Whole text before now = subst (λ (x : Reading). IsSoFar all x text before now) is p in
    record { whole = q.whole; says = q.says ∙ append-nil text; behind = q.behind; ends = q.ends }

-- the stop that is due
abbrev pub IsDue : Stop → Option Reading → Type 0
IsDue (stops.LineTooLong n) r = IsReading r (LongLine n)
IsDue stops.InputTooLong r = IsReading r LongInput
IsDue stops.WriteFault r = ⊥
IsDue (stops.BadSite why) r = ⊥
IsDue _ r = Unit {0}

pub stopped : (stop : Stop) (a r : Option Reading) (text : Word) (before now : ℕ) → SoFar a r text before now → IsDue stop r → StopsInSite stop a
stopped (stops.LineTooLong n) None r text before now p due = tt
stopped (stops.LineTooLong n) (Some all) None text before now p due = absurd p
stopped (stops.LineTooLong n) (Some all) (Some r) text before now p due =
    let q : IsSoFar all (LongLine n) text before now = subst (λ (x : Reading). IsSoFar all x text before now) due p in
    (λ cut. (q.whole, q.ends), q.long)
stopped stops.InputTooLong None r text before now p due = tt
stopped stops.InputTooLong (Some all) None text before now p due = absurd p
stopped stops.InputTooLong (Some all) (Some r) text before now p due =
    let q : IsSoFar all LongInput text before now = subst (λ (x : Reading). IsSoFar all x text before now) due p in
    (λ cut. (q.whole, q.ends), q.long)
stopped stops.WriteFault a r text before now p due = absurd due
stopped (stops.BadSite why) a r text before now p due = absurd due
stopped stops.ReadFault None r text before now p due = tt
stopped stops.ReadFault (Some all) r text before now p due = (λ cut. absurd (cc), tt)
stopped stops.NoMemory None r text before now p due = tt
stopped stops.NoMemory (Some all) r text before now p due = (λ cut. absurd (cc), tt)

pub due_of : (f : LineFault) (r : Option Reading) → ((n : ℕ) → f ≡ fault.LineTooLong n → IsReading r (LongLine n)) → (f ≡ fault.InputTooLong → IsReading r LongInput) → IsDue (stop_of f) r
due_of fault.ReadFault r line input = tt
due_of (fault.LineTooLong n) r line input = line n refl
due_of fault.InputTooLong r line input = input refl
due_of fault.NoMemory r line input = tt

pub stops_in_site : {X : Type 0} (result : Result X Stop) (f : LineFault) (a r : Option Reading) (text : Word) (before now : ℕ) → SoFar a r text before now → IsDue (stop_of f) r
    → IsErrAnd result (λ stop. stop ≡ stop_of f) → IfErr result (λ stop. StopsInSite stop a)
stops_in_site (Ok x) f a r text before now p due is = tt
stops_in_site (Err stop) f a r text before now p due is =
    subst (λ (s : Stop). StopsInSite s a) (sym is) (stopped (stop_of f) a r text before now p due)

-- the end of the site text is there
pub ends_site : (a r s : Option Reading) (text l : Word) (before now : ℕ) → SoFar a r text before now → GivesLine r s l → is_end l ≡ true → EndsSite a
ends_site None r s text l before now p gives e = tt
ends_site (Some all) None s text l before now p gives e = absurd p
ends_site (Some all) (Some r) None text l before now p gives e = absurd gives
ends_site (Some all) (Some r) (Some rest) text l before now p gives e =
    let q : IsSoFar all (Next l rest) text before now = subst (λ (x : Reading). IsSoFar all x text before now) gives p in
    q.end ∙ ap (λ (b : Bool). if b then true else has_end rest) e

-- where a read fails
breaks_reading : (a r : Option Reading) (left : Option Word) (text : Word) (before now : ℕ) → SoFar a r text before now → StopsInLine r left → BreaksSite stops.ReadFault a left
breaks_reading None r left text before now p stops = tt
breaks_reading (Some all) None left text before now p stops = absurd p
breaks_reading (Some all) (Some r) None text before now p stops = absurd stops
breaks_reading (Some all) (Some r) (Some left) text before now p stops = (p.count, subst (λ (x : Reading). GoesOnWith x left) (sym p.at) stops, p.none)

breaks_by : (f : LineFault) (a r : Option Reading) (left : Option Word) (text : Word) (before now : ℕ) → SoFar a r text before now → (f ≡ fault.ReadFault → StopsInLine r left) → BreaksSite (stop_of f) a left
breaks_by fault.ReadFault a r left text before now p stops = breaks_reading a r left text before now p (stops refl)
breaks_by (fault.LineTooLong n) a r left text before now p stops = tt
breaks_by fault.InputTooLong a r left text before now p stops = tt
breaks_by fault.NoMemory a r left text before now p stops = tt

pub breaks_in_site : {X : Type 0} (result : Result X Stop) (f : LineFault) (a r : Option Reading) (left : Option Word) (text : Word) (before now : ℕ) → SoFar a r text before now
    → (f ≡ fault.ReadFault → StopsInLine r left) → IsErrAnd result (λ stop. stop ≡ stop_of f) → IfErr result (λ stop. BreaksSite stop a left)
breaks_in_site (Ok x) f a r left text before now p stops is = tt
breaks_in_site (Err stop) f a r left text before now p stops is =
    subst (λ (s : Stop). BreaksSite s a left) (sym is) (breaks_by f a r left text before now p stops)

pub breaks_for_memory : {X : Type 0} (result : Result X Stop) (a : Option Reading) (left : Option Word) → IsErrAnd result (λ stop. stop ≡ stops.NoMemory) → IfErr result (λ stop. BreaksSite stop a left)
breaks_for_memory (Ok x) a left is = tt
breaks_for_memory (Err stop) a left is = subst (λ (s : Stop). BreaksSite s a left) (sym is) tt
