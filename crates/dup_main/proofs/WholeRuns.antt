-- A run from its first byte: the site, and what is done with it.
use Rattle.std.proofs.Common.{◌≡◌, inl, inr, ℕ, Bool, true, false, refl, sym, ap, ◌∙◌, subst, List, [], ◌++◌, append_assoc, zero-add}
use Rattle.std.specs.Prelude.{None, Some, Option, Result, Ok, Err, OnOk, IfErr, IsErrAnd, if◌then◌else◌}
use Rattle.std.specs.Bool.{OnTrue}
use Rattle.std.specs.Option.{option_map}
use Rattle.std.specs.Io.KnownBytes.{Appends}
use Rattle.std.proofs.KnownBytes.{Appends-trans, Appends-nil}
use Rattle.dup_names.specs.Lines.{Reading, Whole, reading}
use Rattle.dup_names.specs.Words.{Word}
use Rattle.dup_template.specs.declared.site.Parts.{Parts}
use Rattle.dup_main.specs.declared.stop.Stop.{Stop}
use Rattle.dup_main.specs.declared.stop.Stop.TheVariants as stops
use Rattle.dup_script.specs.Commands.{command_of}
use Rattle.dup_transcript.specs.BadSites.{bad_site_text}
use Rattle.dup_transcript.specs.Turns.{Writes, first_standing}
use Rattle.dup_main.specs.Stops.{IsSiteText, ReadsSite, CountsSite, WritesScript, StopsInScript, StopsInSite, StopsAt, BarsSite, stop_status, stop_text, writes}
use Rattle.dup_transcript.specs.Transcript.{too_long, RendersLines, Does, DoesSite, DoesRead, IsTranscript, ending, site_for, site_ok, too_long_input, too_long_line}
use Rattle.dup_main.specs.Transcript.{WritesTranscript, grammars}
use Rattle.dup_transcript.specs.Inputs.{site_is_read, site_text, site_lines, script}
use Rattle.dup_transcript.specs.declared.task.Task.{Task}
use Rattle.dup_transcript.proofs.MachineTurns.{first_stands}
use Rattle.dup_transcript.specs.declared.task.Task.TheVariants as tasks

-- what is read of an input from its first byte
abbrev pub Reads : Option Word → Option Reading → Type 0
Reads left r = r ≡ option_map (reading 0 0) left

-- a transcript of a site text that was read
pub of_site : (task : Task) (all rest : Reading) (text : Word) (site : Result Parts Word) (kept : List Bool) (status : ℕ) (out : Word) → IsSiteText all rest text → site_for grammars text ≡ site
    → DoesSite grammars task site all kept status out → IsTranscript grammars task all status out
of_site task all rest text site kept status out t is d =
    let at_text : DoesSite grammars task (site_for grammars (site_text all)) all kept status out =
    subst (λ (s : Result Parts Word). DoesSite grammars task s all kept status out) (sym (ap (site_for grammars) t.says ∙ is)) d in
    (kept, subst (λ (b : Bool). DoesRead grammars task b all kept status out) (sym t.whole) at_text)

-- the line in place of a site
does_bad : (task : Task) (all rest : Reading) (text line : Word) → IsSiteText all rest text → site_for grammars text ≡ Err line → IsTranscript grammars task all 5 line
does_bad task all rest text line t bad = of_site task all rest text (Err line) [] 5 line t bad (refl, refl, refl)

-- a stop that bars the site
pub bad : (task : Task) (left old : Option Word) (r rest : Option Reading) (text : Word) (stop : Stop) → Reads left r → ReadsSite r rest text → BarsSite stop (site_for grammars text)
    → StopsAt task stop left old old
bad task None old r rest text stop is t b = tt
bad task (Some input) old None rest text stop is t b = absurd (cc)
bad task (Some input) old (Some all) None text stop is t b = absurd t
bad task (Some input) old (Some all) (Some rest) text (stops.BadSite why) is t b =
    let e : all ≡ reading 0 0 input = cc in
    λ w. ([], subst (λ (x : Reading). IsTranscript grammars task x 5 (bad_site_text why)) e (does_bad task all rest text (bad_site_text why) t b), Appends-nil old)
bad task (Some input) old (Some all) (Some rest) text stops.NoMemory is t b = λ w. absurd (cc)
bad task (Some input) old (Some all) (Some rest) text stops.ReadFault is t b = absurd b
bad task (Some input) old (Some all) (Some rest) text stops.WriteFault is t b = absurd b
bad task (Some input) old (Some all) (Some rest) text (stops.LineTooLong n) is t b = absurd b
bad task (Some input) old (Some all) (Some rest) text stops.InputTooLong is t b = absurd b

-- the reading of a reader that is new
pub reads_from : (left ahead : Option Word) (n t : ℕ) → ahead ≡ left → n ≡ 0 → t ≡ 0 → Reads left (option_map (reading n t) ahead)
reads_from left ahead n t e first taken = cc

pub stopped_by_site : {X : Type 0} (task : Task) (result : Result X Stop) (e : Stop) (left old new : Option Word) (r rest : Option Reading) (text seen : Word) → IsErrAnd result (λ s. s ≡ e)
    → Reads left r → ReadsSite r rest text → seen ≡ text → BarsSite e (site_for grammars seen) → new ≡ old → IfErr result (λ stop. StopsAt task stop left old new)
stopped_by_site task (Ok x) e left old new r rest text seen is reads t same b n = tt
stopped_by_site task (Err stop) e left old new r rest text seen is reads t same b n =
    let at : StopsAt task e left old old = bad task left old r rest text e reads t (subst (λ (w : Word). BarsSite e (site_for grammars w)) same b) in
    subst (λ (s : Stop). StopsAt task s left old new) (sym is) (subst (λ (o : Option Word). StopsAt task e left old o) (sym n) at)

-- a stop within the site text
cut_short : (task : Task) (all : Reading) (text : Word) → site_is_read all ≡ false → text ≡ too_long all → IsTranscript grammars task all 7 text
cut_short task all text cut is = ([], subst (λ (b : Bool). DoesRead grammars task b all [] 7 text) (sym cut) (refl, refl, is))

cut_at : (task : Task) (all : Reading) (stop : Stop) (old : Option Word) → StopsInSite stop (Some all) → writes stop ≡ true →
    (done : Word) × IsTranscript grammars task all (stop_status stop) (done ++ stop_text stop) × Appends old old done
cut_at task all (stops.LineTooLong n) old s w = ([], cut_short task all (too_long_line n) (s.0 refl).0 (sym s.1), Appends-nil old)
cut_at task all stops.InputTooLong old s w = ([], cut_short task all too_long_input (s.0 refl).0 (sym s.1), Appends-nil old)
cut_at task all stops.ReadFault old s w = absurd (cc)
cut_at task all stops.NoMemory old s w = absurd (cc)
cut_at task all stops.WriteFault old s w = absurd (cc)
cut_at task all (stops.BadSite why) old s w = absurd s.1

cut : (task : Task) (left old : Option Word) (r : Option Reading) (stop : Stop) → Reads left r → StopsInSite stop r → StopsAt task stop left old old
cut task None old r stop is s = tt
cut task (Some input) old r stop is s = cut_at task (reading 0 0 input) stop old (subst (StopsInSite stop) is s)

pub stopped_in_site : {X : Type 0} (task : Task) (result : Result X Stop) (e : Stop) (left old new : Option Word) (r : Option Reading) → IsErrAnd result (λ s. s ≡ e)
    → Reads left r → StopsInSite e r → new ≡ old → IfErr result (λ stop. StopsAt task stop left old new)
stopped_in_site task (Ok x) e left old new r is reads s n = tt
stopped_in_site task (Err stop) e left old new r is reads s n =
    subst (λ (s : Stop). StopsAt task s left old new) (sym is) (subst (λ (o : Option Word). StopsAt task e left old o) (sym n) (cut task left old r e reads s))

-- where a script follows
pub with_script : (b : Bool) (r t u : Option Reading) (text : Word) → b ≡ true → ReadsSite r (if b then t else u) text → ReadsSite r t text
with_script true r t u text is h = h
with_script false r t u text is h = absurd (cc)

pub count_with_script : (b : Bool) (r : Option Reading) (m n : ℕ) → b ≡ true → m ≡ 0 → OnTrue b (CountsSite r m n) → CountsSite r 0 n
count_with_script true r m n is z h = subst (λ (k : ℕ). CountsSite r k n) z h
count_with_script false r m n is z h = absurd (cc)

pub without_script : (b : Bool) (r t u : Option Reading) (text : Word) → b ≡ false → ReadsSite r (if b then t else u) text → ReadsSite r u text
without_script true r t u text is h = absurd (cc)
without_script false r t u text is h = h

-- what each task says of a good site, and what it may write for the lines behind it
abbrev DoesSome : Task → Parts → Reading → ℕ → Word → Type 0
DoesSome task site all status out = (kept : List Bool) × Does grammars task site all kept status out

pub does_play : (site : Parts) (all : Reading) (status : ℕ) (more text : Word) → site_for grammars text ≡ Ok site → status ≡ ending all
    → Writes command_of site first_standing (site_lines all) (script all) more → DoesSome tasks.Play site all status (site_ok ++ more)
does_play site all status more text is ends w = let plays = w [] first_stands in (plays.0, (ends, (more, refl, plays.1)))

pub does_render : (site : Parts) (all : Reading) (status : ℕ) (more text : Word) → site_for grammars text ≡ Ok site → status ≡ ending all → RendersLines command_of site (site_lines all) (script all) more
    → DoesSome tasks.Render site all status ([] ++ more)
does_render site all status more text is ends w = ([], (refl, (ends, w)))

-- a task that writes its first words on a good site, and then what it may for the lines behind the site text
module _ (task : Task) (first : Word) (may : Parts → ℕ → Reading → Word → Type 0)
    (does : (site : Parts) (all : Reading) (status : ℕ) (more text : Word) → site_for grammars text ≡ Ok site → status ≡ ending all → may site (site_lines all) (script all) more → DoesSome task site all status (first ++ more)) where
  good : (all rest : Reading) (text : Word) (site : Parts) (n status : ℕ) (more : Word) → IsSiteText all rest text → site_lines all ≡ n → site_for grammars text ≡ Ok site
      → status ≡ ending rest → may site n rest more → IsTranscript grammars task all status (first ++ more)
  good all rest text site n status more t count is ends w =
      let inside : DoesSome task site all status (first ++ more) =
      does site all status more text is (ends ∙ sym t.ends) (subst (λ (k : ℕ). may site k (script all) more) (sym count) (subst (λ (r : Reading). may site n r more) (sym t.behind) w)) in
      of_site task all rest text (Ok site) inside.0 status (first ++ more) t is inside.1

  -- the site is good, and all lines behind it were answered
  done : (left old mid new : Option Word) (r rest : Option Reading) (text : Word) (site : Parts) (n : ℕ) → Reads left r → ReadsSite r rest text → CountsSite r 0 n
      → site_for grammars text ≡ Ok site → Appends old mid first → WritesScript (may site n) rest mid new → WritesTranscript task left old new 0
  done None old mid new r rest text site n is t count fine ok w = tt
  done (Some input) old mid new None rest text site n is t count fine ok w = absurd (cc)
  done (Some input) old mid new (Some all) None text site n is t count fine ok w = absurd t
  done (Some input) old mid new (Some all) (Some rest) text site n is t count fine ok w =
      let e : all ≡ reading 0 0 input = cc in (
        first ++ w.0,
        subst (λ (x : Reading). IsTranscript grammars task x 0 (first ++ w.0)) e (good all rest text site n 0 w.0 t (sym (zero-add (site_lines all)) ∙ count) fine (sym w.1) w.2),
        Appends-trans old mid new _ _ ok w.3,
      )

  -- the site is good, and no line follows
  no_script : (left old mid new : Option Word) (r : Option Reading) (text more : Word) (site : Parts) → Reads left r → ReadsSite r (Some Whole) text
      → site_for grammars text ≡ Ok site → Appends old mid first → ((n : ℕ) → may site n Whole more) → Appends mid new more → WritesTranscript task left old new 0
  no_script None old mid new r text more site is t fine ok w put = tt
  no_script (Some input) old mid new None text more site is t fine ok w put = absurd (cc)
  no_script (Some input) old mid new (Some all) text more site is t fine ok w put =
      let e : all ≡ reading 0 0 input = cc in
      let p : IsTranscript grammars task all 0 (first ++ more) = good all Whole text site (site_lines all) 0 more t refl fine refl (w (site_lines all)) in
      (first ++ more, subst (λ (x : Reading). IsTranscript grammars task x 0 (first ++ more)) e p, Appends-trans old mid new _ _ ok put)

  pub ended_without_script : (result : Result (Unit {0}) Stop) (left old mid new : Option Word) (r : Option Reading) (text seen more : Word) (site : Parts) → Reads left r → ReadsSite r (Some Whole) text
      → seen ≡ text → site_for grammars seen ≡ Ok site → Appends old mid first → ((n : ℕ) → may site n Whole more) → OnOk result (Appends mid new more) → OnOk result (WritesTranscript task left old new 0)
  ended_without_script (Ok x) left old mid new r text seen more site is t same fine ok w put =
      no_script left old mid new r text more site is t (subst (λ (w : Word). site_for grammars w ≡ Ok site) same fine) ok w put
  ended_without_script (Err e) left old mid new r text seen more site is t same fine ok w put = tt

  -- a line behind the site text is too long
  cut_in_script : (left old mid new : Option Word) (r rest : Option Reading) (text : Word) (site : Parts) (n : ℕ) (stop : Stop) → Reads left r → ReadsSite r rest text → CountsSite r 0 n
      → site_for grammars text ≡ Ok site → Appends old mid first → StopsInScript stop (may site n) rest mid new → StopsAt task stop left old new
  cut_in_script None old mid new r rest text site n stop is t count fine ok s = tt
  cut_in_script (Some input) old mid new None rest text site n stop is t count fine ok s = absurd (cc)
  cut_in_script (Some input) old mid new (Some all) None text site n stop is t count fine ok s = absurd t
  cut_in_script (Some input) old mid new (Some all) (Some rest) text site n stop is t count fine ok s =
      let e : all ≡ reading 0 0 input = cc in
      by_stop stop e s
    where
      answered : (k : Stop) → all ≡ reading 0 0 input → (said : Word) → ending rest ≡ 7 → may site n rest (said ++ stop_text k) → Appends mid new said
          → (whole : Word) × IsTranscript grammars task (reading 0 0 input) 7 (whole ++ stop_text k) × Appends old new whole
      answered k e said ends w more = (
        first ++ said,
        subst (λ (x : Reading). IsTranscript grammars task x 7 ((first ++ said) ++ stop_text k)) e
            (subst (λ (o : Word). IsTranscript grammars task all 7 o) (sym (append_assoc first said (stop_text k)))
            (good all rest text site n 7 (said ++ stop_text k) t (sym (zero-add (site_lines all)) ∙ count) fine (sym ends) w)),
        Appends-trans old mid new _ _ ok more,
      )

      by_stop : (k : Stop) → all ≡ reading 0 0 input → StopsInScript k (may site n) (Some rest) mid new → StopsAt task k (Some input) old new
      by_stop (stops.LineTooLong m) e s = λ w. let d = s.0 refl in answered (stops.LineTooLong m) e d.0 d.1 d.2 d.3
      by_stop stops.InputTooLong e s = λ w. let d = s.0 refl in answered stops.InputTooLong e d.0 d.1 d.2 d.3
      by_stop stops.ReadFault e s = λ w. absurd (cc)
      by_stop stops.WriteFault e s = λ w. absurd (cc)
      by_stop (stops.BadSite why) e s = absurd (elim s.1 [ inl h ↦ h | inr h ↦ cc ])
      by_stop stops.NoMemory e s = λ w. absurd (cc)

  pub written_by_script : (result : Result (Unit {0}) Stop) (left old mid new : Option Word) (r rest : Option Reading) (text seen : Word) (site : Parts) (n : ℕ) → Reads left r → ReadsSite r rest text
      → CountsSite r 0 n → seen ≡ text → site_for grammars seen ≡ Ok site → Appends old mid first → OnOk result (WritesScript (may site n) rest mid new) → OnOk result (WritesTranscript task left old new 0)
  written_by_script (Ok x) left old mid new r rest text seen site n reads t count same fine ok w =
      done left old mid new r rest text site n reads t count (subst (λ (w : Word). site_for grammars w ≡ Ok site) same fine) ok w
  written_by_script (Err e) left old mid new r rest text seen site n reads t count same fine ok w = tt

  pub stopped_by_script : (result : Result (Unit {0}) Stop) (left old mid new : Option Word) (r rest : Option Reading) (text seen : Word) (site : Parts) (n : ℕ) → Reads left r → ReadsSite r rest text
      → CountsSite r 0 n → seen ≡ text → site_for grammars seen ≡ Ok site → Appends old mid first → IfErr result (λ stop. StopsInScript stop (may site n) rest mid new)
      → IfErr result (λ stop. StopsAt task stop left old new)
  stopped_by_script (Ok x) left old mid new r rest text seen site n reads t count same fine ok s = tt
  stopped_by_script (Err e) left old mid new r rest text seen site n reads t count same fine ok s =
      cut_in_script left old mid new r rest text site n e reads t count (subst (λ (w : Word). site_for grammars w ≡ Ok site) same fine) ok s
