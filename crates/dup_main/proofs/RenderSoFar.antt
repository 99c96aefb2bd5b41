-- The lines of a render so far, and one more.
use Rattle.std.proofs.Common.{◌≡◌, inl, inr, ℕ, zero, suc, ◌+◌, refl, sym, ap, ◌∙◌, subst, List, [], ◌∷◌, ◌++◌, append_assoc, append-nil, take}
use Rattle.std.specs.Prelude.{◌⊎◌, None, Some, Option, Result, Ok, Err, IfErr, IsErrAnd, OnOk}
use Rattle.std.specs.List.{flat_map, fold}
use Rattle.std.specs.Io.KnownBytes.{Appends}
use Rattle.std.proofs.KnownBytes.{Appends-trans, Appends-nil}
use Rattle.dup_names.specs.Lines.{Reading, Whole, Next}
use Rattle.dup_io.specs.Readings.{GivesLine, GoesOnWith, IsReading, StopsInLine}
use Rattle.dup_io.specs.Causes.{AppendsPrefix}
use Rattle.dup_io.specs.declared.lines.LineFault.{LineFault}
use Rattle.dup_io.specs.declared.lines.LineFault.TheVariants as fault
use Rattle.dup_names.specs.Words.{Word}
use Rattle.dup_template.specs.declared.site.Parts.{Parts}
use Rattle.dup_transcript.specs.Commands.{Command}
use Rattle.dup_model.specs.Commits.{Commit}
use Rattle.dup_model.specs.Content.{Content}
use Rattle.dup_model.specs.Versions.{content}
use Rattle.dup_script.specs.Commands.{command_of}
use Rattle.dup_main.specs.Taken.{HasTaken, Takes}
use Rattle.dup_main.specs.declared.render_lines.Rendering.{Rendering}
use Rattle.dup_transcript.specs.RenderedPages.{accepted, last_content, rendered_pages, render_answer, render_answers}
use Rattle.dup_main.specs.declared.stop.Stop.{Stop}
use Rattle.dup_main.specs.Stops.{WritesScript}
use Rattle.dup_transcript.specs.Transcript.{RendersLines, render_end, commands, ending, rendered}
use Rattle.dup_model.specs.Pages.{pages}
use Rattle.dup_transcript.specs.RenderedPages.{rendered_page}
use Rattle.dup_transcript.specs.Beginnings.{behind_lines, first_lines}
use Rattle.dup_transcript.proofs.Beginnings.{commands_cut}
use Rattle.dup_main.specs.Breaks.{BreaksPages, BreaksScript, RenderBegins, RenderBreaks}
use Rattle.dup_main.specs.LineStops.{stop_of}
use Rattle.dup_main.specs.declared.stop.Stop.TheVariants as stops
use Rattle.dup_main.proofs.LinesSoFar.{command_behind, line_behind}
use Rattle.dup_main.proofs.Prefixes.{prefix_behind}
use Rattle.dup_main.proofs.CutScripts.{Reaches}

-- of the lines, some were answered by done, and the rest goes on from these commits
pub record IsRendered (site : Parts) (all rest : Reading) (commits : List Commit) (before now : ℕ) (done : Word) : Type 0 where
  pub goes : rendered command_of site [] before all ≡ done ++ rendered command_of site commits now rest
  pub lines : ℕ
  pub behind : behind_lines lines all ≡ rest
  pub answers : (cs : List Command) → render_answers site [] before (commands command_of (first_lines lines all) ++ cs) ≡ done ++ render_answers site commits now cs
  pub last : (cs : List Command) → fold (accepted site) [] (commands command_of (first_lines lines all) ++ cs) ≡ fold (accepted site) commits cs
  pub ends : ending all ≡ ending rest

abbrev pub SoFar : Parts → Option Reading → Option Reading → Option Word → Option Word → ℕ → ℕ → Rendering → Type 0
SoFar site None rest old new before now c = Unit {0}
SoFar site (Some all) None old new before now c = ⊥
SoFar site (Some all) (Some rest) old new before now c =
    (commits : List Commit) × HasTaken site commits c × ((done : Word) × Appends old new done × IsRendered site all rest commits before now done)

pub begun : (site : Parts) (r : Option Reading) (old : Option Word) (n : ℕ) (c : Rendering) → HasTaken site [] c → SoFar site r r old old n n c
begun site None old n c is = tt
begun site (Some r) old n c is = ([], is, ([], Appends-nil old, record { goes = refl; lines = zero; behind = refl; answers = λ cs. refl; last = λ cs. refl; ends = refl }))

one_more : (site : Parts) (all rest : Reading) (commits : List Commit) (before now : ℕ) (done text : Word) → IsRendered site all (Next text rest) commits before now done
    → IsRendered site all rest (accepted site commits (command_of text)) before (now + 1) (done ++ render_answer site commits (now + 1) (command_of text))
one_more site all rest commits before now done text p =
    let said = render_answer site commits (now + 1) (command_of text) in
    let next = accepted site commits (command_of text) in
    let asked = λ (cs : List Command). ap (λ (l : List Command). l ++ cs) (command_behind command_of p.lines all rest text p.behind)
    ∙ append_assoc (commands command_of (first_lines p.lines all)) (command_of text ∷ []) cs in
    record {
      goes = p.goes
          ∙ ap (λ (w : Word). done ++ w) (append_assoc said (render_answers site next (now + 1) (commands command_of rest)) (render_end (last_content site next (commands command_of rest)) rest))
          ∙ sym (append_assoc done said (rendered command_of site next (now + 1) rest));
      lines = suc p.lines;
      behind = line_behind p.lines all rest text p.behind;
      answers = λ cs. ap (render_answers site [] before) (asked cs) ∙ p.answers (command_of text ∷ cs) ∙ sym (append_assoc done said (render_answers site next (now + 1) cs));
      last = λ cs. ap (fold (accepted site) []) (asked cs) ∙ p.last (command_of text ∷ cs);
      ends = p.ends;
    }

-- what was written is the output for these lines
pub begins : (site : Parts) (all rest : Reading) (commits : List Commit) (before now : ℕ) (done : Word) → (p : IsRendered site all rest commits before now done)
    → RenderBegins site before (first_lines p.lines all) done
begins site all rest commits before now done p =
    sym (ap (render_answers site [] before) (sym (append-nil (commands command_of (first_lines p.lines all)))) ∙ p.answers [] ∙ append-nil done)

-- the lines are all of them
all_lines : (site : Parts) (all : Reading) (commits : List Commit) (before now : ℕ) (done : Word) → (p : IsRendered site all Whole commits before now done)
    → commands command_of (first_lines p.lines all) ++ [] ≡ commands command_of all
all_lines site all commits before now done p =
    ap (λ (r : Reading). commands command_of (first_lines p.lines all) ++ commands command_of r) (sym p.behind) ∙ commands_cut command_of p.lines all

pub more : (site : Parts) (a r t : Option Reading) (old mid new : Option Word) (before now then_ number : ℕ) (c next : Rendering) (line text : Word) (command : Command)
    → SoFar site a r old mid before now c → GivesLine r t line → command ≡ command_of line → Takes c next number command text
    → number ≡ now + 1 → then_ ≡ number → Appends mid new text → SoFar site a t old new before then_ next
more site None r t old mid new before now then_ number c next line text command p gives is takes n m put = tt
more site (Some all) None t old mid new before now then_ number c next line text command p gives is takes n m put = absurd p
more site (Some all) (Some r) None old mid new before now then_ number c next line text command p gives is takes n m put = absurd gives
more site (Some all) (Some r) (Some rest) old mid new before now then_ number c next line text command p gives is takes n m put =
    let t = takes site p.0 p.1 in
    let said = render_answer site p.0 (now + 1) (command_of line) in
    let step = one_more site all rest p.0 before now p.2.0 line (subst (λ (x : Reading). IsRendered site all x p.0 before now p.2.0) gives p.2.2) in
    let e : text ≡ said =
    t.1 ∙ ap (λ (k : ℕ). render_answer site p.0 k command) n ∙ ap (λ (x : Command). render_answer site p.0 (now + 1) x) is in (
      accepted site p.0 (command_of line),
      subst (λ (x : Command). HasTaken site (accepted site p.0 x) next) is t.0,
      (
        p.2.0 ++ said,
        Appends-trans old mid new _ _ p.2.1 (subst (Appends mid new) e put),
        subst (λ (k : ℕ). IsRendered site all rest (accepted site p.0 (command_of line)) before k (p.2.0 ++ said)) (sym (m ∙ n)) step,
      ),
    )

-- the pages behind the last answer
ended : (site : Parts) (a r : Option Reading) (old mid new : Option Word) (before now : ℕ) (c : Rendering) → SoFar site a r old mid before now c → IsReading r Whole
    → Appends mid new (rendered_pages c.content) → WritesScript (RendersLines command_of site before) a old new
ended site None r old mid new before now c p is put = tt
ended site (Some all) None old mid new before now c p is put = absurd p
ended site (Some all) (Some r) old mid new before now c p is put =
    let q = subst (λ (x : Reading). IsRendered site all x p.0 before now p.2.0) is p.2.2 in
    (p.2.0 ++ rendered_pages (content site p.0), q.ends, sym q.goes, Appends-trans old mid new _ _ p.2.1 (subst (λ (x : Content). Appends mid new (rendered_pages x)) p.1.shows put))

pub ended_by : (result : Result (Unit {0}) Stop) (site : Parts) (a r : Option Reading) (old mid new : Option Word) (before now : ℕ) (c : Rendering) → SoFar site a r old mid before now c
    → IsReading r Whole → OnOk result (Appends mid new (rendered_pages c.content)) → OnOk result (WritesScript (RendersLines command_of site before) a old new)
ended_by (Ok x) site a r old mid new before now c p is put = ended site a r old mid new before now c p is put
ended_by (Err e) site a r old mid new before now c p is put = tt

-- what was answered so far, where the rest is too long
pub reaches : (site : Parts) (a r : Option Reading) (old new : Option Word) (before now : ℕ) (c : Rendering) → SoFar site a r old new before now c
    → Reaches (RendersLines command_of site before) a r old new
reaches site None r old new before now c p = tt
reaches site (Some all) None old new before now c p = absurd p
reaches site (Some all) (Some r) old new before now c p = (
  p.2.0,
  p.2.1,
  record {
    ends = p.2.2.ends;
    line = λ n is. sym (subst (λ (x : Reading). IsRendered site all x p.0 before now p.2.0) is p.2.2).goes;
    input = λ is. sym (subst (λ (x : Reading). IsRendered site all x p.0 before now p.2.0) is p.2.2).goes;
  },
)

-- where the render breaks off behind what was answered
abbrev pub Stops : Parts → ℕ → Stop → Option Reading → Option Word → Option Word → Option Word → Type 0
Stops site before stop a left old new = BreaksScript stop (RenderBegins site before) (RenderBreaks site before) (RendersLines command_of site before) a left old new

breaks_reading : (site : Parts) (a r : Option Reading) (left old new : Option Word) (before now : ℕ) (c : Rendering) → SoFar site a r old new before now c → StopsInLine r left
    → Stops site before stops.ReadFault a left old new
breaks_reading site None r left old new before now c p stops = tt
breaks_reading site (Some all) None left old new before now c p stops = absurd p
breaks_reading site (Some all) (Some r) None old new before now c p stops = absurd stops
breaks_reading site (Some all) (Some r) (Some left) old new before now c p stops =
    let q = p.2.2 in
    (q.lines, p.2.0, subst (λ (x : Reading). GoesOnWith x left) (sym q.behind) stops, begins site all r p.0 before now p.2.0 q, p.2.1)

breaks_else : (site : Parts) (a r : Option Reading) (left old new : Option Word) (before now : ℕ) (c : Rendering) → SoFar site a r old new before now c
    → Stops site before stops.NoMemory a left old new
breaks_else site None r left old new before now c p = tt
breaks_else site (Some all) None left old new before now c p = absurd p
breaks_else site (Some all) (Some r) left old new before now c p = let q = p.2.2 in (p.2.0, inl (q.lines, begins site all r p.0 before now p.2.0 q), p.2.1)

breaks_long : (site : Parts) (n : ℕ) (a r : Option Reading) (left old new : Option Word) (before now : ℕ) (c : Rendering) → SoFar site a r old new before now c
    → Stops site before (stops.LineTooLong n) a left old new
breaks_long site n None r left old new before now c p = tt
breaks_long site n (Some all) None left old new before now c p = absurd p
breaks_long site n (Some all) (Some r) left old new before now c p = let q = p.2.2 in (p.2.0, inl (q.lines, begins site all r p.0 before now p.2.0 q), p.2.1)

breaks_input : (site : Parts) (a r : Option Reading) (left old new : Option Word) (before now : ℕ) (c : Rendering) → SoFar site a r old new before now c
    → Stops site before stops.InputTooLong a left old new
breaks_input site None r left old new before now c p = tt
breaks_input site (Some all) None left old new before now c p = absurd p
breaks_input site (Some all) (Some r) left old new before now c p = let q = p.2.2 in (p.2.0, inl (q.lines, begins site all r p.0 before now p.2.0 q), p.2.1)

breaks_by : (site : Parts) (f : LineFault) (a r : Option Reading) (left old new : Option Word) (before now : ℕ) (c : Rendering) → SoFar site a r old new before now c
    → (f ≡ fault.ReadFault → StopsInLine r left) → Stops site before (stop_of f) a left old new
breaks_by site fault.ReadFault a r left old new before now c p stops = breaks_reading site a r left old new before now c p (stops refl)
breaks_by site (fault.LineTooLong n) a r left old new before now c p stops = breaks_long site n a r left old new before now c p
breaks_by site fault.InputTooLong a r left old new before now c p stops = breaks_input site a r left old new before now c p
breaks_by site fault.NoMemory a r left old new before now c p stops = breaks_else site a r left old new before now c p

pub breaks_on_line : {X : Type 0} (result : Result X Stop) (site : Parts) (f : LineFault) (a r : Option Reading) (left old new : Option Word) (before now : ℕ) (c : Rendering)
    → SoFar site a r old new before now c → (f ≡ fault.ReadFault → StopsInLine r left) → IsErrAnd result (λ stop. stop ≡ stop_of f)
    → IfErr result (λ stop. Stops site before stop a left old new)
breaks_on_line (Ok x) site f a r left old new before now c p stops is = tt
breaks_on_line (Err stop) site f a r left old new before now c p stops is =
    subst (λ (k : Stop). Stops site before k a left old new) (sym is) (breaks_by site f a r left old new before now c p stops)

pub breaks_for_memory : {X : Type 0} (result : Result X Stop) (site : Parts) (a r : Option Reading) (left old new : Option Word) (before now : ℕ) (c : Rendering)
    → SoFar site a r old new before now c → IsErrAnd result (λ stop. stop ≡ stops.NoMemory) → IfErr result (λ stop. Stops site before stop a left old new)
breaks_for_memory (Ok x) site a r left old new before now c p is = tt
breaks_for_memory (Err stop) site a r left old new before now c p is =
    subst (λ (k : Stop). Stops site before k a left old new) (sym is) (breaks_else site a r left old new before now c p)

-- where memory runs out before any line
pub breaks_at_once : {X : Type 0} (result : Result X Stop) (site : Parts) (a : Option Reading) (left old : Option Word) (before : ℕ)
    → IsErrAnd result (λ stop. stop ≡ stops.NoMemory) → IfErr result (λ stop. Stops site before stop a left old old)
breaks_at_once (Ok x) site a left old before is = tt
breaks_at_once (Err stop) site a left old before is = subst (λ (k : Stop). Stops site before k a left old old) (sym is) (at_once a)
  where
    at_once : (r : Option Reading) → Stops site before stops.NoMemory r left old old
    at_once None = tt
    at_once (Some all) = ([], inl (zero, refl), Appends-nil old)

-- where an answer is written in part
breaks_part : (site : Parts) (a r u : Option Reading) (left old mid new : Option Word) (before now number : ℕ) (c next : Rendering) (line text : Word) (command : Command)
    → SoFar site a r old mid before now c → GivesLine r u line → command ≡ command_of line → Takes c next number command text
    → number ≡ now + 1 → AppendsPrefix mid new text → Stops site before stops.WriteFault a left old new
breaks_part site None r u left old mid new before now number c next line text command p gives is takes n put = tt
breaks_part site (Some all) None u left old mid new before now number c next line text command p gives is takes n put = absurd p
breaks_part site (Some all) (Some r) None left old mid new before now number c next line text command p gives is takes n put = absurd gives
breaks_part site (Some all) (Some r) (Some rest) left old mid new before now number c next line text command p gives is takes n put =
    let said = render_answer site p.0 (now + 1) (command_of line) in
    let step = one_more site all rest p.0 before now p.2.0 line (subst (λ (x : Reading). IsRendered site all x p.0 before now p.2.0) gives p.2.2) in
    let e : text ≡ said =
    (takes site p.0 p.1).1 ∙ ap (λ (k : ℕ). render_answer site p.0 k command) n ∙ ap (λ (x : Command). render_answer site p.0 (now + 1) x) is in (
      p.2.0 ++ said,
      inl (step.lines, begins site all rest (accepted site p.0 (command_of line)) before (now + 1) (p.2.0 ++ said) step),
      prefix_behind old mid new p.2.0 said p.2.1 (subst (AppendsPrefix mid new) e put),
    )

pub breaks_on_write : {X : Type 0} (result : Result X Stop) (site : Parts) (a r u : Option Reading) (left old mid new : Option Word) (before now number : ℕ) (c next : Rendering) (line text : Word) (command : Command)
    → SoFar site a r old mid before now c → GivesLine r u line → command ≡ command_of line → Takes c next number command text
    → number ≡ now + 1 → AppendsPrefix mid new text → IsErrAnd result (λ stop. stop ≡ stops.WriteFault) → IfErr result (λ stop. Stops site before stop a left old new)
breaks_on_write (Ok x) site a r u left old mid new before now number c next line text command p gives is takes n put stop = tt
breaks_on_write (Err e) site a r u left old mid new before now number c next line text command p gives is takes n put stop =
    subst (λ (k : Stop). Stops site before k a left old new) (sym stop) (breaks_part site a r u left old mid new before now number c next line text command p gives is takes n put)

-- where the pages break off
breaks_some : (site : Parts) (a r : Option Reading) (left old mid new : Option Word) (before now : ℕ) (c : Rendering) → SoFar site a r old mid before now c → IsReading r Whole
    → (n : ℕ) × Appends mid new (flat_map (rendered_page c.content) (take n (pages c.content))) → Stops site before stops.NoMemory a left old new
breaks_some site None r left old mid new before now c p is put = tt
breaks_some site (Some all) None left old mid new before now c p is put = absurd p
breaks_some site (Some all) (Some r) left old mid new before now c p is put =
    let q = subst (λ (x : Reading). IsRendered site all x p.0 before now p.2.0) is p.2.2 in
    let cs = commands command_of all in
    let every = all_lines site all p.0 before now p.2.0 q in
    let answered : p.2.0 ≡ render_answers site [] before cs = sym (append-nil p.2.0) ∙ sym (q.answers []) ∙ ap (render_answers site [] before) every in
    let shown : c.content ≡ last_content site [] cs = p.1.shows ∙ ap (content site) (sym (q.last []) ∙ ap (fold (accepted site) []) every) in (
      p.2.0 ++ flat_map (rendered_page c.content) (take put.0 (pages c.content)),
      inr (put.0, q.ends, (λ i. answered i ++ flat_map (rendered_page (shown i)) (take put.0 (pages (shown i))))),
      Appends-trans old mid new _ _ p.2.1 put.1,
    )

breaks_all : (site : Parts) (a r : Option Reading) (left old mid new : Option Word) (before now : ℕ) (c : Rendering) → SoFar site a r old mid before now c → IsReading r Whole
    → AppendsPrefix mid new (rendered_pages c.content) → Stops site before stops.WriteFault a left old new
breaks_all site None r left old mid new before now c p is put = tt
breaks_all site (Some all) None left old mid new before now c p is put = absurd p
breaks_all site (Some all) (Some r) left old mid new before now c p is put =
    let q = subst (λ (x : Reading). IsRendered site all x p.0 before now p.2.0) is p.2.2 in
    (p.2.0 ++ rendered_pages (content site p.0), inr (sym q.goes), prefix_behind old mid new _ _ p.2.1 (subst (λ (x : Content). AppendsPrefix mid new (rendered_pages x)) p.1.shows put))

pub breaks_pages : (result : Result (Unit {0}) Stop) (site : Parts) (a r : Option Reading) (left old mid new : Option Word) (before now : ℕ) (c : Rendering) → SoFar site a r old mid before now c
    → IsReading r Whole → IfErr result (λ stop. (stop ≡ stops.NoMemory) ⊎ (stop ≡ stops.WriteFault)) → IfErr result (λ stop. BreaksPages stop c.content mid new)
    → IfErr result (λ stop. Stops site before stop a left old new)
breaks_pages (Ok x) site a r left old mid new before now c p is which put = tt
breaks_pages (Err stop) site a r left old mid new before now c p is which put = elim which [
  | inl e ↦ subst (λ (k : Stop). Stops site before k a left old new) (sym e)
      (breaks_some site a r left old mid new before now c p is (subst (λ (k : Stop). BreaksPages k c.content mid new) e put))
  | inr e ↦ subst (λ (k : Stop). Stops site before k a left old new) (sym e)
      (breaks_all site a r left old mid new before now c p is (subst (λ (k : Stop). BreaksPages k c.content mid new) e put))
]
