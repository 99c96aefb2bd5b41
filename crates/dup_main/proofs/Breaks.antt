-- What stands written where a run breaks off, from its first byte.
use Rattle.std.proofs.Common.{◌≡◌, inl, inr, ℕ, zero, Bool, true, false, refl, sym, ap, ◌∙◌, subst, List, [], ◌++◌, append_assoc, append-nil, take, arith, ◌+◌}
use Rattle.std.specs.Prelude.{◌⊎◌, None, Some, Option, Result, Ok, Err, IfErr, IsErrAnd}
use Rattle.std.specs.Io.KnownBytes.{Appends}
use Rattle.std.proofs.KnownBytes.{Appends-trans, Appends-nil}
use Rattle.dup_io.specs.Causes.{AppendsPrefix}
use Rattle.dup_io.specs.Readings.{GoesOnWith}
use Rattle.dup_names.specs.Lines.{Reading, Whole, reading}
use Rattle.dup_names.specs.Words.{Word}
use Rattle.dup_template.specs.declared.site.Parts.{Parts}
use Rattle.dup_model.specs.Content.{Content, start}
use Rattle.dup_script.specs.Commands.{command_of}
use Rattle.dup_transcript.specs.Beginnings.{Begins, BeginsRead, BeginsSite, BeginsTask, BreaksOff, behind_lines, first_lines, has_end}
use Rattle.dup_transcript.specs.Inputs.{script, site_is_read, site_lines, site_text}
use Rattle.dup_transcript.specs.RenderedPages.{rendered_page, rendered_pages}
use Rattle.dup_model.specs.Pages.{pages}
use Rattle.std.specs.List.{flat_map}
use Rattle.dup_transcript.specs.Transcript.{DoesRead, DoesSite, IsTranscript, RendersLines, ending, site_for, site_ok}
use Rattle.dup_transcript.specs.declared.task.Task.{Task}
use Rattle.dup_transcript.specs.declared.task.Task.TheVariants as tasks
use Rattle.dup_transcript.proofs.MachineTurns.{first_stands}
use Rattle.dup_transcript.proofs.Transcripts.{transcripts_exist}
use Rattle.dup_main.specs.Breaks.{Breaks, BreaksPages, BreaksScript, BreaksSite, EndsSite, Nothing, PlayBegins, RenderBegins, RenderBreaks, StopsBehind, WritesSome}
use Rattle.dup_main.specs.Stops.{BarsSite, CountsSite, IsSiteText, ReadsSite}
use Rattle.dup_main.specs.Transcript.{grammars}
use Rattle.dup_main.specs.declared.stop.Stop.{Stop}
use Rattle.dup_main.specs.declared.stop.Stop.TheVariants as stops
use Rattle.dup_main.proofs.LinesSoFar.{placed}
use Rattle.dup_main.proofs.PlayedRuns.{grammars_good}
use Rattle.dup_main.proofs.Prefixes.{prefix_behind, prefix_longer}
use Rattle.dup_main.proofs.WholeRuns.{Reads, does_play, does_render, of_site}

-- before the end of the site text nothing is written
site_broken : (task : Task) (stop : Stop) (input left old : Option Word) (r : Option Reading) → Reads input r → BreaksSite stop r left → Breaks task stop input left old old
site_broken task stop None left old r is b = tt
site_broken task stop (Some input) left old r is b = by_stop stop (subst (λ (x : Option Reading). BreaksSite stop x left) is b)
  where
    by_stop : (k : Stop) → BreaksSite k (Some (reading 0 0 input)) left → Breaks task k (Some input) left old old
    by_stop stops.ReadFault d =
        ([], (d.0, d.1, subst (λ (e : Bool). BeginsRead grammars task e (first_lines d.0 (reading 0 0 input)) []) (sym d.2) refl), Appends-nil old)
    by_stop stops.WriteFault d = absurd d
    by_stop (stops.BadSite why) d = ([], inl refl, Appends-nil old)
    by_stop stops.NoMemory d = ([], inl refl, Appends-nil old)
    by_stop (stops.LineTooLong n) d = ([], inl refl, Appends-nil old)
    by_stop stops.InputTooLong d = ([], inl refl, Appends-nil old)

pub broken_in_site : {X : Type 0} (task : Task) (result : Result X Stop) (e : Stop) (input left now old : Option Word) (r : Option Reading) → IsErrAnd result (λ s. s ≡ e)
    → Reads input r → left ≡ now → BreaksSite e r left → IfErr result (λ stop. Breaks task stop input now old old)
broken_in_site task (Ok x) e input left now old r is reads at b = tt
broken_in_site task (Err stop) e input left now old r is reads at b =
    subst (λ (l : Option Word). Breaks task stop input l old old) at
    (subst (λ (s : Stop). Breaks task s input left old old) (sym is) (site_broken task e input left old r reads b))

-- a text without a good site, and want of memory before anything is written
pub nothing_written : (task : Task) (input left old : Option Word) → Breaks task stops.NoMemory input left old old
nothing_written task None left old = tt
nothing_written task (Some input) left old = ([], inl refl, Appends-nil old)

site_barred : (task : Task) (stop : Stop) (input left old : Option Word) (site : Result Parts Word) → BarsSite stop site → Breaks task stop input left old old
site_barred task (stops.BadSite why) None left old site b = tt
site_barred task (stops.BadSite why) (Some input) left old site b = ([], inl refl, Appends-nil old)
site_barred task stops.NoMemory input left old site b = nothing_written task input left old
site_barred task stops.ReadFault input left old site b = absurd b
site_barred task stops.WriteFault input left old site b = absurd b
site_barred task (stops.LineTooLong n) input left old site b = absurd b
site_barred task stops.InputTooLong input left old site b = absurd b

pub broken_by_site : {X : Type 0} (task : Task) (result : Result X Stop) (e : Stop) (input left old : Option Word) (site : Result Parts Word) → IsErrAnd result (λ s. s ≡ e)
    → BarsSite e site → IfErr result (λ stop. Breaks task stop input left old old)
broken_by_site task (Ok x) e input left old site is b = tt
broken_by_site task (Err stop) e input left old site is b = subst (λ (s : Stop). Breaks task s input left old old) (sym is) (site_barred task e input left old site b)

pub broken_for_memory : {X : Type 0} (task : Task) (result : Result X Stop) (input left old : Option Word) → IsErrAnd result (λ s. s ≡ stops.NoMemory)
    → IfErr result (λ stop. Breaks task stop input left old old)
broken_for_memory task (Ok x) input left old is = tt
broken_for_memory task (Err stop) input left old is = subst (λ (s : Stop). Breaks task s input left old old) (sym is) (nothing_written task input left old)

-- a part of what some transcript of a good site begins with
abbrev HasTranscript : Task → Reading → Word → Type 0
HasTranscript task all out = (status : ℕ) × IsTranscript grammars task all status out

ok_goes_on : (all rest : Reading) (text : Word) (site : Parts) → IsSiteText all rest text → site_for grammars text ≡ Ok site → (more : Word) × HasTranscript tasks.Play all (site_ok ++ more)
ok_goes_on all rest text site t fine =
    let made = transcripts_exist grammars grammars_good tasks.Play all in
    let does : DoesSite grammars tasks.Play (site_for grammars (site_text all)) all made.1.1.0 made.0 made.1.0 =
    subst (λ (b : Bool). DoesRead grammars tasks.Play b all made.1.1.0 made.0 made.1.0) t.whole made.1.1.1 in
    let played = subst (λ (s : Result Parts Word). DoesSite grammars tasks.Play s all made.1.1.0 made.0 made.1.0) (ap (site_for grammars) t.says ∙ fine) does in
    (played.1.0, (made.0, subst (λ (w : Word). IsTranscript grammars tasks.Play all made.0 w) played.1.1 made.1.1))

-- the words before a script are written in part
ok_in_part : (input left old new : Option Word) (r rest : Option Reading) (text : Word) (site : Parts) → Reads input r → ReadsSite r rest text → site_for grammars text ≡ Ok site
    → AppendsPrefix old new site_ok → Breaks tasks.Play stops.WriteFault input left old new
ok_in_part None left old new r rest text site is t fine put = tt
ok_in_part (Some input) left old new None rest text site is t fine put = absurd (cc)
ok_in_part (Some input) left old new (Some all) None text site is t fine put = absurd t
ok_in_part (Some input) left old new (Some all) (Some rest) text site is t fine put =
    let e : all ≡ reading 0 0 input = cc in
    let on = ok_goes_on all rest text site t fine in
    (site_ok ++ on.0, inr (subst (λ (x : Reading). HasTranscript tasks.Play x (site_ok ++ on.0)) e on.1), prefix_longer old new site_ok on.0 put)

pub broken_in_ok : {X : Type 0} (result : Result X Stop) (input left old new : Option Word) (r rest : Option Reading) (text seen : Word) (site : Parts) → Reads input r → ReadsSite r rest text
    → seen ≡ text → site_for grammars seen ≡ Ok site → AppendsPrefix old new site_ok → IsErrAnd result (λ s. s ≡ stops.WriteFault)
    → IfErr result (λ stop. Breaks tasks.Play stop input left old new)
broken_in_ok (Ok x) input left old new r rest text seen site is t same fine put stop = tt
broken_in_ok (Err k) input left old new r rest text seen site is t same fine put stop =
    subst (λ (s : Stop). Breaks tasks.Play s input left old new) (sym stop)
    (ok_in_part input left old new r rest text site is t (subst (λ (w : Word). site_for grammars w ≡ Ok site) same fine) put)

-- the text of a check is written in part
check_in_part : (input left old new : Option Word) (r rest : Option Reading) (text : Word) (site : Parts) → Reads input r → ReadsSite r rest text → site_for grammars text ≡ Ok site
    → AppendsPrefix old new (grammars.canonical site) → Breaks tasks.Check stops.WriteFault input left old new
check_in_part None left old new r rest text site is t fine put = tt
check_in_part (Some input) left old new None rest text site is t fine put = absurd (cc)
check_in_part (Some input) left old new (Some all) None text site is t fine put = absurd t
check_in_part (Some input) left old new (Some all) (Some rest) text site is t fine put =
    let e : all ≡ reading 0 0 input = cc in
    let made : IsTranscript grammars tasks.Check all 0 (grammars.canonical site) = of_site tasks.Check all rest text (Ok site) [] 0 (grammars.canonical site) t fine (refl, (refl, refl)) in
    (grammars.canonical site, inr (0, subst (λ (x : Reading). IsTranscript grammars tasks.Check x 0 (grammars.canonical site)) e made), put)

pub broken_in_check : {X : Type 0} (result : Result X Stop) (input left old new : Option Word) (r rest : Option Reading) (text seen : Word) (site : Parts) → Reads input r → ReadsSite r rest text
    → seen ≡ text → site_for grammars seen ≡ Ok site → AppendsPrefix old new (grammars.canonical site) → IsErrAnd result (λ s. s ≡ stops.WriteFault)
    → IfErr result (λ stop. Breaks tasks.Check stop input left old new)
broken_in_check (Ok x) input left old new r rest text seen site is t same fine put stop = tt
broken_in_check (Err k) input left old new r rest text seen site is t same fine put stop =
    subst (λ (s : Stop). Breaks tasks.Check s input left old new) (sym stop)
    (check_in_part input left old new r rest text site is t (subst (λ (w : Word). site_for grammars w ≡ Ok site) same fine) put)

-- where a reading stops
stops_at : (m n : ℕ) (a b : Reading) (left : Option Word) → behind_lines m a ≡ behind_lines n b → StopsBehind n b left → StopsBehind m a left
stops_at m n a b None same stops = absurd stops
stops_at m n a b (Some left) same stops = subst (λ (x : Reading). GoesOnWith x left) (sym same) stops

-- behind the site text: a task that wrote its first words, what it writes for lines, where else memory may run out, and all that it writes
module _ (task : Task) (first : Word) (begins some whole : Parts → ℕ → Reading → Word → Type 0)
    (begun : (site : Parts) (lines : Reading) (out : Word) → begins site (site_lines lines) (script lines) out → BeginsTask grammars task site lines (first ++ out))
    (broken : (site : Parts) (all rest : Reading) (text out : Word) → IsSiteText all rest text → site_for grammars text ≡ Ok site → some site (site_lines all) rest out → BreaksOff grammars task all (first ++ out))
    (done : (site : Parts) (all rest : Reading) (text out : Word) → IsSiteText all rest text → site_for grammars text ≡ Ok site → whole site (site_lines all) rest out → HasTranscript task all (first ++ out)) where
  abbrev BeginsAt : ℕ → Reading → ℕ → Reading → Word → Type 0
  BeginsAt m all n rest out = Begins grammars task (first_lines m all) (first ++ out) × (behind_lines m all ≡ behind_lines n rest)

  begun_at : (n : ℕ) (all rest : Reading) (text : Word) (site : Parts) (out : Word) → IsSiteText all rest text → has_end all ≡ true → site_for grammars text ≡ Ok site
      → begins site (site_lines all) (first_lines n rest) out → (m : ℕ) × BeginsAt m all n rest out
  begun_at n all rest text site out t ends fine b =
      let p = placed n all ends in
      let m : ℕ = p.0 in
      let lines : Reading = first_lines m all in
      let there : script lines ≡ first_lines n rest = p.1.there ∙ ap (first_lines n) t.behind in
      let at : begins site (site_lines lines) (script lines) out =
      subst (λ (k : ℕ). begins site k (script lines) out) (sym p.1.lines) (subst (λ (x : Reading). begins site (site_lines all) x out) (sym there) b) in
      let given : site_for grammars (site_text lines) ≡ Ok site = ap (site_for grammars) (p.1.text ∙ t.says) ∙ fine in
      let of_site_text : BeginsSite grammars task (site_for grammars (site_text lines)) lines (first ++ out) =
      subst (λ (s : Result Parts Word). BeginsSite grammars task s lines (first ++ out)) (sym given) (begun site lines out at) in
      (m, (subst (λ (e : Bool). BeginsRead grammars task e lines (first ++ out)) (sym p.1.ends) of_site_text, p.1.behind ∙ ap (behind_lines n) t.behind))

  broken_behind : (stop : Stop) (left old mid new : Option Word) (all rest : Reading) (text : Word) (site : Parts) (input : Word) → all ≡ reading 0 0 input → IsSiteText all rest text → has_end all ≡ true
      → site_for grammars text ≡ Ok site → Appends old mid first → BreaksScript stop (begins site (site_lines all)) (some site (site_lines all)) (whole site (site_lines all)) (Some rest) left mid new
      → Breaks task stop (Some input) left old new
  broken_behind stop left old mid new all rest text site input e t ends fine ok b = by_stop stop b
    where
      else_broken : (d : (out : Word) × (((n : ℕ) × begins site (site_lines all) (first_lines n rest) out) ⊎ some site (site_lines all) rest out) × Appends mid new out)
          → (out : Word) × BreaksOff grammars task (reading 0 0 input) out × Appends old new out
      else_broken d = (
        first ++ d.0,
        subst (λ (x : Reading). BreaksOff grammars task x (first ++ d.0)) e (elim d.1 [
          | inl some_lines ↦ let w = begun_at some_lines.0 all rest text site d.0 t ends fine some_lines.1 in inr (inl (w.0, w.1.0))
          | inr more ↦ broken site all rest text d.0 t fine more
        ]),
        Appends-trans old mid new _ _ ok d.2,
      )

      by_stop : (k : Stop) → BreaksScript k (begins site (site_lines all)) (some site (site_lines all)) (whole site (site_lines all)) (Some rest) left mid new → Breaks task k (Some input) left old new
      by_stop stops.ReadFault d =
          let w = begun_at d.0 all rest text site d.1 t ends fine d.3 in (
            first ++ d.1,
            subst (λ (x : Reading). (n : ℕ) × StopsBehind n x left × Begins grammars task (first_lines n x) (first ++ d.1)) e
                (w.0, stops_at w.0 d.0 all rest left w.1.1 d.2, w.1.0),
            Appends-trans old mid new _ _ ok d.4,
          )
      by_stop stops.WriteFault d = (
        first ++ d.0,
        subst (λ (x : Reading). WritesSome task x (first ++ d.0)) e (elim d.1 [
          | inl some_lines ↦ let w = begun_at some_lines.0 all rest text site d.0 t ends fine some_lines.1 in inl (w.0, w.1.0)
          | inr every ↦ inr (done site all rest text d.0 t fine every)
        ]),
        prefix_behind old mid new first d.0 ok d.2,
      )
      by_stop (stops.BadSite why) d = else_broken d
      by_stop stops.NoMemory d = else_broken d
      by_stop (stops.LineTooLong n) d = else_broken d
      by_stop stops.InputTooLong d = else_broken d

  broken_script : (stop : Stop) (input left old mid new : Option Word) (r rest : Option Reading) (text : Word) (site : Parts) (n : ℕ) → Reads input r → ReadsSite r rest text → EndsSite r → CountsSite r 0 n
      → site_for grammars text ≡ Ok site → Appends old mid first → BreaksScript stop (begins site n) (some site n) (whole site n) rest left mid new → Breaks task stop input left old new
  broken_script stop None left old mid new r rest text site n is t ends count fine ok b = tt
  broken_script stop (Some input) left old mid new None rest text site n is t ends count fine ok b = absurd (cc)
  broken_script stop (Some input) left old mid new (Some all) None text site n is t ends count fine ok b = absurd t
  broken_script stop (Some input) left old mid new (Some all) (Some rest) text site n is t ends count fine ok b =
      let e : all ≡ reading 0 0 input = cc in
      let lines : n ≡ site_lines all = sym (sym (zero_add (site_lines all)) ∙ count) in
      broken_behind stop left old mid new all rest text site input e t ends fine ok
      (subst (λ (k : ℕ). BreaksScript stop (begins site k) (some site k) (whole site k) (Some rest) left mid new) lines b)
    where
      zero_add : (k : ℕ) → 0 + k ≡ k
      zero_add k = omega arith

  pub broken_by_script : {X : Type 0} (result : Result X Stop) (input left now old mid new : Option Word) (r rest : Option Reading) (text seen : Word) (site : Parts) (n : ℕ) → Reads input r → ReadsSite r rest text → EndsSite r
      → CountsSite r 0 n → seen ≡ text → site_for grammars seen ≡ Ok site → Appends old mid first → left ≡ now
      → IfErr result (λ stop. BreaksScript stop (begins site n) (some site n) (whole site n) rest left mid new) → IfErr result (λ stop. Breaks task stop input now old new)
  broken_by_script (Ok x) input left now old mid new r rest text seen site n is t ends count same fine ok at b = tt
  broken_by_script (Err stop) input left now old mid new r rest text seen site n is t ends count same fine ok at b =
      subst (λ (l : Option Word). Breaks task stop input l old new) at (broken_script stop input left old mid new r rest text site n is t ends count (subst (λ (w : Word). site_for grammars w ≡ Ok site) same fine) ok b)

-- the tasks
pub play_begun : (site : Parts) (lines : Reading) (out : Word) → PlayBegins site (site_lines lines) (script lines) out → BeginsTask grammars tasks.Play site lines (site_ok ++ out)
play_begun site lines out begins = (out, refl, begins [] first_stands)

pub nothing_broken : (site : Parts) (all rest : Reading) (text out : Word) → IsSiteText all rest text → site_for grammars text ≡ Ok site → Nothing rest out → BreaksOff grammars tasks.Play all (site_ok ++ out)
nothing_broken site all rest text out t fine none = absurd none

pub nothing_done : (site : Parts) (all rest : Reading) (text out : Word) → IsSiteText all rest text → site_for grammars text ≡ Ok site → Nothing rest out → HasTranscript tasks.Play all (site_ok ++ out)
nothing_done site all rest text out t fine none = absurd none

pub render_begun : (site : Parts) (lines : Reading) (out : Word) → RenderBegins site (site_lines lines) (script lines) out → BeginsTask grammars tasks.Render site lines ([] ++ out)
render_begun site lines out begins = begins

pub render_broken : (site : Parts) (all rest : Reading) (text out : Word) → IsSiteText all rest text → site_for grammars text ≡ Ok site → RenderBreaks site (site_lines all) rest out
    → BreaksOff grammars tasks.Render all ([] ++ out)
render_broken site all rest text out t fine b =
    let there = subst (λ (x : Reading). RenderBreaks site (site_lines all) x out) (sym t.behind) b in
    inr (inr (refl, (site, there.0, t.whole, ap (site_for grammars) t.says ∙ fine, t.ends ∙ ap ending (sym t.behind) ∙ there.1, there.2)))

pub render_done : (site : Parts) (all rest : Reading) (text out : Word) → IsSiteText all rest text → site_for grammars text ≡ Ok site → RendersLines command_of site (site_lines all) rest out
    → HasTranscript tasks.Render all ([] ++ out)
render_done site all rest text out t fine w =
    let does = does_render site all (ending all) out text fine refl (subst (λ (x : Reading). RendersLines command_of site (site_lines all) x out) (sym t.behind) w) in
    (ending all, of_site tasks.Render all rest text (Ok site) does.0 (ending all) out t fine does.1)

-- pages alone, of a site without commits
pages_broken : (stop : Stop) (input left old new : Option Word) (r : Option Reading) (text : Word) (site : Parts) (c : Content) → Reads input r → ReadsSite r (Some Whole) text
    → site_for grammars text ≡ Ok site → c ≡ start site → (stop ≡ stops.NoMemory) ⊎ (stop ≡ stops.WriteFault) → BreaksPages stop c old new → Breaks tasks.Render stop input left old new
pages_broken stop None left old new r text site c is t fine starts which b = tt
pages_broken stop (Some input) left old new None text site c is t fine starts which b = absurd (cc)
pages_broken stop (Some input) left old new (Some all) text site c is t fine starts which b =
    let e : all ≡ reading 0 0 input = cc in
    let at_start = subst (λ (x : Content). BreaksPages stop x old new) starts b in
    elim which [
      | inl memory ↦
          let d = subst (λ (s : Stop). BreaksPages s (start site) old new) memory at_start in
          subst (λ (s : Stop). Breaks tasks.Render s (Some input) left old new) (sym memory)
          let out : Word = flat_map (rendered_page (start site)) (take d.0 (pages (start site))) in
          (out, subst (λ (x : Reading). BreaksOff grammars tasks.Render x out) e (render_broken site all Whole text out t fine (d.0, refl, refl)), d.1)
      | inr fault ↦
          let d = subst (λ (s : Stop). BreaksPages s (start site) old new) fault at_start in
          subst (λ (s : Stop). Breaks tasks.Render s (Some input) left old new) (sym fault)
          (rendered_pages (start site), inr (subst (λ (x : Reading). HasTranscript tasks.Render x (rendered_pages (start site))) e (render_done site all Whole text (rendered_pages (start site)) t fine refl)), d)
    ]

pub broken_in_pages : {X : Type 0} (result : Result X Stop) (input left old new : Option Word) (r : Option Reading) (text seen : Word) (site : Parts) (c : Content) → Reads input r
    → ReadsSite r (Some Whole) text → seen ≡ text → site_for grammars seen ≡ Ok site → c ≡ start site → IfErr result (λ stop. (stop ≡ stops.NoMemory) ⊎ (stop ≡ stops.WriteFault))
    → IfErr result (λ stop. BreaksPages stop c old new) → IfErr result (λ stop. Breaks tasks.Render stop input left old new)
broken_in_pages (Ok x) input left old new r text seen site c is t same fine starts which b = tt
broken_in_pages (Err stop) input left old new r text seen site c is t same fine starts which b =
    pages_broken stop input left old new r text site c is t (subst (λ (w : Word). site_for grammars w ≡ Ok site) same fine) starts which b
