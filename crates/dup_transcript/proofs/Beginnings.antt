-- What is written for the first lines of an input is the front of a transcript of all of it.
use Rattle.std.proofs.Common.{◌≡◌, ℕ, zero, suc, ◌+◌, Bool, true, false, refl, sym, ap, ◌∙◌, subst, List, [], ◌∷◌, ◌++◌, append_assoc, if◌then◌else◌}
use Rattle.std.specs.Prelude.{Result, Ok, Err}
use Rattle.std.specs.List.{fold}
use Rattle.std.proofs.lemmas.List.Sums.{fold-append}
use Rattle.dup_names.specs.Lines.{Reading, Whole, Next, LongLine, LongInput, line}
use Rattle.dup_names.specs.Words.{Word}
use Rattle.dup_template.specs.declared.site.Parts.{Parts}
use Rattle.dup_model.specs.Commits.{Commit}
use Rattle.dup_model.specs.GoodSites.{HistoriesEmbedEarlier}
use Rattle.dup_model.specs.Journal.{Limits, usual_limits}
use Rattle.dup_machine.specs.World.{Event, first_world}
use Rattle.dup_machine.specs.Run.{run, step}
use Rattle.dup_transcript.specs.Beginnings.{BeginningsGoOn, BeginsRead, BeginsSite, BeginsTask, behind_lines, first_lines, has_end}
use Rattle.dup_transcript.specs.Commands.{Command, line_command}
use Rattle.dup_transcript.specs.Inputs.{is_end, script, site_is_read, site_lines, site_text}
use Rattle.dup_transcript.specs.MachinePlays.{IsReady, MachinePlays, PlaysBy, all_kept}
use Rattle.dup_transcript.specs.RenderedPages.{accepted, last_content, render_answer, render_answers}
use Rattle.dup_transcript.specs.Transcript.{DoesRead, DoesSite, GivesGoodSites, Grammars, IsTranscript, commands, ending, render_end, site_for, site_ok, too_long}
use Rattle.dup_transcript.specs.declared.task.Task.{Task}
use Rattle.dup_transcript.specs.declared.task.Task.TheVariants.{Play, Check, Render}
use Rattle.dup_transcript.proofs.MachineAnswers.{commands_leave_ready, plays_from, starts_ready}
use Rattle.dup_transcript.proofs.Transcripts.{given_embeds, transcripts_exist}

-- the lines of the site text are among the first ones, where its end is
pub record IsCut (n m : ℕ) (input : Reading) : Type 0 where
  pub read : site_is_read input ≡ true
  pub text : site_text (first_lines n input) ≡ site_text input
  pub lines : site_lines (first_lines n input) ≡ site_lines input
  pub script : script (first_lines n input) ≡ first_lines m (script input)

cut_behind : (n : ℕ) (input : Reading) → has_end (first_lines n input) ≡ true → (m : ℕ) × IsCut n m input
cut_behind zero input ends = absurd (cc)
cut_behind (suc n) Whole ends = absurd (cc)
cut_behind (suc n) (LongLine k) ends = absurd (cc)
cut_behind (suc n) LongInput ends = absurd (cc)
cut_behind (suc n) (Next text rest) ends = by_end (is_end text) refl (cut_behind n rest)
  where
    by_end : (b : Bool) → is_end text ≡ b → (has_end (first_lines n rest) ≡ true → (m : ℕ) × IsCut n m rest) → (m : ℕ) × IsCut (suc n) m (Next text rest)
    by_end true is behind = (
      n,
      record {
        read = ap (λ (c : Bool). if c then true else site_is_read rest) is;
        text = ap (λ (c : Bool). if c then [] else (line text ++ site_text (first_lines n rest))) is ∙ sym (ap (λ (c : Bool). if c then [] else (line text ++ site_text rest)) is);
        lines = ap (λ (c : Bool). if c then 1 else (1 + site_lines (first_lines n rest))) is ∙ sym (ap (λ (c : Bool). if c then 1 else (1 + site_lines rest)) is);
        script = ap (λ (c : Bool). if c then first_lines n rest else script (first_lines n rest)) is
            ∙ sym (ap (λ (c : Bool). first_lines n (if c then rest else script rest)) is);
      },
    )
    by_end false is behind =
        let more = behind (sym (ap (λ (c : Bool). if c then true else has_end (first_lines n rest)) is) ∙ ends) in (
          more.0,
          record {
            read = ap (λ (c : Bool). if c then true else site_is_read rest) is ∙ more.1.read;
            text = ap (λ (w : Word). if is_end text then [] else (line text ++ w)) more.1.text;
            lines = ap (λ (k : ℕ). if is_end text then 1 else (1 + k)) more.1.lines;
            script = ap (λ (c : Bool). if c then first_lines n rest else script (first_lines n rest)) is ∙ more.1.script
                ∙ sym (ap (λ (c : Bool). first_lines more.0 (if c then rest else script rest)) is);
          },
        )

-- the commands of the first lines, and of those behind them
pub commands_cut : (asks : Word → Command) (n : ℕ) (input : Reading) → commands asks (first_lines n input) ++ commands asks (behind_lines n input) ≡ commands asks input
commands_cut asks zero input = refl
commands_cut asks (suc n) Whole = refl
commands_cut asks (suc n) (LongLine k) = refl
commands_cut asks (suc n) LongInput = refl
commands_cut asks (suc n) (Next text rest) = ap (λ (cs : List Command). asks text ∷ cs) (commands_cut asks n rest)

module _ (site : Parts) (limits : Limits) (earlier : HistoriesEmbedEarlier site) where
  -- commands that were answered, and then others
  plays_on : (cs ds : List Command) (kept : List Bool) (before : List Event) (number : ℕ) (last out : Word) → IsReady site (run site limits before)
      → PlaysBy site limits before number cs kept [] out → (more : Word) × (later : List Bool) × PlaysBy site limits before number (cs ++ ds) later last (out ++ more)
  plays_on [] ds [] before number last out r plays =
      let rest = plays_from site limits earlier ds before number last r in
      (rest.0, all_kept ds, subst (λ (w : Word). PlaysBy site limits before number ds (all_kept ds) last (w ++ rest.0)) (sym plays) rest.1)
  plays_on [] ds (k ∷ ks) before number last out r plays = absurd plays
  plays_on (c ∷ cs) ds [] before number last out r plays = absurd plays
  plays_on (c ∷ cs) ds (k ∷ ks) before number last out r plays =
      let after : run site limits (before ++ plays.0) ≡ fold (step site limits) (run site limits before) plays.0 = fold-append (step site limits) first_world before plays.0 in
      let ready : IsReady site (run site limits (before ++ plays.0)) =
      subst (IsReady site) (sym after) (commands_leave_ready site limits (run site limits before) (number + 1) c k plays.0 plays.1.0 earlier r plays.1.1.1) in
      let rest = plays_on cs ds ks (before ++ plays.0) (number + 1) last plays.1.1.0 ready plays.1.1.3 in (
        rest.0,
        k ∷ rest.1,
        (
          plays.0,
          (plays.1.0, (plays.1.1.0 ++ rest.0, plays.1.1.1, ap (λ (w : Word). w ++ rest.0) plays.1.1.2 ∙ append_assoc plays.1.0 plays.1.1.0 rest.0, rest.2)),
        ),
      )

-- the answers of a render go on
answers_on : (site : Parts) (cs ds : List Command) (commits : List Commit) (number : ℕ) →
    (more : Word) × (render_answers site commits number (cs ++ ds) ≡ render_answers site commits number cs ++ more)
answers_on site [] ds commits number = (render_answers site commits number ds, refl)
answers_on site (c ∷ cs) ds commits number =
    let said = render_answer site commits (number + 1) c in
    let rest = answers_on site cs ds (accepted site commits c) (number + 1) in
    (rest.0, ap (λ (w : Word). said ++ w) rest.1 ∙ sym (append_assoc said (render_answers site (accepted site commits c) (number + 1) cs) rest.0))

-- a task that wrote this for the first lines goes on
abbrev GoesOn : Grammars → Task → Result Parts Word → Reading → Word → Type 0
GoesOn g task site input out = (status : ℕ) × (more : Word) × (kept : List Bool) × DoesSite g task site input kept status (out ++ more)

task_goes_on : (g : Grammars) → GivesGoodSites g → (task : Task) (site : Parts) (n m : ℕ) (input : Reading) (out : Word) → site_for g (site_text input) ≡ Ok site → IsCut n m input
    → BeginsTask g task site (first_lines n input) out → GoesOn g task (Ok site) input out
task_goes_on g good Play site n m input out is cut begun =
    let asks = line_command g.feed in
    let first : MachinePlays site usual_limits [] (site_lines input) (commands asks (first_lines m (script input))) [] begun.0 =
    subst (λ (k : ℕ). MachinePlays site usual_limits [] k (commands asks (first_lines m (script input))) [] begun.0) cut.lines
    (subst (λ (r : Reading). MachinePlays site usual_limits [] (site_lines (first_lines n input)) (commands asks r) [] begun.0) cut.script begun.2) in
    let all = plays_on site usual_limits (given_embeds g good (site_text input) site is) _ (commands asks (behind_lines m (script input))) first.0 [] (site_lines input)
    (too_long (script input)) begun.0 (starts_ready site) first.1 in
    let plays = subst (λ (cs : List Command). PlaysBy site usual_limits [] (site_lines input) cs all.1 (too_long (script input)) (begun.0 ++ all.0)) (commands_cut asks m (script input)) all.2 in
    (ending input, all.0, all.1, (refl, (begun.0 ++ all.0, ap (λ (w : Word). w ++ all.0) begun.1 ∙ append_assoc site_ok begun.0 all.0, plays)))
task_goes_on g good Check site n m input out is cut begun =
    (0, g.canonical site, [], (refl, (refl, ap (λ (w : Word). w ++ g.canonical site) begun)))
task_goes_on g good Render site n m input out is cut begun =
    let asks = line_command g.feed in
    let asked = commands asks (script input) in
    let first : out ≡ render_answers site [] (site_lines input) (commands asks (first_lines m (script input))) =
    begun ∙ (λ i. render_answers site [] (cut.lines i) (commands asks (cut.script i))) in
    let on = answers_on site (commands asks (first_lines m (script input))) (commands asks (behind_lines m (script input))) [] (site_lines input) in
    let answers : render_answers site [] (site_lines input) asked ≡ out ++ on.0 =
    sym (ap (λ (cs : List Command). render_answers site [] (site_lines input) cs) (commands_cut asks m (script input))) ∙ on.1 ∙ ap (λ (w : Word). w ++ on.0) (sym first) in
    let end = render_end (last_content site [] asked) (script input) in
    (ending input, on.0 ++ end, [], (refl, (refl, sym (append_assoc out on.0 end) ∙ ap (λ (w : Word). w ++ end) (sym answers))))

site_goes_on : (g : Grammars) → GivesGoodSites g → (task : Task) (site : Result Parts Word) (n m : ℕ) (input : Reading) (out : Word) → site_for g (site_text input) ≡ site → IsCut n m input
    → BeginsSite g task site (first_lines n input) out → GoesOn g task site input out
site_goes_on g good task (Ok site) n m input out is cut begun = task_goes_on g good task site n m input out is cut begun
site_goes_on g good task (Err why) n m input out is cut begun = absurd begun

read_goes_on : (g : Grammars) → GivesGoodSites g → (task : Task) (ends : Bool) (n : ℕ) (input : Reading) (out : Word) → has_end (first_lines n input) ≡ ends
    → BeginsRead g task ends (first_lines n input) out → (status : ℕ) × (more : Word) × IsTranscript g task input status (out ++ more)
read_goes_on g good task false n input out is begun =
    let t = transcripts_exist g good task input in
    (t.0, t.1.0, subst (λ (w : Word). IsTranscript g task input t.0 (w ++ t.1.0)) (sym begun) t.1.1)
read_goes_on g good task true n input out is begun =
    let cut = cut_behind n input is in
    let at_text : BeginsSite g task (site_for g (site_text input)) (first_lines n input) out =
    subst (λ (w : Word). BeginsSite g task (site_for g w) (first_lines n input) out) cut.1.text begun in
    let goes = site_goes_on g good task (site_for g (site_text input)) n cut.0 input out refl cut.1 at_text in
    (goes.0, goes.1, (goes.2, subst (λ (b : Bool). DoesRead g task b input goes.2 goes.0 (out ++ goes.1)) (sym cut.1.read) goes.3))

pub beginnings_go_on : BeginningsGoOn
beginnings_go_on g good task input out begun = read_goes_on g good task (has_end (first_lines begun.0 input)) begun.0 input out refl begun.1
