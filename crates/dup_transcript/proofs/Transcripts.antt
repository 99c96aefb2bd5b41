-- Each input has a transcript, and one for each choice of the pages that are kept.
use Rattle.std.proofs.Common.{◌≡◌, ◌≢◌, ℕ, Bool, true, false, refl, sym, ap, ◌∙◌, subst, List, [], ◌++◌}
use Rattle.std.specs.Prelude.{Result, Ok, Err}
use Rattle.std.proofs.lemmas.List.{append_cancel_left}
use Rattle.dup_names.specs.Lines.{Reading}
use Rattle.dup_names.specs.Words.{Word}
use Rattle.dup_template.specs.declared.refusal.SiteTextRefusal.{SiteTextRefusal}
use Rattle.dup_template.specs.declared.site.Parts.{Parts}
use Rattle.dup_model.specs.GoodSites.{HistoriesEmbedEarlier}
use Rattle.dup_transcript.specs.Commands.{Command, line_command}
use Rattle.dup_transcript.specs.BadSites.{or_cause}
use Rattle.dup_transcript.specs.Inputs.{script, site_is_read, site_lines, site_text}
use Rattle.dup_model.specs.Journal.{usual_limits}
use Rattle.dup_transcript.specs.Transcript.{Does, DoesRead, DoesSite, GivesGoodSites, Grammars, OtherTasksHaveOne, PlaysScript, TranscriptsAreOne, TranscriptsExist, TranscriptsTellKept, commands, ending, rendered, site_for, site_ok, too_long}
use Rattle.dup_transcript.specs.MachinePlays.{all_kept}
use Rattle.dup_transcript.specs.declared.task.Task.{Task}
use Rattle.dup_transcript.specs.declared.task.Task.TheVariants.{Play, Check, Render}
use Rattle.dup_transcript.proofs.MachineAnswers.{plays_are_one, plays_exist, plays_tell_kept}
use Rattle.dup_model.proofs.GoodVersions.{good_histories}

-- a good site is one that its text gives
pub given : (text : Result Parts SiteTextRefusal) (site : Parts) → or_cause text ≡ Ok site → text ≡ Ok site
given (Err why) site is = absurd (cc)
given (Ok p) site is = let e : p ≡ site = cc in ap (λ q. let r : Result Parts SiteTextRefusal = Ok q in r) e

-- in its histories templates embed earlier ones
pub given_embeds : (g : Grammars) → GivesGoodSites g → (text : Word) (site : Parts) → site_for g text ≡ Ok site → HistoriesEmbedEarlier site
given_embeds g good text site is = good_histories site (good text site (given (g.site text) site is))

-- the site of a text
abbrev IsGiven : Grammars → Parts → Type 0
IsGiven g site = (text : Word) × (site_for g text ≡ Ok site)

-- a task, a site, and a transcript that it has
abbrev HasDone : Grammars → Task → Parts → Reading → Type 0
HasDone g task site input = (status : ℕ) × ((out : Word) × ((kept : List Bool) × Does g task site input kept status out))

does_one : (g : Grammars) → GivesGoodSites g → (task : Task) (site : Parts) (input : Reading) → IsGiven g site → HasDone g task site input
does_one g good Play site input known =
    let asked : List Command = commands (line_command g.feed) (script input) in
    let played : (out : Word) × PlaysScript (line_command g.feed) site (site_lines input) (script input) (all_kept asked) out =
    plays_exist site usual_limits (site_lines input) asked (too_long (script input)) (given_embeds g good known.0 site known.1) in
    (ending input, (site_ok ++ played.0, (all_kept asked, (refl, (played.0, refl, played.1)))))
does_one g good Check site input known = (0, (g.canonical site, ([], (refl, (refl, refl)))))
does_one g good Render site input known = (ending input, (rendered (line_command g.feed) site [] (site_lines input) (script input), ([], (refl, (refl, refl)))))

site_done : (g : Grammars) → GivesGoodSites g → (task : Task) (text : Word) (site : Result Parts Word) (input : Reading) → site_for g text ≡ site
    → (status : ℕ) × ((out : Word) × ((kept : List Bool) × DoesSite g task site input kept status out))
site_done g good task text (Ok site) input is = does_one g good task site input (text, is)
site_done g good task text (Err why) input is = (5, (why, ([], (refl, refl, refl))))

read_done : (g : Grammars) → GivesGoodSites g → (task : Task) (read : Bool) (input : Reading)
    → (status : ℕ) × ((out : Word) × ((kept : List Bool) × DoesRead g task read input kept status out))
read_done g good task true input = site_done g good task (site_text input) (site_for g (site_text input)) input refl
read_done g good task false input = (7, (too_long input, ([], (refl, refl, refl))))

pub transcripts_exist : TranscriptsExist
transcripts_exist g good task input = read_done g good task (site_is_read input) input

-- two transcripts with the same pages kept are one
one_task : (g : Grammars) → GivesGoodSites g → (task : Task) (site : Parts) (input : Reading) (kept : List Bool) (s t : ℕ) (out other : Word) → IsGiven g site
    → Does g task site input kept s out → Does g task site input kept t other → (s ≡ t) × (out ≡ other)
one_task g good Play site input kept s t out other known a b = (
  a.0 ∙ sym b.0,
  a.1.1 ∙ ap (λ (more : Word). site_ok ++ more) (plays_are_one site usual_limits (site_lines input) (commands (line_command g.feed) (script input)) kept (too_long (script input)) a.1.0 b.1.0
      (given_embeds g good known.0 site known.1) a.1.2 b.1.2) ∙ sym b.1.1,
)
one_task g good Check site input kept s t out other known a b = (a.1.0 ∙ sym b.1.0, a.1.1 ∙ sym b.1.1)
one_task g good Render site input kept s t out other known a b = (a.1.0 ∙ sym b.1.0, a.1.1 ∙ sym b.1.1)

one_site : (g : Grammars) → GivesGoodSites g → (task : Task) (text : Word) (site : Result Parts Word) (input : Reading) (kept : List Bool) (s t : ℕ) (out other : Word) → site_for g text ≡ site
    → DoesSite g task site input kept s out → DoesSite g task site input kept t other → (s ≡ t) × (out ≡ other)
one_site g good task text (Ok site) input kept s t out other is a b = one_task g good task site input kept s t out other (text, is) a b
one_site g good task text (Err why) input kept s t out other is a b = (a.1 ∙ sym b.1, a.2 ∙ sym b.2)

one_read : (g : Grammars) → GivesGoodSites g → (task : Task) (read : Bool) (input : Reading) (kept : List Bool) (s t : ℕ) (out other : Word)
    → DoesRead g task read input kept s out → DoesRead g task read input kept t other → (s ≡ t) × (out ≡ other)
one_read g good task true input kept s t out other a b = one_site g good task (site_text input) (site_for g (site_text input)) input kept s t out other refl a b
one_read g good task false input kept s t out other a b = (a.1 ∙ sym b.1, a.2 ∙ sym b.2)

pub transcripts_are_one : TranscriptsAreOne
transcripts_are_one g good task input kept s t out other a b = one_read g good task (site_is_read input) input kept s t out other a b

-- what is written tells which pages are kept
told_task : (g : Grammars) → GivesGoodSites g → (task : Task) (site : Parts) (input : Reading) (kept others : List Bool) (s t : ℕ) (out : Word) → IsGiven g site
    → Does g task site input kept s out → Does g task site input others t out → kept ≡ others
told_task g good Play site input kept others s t out known a b =
    let same : a.1.0 ≡ b.1.0 = append_cancel_left site_ok a.1.0 b.1.0 (sym a.1.1 ∙ b.1.1) in
    let asked : List Command = commands (line_command g.feed) (script input) in
    plays_tell_kept site usual_limits (site_lines input) asked kept others (too_long (script input)) b.1.0 (given_embeds g good known.0 site known.1)
    (subst (λ (more : Word). PlaysScript (line_command g.feed) site (site_lines input) (script input) kept more) same a.1.2) b.1.2
told_task g good Check site input kept others s t out known a b = a.0 ∙ sym b.0
told_task g good Render site input kept others s t out known a b = a.0 ∙ sym b.0

told_site : (g : Grammars) → GivesGoodSites g → (task : Task) (text : Word) (site : Result Parts Word) (input : Reading) (kept others : List Bool) (s t : ℕ) (out : Word) → site_for g text ≡ site
    → DoesSite g task site input kept s out → DoesSite g task site input others t out → kept ≡ others
told_site g good task text (Ok site) input kept others s t out is a b = told_task g good task site input kept others s t out (text, is) a b
told_site g good task text (Err why) input kept others s t out is a b = a.0 ∙ sym b.0

told_read : (g : Grammars) → GivesGoodSites g → (task : Task) (read : Bool) (input : Reading) (kept others : List Bool) (s t : ℕ) (out : Word)
    → DoesRead g task read input kept s out → DoesRead g task read input others t out → kept ≡ others
told_read g good task true input kept others s t out a b = told_site g good task (site_text input) (site_for g (site_text input)) input kept others s t out refl a b
told_read g good task false input kept others s t out a b = a.0 ∙ sym b.0

pub transcripts_tell_kept : TranscriptsTellKept
transcripts_tell_kept g good task input kept others s t out a b = told_read g good task (site_is_read input) input kept others s t out a b

-- a task that keeps no page has one transcript
other_task : (g : Grammars) (task : Task) (site : Parts) (input : Reading) (kept others : List Bool) (s t : ℕ) (out other : Word) → task ≢ Play
    → Does g task site input kept s out → Does g task site input others t other → (s ≡ t) × (out ≡ other)
other_task g Play site input kept others s t out other differs a b = absurd (differs refl)
other_task g Check site input kept others s t out other differs a b = (a.1.0 ∙ sym b.1.0, a.1.1 ∙ sym b.1.1)
other_task g Render site input kept others s t out other differs a b = (a.1.0 ∙ sym b.1.0, a.1.1 ∙ sym b.1.1)

other_site : (g : Grammars) (task : Task) (site : Result Parts Word) (input : Reading) (kept others : List Bool) (s t : ℕ) (out other : Word) → task ≢ Play
    → DoesSite g task site input kept s out → DoesSite g task site input others t other → (s ≡ t) × (out ≡ other)
other_site g task (Ok site) input kept others s t out other differs a b = other_task g task site input kept others s t out other differs a b
other_site g task (Err why) input kept others s t out other differs a b = (a.1 ∙ sym b.1, a.2 ∙ sym b.2)

other_read : (g : Grammars) (task : Task) (read : Bool) (input : Reading) (kept others : List Bool) (s t : ℕ) (out other : Word) → task ≢ Play
    → DoesRead g task read input kept s out → DoesRead g task read input others t other → (s ≡ t) × (out ≡ other)
other_read g task true input kept others s t out other differs a b = other_site g task (site_for g (site_text input)) input kept others s t out other differs a b
other_read g task false input kept others s t out other differs a b = (a.1 ∙ sym b.1, a.2 ∙ sym b.2)

pub other_tasks_have_one : OtherTasksHaveOne
other_tasks_have_one g task input s t out other differs a b = other_read g task (site_is_read input) input a.0 b.0 s t out other differs a.1 b.1
