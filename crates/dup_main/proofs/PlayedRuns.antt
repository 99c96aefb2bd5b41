-- What a transcript of `play` wrote is the run of its script.
use Rattle.std.proofs.Common.{◌≡◌, ℕ, ◌++◌, true, ◌∙◌, Option, Some, None, ap, refl, subst, sym}
use Rattle.std.specs.Prelude.{IsSomeAnd, Result, Ok, Err}
use Rattle.std.specs.Io.KnownBytes.{Appends}
use Rattle.std.proofs.KnownBytes.{Appends-trans}
use Rattle.std.proofs.lemmas.Option.{same_Some}
use Rattle.dup_names.specs.Lines.{reading}
use Rattle.dup_names.specs.Words.{Word}
use Rattle.dup_template.specs.Good.{IsGood, site_fault}
use Rattle.dup_template.specs.declared.refusal.SiteRefusal.{SiteRefusal}
use Rattle.dup_template.specs.declared.site.Parts.{Parts}
use Rattle.dup_site.specs.Reads.{if_said, unless_broken}
use Rattle.dup_site.specs.Spelling.{text_says}
use Rattle.dup_transcript.specs.Transcript.{GivesGoodSites, IsTranscript}
use Rattle.dup_main.specs.Stops.{StopsAt, stop_status, stop_text, writes}
use Rattle.dup_main.specs.declared.stop.Stop.{Stop}
use Rattle.dup_transcript.specs.declared.task.Task.{Task}
use Rattle.dup_transcript.specs.declared.task.Task.TheVariants.{Play}
use Rattle.dup_transcript.proofs.ScriptRuns.{transcripts_are_runs}
use Rattle.dup_main.specs.Transcript.{WritesRun, WritesTranscript, grammars}

-- what a site text says is a good site
sound : (parts site : Parts) (fault : Option SiteRefusal) → site_fault parts ≡ fault → unless_broken parts fault ≡ Ok site → IsGood site
sound parts site None none is = let e : parts ≡ site = cc in ap site_fault (sym e) ∙ none
sound parts site (Some why) some is = absurd (cc)

said : (text : Result Parts ℕ) (site : Parts) → if_said text ≡ Ok site → IsGood site
said (Ok parts) site is = sound parts site (site_fault parts) refl is
said (Err n) site is = absurd (cc)

pub grammars_good : GivesGoodSites grammars
grammars_good text site is = said (text_says text) site is

play_runs : (input old new : Option Word) (status : ℕ) → WritesTranscript Play input old new status → WritesRun input old new
play_runs None old new status w = tt
play_runs (Some input) old new status w = (w.0, transcripts_are_runs grammars grammars_good (reading 0 0 input) status w.0 w.1, w.2)

pub played_runs : (asked : Option Task) (input old new : Option Word) (status : ℕ) → asked ≡ Some Play →
    IsSomeAnd asked (λ task. WritesTranscript task input old new status) → WritesRun input old new
played_runs asked input old new status is w =
    play_runs input old new status (subst (λ o. IsSomeAnd o (λ task. WritesTranscript task input old new status)) is w)

-- a stop whose line was written ends a transcript
pub line_written : (task : Task) (stop : Stop) (input old mid new : Option Word) (status : ℕ) → StopsAt task stop input old mid →
    writes stop ≡ true → status ≡ stop_status stop → Appends mid new (stop_text stop) → WritesTranscript task input old new status
line_written task stop None old mid new status stops due is grows = tt
line_written task stop (Some input) old mid new status stops due is grows =
    let s : (done : Word) × IsTranscript grammars task (reading 0 0 input) (stop_status stop) (done ++ stop_text stop) × Appends old mid done = stops due in (
      s.0 ++ stop_text stop,
      subst (λ n. IsTranscript grammars task (reading 0 0 input) n (s.0 ++ stop_text stop)) (sym is) s.1,
      Appends-trans old mid new _ _ s.2 grows,
    )

pub stopped_runs : (asked : Option Task) (task : Task) (stop : Stop) (input old mid new : Option Word) (status : ℕ) → asked ≡ Some Play → asked ≡ Some task →
    StopsAt task stop input old mid → (writes stop ≡ true) × (status ≡ stop_status stop) × Appends mid new (stop_text stop) → WritesRun input old new
stopped_runs asked task stop input old mid new status is one stops written =
    let w : WritesTranscript task input old new status = line_written task stop input old mid new status stops written.0 written.1 written.2 in
    play_runs input old new status (subst (λ t. WritesTranscript t input old new status) (same_Some task Play (sym one ∙ is)) w)
