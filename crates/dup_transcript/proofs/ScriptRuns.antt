-- Each transcript of `play` is a run of the machine, of which the headline holds.
use Rattle.std.proofs.Common.{◌≡◌, ℕ, ◌+◌, Bool, true, false, refl, sym, subst, List, [], ◌∷◌, ◌++◌}
use Rattle.std.specs.Prelude.{Result, Ok, Err}
use Rattle.std.specs.List.{fold}
use Rattle.std.proofs.lemmas.List.Sums.{fold-append}
use Rattle.dup_names.specs.Lines.{Reading}
use Rattle.dup_names.specs.Words.{Word}
use Rattle.dup_template.specs.declared.site.Parts.{Parts}
use Rattle.dup_model.specs.GoodSites.{HistoriesEmbedEarlier}
use Rattle.dup_model.specs.Journal.{Limits, usual_limits}
use Rattle.dup_machine.specs.World.{Event, World, first_world}
use Rattle.dup_machine.specs.Run.{run, step}
use Rattle.dup_machine.proofs.Runs.{headline}
use Rattle.dup_transcript.specs.declared.command.Command.TheVariants as command
use Rattle.dup_transcript.specs.declared.task.Task.TheVariants.{Play}
use Rattle.dup_transcript.specs.Commands.{Command, line_command}
use Rattle.dup_transcript.specs.Inputs.{script, site_is_read, site_lines, site_text}
use Rattle.dup_transcript.specs.MachinePlays.{IsReady, PlaysBy, StandsFor}
use Rattle.dup_transcript.specs.ScriptRuns.{HasRun, IsRun, LeavesNothing, PlaysEvents, TranscriptsAreRuns}
use Rattle.dup_transcript.specs.Transcript.{DoesRead, DoesSite, GivesGoodSites, Grammars, PlaysScript, commands, site_for, site_ok, too_long}
use Rattle.dup_transcript.proofs.MachineAnswers.{commands_leave_ready, settles_leave_nothing, starts_ready}
use Rattle.dup_transcript.proofs.Transcripts.{given_embeds}

module _ (site : Parts) (limits : Limits) (earlier : HistoriesEmbedEarlier site) where
  behind : (before events : List Event) → run site limits (before ++ events) ≡ fold (step site limits) (run site limits before) events
  behind before events = fold-append (step site limits) first_world before events

  leaves : (c : Command) (w : World) (number : ℕ) (kept : Bool) (events : List Event) (said : Word) → IsReady site w →
      StandsFor site limits w number c kept events said → LeavesNothing site (fold (step site limits) w events) c
  leaves (command.Commit commit) w number kept events said r stands = tt
  leaves command.Settle w number kept events said r stands = settles_leave_nothing site limits w events stands.1.0 earlier r stands.1.1
  leaves (command.Node node capacity mode) w number kept events said r stands = tt
  leaves (command.Deliver node) w number kept events said r stands = tt
  leaves (command.Get node pass path) w number kept events said r stands = tt
  leaves (command.Evict node path) w number kept events said r stands = tt
  leaves (command.BadFeed why) w number kept events said r stands = tt
  leaves command.Blank w number kept events said r stands = tt
  leaves command.NotBuilt w number kept events said r stands = tt
  leaves command.Bad w number kept events said r stands = tt
  leaves command.Status w number kept events said r stands = tt

  -- the events of commands, one after another
  collect : (cs : List Command) (kept : List Bool) (before : List Event) (number : ℕ) (last out : Word) → IsReady site (run site limits before) →
      PlaysBy site limits before number cs kept last out → (all : List Event) × PlaysEvents site limits before number cs last out all
  collect [] [] before number last out r plays = (before, (plays, refl))
  collect [] (k ∷ ks) before number last out r plays = absurd plays
  collect (c ∷ cs) [] before number last out r plays = absurd plays
  collect (c ∷ cs) (k ∷ ks) before number last out r plays =
      let after : run site limits (before ++ plays.0) ≡ fold (step site limits) (run site limits before) plays.0 = behind before plays.0 in
      let ready : IsReady site (run site limits (before ++ plays.0)) =
      subst (IsReady site) (sym after) (commands_leave_ready site limits (run site limits before) (number + 1) c k plays.0 plays.1.0 earlier r plays.1.1.1) in
      let rest : (all : List Event) × PlaysEvents site limits (before ++ plays.0) (number + 1) cs last plays.1.1.0 all =
      collect cs ks (before ++ plays.0) (number + 1) last plays.1.1.0 ready plays.1.1.3 in
      let nothing : LeavesNothing site (run site limits (before ++ plays.0)) c =
      subst (λ w. LeavesNothing site w c) (sym after) (leaves c (run site limits before) (number + 1) k plays.0 plays.1.0 r plays.1.1.1) in
      (rest.0, (k, (plays.0, (plays.1.0, (plays.1.1.0, plays.1.1.1, plays.1.1.2, nothing, rest.1)))))

script_runs : (g : Grammars) → GivesGoodSites g → (input : Reading) (site : Parts) (kept : List Bool) (out : Word) → site_for g (site_text input) ≡ Ok site →
    (more : Word) × (out ≡ site_ok ++ more) × PlaysScript (line_command g.feed) site (site_lines input) (script input) kept more → HasRun g input out
script_runs g good input site kept out is plays other read same =
    let one : site ≡ other = cc in
    let earlier : HistoriesEmbedEarlier site = given_embeds g good (site_text input) site is in
    let run_of : (all : List Event) × PlaysEvents site usual_limits [] (site_lines input) (commands (line_command g.feed) (script input)) (too_long (script input)) plays.0 all =
    collect site usual_limits earlier (commands (line_command g.feed) (script input)) kept [] (site_lines input) (too_long (script input)) plays.0 (starts_ready site) plays.2 in
    subst (λ s. (more : Word) × (out ≡ site_ok ++ more) × IsRun (line_command g.feed) s (site_lines input) (script input) more) one
    (plays.0, plays.1, (run_of.0, run_of.1, headline site usual_limits run_of.0))

site_runs : (g : Grammars) → GivesGoodSites g → (input : Reading) (site : Result Parts Word) (kept : List Bool) (status : ℕ) (out : Word) → site_for g (site_text input) ≡ site →
    DoesSite g Play site input kept status out → HasRun g input out
site_runs g good input (Ok site) kept status out is does = script_runs g good input site kept out is does.1
site_runs g good input (Err why) kept status out is does = λ other read same. absurd (cc)

read_runs : (g : Grammars) → GivesGoodSites g → (input : Reading) (read : Bool) (kept : List Bool) (status : ℕ) (out : Word) → site_is_read input ≡ read →
    DoesRead g Play read input kept status out → HasRun g input out
read_runs g good input true kept status out is does = site_runs g good input (site_for g (site_text input)) kept status out refl does
read_runs g good input false kept status out is does = λ site read same. absurd (cc)

pub transcripts_are_runs : TranscriptsAreRuns
transcripts_are_runs g good input status out is = read_runs g good input (site_is_read input) is.0 status out refl is.1
