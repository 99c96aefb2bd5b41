use Rattle.std.proofs.Common.{subst}
use Rattle.std.specs.Prelude.{IfErr}
use Rattle.dup_io.specs.Lines.{number_of, source_of, to_read}
use Rattle.dup_template.specs.declared.site.Parts.{Parts}
use Rattle.dup_script.specs.Commands.{command_of}
use Rattle.dup_main.specs.Breaks.{BreaksScript, Nothing, PlayBegins}
use Rattle.dup_main.specs.Stops.{StopsInScript}
use Rattle.dup_transcript.specs.Turns.{Writes, first_standing}
use Rattle.dup_main.proofs.ScriptSoFar.{breaks_at_once}
use Rattle.dup_main.proofs.script.play_script.Goals as goal

pub returns-clause-stopped : goal.returns-clause-stopped
returns-clause-stopped g c =
    subst (λ (s : Parts). IfErr c.play_lines.result (λ stop. StopsInScript stop (Writes command_of s first_standing (number_of c.args.lines.now))
    (to_read g.S.Source.left c.args.lines.now) (g.K.Sink.written c.args.out.now) (g.K.Sink.written c.play_lines.new.out))) c.in_ok-hall.ensures.site
    c.play_lines.ensures.stopped

pub returns-clause-breaks : goal.returns-clause-breaks
returns-clause-breaks g c =
    subst (λ (s : Parts). IfErr c.play_lines.result (λ stop. BreaksScript stop (PlayBegins s (number_of c.args.lines.now)) Nothing Nothing
    (to_read g.S.Source.left c.args.lines.now) (g.S.Source.left (source_of c.play_lines.new.lines)) (g.K.Sink.written c.args.out.now) (g.K.Sink.written c.play_lines.new.out))) c.in_ok-hall.ensures.site
    c.play_lines.ensures.breaks

pub returns-in_err-hall-clause-breaks : goal.returns-in_err-hall-clause-breaks
returns-in_err-hall-clause-breaks g c = breaks_at_once _ c.args.site _ _ _ _ c.from_residual.ensures.1
