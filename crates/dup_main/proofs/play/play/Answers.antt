use Rattle.dup_io.specs.Lines.{source_of}
use Rattle.std.proofs.Common.{refl, rules, []}
use Rattle.std.specs.Prelude.{Ok}
use Rattle.dup_script.specs.Commands.{command_of}
use Rattle.dup_transcript.specs.declared.task.Task.TheVariants.{Play}
use Rattle.dup_main.proofs.WholeRuns.{reads_from, stopped_by_site, stopped_in_site, with_script, without_script, ended_without_script, count_with_script, written_by_script, stopped_by_script, does_play}
use Rattle.std.proofs.KnownBytes.{Appends-nil}
use Rattle.dup_transcript.specs.Turns.{Writes, first_standing}
use Rattle.dup_transcript.specs.Transcript.{site_ok}
use Rattle.dup_main.specs.Breaks.{Nothing, PlayBegins}
use Rattle.dup_main.proofs.Breaks.{broken_by_script, broken_by_site, broken_in_ok, broken_in_site, nothing_broken, nothing_done, play_begun}
use Rattle.dup_main.proofs.play.play.Goals as goal

pub returns-in_err-read-clause-stopped : goal.returns-in_err-read-clause-stopped
returns-in_err-read-clause-stopped g c =
    stopped_in_site Play _ c.in_err-read.field-0.0 _ _ _ _ c.from_residual.ensures.1
    (reads_from _ _ _ _ c.new-lines.ensures.ahead c.new-lines.ensures.first c.new-lines.ensures.taken) c.in_err-read.ensures.stopped refl

pub returns-in_err-site-clause-stopped : goal.returns-in_err-site-clause-stopped
returns-in_err-site-clause-stopped g c =
    stopped_by_site Play _ c.in_err-site.field-0.0 _ _ _ _ _ c.in_ok-read.read.text.items c.deref.result.now c.from_residual-in_err-site.ensures.1
    (reads_from _ _ _ _ c.new-lines.ensures.ahead c.new-lines.ensures.first c.new-lines.ensures.taken)
    c.in_ok-read.ensures.text c.deref.ensures.value c.in_err-site.ensures.stopped refl

pub returns-clause-written : goal.returns-clause-written
returns-clause-written g c =
    written_by_script Play site_ok (λ site n. Writes command_of site first_standing n) does_play _ _ _ _ _ _ _ c.in_ok-read.read.text.items c.deref.result.now c.in_ok-site.site _
    (reads_from _ _ _ _ c.new-lines.ensures.ahead c.new-lines.ensures.first c.new-lines.ensures.taken)
    (with_script c.in_ok-read.read.has_script _ _ _ _ (search rules) c.in_ok-read.ensures.text)
    (count_with_script c.in_ok-read.read.has_script _ _ _ (search rules) c.new-lines.ensures.first c.in_ok-read.ensures.lines)
    c.deref.ensures.value c.in_ok-site.ensures.site c.in_ok-put_all.ensures.all c.play_script.ensures.written

pub returns-clause-stopped : goal.returns-clause-stopped
returns-clause-stopped g c =
    stopped_by_script Play site_ok (λ site n. Writes command_of site first_standing n) does_play _ _ _ _ _ _ _ c.in_ok-read.read.text.items c.deref.result.now c.in_ok-site.site _
    (reads_from _ _ _ _ c.new-lines.ensures.ahead c.new-lines.ensures.first c.new-lines.ensures.taken)
    (with_script c.in_ok-read.read.has_script _ _ _ _ (search rules) c.in_ok-read.ensures.text)
    (count_with_script c.in_ok-read.read.has_script _ _ _ (search rules) c.new-lines.ensures.first c.in_ok-read.ensures.lines)
    c.deref.ensures.value c.in_ok-site.ensures.site c.in_ok-put_all.ensures.all c.play_script.ensures.stopped

pub returns-then-not-read-clause-written : goal.returns-then-not-read-clause-written
returns-then-not-read-clause-written g c =
    ended_without_script Play site_ok (λ site n. Writes command_of site first_standing n) does_play (Ok tt) _ _ _ _ _ c.in_ok-read.read.text.items c.deref.result.now [] c.in_ok-site.site
    (reads_from _ _ _ _ c.new-lines.ensures.ahead c.new-lines.ensures.first c.new-lines.ensures.taken)
    (without_script c.in_ok-read.read.has_script _ _ _ _ (search rules) c.in_ok-read.ensures.text)
    c.deref.ensures.value c.in_ok-site.ensures.site c.in_ok-put_all.ensures.all (λ n before f. ([], refl)) (Appends-nil _)

pub returns-in_err-read-clause-breaks : goal.returns-in_err-read-clause-breaks
returns-in_err-read-clause-breaks g c =
    broken_in_site Play _ c.in_err-read.field-0.0 _ (g.S.Source.left (source_of c.read_site_text.new.lines)) _ _ _ c.from_residual.ensures.1
    (reads_from _ _ _ _ c.new-lines.ensures.ahead c.new-lines.ensures.first c.new-lines.ensures.taken) (search rules) c.in_err-read.ensures.breaks

pub returns-in_err-site-clause-breaks : goal.returns-in_err-site-clause-breaks
returns-in_err-site-clause-breaks g c =
    broken_by_site Play _ c.in_err-site.field-0.0 _ _ _ _ c.from_residual-in_err-site.ensures.1 c.in_err-site.ensures.stopped

pub returns-in_err-put_all-clause-breaks : goal.returns-in_err-put_all-clause-breaks
returns-in_err-put_all-clause-breaks g c =
    broken_in_ok _ _ _ _ _ _ _ c.in_ok-read.read.text.items c.deref.result.now c.in_ok-site.site
    (reads_from _ _ _ _ c.new-lines.ensures.ahead c.new-lines.ensures.first c.new-lines.ensures.taken)
    c.in_ok-read.ensures.text c.deref.ensures.value c.in_ok-site.ensures.site c.in_err-put_all.ensures.part c.from_residual-in_err-put_all.ensures.1

pub returns-clause-breaks : goal.returns-clause-breaks
returns-clause-breaks g c =
    broken_by_script Play site_ok (λ site n. PlayBegins site n) (λ site n. Nothing) (λ site n. Nothing) play_begun nothing_broken nothing_done
    _ _ (g.S.Source.left (source_of c.play_script.new.lines)) _ _ _ _ _ _ c.in_ok-read.read.text.items c.deref.result.now c.in_ok-site.site _
    (reads_from _ _ _ _ c.new-lines.ensures.ahead c.new-lines.ensures.first c.new-lines.ensures.taken)
    (with_script c.in_ok-read.read.has_script _ _ _ _ (search rules) c.in_ok-read.ensures.text)
    (search rules)
    (count_with_script c.in_ok-read.read.has_script _ _ _ (search rules) c.new-lines.ensures.first c.in_ok-read.ensures.lines)
    c.deref.ensures.value c.in_ok-site.ensures.site c.in_ok-put_all.ensures.all (search rules) c.play_script.ensures.breaks
