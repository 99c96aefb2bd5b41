use Rattle.dup_io.specs.Lines.{source_of}
use Rattle.std.proofs.Common.{ap, refl, rules, []}
use Rattle.std.proofs.KnownBytes.{Appends-nil}
use Rattle.dup_script.specs.Commands.{command_of}
use Rattle.dup_transcript.specs.RenderedPages.{rendered_pages}
use Rattle.dup_transcript.specs.Transcript.{RendersLines}
use Rattle.dup_transcript.specs.declared.task.Task.TheVariants.{Render}
use Rattle.dup_main.proofs.PageJobs.{first_fits}
use Rattle.dup_main.proofs.WholeRuns.{reads_from, stopped_by_site, stopped_in_site, with_script, without_script, count_with_script, ended_without_script, written_by_script, stopped_by_script, does_render}
use Rattle.dup_main.specs.Breaks.{RenderBegins, RenderBreaks}
use Rattle.dup_main.proofs.Breaks.{broken_by_script, broken_by_site, broken_for_memory, broken_in_pages, broken_in_site, render_begun, render_broken, render_done}
use Rattle.dup_main.proofs.render_site.render_site.Goals as goal

pub returns-in_err-read-clause-stopped : goal.returns-in_err-read-clause-stopped
returns-in_err-read-clause-stopped g c =
    stopped_in_site Render _ c.in_err-read.field-0.0 _ _ _ _ c.from_residual.ensures.1
    (reads_from _ _ _ _ c.new-lines.ensures.ahead c.new-lines.ensures.first c.new-lines.ensures.taken) c.in_err-read.ensures.stopped refl

pub returns-in_err-site-clause-stopped : goal.returns-in_err-site-clause-stopped
returns-in_err-site-clause-stopped g c =
    stopped_by_site Render _ c.in_err-site.field-0.0 _ _ _ _ _ c.in_ok-read.read.text.items c.deref.result.now c.from_residual-in_err-site.ensures.1
    (reads_from _ _ _ _ c.new-lines.ensures.ahead c.new-lines.ensures.first c.new-lines.ensures.taken)
    c.in_ok-read.ensures.text c.deref.ensures.value c.in_err-site.ensures.stopped refl

pub put_pages-requires : goal.put_pages-requires
put_pages-requires g c = first_fits c.deref.result.now c.in_ok-site.site _ c.in_ok-site.ensures.site c.in_ok-content.ensures

pub returns-clause-written : goal.returns-clause-written
returns-clause-written g c =
    ended_without_script Render [] (RendersLines command_of) does_render _ _ (g.K.Sink.written c.args.out.now) (g.K.Sink.written c.args.out.now) _ _ c.in_ok-read.read.text.items c.deref.result.now
    (rendered_pages c.in_ok-content.content) c.in_ok-site.site
    (reads_from _ _ _ _ c.new-lines.ensures.ahead c.new-lines.ensures.first c.new-lines.ensures.taken)
    (without_script c.in_ok-read.read.has_script _ _ _ _ (search rules) c.in_ok-read.ensures.text)
    c.deref.ensures.value c.in_ok-site.ensures.site (Appends-nil _) (λ n. ap rendered_pages c.in_ok-content.ensures) c.put_pages.ensures.written

pub returns-then-read-clause-written : goal.returns-then-read-clause-written
returns-then-read-clause-written g c =
    written_by_script Render [] (RendersLines command_of) does_render _ _ (g.K.Sink.written c.args.out.now) (g.K.Sink.written c.args.out.now) _ _ _ c.in_ok-read.read.text.items c.deref.result.now c.in_ok-site.site _
    (reads_from _ _ _ _ c.new-lines.ensures.ahead c.new-lines.ensures.first c.new-lines.ensures.taken)
    (with_script c.in_ok-read.read.has_script _ _ _ _ c.if-read.true c.in_ok-read.ensures.text)
    (count_with_script c.in_ok-read.read.has_script _ _ _ c.if-read.true c.new-lines.ensures.first c.in_ok-read.ensures.lines)
    c.deref.ensures.value c.in_ok-site.ensures.site (Appends-nil _) c.render_lines.ensures.written

pub returns-then-read-clause-stopped : goal.returns-then-read-clause-stopped
returns-then-read-clause-stopped g c =
    stopped_by_script Render [] (RendersLines command_of) does_render _ _ (g.K.Sink.written c.args.out.now) (g.K.Sink.written c.args.out.now) _ _ _ c.in_ok-read.read.text.items c.deref.result.now c.in_ok-site.site _
    (reads_from _ _ _ _ c.new-lines.ensures.ahead c.new-lines.ensures.first c.new-lines.ensures.taken)
    (with_script c.in_ok-read.read.has_script _ _ _ _ c.if-read.true c.in_ok-read.ensures.text)
    (count_with_script c.in_ok-read.read.has_script _ _ _ c.if-read.true c.new-lines.ensures.first c.in_ok-read.ensures.lines)
    c.deref.ensures.value c.in_ok-site.ensures.site (Appends-nil _) c.render_lines.ensures.stopped

pub returns-in_err-read-clause-breaks : goal.returns-in_err-read-clause-breaks
returns-in_err-read-clause-breaks g c =
    broken_in_site Render _ c.in_err-read.field-0.0 _ (g.S.Source.left (source_of c.read_site_text.new.lines)) _ _ _ c.from_residual.ensures.1
    (reads_from _ _ _ _ c.new-lines.ensures.ahead c.new-lines.ensures.first c.new-lines.ensures.taken) (search rules) c.in_err-read.ensures.breaks

pub returns-in_err-site-clause-breaks : goal.returns-in_err-site-clause-breaks
returns-in_err-site-clause-breaks g c =
    broken_by_site Render _ c.in_err-site.field-0.0 _ _ _ _ c.from_residual-in_err-site.ensures.1 c.in_err-site.ensures.stopped

pub returns-in_err-content-clause-breaks : goal.returns-in_err-content-clause-breaks
returns-in_err-content-clause-breaks g c = broken_for_memory Render _ _ _ _ c.from_residual-in_err-content.ensures.1

pub returns-clause-breaks : goal.returns-clause-breaks
returns-clause-breaks g c =
    broken_in_pages _ _ _ _ _ _ c.in_ok-read.read.text.items c.deref.result.now c.in_ok-site.site c.in_ok-content.content
    (reads_from _ _ _ _ c.new-lines.ensures.ahead c.new-lines.ensures.first c.new-lines.ensures.taken)
    (without_script c.in_ok-read.read.has_script _ _ _ _ (search rules) c.in_ok-read.ensures.text)
    c.deref.ensures.value c.in_ok-site.ensures.site c.in_ok-content.ensures c.put_pages.ensures.stopped c.put_pages.ensures.breaks

pub returns-then-read-clause-breaks : goal.returns-then-read-clause-breaks
returns-then-read-clause-breaks g c =
    broken_by_script Render [] RenderBegins RenderBreaks (RendersLines command_of) render_begun render_broken render_done
    _ _ (g.S.Source.left (source_of c.render_lines.new.lines)) _ (g.K.Sink.written c.args.out.now) (g.K.Sink.written c.args.out.now) _ _ _ c.in_ok-read.read.text.items c.deref.result.now c.in_ok-site.site _
    (reads_from _ _ _ _ c.new-lines.ensures.ahead c.new-lines.ensures.first c.new-lines.ensures.taken)
    (with_script c.in_ok-read.read.has_script _ _ _ _ c.if-read.true c.in_ok-read.ensures.text)
    (search rules)
    (count_with_script c.in_ok-read.read.has_script _ _ _ c.if-read.true c.new-lines.ensures.first c.in_ok-read.ensures.lines)
    c.deref.ensures.value c.in_ok-site.ensures.site (Appends-nil _) (search rules) c.render_lines.ensures.breaks
