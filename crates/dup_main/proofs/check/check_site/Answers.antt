use Rattle.dup_io.specs.Lines.{source_of}
use Rattle.std.proofs.Common.{refl, rules}
use Rattle.dup_transcript.specs.declared.task.Task.TheVariants.{Check}
use Rattle.dup_main.proofs.Reached.{no_further}
use Rattle.dup_main.proofs.WholeRuns.{reads_from, stopped_by_site, stopped_in_site}
use Rattle.dup_main.proofs.Breaks.{broken_by_site, broken_for_memory, broken_in_check, broken_in_site}
use Rattle.dup_main.proofs.check.check_site.Goals as goal

pub returns-in_err-read-clause-stopped : goal.returns-in_err-read-clause-stopped
returns-in_err-read-clause-stopped g c =
    stopped_in_site Check _ c.in_err-read.field-0.0 _ _ _ _ c.from_residual.ensures.1
    (reads_from _ _ _ _ c.new-lines.ensures.ahead c.new-lines.ensures.first c.new-lines.ensures.taken) c.in_err-read.ensures.stopped refl

pub returns-in_err-site-clause-stopped : goal.returns-in_err-site-clause-stopped
returns-in_err-site-clause-stopped g c =
    stopped_by_site Check _ c.in_err-site.field-0.0 _ _ _ _ _ c.in_ok-read.read.text.items c.deref.result.now c.from_residual-in_err-site.ensures.1
    (reads_from _ _ _ _ c.new-lines.ensures.ahead c.new-lines.ensures.first c.new-lines.ensures.taken)
    c.in_ok-read.ensures.text c.deref.ensures.value c.in_err-site.ensures.stopped refl

pub returns-clause-no_further : goal.returns-clause-no_further
returns-clause-no_further g c =
    no_further g.S.Source.left c.in_ok-read.read.has_script _ _ _ c.read_site_text.new.lines c.in_ok-read.read.text.items
    (reads_from _ _ _ _ c.new-lines.ensures.ahead c.new-lines.ensures.first c.new-lines.ensures.taken) (search rules) c.in_ok-read.ensures.text c.in_ok-read.ensures.at_end

pub returns-in_err-read-clause-breaks : goal.returns-in_err-read-clause-breaks
returns-in_err-read-clause-breaks g c =
    broken_in_site Check _ c.in_err-read.field-0.0 _ (g.S.Source.left (source_of c.read_site_text.new.lines)) _ _ _ c.from_residual.ensures.1
    (reads_from _ _ _ _ c.new-lines.ensures.ahead c.new-lines.ensures.first c.new-lines.ensures.taken) (search rules) c.in_err-read.ensures.breaks

pub returns-in_err-site-clause-breaks : goal.returns-in_err-site-clause-breaks
returns-in_err-site-clause-breaks g c =
    broken_by_site Check _ c.in_err-site.field-0.0 _ _ _ _ c.from_residual-in_err-site.ensures.1 c.in_err-site.ensures.stopped

pub returns-in_err-text-clause-breaks : goal.returns-in_err-text-clause-breaks
returns-in_err-text-clause-breaks g c = broken_for_memory Check _ _ _ _ c.from_residual-in_err-text.ensures.1

pub returns-in_err-put_all-clause-breaks : goal.returns-in_err-put_all-clause-breaks
returns-in_err-put_all-clause-breaks g c =
    broken_in_check _ _ _ _ _ _ _ c.in_ok-read.read.text.items c.deref.result.now c.in_ok-site.site
    (reads_from _ _ _ _ c.new-lines.ensures.ahead c.new-lines.ensures.first c.new-lines.ensures.taken)
    c.in_ok-read.ensures.text c.deref.ensures.value c.in_ok-site.ensures.site (search rules) c.from_residual-in_err-put_all.ensures.1
