use Rattle.std.proofs.Common.{◌≡◌}
use Rattle.dup_main.proofs.PageJobs.{Written}
use Rattle.dup_main.proofs.all_pages.put_pages.Given as goal

abbrev pub invariant-loop-page : goal.invariant-loop-page
invariant-loop-page g l = record {
  faults : g.K.Sink.faults l.out ≡ g.K.Sink.faults l.fn.out;
  written : Written l.content l.page-items l.page-index (g.K.Sink.written l.fn.out) (g.K.Sink.written l.out);
}
