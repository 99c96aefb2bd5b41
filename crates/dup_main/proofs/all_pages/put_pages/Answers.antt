use Rattle.std.proofs.Common.{rules}
use Rattle.dup_main.proofs.PageJobs.{breaks_at_once, breaks_on_write, breaks_pages, more_written, page_is_job}
use Rattle.dup_main.proofs.all_pages.put_pages.Goals as goal

pub rendered_page-requires : goal.rendered_page-requires
rendered_page-requires g c =
    page_is_job c.args.content.now c.deref-page-items.result.now c.loop-page.page-index c.page-item.result c.requires (search rules) c.loop-page-test.true c.page-item.is

pub loop-page-preserved : goal.loop-page-preserved
loop-page-preserved g c = record {
  faults = search rules;
  written = more_written c.args.content.now c.deref-page-items.result.now c.loop-page.page-index c.page-item.result
      (g.K.Sink.written c.args.out.now) (g.K.Sink.written c.loop-page.out) (g.K.Sink.written c.put_all.new.sink) c.deref.result.now c.in_ok-text.text.items
      c.loop-page.invariant.written c.loop-page-test.true c.page-item.is c.in_ok-put_all.ensures.all c.deref.ensures.value c.in_ok-text.ensures;
}

pub returns-in_err-made-clause-breaks : goal.returns-in_err-made-clause-breaks
returns-in_err-made-clause-breaks g c = breaks_at_once _ c.args.content.now _ c.from_residual.ensures.1

pub returns-in_err-text-clause-breaks : goal.returns-in_err-text-clause-breaks
returns-in_err-text-clause-breaks g c =
    breaks_pages _ c.args.content.now c.deref-page-items.result.now c.loop-page.page-index _ _ (search rules) c.loop-page.invariant.written c.from_residual-in_err-text.ensures.1

pub returns-in_err-put_all-clause-breaks : goal.returns-in_err-put_all-clause-breaks
returns-in_err-put_all-clause-breaks g c =
    breaks_on_write _ c.args.content.now c.deref-page-items.result.now c.loop-page.page-index c.page-item.result _ _ _ c.deref.result.now c.in_ok-text.text.items
    (search rules) c.loop-page.invariant.written c.loop-page-test.true c.page-item.is c.in_err-put_all.ensures.part c.deref.ensures.value c.in_ok-text.ensures
    c.from_residual-in_err-put_all.ensures.1
