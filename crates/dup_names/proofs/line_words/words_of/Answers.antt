use Rattle.std.proofs.Common.{◌<◌, length, arith}
use Rattle.dup_names.proofs.WordCuts.{words-trimmed, words_step, span_some}
use Rattle.dup_names.proofs.line_words.words_of.Goals as goal

pub loop-rest-init : goal.loop-rest-init
loop-rest-init c = (rw (c.new-found.ensures.items, c.trimmed-rest.ensures.value) (words-trimmed c.args.line.now), c.trimmed-rest.ensures.start)

pub loop-rest-smaller : goal.loop-rest-smaller
loop-rest-smaller c =
    let some : 0 < length c.loop-rest.rest.now = grind (arith, c.loop-rest-test.true, c.is_empty.ensures) in
    let first = span_some c.loop-rest.rest.now c.loop-rest.invariant.1 some in
    omega (arith, first, c.trimmed-rest-in-loop-rest.ensures.within, c.split_at.ensures.back_len, c.span.ensures.value)

pub loop-rest-preserved : goal.loop-rest-preserved
loop-rest-preserved c =
    let some : 0 < length c.loop-rest.rest.now = grind (arith, c.loop-rest-test.true, c.is_empty.ensures) in (
      rw (c.in_ok-push.ensures.items, c.trimmed-rest-in-loop-rest.ensures.value)
          (words_step c.loop-rest.found.items c.split_at.result.0 c.loop-rest.rest.now c.split_at.result.1.now _ (rw (← c.span.ensures.value) c.split_at.ensures.front) (rw (← c.span.ensures.value) c.split_at.ensures.back) c.loop-rest.invariant.1 some c.loop-rest.invariant.0),
      c.trimmed-rest-in-loop-rest.ensures.start,
    )
