use Rattle.std.proofs.Common.{◌∙◌, rules}
use Rattle.dup_io.proofs.Bytes.{appends_more}
use Rattle.dup_io.proofs.ends.put_all.Goals as goal

pub loop-at-preserved : goal.loop-at-preserved
loop-at-preserved g c =
    record {
      in_range = search rules;
      written = appends_more _ _ _ _ _ _ c.loop-at.invariant.written c.in_ok-at.ensures.bytes;
      beside = g.met.K.Sink.joins _ _ _ c.loop-at.invariant.beside c.in_ok-at.ensures.beside;
      faults = c.in_ok-at.ensures.cause.kept ∙ c.loop-at.invariant.faults;
    }
