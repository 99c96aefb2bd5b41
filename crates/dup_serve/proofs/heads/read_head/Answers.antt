use Rattle.std.proofs.Common.{List, ℕ, length, subst, sym, inr, rules}
use Rattle.std.specs.Io.KnownBytes.{Consumes}
use Rattle.std.proofs.KnownBytes.{Consumes-trans}
use Rattle.dup_http.specs.declared.ask.Reading.TheVariants.{More}
use Rattle.dup_http.specs.Readings.{Reads, IsInBounds, window}
use Rattle.dup_serve.proofs.heads.read_head.Goals as goal

pub returns-then-not-branch-clause-reads : goal.returns-then-not-branch-clause-reads
returns-then-not-branch-clause-reads g c =
    let reads : Reads (window c.pieces.bytes.items) c.in_ok-reading.reading =
    subst (λ (bytes : List ℕ). Reads (window bytes) c.in_ok-reading.reading) c.as_slice.ensures.value c.in_ok-reading.ensures.reads in
    let more : Reads (window c.pieces.bytes.items) More = subst (Reads (window c.pieces.bytes.items)) c.in-More.is reads in
    subst (λ (bytes : List ℕ). Reads (window bytes) More) (sym (c.in_ok-take_more-in-More.ensures.taken.ended c.if-not-branch.true).1) more

pub returns-in_default : goal.returns-in_default
returns-in_default g c = record {
  taken = c.pieces.invariant.taken;
  reads = subst (λ (bytes : List ℕ). Reads (window bytes) c.in_ok-reading.reading) c.as_slice.ensures.value c.in_ok-reading.ensures.reads;
  bounds = subst (λ (bytes : List ℕ). IsInBounds (length bytes) c.in_ok-reading.reading) c.as_slice.ensures.value c.in_ok-reading.ensures.bounds;
  ended = λ is. absurd (c.in_default.not-More is);
  read_fault = search rules;
  faults = search rules;
  no_fault = search rules;
  beside = c.pieces.invariant.beside;
  no_longer = c.pieces.invariant.no_longer;
}

pub pieces-preserved : goal.pieces-preserved
pieces-preserved g c =
    let reads : Reads (window c.pieces.bytes.items) c.in_ok-reading.reading =
    subst (λ (bytes : List ℕ). Reads (window bytes) c.in_ok-reading.reading) c.as_slice.ensures.value c.in_ok-reading.ensures.reads in
    let took = c.in_ok-take_more-in-More.ensures.taken in
    let a = g.S.Source.left c.args.line.now in
    let left = g.S.Source.left c.pieces.line in
    let rest = g.S.Source.left c.take_more.new.line in
    record {
      taken = subst (Consumes a rest) (sym took.behind) (Consumes-trans a left rest _ _ c.pieces.invariant.taken took.taken);
      faults = search rules;
      beside = g.met.S.Source.joins _ _ _ c.pieces.invariant.beside c.take_more.ensures.beside;
      no_longer = inr (record {
        front = c.pieces.bytes.items;
        piece = took.piece;
        behind = took.behind;
        small = took.small;
        wanted = subst (Reads (window c.pieces.bytes.items)) c.in-More.is reads;
      });
    }
