use Rattle.std.proofs.Common.{◌≡◌, ◌++◌, drop, subst}
use Rattle.std.specs.Prelude.{IfOk}
use Rattle.std.specs.Ordering.{is_lt}
use Rattle.dup_chunks.specs.Cut.{front, back}
use Rattle.dup_records.specs.Pairs.{Pair, pair_cmp}
use Rattle.dup_records.proofs.Indexes.{pair_falls, pair_out}
use Rattle.dup_records.proofs.index.without_pair.Goals as goal

pub removed-requires : goal.removed-requires
removed-requires c = pair_falls (c.bytes-text.result.now, c.args.key.now) c.args.index.now c.requires.rises

pub returns : goal.returns
returns c =
    rw (pair_out (c.args.text.now, c.args.key.now) c.args.index.now c.requires.rises c.requires.there)
    (subst (λ w. IfOk c.removed.result (λ made. made ≡ front (λ (r : Pair). is_lt (pair_cmp r (w, c.args.key.now))) c.args.index.now ++ drop 1 (back (λ (r : Pair). is_lt (pair_cmp r (w, c.args.key.now))) c.args.index.now)))
    c.bytes-text.ensures.value c.removed.ensures)
