use Rattle.std.proofs.Common.{sym, ap, ◌∙◌, subst, not}
use Rattle.std.specs.Option.{option_copied}
use Rattle.std.proofs.lemmas.Result.{IfOk-weaker}
use Rattle.dup_chunks.specs.Cut.{Rises}
use Rattle.dup_records.specs.Pairs.{Pair, pair_cmp, same_pair, has_pair, HasText, IsMoved}
use Rattle.dup_records.proofs.Indexes.{filter_rises, free_out, moved_over}
use Rattle.dup_records.proofs.index.moved.Goals as goal

pub with_text-requires-2-clause-rises : goal.with_text-requires-2-clause-rises
with_text-requires-2-clause-rises c =
    subst (Rises (λ (q : Pair). q) pair_cmp) (sym c.in_ok-less.ensures) (filter_rises (λ (q : Pair). not (same_pair q (c.in-Some.old.now, c.args.key.now))) c.args.index.now c.requires.rises)

pub with_text-requires-2-clause-free : goal.with_text-requires-2-clause-free
with_text-requires-2-clause-free c = λ t.
    let has = subst (λ o. HasText c.args.index.now c.args.key.now (option_copied o)) c.in-Some.is c.requires in
    ap (λ l. has_pair l (t, c.args.key.now)) c.in_ok-less.ensures ∙ free_out c.args.index.now c.in-Some.old.now c.args.key.now has t

pub returns : goal.returns
returns c =
    let index = c.args.index.now in
    let key = c.args.key.now in
    IfOk-weaker c.with_text-2.result (λ made. IsMoved c.in_ok-less.less made key (option_copied c.args.new)) (λ made. IsMoved index made key (option_copied c.args.new))
    (λ made m. moved_over index made c.in-Some.old.now key (option_copied c.args.new) (subst (λ l. IsMoved l made key (option_copied c.args.new)) c.in_ok-less.ensures m)) c.with_text-2.ensures
