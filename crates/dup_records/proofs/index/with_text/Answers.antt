use Rattle.std.proofs.Common.{◌≡◌, ◌∷◌, ◌++◌, sym, ap, ◌∙◌, subst}
use Rattle.std.specs.Prelude.{None, Some, IfOk}
use Rattle.std.proofs.lemmas.Result.{IfOk-weaker}
use Rattle.std.specs.Ordering.{is_lt}
use Rattle.dup_chunks.specs.Cut.{front, back}
use Rattle.dup_records.specs.Pairs.{Pair, IsMoved, pair_cmp}
use Rattle.dup_records.proofs.Indexes.{pair_falls, moved_none, moved_in}
use Rattle.dup_records.proofs.index.with_text.Goals as goal

pub inserted-requires : goal.inserted-requires
inserted-requires c = pair_falls (c.bytes-text.result.now, c.args.key.now) c.args.index.now c.requires.rises

pub returns-in-None : goal.returns-in-None
returns-in-None c =
    let index = c.args.index.now in
    let key = c.args.key.now in
    rw c.in-None.is (IfOk-weaker c.copy.result (λ made. made ≡ index) (λ made. IsMoved index made key None)
    (λ made is. subst (λ l. IsMoved index l key None) (sym is) (moved_none index key c.requires.rises c.requires.free)) c.copy.ensures)

pub returns-in_ok-share-in-Some : goal.returns-in_ok-share-in-Some
returns-in_ok-share-in-Some c =
    let index = c.args.index.now in
    let key = c.args.key.now in
    let text = c.in-Some.text.now in
    let pair : c.of-pair.result ≡ (text, key) = c.of-pair.ensures ∙ ap (λ w. (w, key)) c.in_ok-share-in-Some.ensures in
    let made_is = subst (λ w. IfOk c.inserted.result (λ made. made ≡ front (λ (r : Pair). is_lt (pair_cmp r (w, key))) index ++ c.of-pair.result ∷ back (λ (r : Pair). is_lt (pair_cmp r (w, key))) index))
    c.bytes-text.ensures.value c.inserted.ensures in
    rw c.in-Some.is (IfOk-weaker c.inserted.result
    (λ made. made ≡ front (λ (r : Pair). is_lt (pair_cmp r (text, key))) index ++ c.of-pair.result ∷ back (λ (r : Pair). is_lt (pair_cmp r (text, key))) index)
    (λ made. IsMoved index made key (Some text))
    (λ made is. subst (λ l. IsMoved index l key (Some text))
    (sym (is ∙ ap (λ p. front (λ (r : Pair). is_lt (pair_cmp r (text, key))) index ++ p ∷ back (λ (r : Pair). is_lt (pair_cmp r (text, key))) index) pair))
    (moved_in index text key c.requires.rises c.requires.free)) made_is)
