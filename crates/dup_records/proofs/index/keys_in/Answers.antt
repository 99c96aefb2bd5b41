use Rattle.std.proofs.Common.{map, ap, ◌∙◌}
use Rattle.std.specs.List.{filter}
use Rattle.dup_names.specs.Words.{same}
use Rattle.dup_chunks.specs.Cut.{front}
use Rattle.dup_records.specs.Pairs.{Pair}
use Rattle.dup_records.proofs.Groups.{text_falls, group_front}
use Rattle.dup_records.proofs.index.keys_in.Goals as goal

pub walk_from-pairs-requires : goal.walk_from-pairs-requires
walk_from-pairs-requires g c = text_falls c.bytes-text.result.now c.args.index.now c.requires

pub returns-clause-value : goal.returns-clause-value
returns-clause-value g c =
    let t = c.bytes-text.result.now in
    c.in_ok-made.ensures.value ∙ ap (λ l. map (λ (q : Pair). q.1) (front (λ (q : Pair). same q.0 t) l)) c.walk_from-pairs.ensures.value
    ∙ ap (map (λ (q : Pair). q.1)) (group_front t c.args.index.now c.requires)
    ∙ ap (λ w. map (λ (q : Pair). q.1) (filter (λ (q : Pair). same q.0 w) c.args.index.now)) c.bytes-text.ensures.value
