use Rattle.std.proofs.Common.{◌≡◌, ◌+◌, ◌≤◌, ◌<◌, ◌^◌, ◌∙◌, ℕ, [], sym, ap, subst, map, length, arith}
use Rattle.std.specs.Prelude.{Some, slice_get}
use Rattle.std.specs.List.{filter}
use Rattle.std.specs.Option.{unwrap_or}
use Rattle.std.proofs.lemmas.Result.{IfOk-weaker}
use Rattle.dup_names.specs.Words.{same}
use Rattle.dup_model.specs.Content.{Entry, Table, texts_at}
use Rattle.dup_records.specs.Pairs.{Pair, IsIndex}
use Rattle.dup_records.proofs.Groups.{group_is, index_length}
use Rattle.dup_records.proofs.table.Table.group.Goals as goal

pub keys_in-requires : goal.keys_in-requires
keys_in-requires g c =
    let is = subst (IsIndex c.self.inside.rows c.args.field) (sym (ap (λ o. unwrap_or o []) (c.in-Some.ensures ∙ ap (λ l. slice_get l c.args.field) c.deref.ensures.value))) (c.self.invariant.1 c.args.field) in
    is.rises

pub returns-in-None-clause-value : goal.returns-in-None-clause-value
returns-in-None-clause-value g c =
    let rows = c.self.inside.rows in
    let key = c.args.key.now in
    let field = c.args.field in
    let is = subst (IsIndex rows field) (sym (ap (λ o. unwrap_or o []) (c.in-None.ensures ∙ ap (λ l. slice_get l field) c.deref.ensures.value))) (c.self.invariant.1 field) in
    c.new.ensures.items ∙ group_is key rows field [] c.bytes-bytes.ensures.valid c.self.invariant.0 is
    ∙ ap (λ (t : Table). map (λ (e : Entry). e.0) (filter (λ (e : Entry). same (texts_at (Some e.1) field) key) t)) c.self.view_is

pub returns-in-Some-clause-value : goal.returns-in-Some-clause-value
returns-in-Some-clause-value g c =
    let rows = c.self.inside.rows in
    let key = c.args.key.now in
    let field = c.args.field in
    let index = c.in-Some.index.now in
    let is = subst (IsIndex rows field) (sym (ap (λ o. unwrap_or o []) (c.in-Some.ensures ∙ ap (λ l. slice_get l field) c.deref.ensures.value))) (c.self.invariant.1 field) in
    let group = group_is key rows field index c.bytes-bytes.ensures.valid c.self.invariant.0 is
    ∙ ap (λ (t : Table). map (λ (e : Entry). e.0) (filter (λ (e : Entry). same (texts_at (Some e.1) field) key) t)) c.self.view_is in
    IfOk-weaker c.keys_in.result (λ made. made.items ≡ map (λ (q : Pair). q.1) (filter (λ (q : Pair). same q.0 key) index))
    (λ made. made.items ≡ map (λ (e : Entry). e.0) (filter (λ (e : Entry). same (texts_at (Some e.1) field) key) c.args.self.now))
    (λ made is. is ∙ group) c.keys_in.ensures.value

pub returns-in-Some-clause-cost : goal.returns-in-Some-clause-cost
returns-in-Some-clause-cost g c =
    let rows = c.self.inside.rows in
    let field = c.args.field in
    let index = c.in-Some.index.now in
    let is = subst (IsIndex rows field) (sym (ap (λ o. unwrap_or o []) (c.in-Some.ensures ∙ ap (λ l. slice_get l field) c.deref.ensures.value))) (c.self.invariant.1 field) in
    let few = index_length rows field index is in
    let same : length rows ≡ length c.args.self.now = ap (λ (t : Table). length t) c.self.view_is in
    IfOk-weaker c.keys_in.result (λ made. (d : ℕ) → length index < 2 ^ d → c.keys_in.new.steps ≤ c.args.steps.now + length made.items + d + 8)
    (λ made. (d : ℕ) → length c.args.self.now < 2 ^ d → c.keys_in.new.steps ≤ c.args.steps.now + length made.items + d + 8)
    (λ made bound d small. bound d (omega (arith, few, same, small))) c.keys_in.ensures.cost
