use Rattle.std.proofs.Common.{◌∙◌, [], sym, ap, subst, map}
use Rattle.std.specs.Prelude.{Some, slice_get}
use Rattle.std.specs.List.{filter}
use Rattle.std.specs.Option.{unwrap_or}
use Rattle.std.specs.Cmp.Lexicographic.{pointwise}
use Rattle.dup_names.specs.Words.{same}
use Rattle.dup_model.specs.Content.{Entry, Table, texts_at}
use Rattle.dup_records.specs.Pairs.{IsIndex}
use Rattle.dup_records.proofs.Groups.{group_is, no_keys}
use Rattle.dup_records.proofs.table.Table.has_group.Goals as goal

pub has_keys_in-requires : goal.has_keys_in-requires
has_keys_in-requires g c =
    let is = subst (IsIndex c.self.inside.rows c.args.field) (sym (ap (λ o. unwrap_or o []) (c.in-Some.ensures ∙ ap (λ l. slice_get l c.args.field) c.deref.ensures.value))) (c.self.invariant.1 c.args.field) in
    is.rises

pub returns-in-None : goal.returns-in-None
returns-in-None g c =
    let rows = c.self.inside.rows in
    let key = c.args.key.now in
    let field = c.args.field in
    let is = subst (IsIndex rows field) (sym (ap (λ o. unwrap_or o []) (c.in-None.ensures ∙ ap (λ l. slice_get l field) c.deref.ensures.value))) (c.self.invariant.1 field) in
    c.is_empty.ensures ∙ no_keys c.args.keys.now ∙ ap (λ l. pointwise same l c.args.keys.now) (group_is key rows field [] c.bytes-bytes.ensures.valid c.self.invariant.0 is
    ∙ ap (λ (t : Table). map (λ (e : Entry). e.0) (filter (λ (e : Entry). same (texts_at (Some e.1) field) key) t)) c.self.view_is)

pub returns-in-Some : goal.returns-in-Some
returns-in-Some g c =
    let rows = c.self.inside.rows in
    let key = c.args.key.now in
    let field = c.args.field in
    let index = c.in-Some.index.now in
    let is = subst (IsIndex rows field) (sym (ap (λ o. unwrap_or o []) (c.in-Some.ensures ∙ ap (λ l. slice_get l field) c.deref.ensures.value))) (c.self.invariant.1 field) in
    c.has_keys_in.ensures ∙ ap (λ l. pointwise same l c.args.keys.now) (group_is key rows field index c.bytes-bytes.ensures.valid c.self.invariant.0 is
    ∙ ap (λ (t : Table). map (λ (e : Entry). e.0) (filter (λ (e : Entry). same (texts_at (Some e.1) field) key) t)) c.self.view_is)
