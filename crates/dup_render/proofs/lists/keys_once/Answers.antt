use Rattle.std.proofs.Common.{sym, ap, ◌∙◌}
use Rattle.dup_template.specs.declared.value.Value.TheVariants as seen
use Rattle.dup_model.specs.Content.{value}
use Rattle.dup_render.proofs.ReadLists.{read_insert, rows_value}
use Rattle.dup_render.proofs.lists.keys_once.Goals as goal

pub returns-clause-lists : goal.returns-clause-lists
returns-clause-lists c =
    read_insert c.args.content.now c.args.lists.now c.insert.new.self c.item-item.result c.in_ok-keys.keys
    (ap (value c.args.content.now) c.item-item.ensures ∙ rows_value c.args.content.now c.args.rows.now ∙ ap seen.Keys (sym c.in_ok-keys.ensures))
    c.in_ok-insert.ensures.updates.0 c.requires
