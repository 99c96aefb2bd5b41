use Rattle.std.proofs.Common.{◌∙◌, ap, length, []}
use Rattle.std.specs.Prelude.{replicate}
use Rattle.dup_model.specs.Content.{Table}
use Rattle.dup_template.specs.Frame.{frame_of, bodies_of}
use Rattle.dup_template.specs.declared.site.Parts.{Parts}
use Rattle.dup_records.proofs.Tables.{blanks}
use Rattle.dup_records.proofs.content.Content.start.Goals as goal

pub returns : goal.returns
returns c =
    let none : Table = [] in
    let kinds = c.kinds.ensures.value ∙ ap (λ (s : Parts). s.kinds) c.deref.ensures in
    let tables = c.in_ok-tables.ensures.tables ∙ (ap (λ k. replicate (length k) none) kinds ∙ blanks c.args.site.value.kinds) in
    λ i. record { frame = frame_of c.args.site.value; bodies = bodies_of c.args.site.value; tables = tables i }
