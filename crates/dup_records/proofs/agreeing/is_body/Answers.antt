use Rattle.std.proofs.Common.{ap, sym, ◌∙◌}
use Rattle.dup_template.specs.SameStatement.{body-Decides}
use Rattle.dup_template.specs.declared.value.Value.TheVariants as seen
use Rattle.dup_records.proofs.agreeing.is_body.Goals as goal

pub returns-in-Body : goal.returns-in-Body
returns-in-Body c =
    let decides = body-Decides c.items.result.now c.args.body.now in (
      λ h. ap seen.Body (sym (decides.0 (sym c.eq.ensures ∙ h)) ∙ c.items.ensures) ∙ sym c.in-Body.is,
      λ e. c.eq.ensures ∙ decides.1 (c.items.ensures ∙ cc),
    )
