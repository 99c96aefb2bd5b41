use Rattle.std.proofs.Common.{◌≡◌, ◌∙◌, sym, subst}
use Rattle.std.specs.Prelude.{IfOk, OnOk}
use Rattle.serde_json.specs.View.{view}
use Rattle.dup_model.specs.declared.edit.Edit.{Edit}
use Rattle.dup_feed.specs.Message.{IsSaid, change_data}
use Rattle.dup_feed.proofs.writing.change_value.Goals as goal

pub returns-in-Replace-clause-value : goal.returns-in-Replace-clause-value
returns-in-Replace-clause-value c =
    subst (λ (e : Edit). IfOk c.replace_value.result (λ made. view made ≡ change_data e)) (sym c.in-Replace.is ∙ c.edit.ensures.value) c.replace_value.ensures.value

pub returns-in-Replace-clause-said : goal.returns-in-Replace-clause-said
returns-in-Replace-clause-said c =
    subst (λ (e : Edit). OnOk c.replace_value.result (IsSaid e)) (sym c.in-Replace.is ∙ c.edit.ensures.value) c.replace_value.ensures.said
