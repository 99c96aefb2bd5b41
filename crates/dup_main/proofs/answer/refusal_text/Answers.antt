use Rattle.std.proofs.Common.{◌∙◌}
use Rattle.std.proofs.lemmas.Result.{IfOk-weaker}
use Rattle.dup_script.proofs.RefusedTexts.{named_text}
use Rattle.dup_main.proofs.answer.refusal_text.Goals as goal

pub returns-in_default : goal.returns-in_default
returns-in_default c = IfOk-weaker c.text_of.result _ _ (λ text says. λ due names. says ∙ named_text c.args.why due c.in_default.not-NoMemory names) c.text_of.ensures
