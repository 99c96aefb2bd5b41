-- What an act of the hall says of the machine.
use Rattle.std.proofs.Common.{◌≡◌, ℕ, sym, ap, ◌∙◌, subst, List, [], ◌++◌}
use Rattle.dup_names.specs.Words.{Word}
use Rattle.dup_template.specs.declared.site.Parts.{Parts}
use Rattle.dup_model.specs.Journal.{Limits, usual_limits}
use Rattle.dup_transcript.specs.Commands.{Command}
use Rattle.dup_transcript.specs.Turns.{Turns}
use Rattle.dup_hall.specs.Kept.{WritesAnswer, answer_text, limits_of, site_of, standing}
use Rattle.dup_hall.specs.declared.hall.Hall.{Hall as Kept}

pub turns_of : (old new : Kept) (number : ℕ) (command : Command) (before text : Word) (site : Parts) → before ≡ [] → WritesAnswer old new number command before text
    → site_of old ≡ site → limits_of old ≡ usual_limits → Turns site usual_limits (standing old) number command text (standing new)
turns_of old new number command before text site empty answer at usual =
    let said = answer.1 ∙ ap (λ (w : Word). w ++ answer_text answer.0) empty in
    subst (λ (p : Parts). Turns p usual_limits (standing old) number command text (standing new)) at
    (subst (λ (l : Limits). Turns (site_of old) l (standing old) number command text (standing new)) usual
    (subst (λ (w : Word). Turns (site_of old) (limits_of old) (standing old) number command w (standing new)) (sym said) answer.2))
