use Rattle.std.proofs.Common.{◌≡◌, ◌∙◌, ap, refl, subst, List}
use Rattle.dup_edition.specs.Logged.{Logged}
use Rattle.dup_model.specs.Editions.{Bundle}
use Rattle.dup_model.specs.Serving.{HoldsPagesOf}
use Rattle.dup_calls.proofs.nodes.serve.Goals as goal

pub returns : goal.returns
returns c =
    let same : c.serve.new.window.log ≡ c.args.edition.now.log = c.serve.ensures.narrows c.serve.new.window.log refl ∙ ap (λ (w : Logged). w.log) c.new-window.ensures in
    subst (λ (log : List Bundle). HoldsPagesOf log c.serve.new.self) same c.serve.ensures.holds
