-- A template embeds earlier templates alone. The law above: `good_sites_law`.
use Rattle.std.specs.Prelude.{ℕ, ◌<◌, List, [], ◌∷◌}
use Rattle.std.specs.List.{flat_map, AllByRecursion}
use Rattle.dup_names.specs.Words.{Word}
use Rattle.dup_template.specs.declared.statement.Statement.{Statement, fold-Statement}
use Rattle.dup_template.specs.declared.statement.Statement.TheOpen.{Statement-F}
use Rattle.dup_model.specs.Content.{Content, body_at}
use Rattle.dup_model.specs.Names.{template_at}

-- the templates that a statement embeds, by name
abbrev pub embedded_step : Statement-F (List Word) → List Word
embedded_step (Statement-F.If name body) = flat_map (λ names. names) body
embedded_step (Statement-F.Each name by order body) = flat_map (λ names. names) body
embedded_step (Statement-F.Embed name via) = name ∷ []
embedded_step (Statement-F.Link name via body) = flat_map (λ names. names) body
embedded_step _ = []

abbrev pub embedded : Statement → List Word
embedded = fold-Statement (List Word) embedded_step

-- a template embeds earlier templates alone
abbrev pub EmbedsEarlier : Content → Type 0
EmbedsEarlier c = (n : ℕ) →
    AllByRecursion (λ name. template_at c.frame name < n) (flat_map embedded (body_at c n))
