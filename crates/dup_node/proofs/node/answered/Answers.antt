use Rattle.std.proofs.Common.{ap, sym, ◌∙◌}
use Rattle.std.specs.Prelude.{option_map}
use Rattle.dup_node.proofs.Serving.{absent_given}
use Rattle.dup_node.proofs.node.answered.Goals as goal

pub returns-in-None : goal.returns-in-None
returns-in-None c e held is =
    absent_given c.args.cache.now e c.args.path.now held c.args.pass.0 c.edition-edition.result c.edition-edition.ensures c.if-edition-pass.false
    (ap (option_map (λ p. p.value)) (sym c.in-None.is) ∙ is)
