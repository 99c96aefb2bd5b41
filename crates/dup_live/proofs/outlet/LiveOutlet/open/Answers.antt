use Rattle.std.proofs.Common.{ap, ◌∙◌}
use Rattle.dup_live.proofs.Keeps.{opens}
use Rattle.dup_live.proofs.outlet.LiveOutlet.open.Goals as goal

pub new-requires-clause-rule : goal.new-requires-clause-rule
new-requires-clause-rule g c =
    let is = c.in_ok-first.ensures in
    opens g.J.Naming.book g.J.Naming.site c.in_ok-first.first
    (ap (λ s. s.which) is ∙ ap (λ f. f.which) c.named-book.ensures, ap (λ s. s.edition.site) is ∙ c.requires.site)
    (ap (λ s. s.edition.log) is)
