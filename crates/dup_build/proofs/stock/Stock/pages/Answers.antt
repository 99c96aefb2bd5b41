use Rattle.std.proofs.Common.{sym, ap, subst, ◌∙◌}
use Rattle.dup_model.specs.Pages as model
use Rattle.dup_sets.specs.Entries.{objs}
use Rattle.dup_build.specs.Stocked.{Stocked, unjoined_in}
use Rattle.dup_build.specs.Paths.{AreLooked}
use Rattle.dup_build.proofs.Showing.{pages_looked}
use Rattle.dup_build.proofs.stock.Stock.pages.Goals as goal

pub returns-clause-pages : goal.returns-clause-pages
returns-clause-pages c = c.items.ensures ∙ c.deref.ensures ∙ c.self.invariant.stock.pages ∙ ap (λ (s : Stocked). model.pages s.content) c.self.view_is

pub returns-clause-looked : goal.returns-clause-looked
returns-clause-looked c =
    subst (AreLooked c.args.self.now.looked) (sym (c.items.ensures ∙ c.deref.ensures ∙ c.self.invariant.stock.pages))
    (subst (λ (s : Stocked). AreLooked s.looked (model.pages c.self.inside.content)) c.self.view_is
    (pages_looked c.self.inside.content c.site_known.ensures.earlier (objs c.self.inside.nodes) (objs c.self.inside.looks) (ap unjoined_in c.self.view_is ∙ c.requires)))
