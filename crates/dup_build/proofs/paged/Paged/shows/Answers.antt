use Rattle.std.proofs.Common.{ap, ◌∙◌}
use Rattle.dup_names.specs.Objects.{is_in}
use Rattle.dup_model.proofs.Earlier.{in_ordered}
use Rattle.dup_build.specs.Loose.{shown_by}
use Rattle.dup_build.proofs.paged.Paged.shows.Goals as goal

pub returns : goal.returns
returns c =
    c.contains.ensures ∙ ap (λ l. is_in l c.args.obj.now) c.self.invariant ∙ in_ordered (shown_by c.self.inside.pages) c.args.obj.now
    ∙ ap (λ ps. is_in (shown_by ps) c.args.obj.now) c.self.view_is
