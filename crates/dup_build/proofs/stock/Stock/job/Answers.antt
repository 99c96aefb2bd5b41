use Rattle.std.proofs.Common.{◌≡◌, true, sym, ap, ◌∙◌, subst}
use Rattle.dup_model.specs.Content.{Content}
use Rattle.dup_model.specs.Jobs.{IsJob}
use Rattle.dup_names.specs.Objects.{is_in}
use Rattle.dup_model.proofs.Jobs.{found_are_jobs}
use Rattle.dup_model.proofs.Finds.{waiting_parts}
use Rattle.dup_sets.specs.Entries.{objs}
use Rattle.dup_build.specs.Stocked.{Stocked, waiting_in}
use Rattle.dup_build.proofs.stock.Stock.job.Goals as goal

pub invariant_of-result : goal.invariant_of-result
invariant_of-result c =
    let waits : is_in (waiting_in (record { content = c.self.inside.content; done = objs c.self.inside.nodes; looked = objs c.self.inside.looks })) c.args.obj.now ≡ true =
    ap (λ (s : Stocked). is_in (waiting_in s) c.args.obj.now) c.self.view_is ∙ c.requires in
    let fits : IsJob c.self.inside.content.frame c.args.obj.now =
    found_are_jobs c.self.inside.content (objs c.self.inside.nodes) c.args.obj.now c.site_known.ensures.fit (waiting_parts c.self.inside.content (objs c.self.inside.nodes) c.args.obj.now waits).0 in
    record { fits = subst (λ (x : Content). IsJob x.frame c.args.obj.now) (sym c.in_ok-content.ensures) fits }
