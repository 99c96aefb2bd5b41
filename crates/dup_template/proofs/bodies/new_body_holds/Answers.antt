use Rattle.std.proofs.Common.{ap, sym, take, ◌∙◌}
use Rattle.std.proofs.Math.ListN.{get_or}
use Rattle.std.proofs.lemmas.Option.{slice_get-get_or}
use Rattle.std.specs.Prelude.{Some}
use Rattle.dup_template.specs.Frame.{frame_of, head_of, heads_of}
use Rattle.dup_template.specs.Good.{body_broken}
use Rattle.dup_template.proofs.WithBody.{fault_at}
use Rattle.dup_template.proofs.bodies.new_body_holds.Goals as goal

pub returns : goal.returns
returns c =
    c.own_body_holds.ensures
    ∙ ap (λ ts. body_broken (frame_of c.args.site.now) (heads_of (take c.args.template ts)) (head_of c.index-templates-template.result) c.args.body.now) c.items-templates.ensures
    ∙ sym (fault_at c.args.site.now c.args.template c.index-templates-template.result c.args.body.now
    (slice_get-get_or c.args.site.now.templates c.args.template c.index-templates-template.result c.requires
    ∙ ap Some (ap (λ ts. get_or ts c.args.template c.index-templates-template.result) (sym c.items-templates.ensures) ∙ sym c.index-templates-template.is)))
