use Rattle.std.proofs.Common.{subst, ◌∙◌}
use Rattle.dup_template.specs.Good.{IsGood}
use Rattle.dup_model.proofs.GoodSites.{good_embeds_earlier}
use Rattle.dup_press.proofs.settle.content_known.Goals as goal

pub returns : goal.returns
returns c =
    let good : IsGood c.site.result.now.value = subst IsGood (c.parts.ensures.value ∙ c.deref.ensures) c.parts.ensures.good in
    good_embeds_earlier c.site.result.now.value c.args.content.now good c.site.ensures
