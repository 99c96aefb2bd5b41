use Rattle.std.proofs.Common.{◌≡◌, ap, ◌∙◌}
use Rattle.dup_build.specs.Built.{Built}
use Rattle.dup_calls.proofs.Contents.{either_told, put_content}
use Rattle.dup_calls.proofs.builds.put.Goals as goal

pub returns : goal.returns
returns c =
    either_told c.in_ok-told.told (c.put.new.self.works.content ≡ c.args.build.now.works.content)
    (λ is. ap (λ (b : Built). b.works.content) (c.in_ok-told.ensures.stays (c.in_ok-told.ensures.foreign.0 is)))
    (λ isnt. ap (λ (b : Built). b.works.content) (c.in_ok-told.ensures.build (c.in_ok-told.ensures.ours isnt))
    ∙ put_content c.args.build.now.works c.args.made.value.obj c.args.made.value.notes)
