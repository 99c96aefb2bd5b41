use Rattle.dup_template.proofs.WithBody.{set_body_made}
use Rattle.dup_template.proofs.with_body.replaced.Goals as goal

pub returns : goal.returns
returns c =
    rw (c.of.ensures, c.in_ok-put_parts-2.ensures, c.in_ok-push.ensures.items, c.in_ok-with_shared.ensures, c.in_ok-put_parts.ensures, c.in_ok-made.ensures.items)
    (set_body_made c.args.parts.now c.args.template c.index-parts-template.result c.args.body.now c.requires c.index-parts-template.is)
