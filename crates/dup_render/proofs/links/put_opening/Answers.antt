use Rattle.std.proofs.Common.{append_assoc, ◌∙◌}
use Rattle.std.proofs.lemmas.Result.{on_ok_weaker}
use Rattle.dup_render.proofs.links.put_opening.Goals as goal

pub returns : goal.returns
returns c =
    on_ok_weaker c.put-2.result
    (λ e. e ∙ rw (c.in_ok-put.ensures, c.of.ensures, c.in_ok-before.ensures, c.bytes.ensures.value) (append_assoc c.args.out.now.items _ _))
    c.put-2.ensures
