use Rattle.std.proofs.Common.{◌≡◌, ◌<◌, length, sym, subst, ◌∙◌, arith, add-one, take}
use Rattle.std.proofs.lemmas.Bool.{true≢false}
use Rattle.dup_template.specs.Frame.{heads_of}
use Rattle.dup_template.proofs.Heads.{head_at, heads_length, heads_more}
use Rattle.dup_template.proofs.site.same_heads.Goals as goal

pub returns-then-not-same_head : goal.returns-then-not-same_head
returns-then-not-same_head c =
    let also : c.loop-i.i < length c.args.b.now = omega arith in (
      λ never. absurd (true≢false (sym never)),
      λ is. sym c.if-not-same_head.true
          ∙ c.same_head.ensures.1 (head_at c.args.a.now c.args.b.now c.loop-i.i c.index-a-i.result c.index-b-i.result c.loop-i-test.true also c.index-a-i.is c.index-b-i.is is),
    )

pub loop-i-preserved : goal.loop-i-preserved
loop-i-preserved c =
    let also : c.loop-i.i < length c.args.b.now = omega arith in
    rw add-one
    (heads_more c.args.a.now c.args.b.now c.loop-i.i c.index-a-i.result c.index-b-i.result c.loop-i-test.true also c.index-a-i.is c.index-b-i.is
    (c.same_head.ensures.0 c.if-not-same_head.false) c.loop-i.invariant)
