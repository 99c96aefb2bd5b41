use Rattle.std.proofs.Common.{[], ap, ◌∙◌, arith, length}
use Rattle.std.proofs.lemmas.List.{length_push}
use Rattle.dup_live.specs.Windows.{new_pane}
use Rattle.dup_live.proofs.Panes.{one_more}
use Rattle.dup_live.proofs.places.all_windows.Goals as goal

pub loop-i-preserved : goal.loop-i-preserved
loop-i-preserved g c =
    let ok = c.in_ok-add-in-Ok.ensures.ok in (
      (let n = ap length ok ∙ length_push c.loop-i.all.items c.in-Ok.window in let before = c.loop-i.invariant.0 in omega (arith, n, c.add.new.windows.ok, c.loop-i.all.ok)),
      one_more (new_pane []) c.in-Ok.window _ c.loop-i.all.items ok (c.in-Ok.ensures.new ∙ ap (λ f. new_pane f.eye.told) c.requires.first) c.loop-i.invariant.1,
      c.in-Ok.ensures.cause.kept ∙ c.loop-i.invariant.2,
    )
