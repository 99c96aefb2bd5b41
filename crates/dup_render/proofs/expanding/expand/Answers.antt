use Rattle.std.proofs.Common.{◌≡◌, ap, sym, subst, ◌∙◌}
use Rattle.dup_model.specs.Expansions.{IsGoodExpansion}
use Rattle.dup_model.proofs.Expanding.{expansions_good}
use Rattle.dup_render.proofs.Expansion.{expansion_made}
use Rattle.dup_template.specs.Frame.{frame_of}
use Rattle.dup_render.proofs.expanding.expand.Goals as goal

pub of-requires : goal.of-requires
of-requires c =
    let framed : c.args.content.now.frame ≡ frame_of c.in_ok-site.site.value = c.site.ensures.frame ∙ ap frame_of (sym c.in_ok-site.ensures) in
    subst IsGoodExpansion
    (expansion_made (frame_of c.in_ok-site.site.value) c.args.content.now c.args.obj.now c.in_ok-marks.marks.items c.in_ok-notes.notes.items c.in_ok-skeleton.skeleton.value
    framed
    (rw (← c.in_ok-marks.marks-is) c.in_ok-marks.ensures.marks)
    (cc (c.in_ok-notes.ensures, c.deref.ensures.value))
    (cc (c.in_ok-skeleton.ensures.ok, c.in_ok-skeleton_of.ensures.pieces, c.deref-2.ensures.value))
    (cc (c.in_ok-skeleton.ensures.ok, c.in_ok-skeleton_of.ensures.links, c.deref-2.ensures.value)))
    (expansions_good c.args.content.now c.args.obj.now)

pub returns-clause-value : goal.returns-clause-value
returns-clause-value c =
    let framed : c.args.content.now.frame ≡ frame_of c.in_ok-site.site.value = c.site.ensures.frame ∙ ap frame_of (sym c.in_ok-site.ensures) in
    rw c.of.ensures
    (sym (expansion_made (frame_of c.in_ok-site.site.value) c.args.content.now c.args.obj.now c.in_ok-marks.marks.items c.in_ok-notes.notes.items c.in_ok-skeleton.skeleton.value
    framed
    (rw (← c.in_ok-marks.marks-is) c.in_ok-marks.ensures.marks)
    (cc (c.in_ok-notes.ensures, c.deref.ensures.value))
    (cc (c.in_ok-skeleton.ensures.ok, c.in_ok-skeleton_of.ensures.pieces, c.deref-2.ensures.value))
    (cc (c.in_ok-skeleton.ensures.ok, c.in_ok-skeleton_of.ensures.links, c.deref-2.ensures.value))))
