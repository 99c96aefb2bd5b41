use Rattle.std.proofs.Common.{sym, ◌∙◌, ap}
use Rattle.dup_live.proofs.Adding.{adds_moves}
use Rattle.dup_live.proofs.book.Front.tries.Goals as goal

pub compare_exchange-found-requires : goal.compare_exchange-found-requires
compare_exchange-found-requires g c =
    let h = c.args.book.now.head_is in
    let offer = c.plain-offer.ensures in
    let pen = c.no_pen-pen.ensures in
    let here = ap (λ w. w.which) c.self.view_is ∙ c.requires in (
      ap (λ w. w.tracked) h,
      here ∙ sym (ap (λ w. w.book) h),
      pen.0 ∙ (here ∙ sym (ap (λ w. w.book) h)),
      offer.0,
      rw (ap (λ w. w.key) h, pen.1, offer.1, offer.3) (adds_moves c.self.inside.seen.log _ c.self.inside.deeds (sym c.self.invariant)),
    )
