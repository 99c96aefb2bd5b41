use Rattle.std.proofs.Common.{inl, inr, sym, ap, ◌∙◌}
use Rattle.std.proofs.lemmas.Bool.{or_cases, or_left}
use Rattle.dup_model.specs.Editions.{has}
use Rattle.dup_model.proofs.Reached.{or_right, tie_same}
use Rattle.dup_bundle.specs.Hinted.{linkers_of}
use Rattle.dup_bundle.proofs.queue.wake.Goals as goal

pub loop-path-preserved : goal.loop-path-preserved
loop-path-preserved c = (
  tt,
  tt,
  λ p h. c.in_ok-add_all.ensures.has p ∙ or_left _ _ (c.loop-path.invariant.2 p h),
  λ p q out waits. elim (c.loop-path.invariant.3 p q out waits) [
    | inl early ↦ inl (c.in_ok-add_all.ensures.has p ∙ or_left _ _ early)
    | inr left ↦ elim (or_cases _ _ (ap (λ l. has l q) (sym c.in-Some.ensures.steps) ∙ left)) [
      | inl tie ↦ inl (c.in_ok-add_all.ensures.has p ∙ or_right _ _ (ap (λ l. has l p) c.noted.ensures ∙ ap (λ q. has (linkers_of c.args.waiting.now q) p) (sym (tie_same q c.in-Some.path.now tie)) ∙ waits))
      | inr later ↦ inr later
    ]
  ],
  c.in_ok-add_all.ensures.order,
)
