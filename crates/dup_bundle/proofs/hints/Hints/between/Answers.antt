use Rattle.std.proofs.Common.{inl, inr, sym, ap, subst, ◌∙◌}
use Rattle.std.proofs.lemmas.Bool.{true≢false, or_cases}
use Rattle.dup_model.specs.Editions.{edition, has, target_looks}
use Rattle.dup_model.proofs.Reached.{tie_same}
use Rattle.dup_bundle.specs.Hinted.{uses_of, IsNoted}
use Rattle.dup_bundle.proofs.Exact.{has_changed}
use Rattle.dup_bundle.proofs.Hinting.{agrees_sound, complete, noted_grows}
use Rattle.dup_bundle.proofs.hints.Hints.between.Goals as goal

pub loop-path-preserved : goal.loop-path-preserved
loop-path-preserved c = (
  tt,
  tt,
  λ q inside. elim (c.loop-path.invariant.2 q inside) [
    | inl left ↦ elim (or_cases _ _ (sym (ap (λ l. has l q) c.in-Some.ensures.steps) ∙ left)) [
      | inl tie ↦ inr (subst (λ q. IsNoted c.note_page.new.hints c.args.edition.now c.args.target.now (uses_of (target_looks c.args.target.now.pages q)) q) (sym (tie_same q c.in-Some.path.now tie))
          (subst (λ others. IsNoted c.note_page.new.hints c.args.edition.now c.args.target.now others c.in-Some.path.now) (c.uses-kept.ensures ∙ ap uses_of c.look.ensures) c.in_ok-note_page.ensures.notes))
      | inr later ↦ inl later
    ]
    | inr noted ↦ inr (noted_grows c.loop-path.hints c.note_page.new.hints c.args.edition.now c.args.target.now (uses_of (target_looks c.args.target.now.pages q)) q c.in_ok-note_page.ensures.keeps noted)
  ],
)

pub returns : goal.returns
returns c = complete c.loop-path.hints c.args.edition.now c.args.target.now (λ q. uses_of (target_looks c.args.target.now.pages q)) (agrees_sound c.args.target.now c.requires.sound) (λ q changes.
    elim (c.loop-path.invariant.2 q (ap (λ l. has l q) c.requires.changed ∙ has_changed (edition c.args.edition.now.log) c.args.target.now.pages q ∙ changes)) [
      | inl left ↦ absurd (true≢false (sym left ∙ ap (λ l. has l q) c.in-None.ensures.steps.0))
      | inr noted ↦ noted
    ])
