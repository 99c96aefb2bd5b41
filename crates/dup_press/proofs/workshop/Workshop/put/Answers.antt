use Rattle.std.proofs.Common.{◌≡◌, sym, ap, subst, ◌∙◌}
use Rattle.dup_build.specs.declared.answers.Put.TheVariants as put
use Rattle.dup_machine.specs.Presses.{put_step}
use Rattle.dup_template.specs.Frame.{Frame, frame_of}
use Rattle.dup_press.specs.Worked.{IsPut, Worked}
use Rattle.dup_press.proofs.Works.{frame_is, keeps_answered, put_step_of, worked}
use Rattle.dup_press.proofs.workshop.Workshop.put.Goals as goal

pub invariant_of-self-2 : goal.invariant_of-self-2
invariant_of-self-2 c =
    keeps_answered c.self.inside.journal c.self.inside.build c.put.new.self c.args.expanded.value.obj c.args.expanded.value.notes c.args.expanded.value.frame c.in_ok-put.put
    c.self.invariant (record {
      foreign = c.in_ok-put.ensures.foreign.0;
      stays = c.in_ok-put.ensures.stays;
      ours = c.in_ok-put.ensures.ours;
      built = c.in_ok-put.ensures.build;
    })

pub returns-clause-foreign : goal.returns-clause-foreign
returns-clause-foreign c =
    let j = c.self.inside.journal in
    let same = frame_is j.site j.commits c.self.inside.build.works c.self.invariant.works ∙ ap (λ (w : Worked). frame_of w.journal.site) c.self.view_is in
    subst (λ (f : Frame). (c.in_ok-put.put ≡ put.Foreign → c.args.expanded.value.frame ≡ f → ⊥) × ((c.args.expanded.value.frame ≡ f → ⊥) → c.in_ok-put.put ≡ put.Foreign)) same
    c.in_ok-put.ensures.foreign

pub returns-clause-stays : goal.returns-clause-stays
returns-clause-stays c =
    let j = c.self.inside.journal in
    let same = frame_is j.site j.commits c.self.inside.build.works c.self.invariant.works ∙ ap (λ (w : Worked). frame_of w.journal.site) c.self.view_is in
    λ differ. ap (worked j) (c.in_ok-put.ensures.stays (λ is. differ (is ∙ same))) ∙ c.self.view_is

pub returns-clause-ours : goal.returns-clause-ours
returns-clause-ours c =
    let j = c.self.inside.journal in
    let same = frame_is j.site j.commits c.self.inside.build.works c.self.invariant.works ∙ ap (λ (w : Worked). frame_of w.journal.site) c.self.view_is in
    λ other. c.in_ok-put.ensures.ours other ∙ same

pub returns-clause-step : goal.returns-clause-step
returns-clause-step c =
    let j = c.self.inside.journal in
    let b = c.self.inside.build in
    let o = c.args.expanded.value.obj in
    let ns = c.args.expanded.value.notes in
    let same = frame_is j.site j.commits b.works c.self.invariant.works ∙ ap (λ (w : Worked). frame_of w.journal.site) c.self.view_is in
    λ is.
    let ours = is ∙ sym same in
    subst (λ (w : Worked). IsPut (put_step w.journal.site o ns w.work w.target) w o c.in_ok-put.put (worked j c.put.new.self)) c.self.view_is
    (λ log. put_step_of j b c.put.new.self log o ns c.in_ok-put.put c.self.invariant.works (c.in_ok-put.ensures.told ours) (ap (λ x. x.works) (c.in_ok-put.ensures.build ours)))
