use Rattle.std.proofs.Common.{List, sym, ap, subst, ◌∙◌}
use Rattle.dup_build.specs.Answers.{finish_told}
use Rattle.dup_build.specs.Closing.{IsClosing}
use Rattle.dup_bundle.specs.Between.{changed_paths}
use Rattle.dup_bundle.specs.Schedule.{IsSchedule}
use Rattle.dup_bundle.specs.Targets.{Aim, IsSameElsewhere, aim_of}
use Rattle.dup_machine.specs.Presses.{finish_step}
use Rattle.dup_machine.specs.World as machine
use Rattle.dup_model.specs.Editions.{Bundle, target_looks}
use Rattle.dup_model.specs.Needs.{IsSound}
use Rattle.dup_names.specs.Words.{Path}
use Rattle.dup_press.specs.Press.{aim}
use Rattle.dup_press.specs.Pressed.{Pressed, Tells}
use Rattle.dup_press.specs.Worked.{built_of}
use Rattle.dup_press.proofs.Pressing.{keeps_closed, next_elsewhere, next_sound}
use Rattle.dup_press.proofs.press.Press.close.Goals as goal

pub between-requires-clause-changed : goal.between-requires-clause-changed
between-requires-clause-changed g c =
    let closes : IsClosing (built_of c.self.inside.workshop) c.args.closing = subst (λ (p : Pressed). IsClosing (built_of p.works) c.args.closing) (sym c.self.view_is) c.requires in
    c.in_ok-changed.ensures (aim c.self.inside.workshop)
    (subst (IsSameElsewhere c.items-touched.result.now (aim c.self.inside.workshop)) (sym c.of-target.ensures)
    (subst (λ (ps : List Path). IsSameElsewhere ps (aim c.self.inside.workshop) (aim_of c.args.closing.target)) (sym c.items-touched.ensures)
    (next_elsewhere (g.O.Outlet.admits c.self.inside.outlet) c.self.inside.workshop (g.O.Outlet.log c.self.inside.outlet) c.self.inside.published c.self.inside.changed c.self.inside.schedule c.self.invariant c.args.closing closes)))
    (c.self.invariant.changed ∙ ap (λ (l : List Bundle). changed_paths (record { site = c.current-edition.result.now.site; log = l }) (aim c.self.inside.workshop)) (sym c.current-edition.ensures))

pub between-requires-clause-sound : goal.between-requires-clause-sound
between-requires-clause-sound g c =
    let closes : IsClosing (built_of c.self.inside.workshop) c.args.closing = subst (λ (p : Pressed). IsClosing (built_of p.works) c.args.closing) (sym c.self.view_is) c.requires in
    subst (λ (t : Aim). IsSound (target_looks t.pages)) (sym c.of-target.ensures)
    (next_sound (g.O.Outlet.admits c.self.inside.outlet) c.self.inside.workshop (g.O.Outlet.log c.self.inside.outlet) c.self.inside.published c.self.inside.changed c.self.inside.schedule c.self.invariant c.args.closing closes)

pub close-requires : goal.close-requires
close-requires g c = subst (λ (p : Pressed). IsClosing (built_of p.works) c.args.closing) (sym c.self.view_is) c.requires

pub invariant_of-self-2 : goal.invariant_of-self-2
invariant_of-self-2 g c =
    let closes : IsClosing (built_of c.self.inside.workshop) c.args.closing = subst (λ (p : Pressed). IsClosing (built_of p.works) c.args.closing) (sym c.self.view_is) c.requires in
    keeps_closed (g.O.Outlet.admits c.self.inside.outlet) c.self.inside.workshop (g.O.Outlet.log c.self.inside.outlet) c.self.inside.published c.self.inside.changed c.self.inside.schedule c.self.invariant c.args.closing closes c.close.new.self _ c.in_ok-changed.changed c.in_ok-schedule.schedule c.current-edition.result.now
    c.in_ok-finish.ensures.step c.in_ok-finish.ensures.journal c.in_ok-finish.ensures.target c.current-edition.ensures
    (c.in_ok-changed.ensures (aim c.self.inside.workshop)
    (subst (IsSameElsewhere c.items-touched.result.now (aim c.self.inside.workshop)) (sym c.of-target.ensures)
    (subst (λ (ps : List Path). IsSameElsewhere ps (aim c.self.inside.workshop) (aim_of c.args.closing.target)) (sym c.items-touched.ensures)
    (next_elsewhere (g.O.Outlet.admits c.self.inside.outlet) c.self.inside.workshop (g.O.Outlet.log c.self.inside.outlet) c.self.inside.published c.self.inside.changed c.self.inside.schedule c.self.invariant c.args.closing closes)))
    (c.self.invariant.changed ∙ ap (λ (l : List Bundle). changed_paths (record { site = c.current-edition.result.now.site; log = l }) (aim c.self.inside.workshop)) (sym c.current-edition.ensures))
    ∙ ap (changed_paths c.current-edition.result.now) c.of-target.ensures)
    (subst (λ (t : Aim). IsSchedule c.current-edition.result.now t c.in_ok-schedule.schedule) c.of-target.ensures c.in_ok-schedule.ensures)

pub returns-clause-step : goal.returns-clause-step
returns-clause-step g c =
    subst (λ (p : Pressed). Tells (finish_step p.works.journal.site p.works.work p.works.target) p (machine.Told.Finished (finish_told c.in_ok-finish.finish))
    (record { works = c.close.new.self; log = g.O.Outlet.log c.self.inside.outlet; place = g.O.Outlet.place c.self.inside.outlet })) c.self.view_is
    (c.in_ok-finish.ensures.step (g.O.Outlet.log c.self.inside.outlet))
