use Rattle.std.proofs.Common.{◌≡◌, ◌++◌, ◌∷◌, [], sym, ap, subst, ◌∙◌, rules}
use Rattle.dup_bundle.specs.Between.{changed_paths}
use Rattle.dup_edition.specs.Logged.{appended}
use Rattle.dup_model.specs.Editions.{Bundle}
use Rattle.dup_press.specs.Press.{IsDue, aim, logged}
use Rattle.dup_press.specs.Pressed.{Pressed}
use Rattle.dup_press.proofs.Sending.{commits, keeps_sent, sent_good}
use Rattle.dup_press.proofs.press.Press.send.Goals as goal

pub publish-requires : goal.publish-requires
publish-requires g c =
    let here : Pressed = record { works = c.self.inside.workshop; log = g.O.Outlet.log c.self.inside.outlet; place = g.O.Outlet.place c.self.inside.outlet } in
    let d : IsDue here c.args.rec = subst (λ (p : Pressed). IsDue p c.args.rec) (sym c.self.view_is) c.requires in
    subst (λ (b : Bundle). g.O.Outlet.admits c.self.inside.outlet (g.O.Outlet.log c.self.inside.outlet ++ b ∷ [])) (sym (c.in_ok-rec.ensures.ok ∙ d.is))
    (c.self.invariant.admits _ (sent_good (g.O.Outlet.admits c.self.inside.outlet) c.self.inside.workshop (g.O.Outlet.log c.self.inside.outlet) c.self.inside.published c.self.inside.changed c.self.inside.schedule c.self.invariant d.paths d.chosen))

pub invariant_of-self-2 : goal.invariant_of-self-2
invariant_of-self-2 g c =
    let here : Pressed = record { works = c.self.inside.workshop; log = g.O.Outlet.log c.self.inside.outlet; place = g.O.Outlet.place c.self.inside.outlet } in
    let d : IsDue here c.args.rec = subst (λ (p : Pressed). IsDue p c.args.rec) (sym c.self.view_is) c.requires in
    let rec_is = c.in_ok-rec.ensures.ok ∙ d.is in
    let first : c.deref.result.now ≡ c.in_ok-rec.rec.value = search rules in
    let second : c.deref-2.result.now ≡ c.in_ok-rec.rec.value = search rules in
    let e = logged c.self.inside.workshop (g.O.Outlet.log c.self.inside.outlet) in
    let t = aim c.self.inside.workshop in
    keeps_sent (g.O.Outlet.admits c.self.inside.outlet) c.self.inside.workshop (g.O.Outlet.log c.self.inside.outlet) c.self.inside.published c.self.inside.changed c.self.inside.schedule c.self.invariant d.paths d.chosen (g.O.Outlet.admits c.publish.new.self) c.in_ok-rec.rec.value (g.O.Outlet.log c.publish.new.self) c.version-self-inside.result c.publish-2.new.self c.advance.new.self
    rec_is c.in_ok-notice.ensures.ok.0 (c.version-self-inside.ensures ∙ ap (λ (b : Bundle). b.version) second) c.in_ok-notice.ensures.admits
    (c.publish-2.ensures e t (commits (g.O.Outlet.admits c.self.inside.outlet) c.self.inside.workshop (g.O.Outlet.log c.self.inside.outlet) c.self.inside.published c.self.inside.changed c.self.inside.schedule c.self.invariant d.paths d.chosen) d.paths (first ∙ rec_is) c.self.invariant.changed ∙ ap (λ (b : Bundle). changed_paths (appended e b) t) first)
    (c.advance.ensures e t (commits (g.O.Outlet.admits c.self.inside.outlet) c.self.inside.workshop (g.O.Outlet.log c.self.inside.outlet) c.self.inside.published c.self.inside.changed c.self.inside.schedule c.self.invariant d.paths d.chosen) d.paths d.chosen c.self.invariant.bundles)
