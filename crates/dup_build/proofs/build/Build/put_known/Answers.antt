use Rattle.std.proofs.Common.{◌≡◌, cond, false, Some, None, sym, ap, ◌∙◌}
use Rattle.dup_names.specs.Objects.{is_in}
use Rattle.dup_model.specs.Found.{waiting}
use Rattle.dup_build.specs.Built.{Built, with_works}
use Rattle.dup_build.specs.Build.{work_in}
use Rattle.dup_machine.specs.World.{Told}
use Rattle.dup_machine.specs.Builds.{Build}
use Rattle.dup_model.specs.Expansions.{Expansion}
use Rattle.dup_build.proofs.Builds.{put_unasked, waits_open}
use Rattle.dup_build.proofs.Failing.{on_err}
use Rattle.dup_build.proofs.build.Build.put_known.Goals as goal

pub returns-then-not-waits-clause-told : goal.returns-then-not-waits-clause-told
returns-then-not-waits-clause-told c =
    let open_is : c.args.self.now.works.work ≡ Some (work_in c.self.inside) = ap (λ (b : Built). b.works.work) (sym c.self.view_is) ∙ ap (λ o. cond o (Some (work_in c.self.inside)) None) c.if-not-self.false in
    let one : c.obj.result.now ≡ c.args.expanded.value.obj = c.obj.ensures ∙ ap (λ (e : Expansion). e.obj) c.deref.ensures in
    let out : is_in (waiting c.args.self.now.works.content c.self.inside.stock.done) c.args.expanded.value.obj ≡ false =
    ap (λ (b : Built). is_in (waiting b.works.content c.self.inside.stock.done) c.args.expanded.value.obj) (sym c.self.view_is)
    ∙ ap (is_in (waiting c.self.inside.stock.content c.self.inside.stock.done)) (sym one) ∙ sym c.waits.ensures ∙ c.if-not-waits.true in
    sym (ap (λ (x : Told × Build). x.0) (put_unasked c.args.self.now.works (work_in c.self.inside) open_is c.args.expanded.value.obj c.args.expanded.value.notes out))

pub returns-then-not-waits-clause-build : goal.returns-then-not-waits-clause-build
returns-then-not-waits-clause-build c =
    let open_is : c.args.self.now.works.work ≡ Some (work_in c.self.inside) = ap (λ (b : Built). b.works.work) (sym c.self.view_is) ∙ ap (λ o. cond o (Some (work_in c.self.inside)) None) c.if-not-self.false in
    let one : c.obj.result.now ≡ c.args.expanded.value.obj = c.obj.ensures ∙ ap (λ (e : Expansion). e.obj) c.deref.ensures in
    let out : is_in (waiting c.args.self.now.works.content c.self.inside.stock.done) c.args.expanded.value.obj ≡ false =
    ap (λ (b : Built). is_in (waiting b.works.content c.self.inside.stock.done) c.args.expanded.value.obj) (sym c.self.view_is)
    ∙ ap (is_in (waiting c.self.inside.stock.content c.self.inside.stock.done)) (sym one) ∙ sym c.waits.ensures ∙ c.if-not-waits.true in
    sym (ap (λ (x : Told × Build). with_works x.1 c.args.self.now) (put_unasked c.args.self.now.works (work_in c.self.inside) open_is c.args.expanded.value.obj c.args.expanded.value.notes out))

pub put_asked-requires-clause-waits : goal.put_asked-requires-clause-waits
put_asked-requires-clause-waits c =
    let open_is : c.args.self.now.works.work ≡ Some (work_in c.self.inside) = ap (λ (b : Built). b.works.work) (sym c.self.view_is) ∙ ap (λ o. cond o (Some (work_in c.self.inside)) None) c.if-not-self.false in
    let one : c.obj.result.now ≡ c.args.expanded.value.obj = c.obj.ensures ∙ ap (λ (e : Expansion). e.obj) c.deref.ensures in
    waits_open c.args.self.now.works (work_in c.self.inside) open_is c.args.expanded.value.obj c.args.expanded.value.notes
    ∙ ap (λ (b : Built). is_in (waiting b.works.content c.self.inside.stock.done) c.args.expanded.value.obj) (sym c.self.view_is)
    ∙ ap (is_in (waiting c.self.inside.stock.content c.self.inside.stock.done)) (sym one) ∙ sym c.waits.ensures ∙ c.if-not-waits.false

pub returns-clause-asked : goal.returns-clause-asked
returns-clause-asked c =
    let open_is : c.args.self.now.works.work ≡ Some (work_in c.self.inside) = ap (λ (b : Built). b.works.work) (sym c.self.view_is) ∙ ap (λ o. cond o (Some (work_in c.self.inside)) None) c.if-not-self.false in
    let one : c.obj.result.now ≡ c.args.expanded.value.obj = c.obj.ensures ∙ ap (λ (e : Expansion). e.obj) c.deref.ensures in
    on_err c.put_asked.result (waits_open c.args.self.now.works (work_in c.self.inside) open_is c.args.expanded.value.obj c.args.expanded.value.notes
    ∙ ap (λ (b : Built). is_in (waiting b.works.content c.self.inside.stock.done) c.args.expanded.value.obj) (sym c.self.view_is)
    ∙ ap (is_in (waiting c.self.inside.stock.content c.self.inside.stock.done)) (sym one) ∙ sym c.waits.ensures ∙ c.if-not-waits.false)
