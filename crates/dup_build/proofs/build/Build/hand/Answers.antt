use Rattle.std.proofs.Common.{◌≡◌, cond, Option, Some, None, sym, ap, ◌∙◌}
use Rattle.std.specs.Prelude.{is_some}
use Rattle.dup_names.specs.declared.object.Obj.{Obj}
use Rattle.dup_machine.specs.Builds.{Build}
use Rattle.dup_machine.specs.World.{Work}
use Rattle.dup_model.specs.Found.{waiting}
use Rattle.dup_machine.specs.Works.{next_of}
use Rattle.dup_build.specs.Built.{Built, with_works}
use Rattle.dup_build.specs.Build.{as_built, work_in, works_in}
use Rattle.dup_build.proofs.Builds.{handed_next}
use Rattle.dup_build.proofs.Failing.{on_err}
use Rattle.dup_build.proofs.build.Build.hand.Goals as goal

pub returns-in_default-clause-obj : goal.returns-in_default-clause-obj
returns-in_default-clause-obj c =
    let open_is : c.args.self.now.works.work ≡ Some (work_in c.self.inside) = ap (λ (b : Built). b.works.work) (sym c.self.view_is) ∙ ap (λ o. cond o (Some (work_in c.self.inside)) None) c.if-not-self.false in
    let next : next_of c.self.inside.last_handed (waiting c.args.self.now.works.content c.self.inside.stock.done) ≡ None =
    ap (λ (b : Built). next_of c.self.inside.last_handed (waiting b.works.content c.self.inside.stock.done)) (sym c.self.view_is) ∙ sym c.next.ensures.value ∙ c.in_default.is in
    sym (ap (λ (r : Option Obj × Build). r.0) (handed_next c.args.self.now.works (work_in c.self.inside) open_is None next))

pub returns-in_default-clause-build : goal.returns-in_default-clause-build
returns-in_default-clause-build c =
    let open_is : c.args.self.now.works.work ≡ Some (work_in c.self.inside) = ap (λ (b : Built). b.works.work) (sym c.self.view_is) ∙ ap (λ o. cond o (Some (work_in c.self.inside)) None) c.if-not-self.false in
    let next : next_of c.self.inside.last_handed (waiting c.args.self.now.works.content c.self.inside.stock.done) ≡ None =
    ap (λ (b : Built). next_of c.self.inside.last_handed (waiting b.works.content c.self.inside.stock.done)) (sym c.self.view_is) ∙ sym c.next.ensures.value ∙ c.in_default.is in
    sym (ap (λ (r : Option Obj × Build). with_works r.1 c.args.self.now) (handed_next c.args.self.now.works (work_in c.self.inside) open_is None next))

pub returns-clause-obj : goal.returns-clause-obj
returns-clause-obj c =
    let open_is : c.args.self.now.works.work ≡ Some (work_in c.self.inside) = ap (λ (b : Built). b.works.work) (sym c.self.view_is) ∙ ap (λ o. cond o (Some (work_in c.self.inside)) None) c.if-not-self.false in
    let next : next_of c.self.inside.last_handed (waiting c.args.self.now.works.content c.self.inside.stock.done) ≡ Some c.in-Some.obj =
    ap (λ (b : Built). next_of c.self.inside.last_handed (waiting b.works.content c.self.inside.stock.done)) (sym c.self.view_is) ∙ sym c.next.ensures.value ∙ c.in-Some.is in
    ap Some c.in_ok-job.ensures.obj ∙ sym (ap (λ (r : Option Obj × Build). r.0) (handed_next c.args.self.now.works (work_in c.self.inside) open_is (Some c.in-Some.obj) next))

pub returns-clause-build : goal.returns-clause-build
returns-clause-build c =
    let open_is : c.args.self.now.works.work ≡ Some (work_in c.self.inside) = ap (λ (b : Built). b.works.work) (sym c.self.view_is) ∙ ap (λ o. cond o (Some (work_in c.self.inside)) None) c.if-not-self.false in
    let next : next_of c.self.inside.last_handed (waiting c.args.self.now.works.content c.self.inside.stock.done) ≡ Some c.in-Some.obj =
    ap (λ (b : Built). next_of c.self.inside.last_handed (waiting b.works.content c.self.inside.stock.done)) (sym c.self.view_is) ∙ sym c.next.ensures.value ∙ c.in-Some.is in
    let after : Work = record (work_in c.self.inside) { last_handed = Some c.in-Some.obj } in
    ap (λ o. let v : Built = record { works = record (works_in c.self.inside) { work = cond o (Some after) None }; pages = (as_built c.self.inside).pages } in v) c.if-not-self.false
    ∙ ap (λ (b : Built). let v : Built = record { works = record b.works { work = Some after }; pages = b.pages } in v) c.self.view_is
    ∙ sym (ap (λ (r : Option Obj × Build). with_works r.1 c.args.self.now) (handed_next c.args.self.now.works (work_in c.self.inside) open_is (Some c.in-Some.obj) next))

pub returns-in_err-job-clause-memory : goal.returns-in_err-job-clause-memory
returns-in_err-job-clause-memory c =
    let open_is : c.args.self.now.works.work ≡ Some (work_in c.self.inside) = ap (λ (b : Built). b.works.work) (sym c.self.view_is) ∙ ap (λ o. cond o (Some (work_in c.self.inside)) None) c.if-not-self.false in
    let next : next_of c.self.inside.last_handed (waiting c.args.self.now.works.content c.self.inside.stock.done) ≡ Some c.in-Some.obj =
    ap (λ (b : Built). next_of c.self.inside.last_handed (waiting b.works.content c.self.inside.stock.done)) (sym c.self.view_is) ∙ sym c.next.ensures.value ∙ c.in-Some.is in
    on_err c.from_residual.result (ap (λ (r : Option Obj × Build). is_some r.0) (handed_next c.args.self.now.works (work_in c.self.inside) open_is (Some c.in-Some.obj) next))
