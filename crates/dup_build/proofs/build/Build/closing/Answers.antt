use Rattle.std.proofs.Common.{◌≡◌, ◌<◌, Bool, cond, [], Some, None, length, sym, ap, ◌∙◌, arith}
use Rattle.dup_machine.specs.World.{Ended}
use Rattle.dup_machine.specs.Builds.{Build}
use Rattle.dup_model.specs.Found.{waiting}
use Rattle.dup_machine.specs.Works.{unjoined}
use Rattle.dup_build.specs.Build.{work_in}
use Rattle.dup_build.specs.Built.{Built, closed, finished, unjoined_by, waiting_by}
use Rattle.dup_build.proofs.Builds.{finished_open, some_wait, some_unjoined, no_one}
use Rattle.dup_build.proofs.Failing.{on_err}
use Rattle.std.specs.Prelude.{is_some}
use Rattle.dup_build.proofs.build.Build.closing.Goals as goal

pub returns-then-waiting-gt0-clause-told : goal.returns-then-waiting-gt0-clause-told
returns-then-waiting-gt0-clause-told c =
    let work_is : c.args.self.now.works.work ≡ Some (work_in c.self.inside) = ap (λ (b : Built). b.works.work) (sym c.self.view_is) ∙ ap (λ (o : Bool). cond o (Some (work_in c.self.inside)) None) c.if-not-self.false in
    let count : c.waiting-waiting.result ≡ length (waiting c.args.self.now.works.content c.self.inside.stock.done) =
    c.waiting-waiting.ensures ∙ ap (λ (b : Built). length (waiting b.works.content c.self.inside.stock.done)) c.self.view_is in
    let some : 0 < length (waiting c.args.self.now.works.content c.self.inside.stock.done) = omega (arith, count, c.if-waiting-gt0.true) in
    let step : finished c.args.self.now.works ≡ (Ended.Waiting (length (waiting c.args.self.now.works.content c.self.inside.stock.done)), c.args.self.now.works) =
    finished_open c.args.self.now.works (work_in c.self.inside) work_is
    ∙ some_wait c.args.self.now.works (work_in c.self.inside) (waiting c.args.self.now.works.content c.self.inside.stock.done) (unjoined c.args.self.now.works.content (work_in c.self.inside)) some in
    ap Ended.Waiting count ∙ sym (ap (λ (x : Ended × Build). x.0) step)

pub returns-then-waiting-gt0-clause-unclosed : goal.returns-then-waiting-gt0-clause-unclosed
returns-then-waiting-gt0-clause-unclosed c =
    let work_is : c.args.self.now.works.work ≡ Some (work_in c.self.inside) = ap (λ (b : Built). b.works.work) (sym c.self.view_is) ∙ ap (λ (o : Bool). cond o (Some (work_in c.self.inside)) None) c.if-not-self.false in
    let count : c.waiting-waiting.result ≡ length (waiting c.args.self.now.works.content c.self.inside.stock.done) =
    c.waiting-waiting.ensures ∙ ap (λ (b : Built). length (waiting b.works.content c.self.inside.stock.done)) c.self.view_is in
    let some : 0 < length (waiting c.args.self.now.works.content c.self.inside.stock.done) = omega (arith, count, c.if-waiting-gt0.true) in
    let step : finished c.args.self.now.works ≡ (Ended.Waiting (length (waiting c.args.self.now.works.content c.self.inside.stock.done)), c.args.self.now.works) =
    finished_open c.args.self.now.works (work_in c.self.inside) work_is
    ∙ some_wait c.args.self.now.works (work_in c.self.inside) (waiting c.args.self.now.works.content c.self.inside.stock.done) (unjoined c.args.self.now.works.content (work_in c.self.inside)) some in
    (tt, ap (λ (x : Ended × Build). closed x c.args.self.now) step)

pub returns-then-unjoined-gt0-clause-told : goal.returns-then-unjoined-gt0-clause-told
returns-then-unjoined-gt0-clause-told c =
    let work_is : c.args.self.now.works.work ≡ Some (work_in c.self.inside) = ap (λ (b : Built). b.works.work) (sym c.self.view_is) ∙ ap (λ (o : Bool). cond o (Some (work_in c.self.inside)) None) c.if-not-self.false in
    let count : c.waiting-waiting.result ≡ length (waiting c.args.self.now.works.content c.self.inside.stock.done) =
    c.waiting-waiting.ensures ∙ ap (λ (b : Built). length (waiting b.works.content c.self.inside.stock.done)) c.self.view_is in
    let left : c.unjoined-unjoined.result ≡ length (unjoined c.args.self.now.works.content (work_in c.self.inside)) =
    c.unjoined-unjoined.ensures ∙ ap (λ (b : Built). length (unjoined b.works.content (work_in c.self.inside))) c.self.view_is in
    let some : 0 < length (unjoined c.args.self.now.works.content (work_in c.self.inside)) = omega (arith, left, c.if-unjoined-gt0.true) in
    let none : waiting c.args.self.now.works.content c.self.inside.stock.done ≡ [] = no_one (waiting c.args.self.now.works.content c.self.inside.stock.done) (omega (arith, count, c.if-waiting-gt0.false)) in
    let step : finished c.args.self.now.works ≡ (Ended.Unjoined (length (unjoined c.args.self.now.works.content (work_in c.self.inside))), c.args.self.now.works) =
    finished_open c.args.self.now.works (work_in c.self.inside) work_is
    ∙ some_unjoined c.args.self.now.works (work_in c.self.inside) (waiting c.args.self.now.works.content c.self.inside.stock.done) (unjoined c.args.self.now.works.content (work_in c.self.inside)) none some in
    ap Ended.Unjoined left ∙ sym (ap (λ (x : Ended × Build). x.0) step)

pub returns-then-unjoined-gt0-clause-unclosed : goal.returns-then-unjoined-gt0-clause-unclosed
returns-then-unjoined-gt0-clause-unclosed c =
    let work_is : c.args.self.now.works.work ≡ Some (work_in c.self.inside) = ap (λ (b : Built). b.works.work) (sym c.self.view_is) ∙ ap (λ (o : Bool). cond o (Some (work_in c.self.inside)) None) c.if-not-self.false in
    let count : c.waiting-waiting.result ≡ length (waiting c.args.self.now.works.content c.self.inside.stock.done) =
    c.waiting-waiting.ensures ∙ ap (λ (b : Built). length (waiting b.works.content c.self.inside.stock.done)) c.self.view_is in
    let left : c.unjoined-unjoined.result ≡ length (unjoined c.args.self.now.works.content (work_in c.self.inside)) =
    c.unjoined-unjoined.ensures ∙ ap (λ (b : Built). length (unjoined b.works.content (work_in c.self.inside))) c.self.view_is in
    let some : 0 < length (unjoined c.args.self.now.works.content (work_in c.self.inside)) = omega (arith, left, c.if-unjoined-gt0.true) in
    let none : waiting c.args.self.now.works.content c.self.inside.stock.done ≡ [] = no_one (waiting c.args.self.now.works.content c.self.inside.stock.done) (omega (arith, count, c.if-waiting-gt0.false)) in
    let step : finished c.args.self.now.works ≡ (Ended.Unjoined (length (unjoined c.args.self.now.works.content (work_in c.self.inside))), c.args.self.now.works) =
    finished_open c.args.self.now.works (work_in c.self.inside) work_is
    ∙ some_unjoined c.args.self.now.works (work_in c.self.inside) (waiting c.args.self.now.works.content c.self.inside.stock.done) (unjoined c.args.self.now.works.content (work_in c.self.inside)) none some in
    (tt, ap (λ (x : Ended × Build). closed x c.args.self.now) step)

pub returns-in_err-closing-clause-memory : goal.returns-in_err-closing-clause-memory
returns-in_err-closing-clause-memory c =
    let work_is : c.args.self.now.works.work ≡ Some (work_in c.self.inside) = ap (λ (b : Built). b.works.work) (sym c.self.view_is) ∙ ap (λ (o : Bool). cond o (Some (work_in c.self.inside)) None) c.if-not-self.false in
    let count : c.waiting-waiting.result ≡ length (waiting c.args.self.now.works.content c.self.inside.stock.done) =
    c.waiting-waiting.ensures ∙ ap (λ (b : Built). length (waiting b.works.content c.self.inside.stock.done)) c.self.view_is in
    let left : c.unjoined-unjoined.result ≡ length (unjoined c.args.self.now.works.content (work_in c.self.inside)) =
    c.unjoined-unjoined.ensures ∙ ap (λ (b : Built). length (unjoined b.works.content (work_in c.self.inside))) c.self.view_is in
    on_err c.from_residual.result (record {
      busy = ap is_some work_is;
      calm = ap (waiting_by c.args.self.now.works.content) work_is ∙ no_one (waiting c.args.self.now.works.content c.self.inside.stock.done) (omega (arith, count, c.if-waiting-gt0.false));
      joined = ap (unjoined_by c.args.self.now.works.content) work_is ∙ no_one (unjoined c.args.self.now.works.content (work_in c.self.inside)) (omega (arith, left, c.if-unjoined-gt0.false));
    })
