use Rattle.std.proofs.Common.{◌≡◌, ◌<◌, Bool, cond, [], Some, None, length, sym, ap, ◌∙◌, arith}
use Rattle.dup_machine.specs.Builds.{Build}
use Rattle.dup_machine.specs.World.{Joined}
use Rattle.dup_model.specs.Found.{waiting}
use Rattle.dup_machine.specs.Works.{level, unjoined}
use Rattle.dup_build.specs.Build.{work_in}
use Rattle.dup_build.specs.Built.{Built, joins, with_works}
use Rattle.dup_build.proofs.Builds.{joins_open, join_waits, join_done, no_one}
use Rattle.dup_build.proofs.build.Build.join.Goals as goal

pub returns-then-waiting-gt0-clause-told : goal.returns-then-waiting-gt0-clause-told
returns-then-waiting-gt0-clause-told g c =
    let open_is : c.args.self.now.works.work ≡ Some (work_in c.self.inside) = ap (λ (b : Built). b.works.work) (sym c.self.view_is) ∙ ap (λ (o : Bool). cond o (Some (work_in c.self.inside)) None) c.if-not-self.false in
    let count : c.waiting-waiting.result ≡ length (waiting c.args.self.now.works.content c.self.inside.stock.done) =
    c.waiting-waiting.ensures ∙ ap (λ (b : Built). length (waiting b.works.content c.self.inside.stock.done)) c.self.view_is in
    let some : 0 < length (waiting c.args.self.now.works.content c.self.inside.stock.done) = omega (arith, count, c.if-waiting-gt0.true) in
    let step : joins c.args.self.now.works ≡ (Joined.Waiting (length (waiting c.args.self.now.works.content c.self.inside.stock.done)), c.args.self.now.works) =
    joins_open c.args.self.now.works (work_in c.self.inside) open_is
    ∙ join_waits c.args.self.now.works (work_in c.self.inside) (waiting c.args.self.now.works.content c.self.inside.stock.done) (unjoined c.args.self.now.works.content (work_in c.self.inside)) (level c.args.self.now.works.content (work_in c.self.inside)) some in
    ap Joined.Waiting count ∙ sym (ap (λ (x : Joined × Build). x.0) step)

pub returns-then-waiting-gt0-clause-build : goal.returns-then-waiting-gt0-clause-build
returns-then-waiting-gt0-clause-build g c =
    let open_is : c.args.self.now.works.work ≡ Some (work_in c.self.inside) = ap (λ (b : Built). b.works.work) (sym c.self.view_is) ∙ ap (λ (o : Bool). cond o (Some (work_in c.self.inside)) None) c.if-not-self.false in
    let count : c.waiting-waiting.result ≡ length (waiting c.args.self.now.works.content c.self.inside.stock.done) =
    c.waiting-waiting.ensures ∙ ap (λ (b : Built). length (waiting b.works.content c.self.inside.stock.done)) c.self.view_is in
    let some : 0 < length (waiting c.args.self.now.works.content c.self.inside.stock.done) = omega (arith, count, c.if-waiting-gt0.true) in
    let step : joins c.args.self.now.works ≡ (Joined.Waiting (length (waiting c.args.self.now.works.content c.self.inside.stock.done)), c.args.self.now.works) =
    joins_open c.args.self.now.works (work_in c.self.inside) open_is
    ∙ join_waits c.args.self.now.works (work_in c.self.inside) (waiting c.args.self.now.works.content c.self.inside.stock.done) (unjoined c.args.self.now.works.content (work_in c.self.inside)) (level c.args.self.now.works.content (work_in c.self.inside)) some in
    sym (ap (λ (x : Joined × Build). with_works x.1 c.args.self.now) step)

pub returns-then-unjoined-eq0-clause-told : goal.returns-then-unjoined-eq0-clause-told
returns-then-unjoined-eq0-clause-told g c =
    let open_is : c.args.self.now.works.work ≡ Some (work_in c.self.inside) = ap (λ (b : Built). b.works.work) (sym c.self.view_is) ∙ ap (λ (o : Bool). cond o (Some (work_in c.self.inside)) None) c.if-not-self.false in
    let count : c.waiting-waiting.result ≡ length (waiting c.args.self.now.works.content c.self.inside.stock.done) =
    c.waiting-waiting.ensures ∙ ap (λ (b : Built). length (waiting b.works.content c.self.inside.stock.done)) c.self.view_is in
    let left : c.unjoined.result ≡ length (unjoined c.args.self.now.works.content (work_in c.self.inside)) =
    c.unjoined.ensures ∙ ap (λ (b : Built). length (unjoined b.works.content (work_in c.self.inside))) c.self.view_is in
    let none : waiting c.args.self.now.works.content c.self.inside.stock.done ≡ [] = no_one (waiting c.args.self.now.works.content c.self.inside.stock.done) (omega (arith, count, c.if-waiting-gt0.false)) in
    let all : unjoined c.args.self.now.works.content (work_in c.self.inside) ≡ [] = no_one (unjoined c.args.self.now.works.content (work_in c.self.inside)) (omega (arith, left, c.if-unjoined-eq0.true)) in
    let step : joins c.args.self.now.works ≡ (Joined.Done, c.args.self.now.works) =
    joins_open c.args.self.now.works (work_in c.self.inside) open_is
    ∙ join_done c.args.self.now.works (work_in c.self.inside) (waiting c.args.self.now.works.content c.self.inside.stock.done) (unjoined c.args.self.now.works.content (work_in c.self.inside)) (level c.args.self.now.works.content (work_in c.self.inside)) none all in
    sym (ap (λ (x : Joined × Build). x.0) step)

pub returns-then-unjoined-eq0-clause-build : goal.returns-then-unjoined-eq0-clause-build
returns-then-unjoined-eq0-clause-build g c =
    let open_is : c.args.self.now.works.work ≡ Some (work_in c.self.inside) = ap (λ (b : Built). b.works.work) (sym c.self.view_is) ∙ ap (λ (o : Bool). cond o (Some (work_in c.self.inside)) None) c.if-not-self.false in
    let count : c.waiting-waiting.result ≡ length (waiting c.args.self.now.works.content c.self.inside.stock.done) =
    c.waiting-waiting.ensures ∙ ap (λ (b : Built). length (waiting b.works.content c.self.inside.stock.done)) c.self.view_is in
    let left : c.unjoined.result ≡ length (unjoined c.args.self.now.works.content (work_in c.self.inside)) =
    c.unjoined.ensures ∙ ap (λ (b : Built). length (unjoined b.works.content (work_in c.self.inside))) c.self.view_is in
    let none : waiting c.args.self.now.works.content c.self.inside.stock.done ≡ [] = no_one (waiting c.args.self.now.works.content c.self.inside.stock.done) (omega (arith, count, c.if-waiting-gt0.false)) in
    let all : unjoined c.args.self.now.works.content (work_in c.self.inside) ≡ [] = no_one (unjoined c.args.self.now.works.content (work_in c.self.inside)) (omega (arith, left, c.if-unjoined-eq0.true)) in
    let step : joins c.args.self.now.works ≡ (Joined.Done, c.args.self.now.works) =
    joins_open c.args.self.now.works (work_in c.self.inside) open_is
    ∙ join_done c.args.self.now.works (work_in c.self.inside) (waiting c.args.self.now.works.content c.self.inside.stock.done) (unjoined c.args.self.now.works.content (work_in c.self.inside)) (level c.args.self.now.works.content (work_in c.self.inside)) none all in
    sym (ap (λ (x : Joined × Build). with_works x.1 c.args.self.now) step)
