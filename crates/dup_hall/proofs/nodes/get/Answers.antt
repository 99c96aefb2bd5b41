use Rattle.std.proofs.Common.{ap, refl, sym}
use Rattle.std.specs.Prelude.{is_some}
use Rattle.std.proofs.lemmas.Result.{IfOk-weaker}
use Rattle.dup_script.specs.Answers.{said_text}
use Rattle.dup_hall.proofs.Caches.{get_fails, holds_with, none_gets, one_gets}
use Rattle.dup_hall.proofs.nodes.get.Goals as goal

pub returns-in-Some-clause-holds : goal.returns-in-Some-clause-holds
returns-in-Some-clause-holds c =
    let after = c.serve.new.node in
    let puts = (c.get_mut.follows.holds after).3 (ap is_some (sym c.in-Some.ensures.value)) in
    holds_with c.args.edition.now.log c.args.nodes.now (c.get_mut.follows.lender after) c.args.number after c.requires puts c.serve.ensures.holds

pub returns-in-Some-clause-turns : goal.returns-in-Some-clause-turns
returns-in-Some-clause-turns c =
    let after = c.serve.new.node in
    let puts = (c.get_mut.follows.holds after).3 (ap is_some (sym c.in-Some.ensures.value)) in
    IfOk-weaker c.serve.result _ _
    (λ said serves. one_gets c.args.edition.now.log c.args.nodes.now (c.get_mut.follows.lender after) c.args.number (said_text said) c.in-Some.node.now after (sym c.in-Some.ensures.value) puts
    c.args.pass c.args.path.now serves)
    c.serve.ensures.serves

pub returns-in-None-clause-turns : goal.returns-in-None-clause-turns
returns-in-None-clause-turns c =
    none_gets c.args.edition.now.log c.args.nodes.now c.get_mut.follows.lender-at-none c.args.number _ (sym c.in-None.ensures.value)
    (ap (λ m. m.entries) c.get_mut.follows.holds-at-none) refl c.args.pass c.args.path.now

pub returns-in-Some-clause-err : goal.returns-in-Some-clause-err
returns-in-Some-clause-err c =
    let after = c.serve.new.node in
    let puts = (c.get_mut.follows.holds after).3 (ap is_some (sym c.in-Some.ensures.value)) in
    get_fails c.serve.result c.args.edition.now.log c.args.nodes.now (c.get_mut.follows.lender after) c.args.number c.in-Some.node.now after c.args.pass c.args.path.now (sym c.in-Some.ensures.value) puts c.serve.ensures.err
