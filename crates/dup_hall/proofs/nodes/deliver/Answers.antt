use Rattle.std.proofs.Common.{ap, refl, sym}
use Rattle.std.specs.Prelude.{is_some}
use Rattle.std.proofs.lemmas.Result.{IfOk-weaker}
use Rattle.dup_script.specs.Answers.{said_text}
use Rattle.dup_hall.proofs.Caches.{deliver_fails, none_delivers, one_delivers}
use Rattle.dup_hall.proofs.nodes.deliver.Goals as goal

pub returns-in-Some-clause-turns : goal.returns-in-Some-clause-turns
returns-in-Some-clause-turns c =
    let after = c.bring_up.new.node in
    let puts = (c.get_mut.follows.holds after).3 (ap is_some (sym c.in-Some.ensures.value)) in
    IfOk-weaker c.bring_up.result _ _
    (λ said delivers. one_delivers c.args.edition.now.log c.args.nodes.now (c.get_mut.follows.lender after) c.args.number (said_text said) c.in-Some.node.now after (sym c.in-Some.ensures.value) puts delivers)
    c.bring_up.ensures.delivers

pub returns-in-None-clause-turns : goal.returns-in-None-clause-turns
returns-in-None-clause-turns c =
    none_delivers c.args.edition.now.log c.args.nodes.now c.get_mut.follows.lender-at-none c.args.number _ (sym c.in-None.ensures.value)
    (ap (λ m. m.entries) c.get_mut.follows.holds-at-none) refl

pub returns-in-Some-clause-err : goal.returns-in-Some-clause-err
returns-in-Some-clause-err c =
    let after = c.bring_up.new.node in
    let puts = (c.get_mut.follows.holds after).3 (ap is_some (sym c.in-Some.ensures.value)) in
    deliver_fails c.bring_up.result c.args.nodes.now (c.get_mut.follows.lender after) c.args.number c.in-Some.node.now after (sym c.in-Some.ensures.value) puts c.bring_up.ensures.err
