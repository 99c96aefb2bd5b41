use Rattle.std.proofs.Common.{◌≡◌, ◌∙◌, ap, refl, subst, List}
use Rattle.std.proofs.lemmas.Result.{IfOk-weaker}
use Rattle.dup_edition.specs.Logged.{Logged}
use Rattle.dup_model.specs.Editions.{Bundle}
use Rattle.dup_node.specs.Replies.{IsAnswered}
use Rattle.dup_script.specs.Answers.{said_text}
use Rattle.dup_hall.proofs.Caches.{serve_fails, serves_by}
use Rattle.dup_hall.proofs.nodes.serve.Goals as goal

pub returns-clause-serves : goal.returns-clause-serves
returns-clause-serves c =
    let same : c.serve.new.window.log ≡ c.args.edition.now.log = c.serve.ensures.narrows c.serve.new.window.log refl ∙ ap (λ (w : Logged). w.log) c.new-window.ensures in
    let given : IsAnswered c.args.node.now c.args.edition.now.log c.args.pass c.args.path.now c.in_ok-reply.reply c.serve.new.self =
    subst (λ (log : List Bundle). IsAnswered c.args.node.now log c.args.pass c.args.path.now c.in_ok-reply.reply c.serve.new.self) same c.in_ok-reply.ensures.reply in
    IfOk-weaker c.said_of.result _ _
    (λ said says. serves_by c.args.edition.now.log c.args.node.now c.serve.new.self c.args.pass c.args.path.now c.in_ok-reply.reply (said_text said) given says)
    c.said_of.ensures

pub returns-clause-err : goal.returns-clause-err
returns-clause-err c =
    let same : c.serve.new.window.log ≡ c.args.edition.now.log = c.serve.ensures.narrows c.serve.new.window.log refl ∙ ap (λ (w : Logged). w.log) c.new-window.ensures in
    serve_fails c.said_of.result c.args.edition.now.log c.args.node.now c.serve.new.self c.args.pass c.args.path.now c.in_ok-reply.reply
    (subst (λ (log : List Bundle). IsAnswered c.args.node.now log c.args.pass c.args.path.now c.in_ok-reply.reply c.serve.new.self) same c.in_ok-reply.ensures.reply)
