use Rattle.std.proofs.Common.{◌≡◌, List, ℕ, ◌++◌, ap, ◌∙◌, subst}
use Rattle.std.proofs.lemmas.Result.{on_ok_weaker, on_err_weaker}
use Rattle.std.proofs.KnownBytes.{Appends-trans}
use Rattle.std.specs.Io.KnownBytes.{Appends}
use Rattle.dup_io.specs.Causes.{AppendsPrefix}
use Rattle.dup_http.specs.Replies.{reply_head}
use Rattle.dup_serve.specs.Sent.{body_for}
use Rattle.dup_serve.proofs.TwoTexts.{first_cut, second_cut, at_err}
use Rattle.dup_serve.proofs.sending.send.Goals as goal

pub returns-in_err-put_all-clause-part : goal.returns-in_err-put_all-clause-part
returns-in_err-put_all-clause-part g c =
    let a = g.K.Sink.written c.args.line.now in
    let b = g.K.Sink.written c.put_all.new.sink in
    let head = reply_head c.args.answer.now in
    let is : c.as_slice.result.now ≡ head = c.as_slice.ensures.value ∙ c.in-Ok.ensures.ok ∙ ap (λ (xs : List ℕ). xs ++ head) c.requires.empty in
    at_err c.from_residual.result _ c.from_residual.ensures.1
    (first_cut a b head (body_for c.args.method c.args.body.now) (subst (AppendsPrefix a b) is c.in_err-put_all.ensures.part))

pub returns-clause-all : goal.returns-clause-all
returns-clause-all g c =
    let a = g.K.Sink.written c.args.line.now in
    let b = g.K.Sink.written c.put_all.new.sink in
    let d = g.K.Sink.written c.put_all-2.new.sink in
    let head = reply_head c.args.answer.now in
    let is : c.as_slice.result.now ≡ head = c.as_slice.ensures.value ∙ c.in-Ok.ensures.ok ∙ ap (λ (xs : List ℕ). xs ++ head) c.requires.empty in
    let first : Appends a b head = subst (Appends a b) is c.in_ok-put_all.ensures.all in
    on_ok_weaker c.put_all-2.result (λ all. Appends-trans a b d _ _ first (subst (Appends b d) c.body_for.ensures all)) c.put_all-2.ensures.all

pub returns-clause-part : goal.returns-clause-part
returns-clause-part g c =
    let a = g.K.Sink.written c.args.line.now in
    let b = g.K.Sink.written c.put_all.new.sink in
    let d = g.K.Sink.written c.put_all-2.new.sink in
    let head = reply_head c.args.answer.now in
    let is : c.as_slice.result.now ≡ head = c.as_slice.ensures.value ∙ c.in-Ok.ensures.ok ∙ ap (λ (xs : List ℕ). xs ++ head) c.requires.empty in
    let first : Appends a b head = subst (Appends a b) is c.in_ok-put_all.ensures.all in
    on_err_weaker c.put_all-2.result
    (λ part. second_cut a b d head (body_for c.args.method c.args.body.now) first (subst (AppendsPrefix b d) c.body_for.ensures part)) c.put_all-2.ensures.part
