use Rattle.std.proofs.Common.{◌≡◌, ap, ◌∙◌, sym, subst, IfOk}
use Rattle.std.specs.List.{AllZip}
use Rattle.rayon.proofs.ToStd.{slice-AllZip}
use Rattle.dup_names.specs.declared.value.Look.{Look}
use Rattle.dup_join.specs.declared.joining.JoinJob.{JoinJob}
use Rattle.dup_join.specs.Jobs.{look_of}
use Rattle.dup_join.proofs.Looks.{oks, ok_then, all_same}
use Rattle.dup_join.proofs.joining.join_level.Goals as goal

pub returns : goal.returns
returns g c =
    let slice = ap (λ it. it.slice.now) c.map.ensures.base ∙ c.par_iter.ensures in
    let h = c.in_ok-looks.ensures in
    let chain = h.1 in
    let each = slice-AllZip chain.0 c.args.jobs.now (chain.1 ∙ slice) (λ j r. IfOk r (λ v. v ≡ look_of j)) h.0 chain.2 in
    let R = λ (j : JoinJob) (l : Look). l ≡ look_of j in
    ok_then c.in_ok-looks.looks _ _ _ h.2 (λ v k. k.2 ∙ all_same look_of c.args.jobs.now k.0 (oks _ R c.args.jobs.now k.0 (subst (AllZip (λ j r. IfOk r (R j)) c.args.jobs.now) k.1 each)))
