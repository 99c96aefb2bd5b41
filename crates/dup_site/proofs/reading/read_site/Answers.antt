use Rattle.std.proofs.Common.{ap, sym, ◌∙◌}
use Rattle.std.specs.Prelude.{Ok}
use Rattle.dup_template.specs.Good.{site_fault}
use Rattle.dup_site.specs.Reads.{if_said, unless_broken}
use Rattle.dup_site.proofs.KeptBreaksSame.{kept_fault, kept_good}
use Rattle.dup_site.proofs.reading.read_site.Goals as goal

pub returns-in-Ok : goal.returns-in-Ok
returns-in-Ok c =
    let kept = c.in_ok-parts.ensures in
    let site = c.in-Ok.ensures.value in
    let all = kept_good c.in_ok-parts.parts kept.0 kept.2 (sym c.in-Ok.ensures.fault) in
    ap if_said (kept.1 ∙ ap Ok (sym (site ∙ all))) ∙ ap (unless_broken _) (ap site_fault site ∙ sym c.in-Ok.ensures.fault)

pub returns-in-Err : goal.returns-in-Err
returns-in-Err c =
    let kept = c.in_ok-parts.ensures in
    ap if_said kept.1 ∙ ap (unless_broken kept.0) (sym (kept_fault c.in_ok-parts.parts kept.0 kept.2) ∙ sym c.in-Err.ensures.fault)
