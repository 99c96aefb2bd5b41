use Rattle.std.proofs.Common.{sym, subst}
use Rattle.std.proofs.lemmas.Result.{IfOk-weaker}
use Rattle.dup_model.specs.GoodSites.{IsGoodContent}
use Rattle.dup_model.proofs.GoodVersions.{after_good_content}
use Rattle.dup_records.specs.JournalSizes.{limits_of}
use Rattle.dup_main.proofs.TakenCommits.{are_usual, takes_full}
use Rattle.dup_main.proofs.render_lines.take_commit.Goals as goal

pub returns-in-Ok-clause-good : goal.returns-in-Ok-clause-good
returns-in-Ok-clause-good c = λ good.
    subst IsGoodContent (sym c.in-Ok.ensures.after)
    (after_good_content c.args.taken.now.content c.args.commit.now c.default-limits.result.rows good c.in-Ok.ensures.fits)

pub returns-in_default-clause-takes : goal.returns-in_default-clause-takes
returns-in_default-clause-takes c =
    IfOk-weaker c.refusal_text.result _ _
    (λ text says. takes_full (limits_of c.default-limits.result) c.args.taken.now c.args.commit.now text.items (are_usual c.default-limits.result c.default-limits.ensures)
    (c.with.ensures.full c.in_default.is) says)
    c.refusal_text.ensures
