use Rattle.std.proofs.Common.{subst, ◌≡◌, map}
use Rattle.std.specs.Prelude.{Some}
use Rattle.dup_model.specs.Commits.{Commit}
use Rattle.dup_feed.specs.Feed.{change_of}
use Rattle.dup_feed.specs.Message.{change_data}
use Rattle.dup_feed.proofs.Again.{commit_again}
use Rattle.dup_feed.proofs.writing.commit_value.Goals as goal

pub returns-clause-said : goal.returns-clause-said
returns-clause-said c =
    commit_again c.args.commit.now c.changes.ensures.length
    (subst (λ (es : Commit). map change_of (map change_data es) ≡ map Some es) c.changes.ensures.value c.in_ok-changes.ensures.said)
