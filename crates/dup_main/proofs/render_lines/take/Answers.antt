use Rattle.dup_main.proofs.render_lines.take.Goals as goal

pub returns-in-Commit-clause-takes : goal.returns-in-Commit-clause-takes
returns-in-Commit-clause-takes c = rw c.in-Commit.is c.take_commit.ensures.takes
