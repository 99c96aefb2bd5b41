use Rattle.std.proofs.Common.{sym, ap, ◌∙◌}
use Rattle.std.proofs.lemmas.Bool.{true≢false}
use Rattle.dup_names.specs.Objects.{is_in}
use Rattle.dup_build.specs.Loose.{shown_by}
use Rattle.dup_build.proofs.survey.left_by.Goals as goal

pub returns-then-same : goal.returns-then-same
returns-then-same c o h out = absurd (true≢false (sym h ∙ ap (λ ps. is_in (shown_by ps) o) (c.requires c.if-same.true) ∙ out))
