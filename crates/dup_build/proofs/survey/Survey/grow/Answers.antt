use Rattle.std.proofs.Common.{◌≡◌, ap, ◌∙◌}
use Rattle.dup_names.specs.Objects.{is_in}
use Rattle.dup_model.specs.Touched.{without}
use Rattle.dup_sets.proofs.Sets.{all_back}
use Rattle.dup_build.proofs.survey.Survey.grow.Goals as goal

pub returns-clause-err : goal.returns-clause-err
returns-clause-err c =
    let back : c.remove_all.new.self ≡ c.args.self.now.waiting =
    c.remove_all.ensures ∙ ap (without (is_in c.args.waiting.now)) c.in_ok-add_all.ensures.ok ∙ all_back c.args.waiting.now c.args.self.now.waiting c.len.ensures.rising c.requires.waiting in
    λ i. record { pages = c.args.self.now.pages; waiting = back i; unjoined = c.in-Err.ensures.err i; loose = c.args.self.now.loose }
