use Rattle.std.proofs.Common.{◌≤◌, ◌∙◌, ap, sym, subst}
use Rattle.std.specs.Prelude.{Some}
use Rattle.serde_json.specs.Data.{Data, depth}
use Rattle.serde_json.specs.Read.{max_depth}
use Rattle.serde_json.specs.Written.{compact_text, has_float}
use Rattle.dup_feed.proofs.Again.{text_again}
use Rattle.dup_feed.proofs.Values.{commit_plain, commit_shallow}
use Rattle.dup_feed.proofs.writing.commit_text.Goals as goal

pub returns-clause-text : goal.returns-clause-text
returns-clause-text c =
    let is = c.in_ok-value.ensures.value in
    c.in_ok-text.ensures.text (ap has_float is ∙ commit_plain c.args.commit.now) ∙ ap compact_text is

pub returns-clause-again : goal.returns-clause-again
returns-clause-again c =
    let is = c.in_ok-value.ensures.value in
    text_again c.in_ok-text.text.items c.args.commit.now c.in_ok-text.ensures.utf8
    (c.in_ok-text.ensures.reads_back (subst (λ (d : Data). depth d ≤ max_depth) (sym is) (commit_shallow c.args.commit.now)) ∙ ap Some is)
    c.in_ok-value.ensures.said
