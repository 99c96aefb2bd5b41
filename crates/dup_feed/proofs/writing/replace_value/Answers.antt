use Rattle.std.proofs.Common.{subst, ◌≡◌, ◌∙◌, List, map}
use Rattle.std.specs.Prelude.{Some}
use Rattle.serde_json.specs.Data.{string}
use Rattle.serde_json.specs.View.{items_of}
use Rattle.dup_names.specs.Words.{Word}
use Rattle.dup_site.specs.SaidBody.{body_said}
use Rattle.dup_template.specs.BodyLines.{body_text}
use Rattle.dup_feed.specs.Feed.{lines_of}
use Rattle.dup_feed.proofs.Again.{replace_again}
use Rattle.dup_feed.proofs.writing.replace_value.Goals as goal

pub returns-clause-said : goal.returns-clause-said
returns-clause-said c =
    let body = c.args.body.now in
    let lines : c.deref.result.now ≡ body_text body = c.deref.ensures.value ∙ c.in_ok-lines.ensures.lines in
    replace_again c.args.template.now body c.name_str.ensures.valid
    (subst (λ (ws : List Word). lines_of (items_of (map string ws)) ≡ Some ws) lines c.in_ok-lines-2.ensures.said)
    (subst (λ (ws : List Word). body_said ws ≡ Some body) c.in_ok-lines.ensures.lines c.in_ok-lines.ensures.again)
