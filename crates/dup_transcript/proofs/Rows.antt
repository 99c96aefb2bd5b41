-- The worked examples, computed.
use Rattle.std.proofs.Common.{◌≡◌, List, true, refl}
use Rattle.dup_template.specs.SameBody.{same_body}
use Rattle.dup_template.specs.SameStatement.{body-Decides}
use Rattle.dup_template.specs.declared.statement.Statement.{Statement}
use Rattle.dup_template.specs.Good.{IsGood}
use Rattle.dup_transcript.specs.NextRows.{chain}
use Rattle.dup_transcript.specs.MedalRows.{medal_site}
use Rattle.dup_transcript.specs.ResultsRows.{results, EventPageRow, SecondResultRow, RefusalRows}
use Rattle.dup_model.proofs.SiteRules.{rule-Say, rule-Field, rule-Each, rule-Embed, rule-Link}
use Rattle.dup_model.proofs.Folds.{fold-Say, fold-Field, fold-Each, fold-Embed, fold-Link}
use Rattle.dup_model.proofs.Equations.{marks-Say, marks-Field, marks-Each, marks-Embed}

pub body_itself : (body : List Statement) → same_body body body ≡ true
body_itself body = (body-Decides body body).1 refl

pub results_good : IsGood results
results_good = simp (fold-Say, fold-Field, fold-Each, fold-Embed, rule-Say, rule-Field, rule-Each, rule-Embed) refl

pub chain_good : IsGood chain
chain_good = simp (fold-Say, fold-Field, fold-Link, rule-Say, rule-Field, rule-Link) refl

pub medal_good : IsGood medal_site
medal_good = simp (fold-Say, fold-Field, fold-Each, fold-Embed, rule-Say, rule-Field, rule-Each, rule-Embed) refl

pub event_page_row : EventPageRow
event_page_row = record {
  tables = refl;
  title = refl;
  no_title = refl;
  no_row = refl;
  group = refl;
  notes = simp (marks-Say, marks-Field, marks-Each, marks-Embed) refl;
  skeleton = simp (marks-Say, marks-Field, marks-Each, marks-Embed) refl;
  uses = simp (marks-Say, marks-Field, marks-Each, marks-Embed) refl;
  look = simp (marks-Say, marks-Field, marks-Each, marks-Embed) refl;
  pages = refl;
  target = simp (marks-Say, marks-Field, marks-Each, marks-Embed) refl;
  live = simp (marks-Say, marks-Field, marks-Each, marks-Embed) refl;
}

pub second_result_row : SecondResultRow
second_result_row = record {
  expanded = simp (marks-Say, marks-Field, marks-Each, marks-Embed, body_itself) refl;
  joined = simp (marks-Say, marks-Field, marks-Each, marks-Embed, body_itself) refl;
}

pub refusal_rows : RefusalRows
refusal_rows = record { no_row = refl; unknown_kind = refl; unknown_field = refl; kind_full = refl; journal_full = refl }
