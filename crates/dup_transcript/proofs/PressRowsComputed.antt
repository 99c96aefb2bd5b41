-- The worked example of a page that changes while it is rendered, computed.
use Rattle.std.proofs.Common.{refl}
use Rattle.std.specs.Ordering.{nat_cmp}
use Rattle.std.specs.FinMap as fin
use Rattle.dup_template.specs.Good.{IsGood}
use Rattle.dup_machine.specs.World.{Slot}
use Rattle.dup_transcript.specs.PressRows.{events_site, PressRow}
use Rattle.dup_model.proofs.Folds.{fold-Say, fold-Field}
use Rattle.dup_model.proofs.SiteRules.{rule-Say, rule-Field}
use Rattle.dup_model.proofs.Equations.{marks-Say, marks-Field}
use Rattle.dup_transcript.proofs.Rows.{body_itself}

pub events_good : IsGood events_site
events_good = simp (fold-Say, fold-Field, rule-Say, rule-Field) refl

pub press_row : (slots : fin.FinMap nat_cmp Slot) → PressRow slots
press_row slots = record {
  same = refl;
  moved = refl;
  stale = simp (marks-Say, marks-Field) refl;
  kept = simp (marks-Say, marks-Field, body_itself) refl;
  unasked = simp (marks-Say, marks-Field) refl;
  waiting = refl;
  join_waiting = refl;
  unjoined = simp (marks-Say, marks-Field) refl;
  joined = simp (marks-Say, marks-Field) refl;
  done = simp (marks-Say, marks-Field) refl;
  report = simp (marks-Say, marks-Field) refl;
}
