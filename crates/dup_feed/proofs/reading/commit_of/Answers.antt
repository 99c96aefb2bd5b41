use Rattle.std.proofs.Common.{◌≡◌, ◌<◌, ◌≤◌, ◌∙◌, sym, ap, length, arith}
use Rattle.std.specs.Prelude.{Ok}
use Rattle.serde_json.specs.View.{items_view}
use Rattle.dup_model.specs.Commits.{HasCommitLength}
use Rattle.dup_names.specs.declared.limits.TheConstants.{MAX_CHANGES}
use Rattle.dup_feed.specs.Feed.{array_says, each_from}
use Rattle.dup_feed.proofs.Elements.{says_many, says_each, each_length, some_length, hands_on}
use Rattle.dup_feed.proofs.reading.commit_of.Goals as goal

pub returns-then-elements-gt-MAX_CHANGES : goal.returns-then-elements-gt-MAX_CHANGES
returns-then-elements-gt-MAX_CHANGES c = ap array_says (sym c.in-Some.ensures) ∙ says_many c.in-Some.elements.now c.if-elements-gt-MAX_CHANGES.true

pub returns-in_err-changes : goal.returns-in_err-changes
returns-in_err-changes c =
    let vs = c.in-Some.elements.now in
    hands_on c.from_residual.result c.in_err-changes.field-0.0 _ (each_from 1 (items_view vs)) c.from_residual.ensures.0 c.from_residual.ensures.1 c.in_err-changes.ensures
    (ap array_says (sym c.in-Some.ensures) ∙ says_each vs (some_length (length vs) c.is_empty.result c.is_empty.ensures c.if-is_empty.false) c.if-elements-gt-MAX_CHANGES.false)

pub returns-in-Some-of : goal.returns-in-Some-of
returns-in-Some-of c =
    let vs = c.in-Some.elements.now in
    ap array_says (sym c.in-Some.ensures) ∙ says_each vs (some_length (length vs) c.is_empty.result c.is_empty.ensures c.if-is_empty.false) c.if-elements-gt-MAX_CHANGES.false
    ∙ c.in_ok-changes.ensures ∙ ap Ok (sym c.in-Some-of.ensures.value)

pub returns-in-None : goal.returns-in-None
returns-in-None c =
    let vs = c.in-Some.elements.now in
    let some : 0 < length vs = some_length (length vs) c.is_empty.result c.is_empty.ensures c.if-is_empty.false in
    let few : length vs ≤ MAX_CHANGES = c.if-elements-gt-MAX_CHANGES.false in
    let same : length c.in_ok-changes.changes.items ≡ length vs = each_length vs 1 c.in_ok-changes.changes.items c.in_ok-changes.ensures in
    let fits : HasCommitLength c.in_ok-changes.changes.items = (omega arith, omega arith) in
    let never = c.in-None.ensures.some.1 fits in
    cc
