use Rattle.std.proofs.Common.{◌≡◌, drop}
use Rattle.serde_json.specs.View.{items_view}
use Rattle.dup_feed.specs.Feed.{lines_of}
use Rattle.dup_feed.proofs.BodyLines.{with_lines}
use Rattle.dup_feed.proofs.change.lines.Given as goal

abbrev pub invariant-loop-element : goal.invariant-loop-element
invariant-loop-element l = with_lines l.lines.items (lines_of (items_view (drop l.element-index l.elements))) ≡ lines_of (items_view l.elements)
