use Rattle.std.proofs.Common.{◌≡◌, ◌+◌, drop}
use Rattle.serde_json.specs.View.{items_view}
use Rattle.dup_feed.specs.Feed.{each_from}
use Rattle.dup_feed.proofs.Elements.{after_these}
use Rattle.dup_feed.proofs.reading.changes.Given as goal

abbrev pub invariant-loop-i : goal.invariant-loop-i
invariant-loop-i l = after_these l.made.items (each_from (l.i + 1) (items_view (drop l.i l.elements))) ≡ each_from 1 (items_view l.elements)
