use Rattle.std.proofs.Common.{◌≡◌}
use Rattle.serde_json.specs.View.{members_view}
use Rattle.dup_feed.specs.Feed.{fields_of}
use Rattle.dup_feed.proofs.Members.{with_front}
use Rattle.dup_feed.proofs.change.fields.Given as goal

abbrev pub invariant-loop-name : goal.invariant-loop-name
invariant-loop-name l =
    (goal.iterator-loop-name).can_next l.name-iterator
    × (goal.iterator-loop-name).is_finite l.name-iterator
    × (with_front l.fields.items (fields_of (members_view l.name-iterator)) ≡ fields_of (members_view l.members.entries))
