use Rattle.std.proofs.Common.{◌≡◌, take, map}
use Rattle.std.specs.Prelude.{Some}
use Rattle.serde_json.specs.View.{view}
use Rattle.dup_feed.specs.Feed.{change_of}
use Rattle.dup_feed.specs.Message.{change_data}
use Rattle.dup_feed.proofs.writing.changes_value.Given as goal

abbrev pub invariant-loop-change : goal.invariant-loop-change
invariant-loop-change l = record {
  value : map view l.made.items ≡ map change_data (take l.change-index l.changes);
  said : map change_of (map change_data (take l.change-index l.changes)) ≡ map Some (take l.change-index l.changes);
}
