use Rattle.std.proofs.Common.{◌≡◌, take, map}
use Rattle.std.specs.Prelude.{Some}
use Rattle.serde_json.specs.Data.{string}
use Rattle.serde_json.specs.View.{view}
use Rattle.dup_feed.specs.Feed.{line_of}
use Rattle.dup_feed.proofs.writing.lines_value.Given as goal

abbrev pub invariant-loop-line : goal.invariant-loop-line
invariant-loop-line l = record {
  value : map view l.made.items ≡ map string (take l.line-index l.lines);
  said : map line_of (map string (take l.line-index l.lines)) ≡ map Some (take l.line-index l.lines);
}
