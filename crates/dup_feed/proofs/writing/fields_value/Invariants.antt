use Rattle.std.proofs.Common.{◌≡◌, take, map}
use Rattle.std.specs.Prelude.{Some}
use Rattle.serde_json.specs.Data.{string}
use Rattle.serde_json.specs.View.{members_view}
use Rattle.dup_names.specs.Words.{Word}
use Rattle.dup_feed.specs.Feed.{field_of}
use Rattle.dup_feed.specs.Message.{fields_data}
use Rattle.dup_feed.proofs.writing.fields_value.Given as goal

abbrev pub invariant-loop-field : goal.invariant-loop-field
invariant-loop-field l = record {
  value : members_view l.made.entries ≡ fields_data (take l.field-index l.fields);
  said : map (λ (f : Word × Word). field_of f.0 (string f.1)) (take l.field-index l.fields) ≡ map Some (take l.field-index l.fields);
}
