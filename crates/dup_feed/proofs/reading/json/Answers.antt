use Rattle.std.proofs.Common.{◌∙◌, sym, ap}
use Rattle.serde_json.specs.Read.{read}
use Rattle.dup_feed.proofs.Json.{json_read, json_not_text}
use Rattle.dup_feed.proofs.reading.json.Goals as goal

pub returns-in_default : goal.returns-in_default
returns-in_default c = json_not_text c.args.bytes.now c.in_default.ensures.cases.0

pub returns-in-Ok-from_str : goal.returns-in-Ok-from_str
returns-in-Ok-from_str c = json_read c.args.bytes.now c.in-Ok.ensures.cases.1 ∙ ap read (sym c.in-Ok.ensures.cases.0) ∙ c.in-Ok-from_str.ensures.ok
