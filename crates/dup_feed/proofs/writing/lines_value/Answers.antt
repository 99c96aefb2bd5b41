use Rattle.std.proofs.Common.{subst, ◌≡◌, List, map}
use Rattle.std.specs.Prelude.{Some}
use Rattle.std.proofs.lemmas.List.{take_all}
use Rattle.serde_json.specs.Data.{string}
use Rattle.dup_names.specs.Words.{Word}
use Rattle.dup_feed.specs.Feed.{line_of}
use Rattle.dup_feed.proofs.Again.{lines_again}
use Rattle.dup_feed.proofs.writing.lines_value.Goals as goal

pub returns-clause-said : goal.returns-clause-said
returns-clause-said c =
    let ls = c.args.lines.now in
    lines_again ls (subst (λ (ws : List Word). map line_of (map string ws) ≡ map Some ws) (take_all c.loop-line.line-index ls c.loop-line-test.false) c.loop-line.invariant.said)
