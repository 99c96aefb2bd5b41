use Rattle.std.proofs.Common.{◌∙◌, ap}
use Rattle.std.proofs.lemmas.Result.{IfOk-weaker}
use Rattle.dup_feed.specs.Feed.{feed_says}
use Rattle.dup_transcript.specs.Commands.{by_start}
use Rattle.dup_script.proofs.Rooms.{reads_room}
use Rattle.dup_script.proofs.command.read_command.Goals as goal

pub returns-clause-room : goal.returns-clause-room
returns-clause-room c =
    IfOk-weaker c.by_start.result _ _ (λ asked is. reads_room asked c.args.text.now (is ∙ ap (by_start feed_says) c.trimmed.ensures.value)) c.by_start.ensures
