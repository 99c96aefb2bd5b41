-- The command of a line, where feed messages are JSON texts.
use Rattle.std.specs.Prelude.{ℕ, ◌≤◌, List, map}
use Rattle.std.specs.Borrow.{Bor}
use Rattle.dup_names.specs.Words.{Word}
use Rattle.dup_feed.specs.Feed.{feed_says}
use Rattle.dup_transcript.specs.Commands.{Command, line_command}
use Rattle.dup_transcript.specs.declared.command.Command.TheVariants as command

abbrev pub seen : List (Bor (List ℕ)) → List Word
seen words = map (λ w. w.now) words

abbrev pub command_of : Word → Command
command_of text = line_command feed_says text

-- the capacity of a node is one that a cache can have
abbrev pub HasRoom : Command → Type 0
HasRoom (command.Node number capacity mode) = (1 ≤ capacity) × (capacity ≤ 65536)
HasRoom _ = Unit {0}
