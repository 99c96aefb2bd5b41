-- What the lines of a script command. The law above: `commands_law`.
use Rattle.std.specs.Prelude.{ℕ, Bool, ◌&&◌, ◌||◌, List, [], ◌∷◌, Option, Some, None, codes, nat_eq, nat_le, if◌then◌else◌}
use Rattle.std.specs.Prelude.{Result, Ok, Err}
use Rattle.std.specs.List.{list_all}
use Rattle.dup_names.specs.Grammar.{is_path}
use Rattle.dup_names.specs.LineWords.{is_space, line_words, trimmed}
use Rattle.dup_names.specs.Words.{Word, same}
use Rattle.dup_template.specs.Good.{behind}
use Rattle.dup_model.specs.Commits.{Commit}
use Rattle.dup_transcript.specs.Numbers.{number_of}
use Rattle.dup_transcript.specs.declared.command.Command.{Command as CommandOf}
use Rattle.dup_transcript.specs.declared.command.Command.TheVariants as command
use Rattle.dup_transcript.specs.declared.command.Command.TheVariants.{Bad, Blank, Settle, Status, Node, Deliver, Get, Evict, NotBuilt}
use Rattle.dup_model.specs.declared.feed_refusal.FeedRefusal.{FeedRefusal}
use Rattle.dup_model.specs.declared.mode.Mode.{Mode}
use Rattle.dup_model.specs.declared.mode.Mode.TheVariants.{Invalidate, Update}

abbrev pub Command : Type 0
Command = CommandOf Commit

-- what a grammar of feed messages says: the commit of a message, or why it says none
abbrev pub Feed : Type 0
Feed = Word → Result Commit FeedRefusal

-- nodes are numbered from 1 to 16
abbrev pub is_node : ℕ → Bool
is_node n = nat_le 1 n && nat_le n 16

abbrev pub is_capacity : ℕ → Bool
is_capacity n = nat_le 1 n && nat_le n 65536

-- slots for jobs are numbered from 1 to 64
abbrev pub is_slot : ℕ → Bool
is_slot n = nat_le 1 n && nat_le n 64

abbrev pub mode_of : Word → Option Mode
mode_of w = if same w (codes "update") then Some Update
    else (if same w (codes "invalidate") then Some Invalidate else None)

-- `node S CAPACITY MODE`
abbrev pub node_command : Option ℕ → Option ℕ → Option Mode → Command
node_command (Some number) (Some capacity) (Some mode) =
    if is_node number && is_capacity capacity then Node number capacity mode else Bad
node_command _ _ _ = Bad

-- `get S PASS PATH`
abbrev pub get_command : Option ℕ → Option ℕ → Word → Command
get_command (Some node) (Some pass) path = if is_node node && is_path path then Get node pass path
    else Bad
get_command _ _ path = Bad

-- `deliver S`
abbrev pub deliver_command : Option ℕ → Command
deliver_command (Some node) = if is_node node then Deliver node else Bad
deliver_command None = Bad

-- `evict S PATH`
abbrev pub evict_command : Option ℕ → Word → Command
evict_command (Some node) path = if is_node node && is_path path then Evict node path else Bad
evict_command None path = Bad

-- the commands of the table that aren't built: those of one word, and those of a word and a slot
abbrev pub comes_alone : Word → Bool
comes_alone word = same word (codes "begin") || same word (codes "join") || same word (codes "finish")
    || same word (codes "publish")

abbrev pub comes_with_slot : Word → Bool
comes_with_slot word = same word (codes "hand") || same word (codes "put")

-- `hand J` and `put J`
abbrev pub slot_command : Option ℕ → Command
slot_command (Some slot) = if is_slot slot then NotBuilt else Bad
slot_command None = Bad

abbrev pub one_word : Word → Command
one_word word = if same word (codes "settle") then Settle else
    (if same word (codes "status") then Status else
    (if comes_alone word then NotBuilt else Bad))

abbrev pub two_words : Word → Word → Command
two_words word a = if same word (codes "deliver") then deliver_command (number_of a) else
    (if comes_with_slot word then slot_command (number_of a) else Bad)

abbrev pub three_words : Word → Word → Word → Command
three_words word a b = if same word (codes "evict") then evict_command (number_of a) b else Bad

abbrev pub four_words : Word → Word → Word → Word → Command
four_words word a b c =
    if same word (codes "node") then node_command (number_of a) (number_of b) (mode_of c) else
    (if same word (codes "get") then get_command (number_of a) (number_of b) c else Bad)

abbrev pub by_words : List Word → Command
by_words (word ∷ []) = one_word word
by_words (word ∷ a ∷ []) = two_words word a
by_words (word ∷ a ∷ b ∷ []) = three_words word a b
by_words (word ∷ a ∷ b ∷ c ∷ []) = four_words word a b c
by_words _ = Bad

-- what a feed message commands
abbrev pub of_message : Result Commit FeedRefusal → Command
of_message (Ok commit) = command.Commit commit
of_message (Err why) = command.BadFeed why

-- there is more than spaces
abbrev pub if_more : Option Word → Option Word
if_more None = None
if_more (Some rest) = if list_all is_space rest then None else Some rest

-- the feed message behind `commit` and one space
abbrev pub message_of : Word → Option Word
message_of text = if_more (behind (codes "commit ") text)

-- a feed message is read as the feed's grammar says
abbrev pub by_message : Feed → Option Word → Word → Command
by_message feed (Some message) text = of_message (feed message)
by_message feed None text = by_words (line_words text)

-- `#` is 35
abbrev pub by_start : Feed → Word → Command
by_start feed [] = Blank
by_start feed (b ∷ rest) = if nat_eq b 35 then Blank else by_message feed (message_of (b ∷ rest)) (b ∷ rest)

-- the command of a line, given what feed messages say
abbrev pub line_command : Feed → Word → Command
line_command feed text = by_start feed (trimmed text)
