-- The table of commands the other way round: every other line is bad. The law above: `commands_law`.
use Rattle.std.specs.Prelude.{◌≡◌, ◌⊎◌, ◌↔◌, ℕ, ◌<◌, ◌^◌, true, false, [], ◌∷◌, ◌++◌, codes}
use Rattle.std.specs.Fmt.{decimal}
use Rattle.std.specs.List.{list_all}
use Rattle.dup_names.specs.Grammar.{is_path}
use Rattle.dup_names.specs.LineWords.{is_space, line_words, trimmed}
use Rattle.dup_names.specs.Words.{Word}
use Rattle.dup_model.specs.declared.mode.Mode.{Mode}
use Rattle.dup_transcript.specs.declared.command.Command.TheVariants as command
use Rattle.dup_transcript.specs.CommandTable.{mode_word}
use Rattle.dup_transcript.specs.Commands.{Command, Feed, comes_alone, comes_with_slot, is_capacity, is_node, is_slot, line_command, of_message}

-- a line of the table and what it commands, whatever spaces stand round its words; `#` is 35. What feed
-- messages say is handed in
pub data IsInTable (feed : Feed) (text : Word) : Command → Type 0 where
  blank : trimmed text ≡ [] → IsInTable feed text command.Blank
  comment : (rest : Word) → trimmed text ≡ 35 ∷ rest → IsInTable feed text command.Blank
  commit : (message : Word) → trimmed text ≡ codes "commit " ++ message → list_all is_space message ≡ false →
      IsInTable feed text (of_message (feed message))
  settle : line_words text ≡ codes "settle" ∷ [] → IsInTable feed text command.Settle
  status : line_words text ≡ codes "status" ∷ [] → IsInTable feed text command.Status
  node : (number capacity : ℕ) (mode : Mode) → is_node number ≡ true → is_capacity capacity ≡ true →
      line_words text ≡ codes "node" ∷ (decimal number ∷ (decimal capacity ∷ (mode_word mode ∷ []))) →
      IsInTable feed text (command.Node number capacity mode)
  deliver : (number : ℕ) → is_node number ≡ true →
      line_words text ≡ codes "deliver" ∷ (decimal number ∷ []) →
      IsInTable feed text (command.Deliver number)
  get : (number pass : ℕ) (path : Word) → is_node number ≡ true → pass < 2 ^ 64 → is_path path ≡ true →
      line_words text ≡ codes "get" ∷ (decimal number ∷ (decimal pass ∷ (path ∷ []))) →
      IsInTable feed text (command.Get number pass path)
  evict : (number : ℕ) (path : Word) → is_node number ≡ true → is_path path ≡ true →
      line_words text ≡ codes "evict" ∷ (decimal number ∷ (path ∷ [])) →
      IsInTable feed text (command.Evict number path)
  alone : (word : Word) → comes_alone word ≡ true → line_words text ≡ word ∷ [] →
      IsInTable feed text command.NotBuilt
  with_slot : (word : Word) (slot : ℕ) → comes_with_slot word ≡ true → is_slot slot ≡ true →
      line_words text ≡ word ∷ (decimal slot ∷ []) → IsInTable feed text command.NotBuilt

-- each line is one of the table, or is bad
abbrev pub OnlyTheTable : Type 0
OnlyTheTable = (feed : Feed) (text : Word) →
    IsInTable feed text (line_command feed text) ⊎ (line_command feed text ≡ command.Bad)

-- a line is bad exactly where the table has it in no way
abbrev pub OthersAreBad : Type 0
OthersAreBad = (feed : Feed) (text : Word) →
    (line_command feed text ≡ command.Bad) ↔ ((c : Command) → IsInTable feed text c → ⊥)
