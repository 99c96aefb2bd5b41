-- The table of commands, by an equation each. The law above: `commands_law`.
use Rattle.std.specs.Prelude.{◌≡◌, ℕ, ◌<◌, ◌^◌, true, false, [], ◌∷◌, ◌++◌, codes}
use Rattle.std.specs.Fmt.{decimal}
use Rattle.std.specs.List.{list_all}
use Rattle.dup_names.specs.Grammar.{is_path}
use Rattle.dup_names.specs.LineWords.{is_space, spaced}
use Rattle.dup_names.specs.Words.{Word}
use Rattle.dup_transcript.specs.Commands.{Feed, is_capacity, is_node, is_slot, line_command, of_message}
use Rattle.dup_transcript.specs.declared.command.Command.TheVariants.{Bad, Blank, Settle, Status, Node, Deliver, Get, Evict, NotBuilt}
use Rattle.dup_model.specs.declared.mode.Mode.{Mode}
use Rattle.dup_model.specs.declared.mode.Mode.TheVariants.{Invalidate, Update}

abbrev pub mode_word : Mode → Word
mode_word Update = codes "update"
mode_word Invalidate = codes "invalidate"

-- what each form of line commands, given what feed messages say; `#` is 35
pub record ReadsEach (feed : Feed) : Type 0 where
  pub nothing : line_command feed [] ≡ Blank
  pub space : (text : Word) → line_command feed (32 ∷ text) ≡ line_command feed text
  pub comment : (text : Word) → line_command feed (35 ∷ text) ≡ Blank
  pub commit : (message : Word) → list_all is_space message ≡ false →
      line_command feed (codes "commit " ++ message) ≡ of_message (feed message)
  pub no_message : (spaces : Word) → list_all is_space spaces ≡ true →
      line_command feed (codes "commit" ++ spaces) ≡ Bad
  pub settle : (spaces : Word) → list_all is_space spaces ≡ true →
      line_command feed (codes "settle" ++ spaces) ≡ Settle
  pub status : (spaces : Word) → list_all is_space spaces ≡ true →
      line_command feed (codes "status" ++ spaces) ≡ Status
  pub node : (number capacity : ℕ) (mode : Mode) → is_node number ≡ true → is_capacity capacity ≡ true →
      line_command feed (spaced (codes "node" ∷ decimal number ∷ decimal capacity ∷ mode_word mode
      ∷ [])) ≡ Node number capacity mode
  pub deliver : (number : ℕ) → is_node number ≡ true →
      line_command feed (spaced (codes "deliver" ∷ decimal number ∷ [])) ≡ Deliver number
  pub get : (number pass : ℕ) (path : Word) → is_node number ≡ true → pass < 2 ^ 64 → is_path path ≡ true →
      line_command feed (spaced (codes "get" ∷ decimal number ∷ decimal pass ∷ path
      ∷ [])) ≡ Get number pass path
  pub evict : (number : ℕ) (path : Word) → is_node number ≡ true → is_path path ≡ true →
      line_command feed (spaced (codes "evict" ∷ decimal number ∷ path ∷ [])) ≡ Evict number path
  pub begin : (spaces : Word) → list_all is_space spaces ≡ true →
      line_command feed (codes "begin" ++ spaces) ≡ NotBuilt
  pub hand : (slot : ℕ) → is_slot slot ≡ true →
      line_command feed (spaced (codes "hand" ∷ decimal slot ∷ [])) ≡ NotBuilt
  pub put : (slot : ℕ) → is_slot slot ≡ true →
      line_command feed (spaced (codes "put" ∷ decimal slot ∷ [])) ≡ NotBuilt
  pub join : (spaces : Word) → list_all is_space spaces ≡ true →
      line_command feed (codes "join" ++ spaces) ≡ NotBuilt
  pub finish : (spaces : Word) → list_all is_space spaces ≡ true →
      line_command feed (codes "finish" ++ spaces) ≡ NotBuilt
  pub publish : (spaces : Word) → list_all is_space spaces ≡ true →
      line_command feed (codes "publish" ++ spaces) ≡ NotBuilt

abbrev pub EachIsRead : Type 0
EachIsRead = (feed : Feed) → ReadsEach feed
