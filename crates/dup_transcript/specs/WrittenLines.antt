-- Lines that are written one after another, and read again. The law above: `lines_law`.
use Rattle.std.specs.Prelude.{◌≡◌, ◌≤◌, false, List, [], ◌∷◌, length}
use Rattle.std.specs.List.{AllByRecursion, flat_map}
use Rattle.std.specs.Str.Lines.{strip_carriage_return}
use Rattle.dup_names.specs.Lines.{Reading, Whole, Next, is_feed, line, max_input, max_line, reading, text_lines}
use Rattle.dup_names.specs.Words.{Word}

-- lines, each with its end
abbrev pub text_of : List Word → Word
text_of lines = flat_map line lines

-- a reading of just these lines
abbrev pub reading_of : List Word → Reading
reading_of [] = Whole
reading_of (text ∷ lines) = Next text (reading_of lines)

-- no line feed stands in a line
abbrev pub HasNoFeed : Word → Type 0
HasNoFeed text = AllByRecursion (λ b. is_feed b ≡ false) text

-- a line that is read as it is written: no carriage return stands at its end, and it isn't too long
pub record IsPlainLine (text : Word) : Type 0 where
  pub no_feed : HasNoFeed text
  pub no_return : strip_carriage_return text ≡ text
  pub fits : length text ≤ max_line

-- plain lines within the limit of an input are read again, one after another
abbrev pub LinesAreRead : Type 0
LinesAreRead = (lines : List Word) → AllByRecursion IsPlainLine lines → length (text_of lines) ≤ max_input →
    reading 0 0 (text_of lines) ≡ reading_of lines

-- and they are the lines of the text
abbrev pub LinesAreFound : Type 0
LinesAreFound = (lines : List Word) → AllByRecursion HasNoFeed lines → text_lines (text_of lines) ≡ lines
