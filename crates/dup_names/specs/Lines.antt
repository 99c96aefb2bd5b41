-- The lines of a text, and what reading them one after another gives.
use Rattle.std.specs.Prelude.{ℕ, ◌+◌, ◌&&◌, ◌==◌, Bool, List, [], ◌∷◌, ◌++◌, length}
use Rattle.std.specs.Prelude.{nat_eq, nat_le, nat_lt, if◌then◌else◌}
use Rattle.std.specs.List.{slice_split}
use Rattle.std.specs.Str.Lines.{strip_carriage_return}
use Rattle.dup_names.specs.LineWords.{is_empty}
use Rattle.dup_names.specs.Words.{Word}
use Rattle.dup_names.specs.declared.limits.TheConstants.{MAX_LINE_BYTES, MAX_INPUT_BYTES}

-- the byte of a line feed
abbrev pub is_feed : ℕ → Bool
is_feed b = nat_eq b 10

-- a line of a text and its end
abbrev pub line : Word → Word
line text = text ++ 10 ∷ []

-- what stands between the line feeds of a text, the last part behind the last of them
abbrev pub parts : Word → List Word
parts text = slice_split is_feed text

-- nothing stands behind a last line feed
abbrev pub without_last : List Word → List Word
without_last [] = []
without_last (x ∷ []) = if is_empty x then [] else x ∷ []
without_last (x ∷ y ∷ more) = x ∷ without_last (y ∷ more)

-- the lines of a text
abbrev pub text_lines : Word → List Word
text_lines text = without_last (parts text)

-- what reading an input line by line gives: its lines, and what ends it
pub data Reading : Type 0 where
  Whole : Reading
  Next : (line : Word) → (rest : Reading) → Reading
  LongLine : (number : ℕ) → Reading
  LongInput : Reading

-- the longest line, and the longest input
abbrev pub max_line : ℕ
max_line = MAX_LINE_BYTES

abbrev pub max_input : ℕ
max_input = MAX_INPUT_BYTES

-- A line of n bytes, with so many bytes behind it as end it (an LF, or none at the end of input), is read,
-- or is too long: its byte max_line + 1 is read, or the input's byte max_input + 1. The byte that comes first
-- decides, the line's where both are one. Number and taken are the lines and the bytes before it.
abbrev pub if_fits : ℕ → ℕ → ℕ → ℕ → Reading → Reading
if_fits number taken n ending reading =
    if nat_lt max_line n && nat_le (taken + max_line) max_input then LongLine (number + 1)
    else (if nat_lt max_input (taken + n + ending) then LongInput else reading)

-- an empty part behind the last LF is no line; a CR before an LF is taken off
abbrev pub reading_of_parts : ℕ → ℕ → List Word → Reading
reading_of_parts number taken [] = Whole
reading_of_parts number taken (x ∷ []) =
    if length x == 0 then Whole else if_fits number taken (length x) 0 (Next x Whole)
reading_of_parts number taken (x ∷ y ∷ more) =
    if_fits number taken (length x) 1
    (Next (strip_carriage_return x) (reading_of_parts (number + 1) (taken + length x + 1) (y ∷ more)))

-- reading an input, behind so many lines and bytes
abbrev pub reading : ℕ → ℕ → Word → Reading
reading number taken input = reading_of_parts number taken (parts input)
