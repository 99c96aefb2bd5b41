-- An input: the site text, up to a line `---`, and what stands behind it.
use Rattle.std.specs.Prelude.{ℕ, ◌+◌, Bool, true, false, [], ◌++◌, codes, if◌then◌else◌}
use Rattle.dup_names.specs.Lines.{Reading, Whole, Next, LongLine, LongInput, line}
use Rattle.dup_names.specs.Words.{Word, same}

-- the line that ends a site text
abbrev pub is_end : Word → Bool
is_end text = same text (codes "---")

-- the site text: its lines, each with its end, up to `---` or the end of the input
abbrev pub site_text : Reading → Word
site_text (Next text rest) = if is_end text then [] else (line text ++ site_text rest)
site_text _ = []

-- how many lines the site text has, `---` included
abbrev pub site_lines : Reading → ℕ
site_lines (Next text rest) = if is_end text then 1 else (1 + site_lines rest)
site_lines _ = 0

-- what stands behind it
abbrev pub script : Reading → Reading
script (Next text rest) = if is_end text then rest else script rest
script input = input

-- the site text is read to its end, and no line of it is too long
abbrev pub site_is_read : Reading → Bool
site_is_read Whole = true
site_is_read (Next text rest) = if is_end text then true else site_is_read rest
site_is_read (LongLine number) = false
site_is_read LongInput = false
