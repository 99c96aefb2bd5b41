-- What a text looks like that says parts, and when a line is bad. The law above: `texts_law`.
use Rattle.std.specs.Prelude.{◌≡◌, ℕ, ◌<◌, ◌≤◌, List, [], ◌∷◌, map, take, length, nat_eq, if◌then◌else◌, Ok, Err}
use Rattle.std.specs.List.{flat_map}
use Rattle.dup_names.specs.Words.{Word}
use Rattle.dup_names.specs.Lines.{text_lines}
use Rattle.dup_names.specs.LineWords.{line_words, spaced, trimmed}
use Rattle.dup_template.specs.declared.site.Parts.{Parts}
use Rattle.dup_site.specs.Canonical.{site_lines}
use Rattle.dup_site.specs.Spelling.{line_text, text_says}

-- one space between the words, where there are any
abbrev pub single_spaced : List Word → List Word
single_spaced [] = []
single_spaced (w ∷ ws) = spaced (w ∷ ws) ∷ []

-- a line behind its first spaces: none where it is blank or a comment, as it stands where it is a text, and
-- single-spaced else. `#` is 35, and `=` is 61
abbrev pub plain_line : Word → List Word
plain_line [] = []
plain_line (b ∷ rest) =
    if nat_eq b 35 then [] else
    (if nat_eq b 61 then (b ∷ rest) ∷ [] else single_spaced (line_words (b ∷ rest)))

-- the lines of a text without blank lines and comments, and without needless spaces
abbrev pub plain_lines : Word → List Word
plain_lines text = flat_map (λ line. plain_line (trimmed line)) (text_lines text)

-- where a text says parts, these are the canonical lines of the parts
abbrev pub TextsAreCanonical : Type 0
TextsAreCanonical = (text : Word) (parts : Parts) → text_says text ≡ Ok parts →
    plain_lines text ≡ map line_text (site_lines parts)

-- whatever stands behind a bad line: every text with the same lines up to it has the same bad line
abbrev pub BadLinesStay : Type 0
BadLinesStay = (text other : Word) (n : ℕ) → text_says text ≡ Err n → n ≤ length (text_lines text) →
    take n (text_lines text) ≡ take n (text_lines other) → text_says other ≡ Err n

-- up to a bad line nothing is lost: the lines before it begin a text that says parts
abbrev pub LinesGoOn : Type 0
LinesGoOn = (text : Word) (n k : ℕ) → text_says text ≡ Err n → k < n →
    (other : Word) × ((parts : Parts) × (take k (text_lines other) ≡ take k (text_lines text))
    × (text_says other ≡ Ok parts))
