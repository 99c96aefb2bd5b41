-- The words of a line.
use Rattle.dup_names.specs.Words.{Word}
use Rattle.std.specs.Prelude.{ℕ, suc, Bool, true, false, not, List, [], ◌∷◌, ◌++◌, nat_eq, if◌then◌else◌}
use Rattle.std.specs.List.{filter, slice_split}

-- the byte of a space
abbrev pub is_space : ℕ → Bool
is_space b = nat_eq b 32

-- a word without bytes
abbrev pub is_empty : Word → Bool
is_empty [] = true
is_empty (b ∷ bs) = false

-- what stands between spaces
abbrev pub line_words : List ℕ → List Word
line_words bytes = filter (λ w. not (is_empty w)) (slice_split is_space bytes)

-- how many bytes stand before the first space
abbrev pub span : Word → ℕ
span [] = 0
span (b ∷ bs) = if is_space b then 0 else suc (span bs)

abbrev pub starts_spaced : Word → Bool
starts_spaced [] = false
starts_spaced (b ∷ bs) = is_space b

-- without the spaces at the start
abbrev pub trimmed : List ℕ → List ℕ
trimmed [] = []
trimmed (b ∷ bs) = if is_space b then trimmed bs else b ∷ bs

-- one space between words
abbrev pub spaced : List Word → List ℕ
spaced [] = []
spaced (w ∷ []) = w
spaced (w ∷ v ∷ ws) = w ++ 32 ∷ spaced (v ∷ ws)
