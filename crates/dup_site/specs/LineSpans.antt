-- How far a line goes.
use Rattle.std.specs.Prelude.{ℕ, suc, [], ◌∷◌, if◌then◌else◌}
use Rattle.dup_names.specs.Lines.{is_feed}
use Rattle.dup_names.specs.Words.{Word}

-- how many bytes stand before the first line feed
abbrev pub line_span : Word → ℕ
line_span [] = 0
line_span (b ∷ bs) = if is_feed b then 0 else suc (line_span bs)
