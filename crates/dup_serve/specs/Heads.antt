-- Reading a line piece by piece.
use Rattle.std.specs.Prelude.{◌≡◌, ℕ, ◌<◌, ◌≤◌, ◌⊎◌, ◌++◌, Bool, false, List, [], length, IsTrue}
use Rattle.std.specs.declared.option.Option.{Option}
use Rattle.std.specs.Io.KnownBytes.{Consumes, IsAtEnd}
use Rattle.dup_http.specs.Readings.{Reads, window}
use Rattle.dup_http.specs.declared.ask.Reading.TheVariants.{More}

-- the most bytes that are taken at once
abbrev pub max_piece : ℕ
max_piece = 1024

-- a piece was taken off what is left, and stands behind what was read before; without one the input is at
-- its end
pub record TakesMore (left rest : Option (List ℕ)) (before after : List ℕ) (some : Bool) : Type 0 where
  pub piece : List ℕ
  pub behind : after ≡ before ++ piece
  pub small : length piece ≤ max_piece
  pub taken : Consumes left rest piece
  pub came : IsTrue some → 0 < length piece
  pub ended : some ≡ false → (IsAtEnd rest × (after ≡ before))

-- the bytes in front of the last piece wanted more
pub record LastWasWanted (bytes : List ℕ) : Type 0 where
  pub front : List ℕ
  pub piece : List ℕ
  pub behind : bytes ≡ front ++ piece
  pub small : length piece ≤ max_piece
  pub wanted : Reads (window front) More

-- nothing was read, or the last piece was wanted: no more is taken off a line than the piece that a head
-- ends in
abbrev pub IsNoLonger : List ℕ → Type 0
IsNoLonger bytes = (bytes ≡ []) ⊎ LastWasWanted bytes
