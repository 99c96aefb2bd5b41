-- Chunks of a list.
use Rattle.std.specs.Prelude.{◌≡◌, ◌≤◌, ◌<◌, ◌+◌, ◌++◌, ℕ, zero, suc, Bool, List, [], ◌∷◌, length, take, drop}
use Rattle.std.specs.List.{AllByRecursion, flat_map}
use Rattle.dup_chunks.specs.Cut.{front, back}

-- each chunk has 1 to 64 items
abbrev pub AreChunks : {C X : Type 0} → (C → List X) → List C → Type 0
AreChunks items chunks = AllByRecursion (λ c. (1 ≤ length (items c)) × (length (items c) ≤ 64)) chunks

-- the items of the chunk with a number, none where there is no such chunk
abbrev pub items_at : {C X : Type 0} → (C → List X) → List C → ℕ → List X
items_at items [] n = []
items_at items (c ∷ cs) zero = items c
items_at items (c ∷ cs) (suc n) = items_at items cs n

-- the test cuts the items in the chunk with this number, behind so many of its items; at the end of a chunk
-- only where no chunk is behind it
pub record IsPlace {C X : Type 0} (items : C → List X) (p : X → Bool) (chunks : List C) (chunk at : ℕ) : Type 0 where
  pub before : front p (flat_map items chunks) ≡ flat_map items (take chunk chunks) ++ take at (items_at items chunks chunk)
  pub behind : back p (flat_map items chunks) ≡ drop at (items_at items chunks chunk) ++ flat_map items (drop (suc chunk) chunks)
  pub there : chunk ≤ length chunks
  pub within : at ≤ length (items_at items chunks chunk)
  pub last : at ≡ length (items_at items chunks chunk) → flat_map items (drop (suc chunk) chunks) ≡ []
