-- A test that holds.
use Rattle.std.proofs.Common.{◌≡◌, Bool, true, false, T, refl}

pub from_T : (b : Bool) → T b → b ≡ true
from_T true h = refl
from_T false h = absurd h
