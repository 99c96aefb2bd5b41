-- How long the names in a line are.
use Rattle.std.proofs.Common.{◌≡◌, ◌≤◌, true, ◌&&◌, [], ◌∷◌, length, arith}
use Rattle.std.specs.Prelude.{nat_eq, nat_le}
use Rattle.std.specs.List.{list_all}
use Rattle.std.proofs.lemmas.Bool.{and_parts}
use Rattle.std.proofs.lemmas.Bool.Decides.{nat_tests}
use Rattle.dup_names.specs.Grammar.{are_segments, is_name, is_name_byte, is_path, starts_lower}
use Rattle.dup_names.specs.Words.{Word}

pub name_short : (w : Word) → is_name w ≡ true → length w ≤ 32
name_short w h =
    let fits : nat_le (length w) 32 ≡ true = (and_parts (starts_lower w && list_all is_name_byte w) (nat_le (length w) 32) h).1 in
    grind (arith, nat_tests)

pub path_short : (w : Word) → is_path w ≡ true → length w ≤ 200
path_short [] h = omega arith
path_short (b ∷ []) h = omega arith
path_short (b ∷ c ∷ w) h =
    let front = (and_parts (nat_eq b 47 && nat_le (length (b ∷ c ∷ w)) 200) (are_segments true (c ∷ w)) h).0 in
    let fits : nat_le (length (b ∷ c ∷ w)) 200 ≡ true = (and_parts (nat_eq b 47) (nat_le (length (b ∷ c ∷ w)) 200) front).1 in
    grind (arith, nat_tests)

pub ruleset short_names = (name_short, path_short)
