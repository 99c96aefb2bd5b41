-- A part of a line, and what is left behind it.
use Rattle.std.proofs.Common.{◌≡◌, ℕ, ◌+◌, ◌≤◌, Bool, true, false, refl, sym, ap, ◌∙◌, subst, List, [], ◌∷◌, ◌++◌, length, if◌then◌else◌, not}
use Rattle.std.proofs.lemmas.List.Folds.{list_all-append}
use Rattle.std.specs.Prelude.{None, Some, Option, ◌&&◌}
use Rattle.std.specs.Io.KnownBytes.{Keeps}
use Rattle.std.specs.List.{list_all, onto_first}
use Rattle.std.specs.Option.{option_map}
use Rattle.std.proofs.lemmas.Bool.{and_from}
use Rattle.dup_names.specs.Lines.{Reading, is_feed, max_input, max_line, parts, reading_of_parts}
use Rattle.dup_io.specs.Readings.{GoesOnWith, IsPart, StopsInLine}
use Rattle.dup_io.proofs.Scan.{onto, onto_none, scan, scan_reads, some_part}
use Rattle.dup_io.proofs.Turns.{Same}

onto_first_too : (c : ℕ) (cs : List ℕ) (ps : List (List ℕ)) → onto_first c (onto cs ps) ≡ onto (c ∷ cs) ps
onto_first_too c cs [] = refl
onto_first_too c cs (p ∷ ps) = refl

-- a part goes onto the first of the parts behind it
parts_behind : (part left : List ℕ) → IsPart part → parts (part ++ left) ≡ onto part (parts left)
parts_behind [] left is = sym (onto_none (parts left) (some_part left))
parts_behind (c ∷ cs) left is = by_feed (is_feed c) is (parts_behind cs left)
  where
    by_feed : (b : Bool) → (not b && list_all (λ byte. not (is_feed byte)) cs) ≡ true → (IsPart cs → parts (cs ++ left) ≡ onto cs (parts left)) → (if b then ([] ∷ parts (cs ++ left)) else onto_first c (parts (cs ++ left))) ≡ onto (c ∷ cs) (parts left)
    by_feed true isnt behind = absurd (cc)
    by_feed false rest behind = ap (onto_first c) (behind rest) ∙ onto_first_too c cs (parts left)

goes_on : (number taken : ℕ) (part left : List ℕ) → IsPart part → length part ≤ max_line → taken + length part ≤ max_input → GoesOnWith (scan number taken part left) left
goes_on number taken part left is short within = (
  part,
  number,
  taken,
  is,
  scan_reads left number taken part short within ∙ ap (reading_of_parts number taken) (sym (parts_behind part left is)),
)

pub stops : (a : Option Reading) (before now left : Option (List ℕ)) (number taken : ℕ) (part : List ℕ) → Same a (option_map (scan number taken part) before) → Keeps before now → now ≡ left
    → IsPart part → length part ≤ max_line → taken + length part ≤ max_input → StopsInLine a left
stops None before now left number taken part same kept is of short within = tt
stops (Some all) None now left number taken part same kept is of short within = absurd same
stops (Some all) (Some bs) None left number taken part same kept is of short within = absurd kept
stops (Some all) (Some bs) (Some there) left number taken part same kept is of short within =
    subst (StopsInLine (Some all)) is (subst (λ (w : List ℕ). GoesOnWith all w) (sym kept)
    (subst (λ (r : Reading). GoesOnWith r bs) (sym same) (goes_on number taken part bs of short within)))

-- a byte more
pub part_more : (part : List ℕ) (b : ℕ) → IsPart part → is_feed b ≡ false → IsPart (part ++ b ∷ [])
part_more part b is other = list_all-append (λ byte. not (is_feed byte)) part (b ∷ []) ∙ and_from _ _ is (and_from _ _ (ap not other) refl)
