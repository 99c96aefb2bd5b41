-- The words of a line, by their number.
use Rattle.std.proofs.Common.{◌≡◌, ◌≢◌, ℕ, List, [], ◌∷◌, refl, length, get_or, arith}
use Rattle.std.specs.Borrow.{Bor}
use Rattle.dup_transcript.specs.declared.command.Command.TheVariants.{Bad}
use Rattle.dup_script.specs.Commands.{seen}
use Rattle.dup_transcript.specs.Commands.{by_words, one_word, two_words, three_words, four_words}

pub at_one : (ws : List (Bor (List ℕ))) (d : Bor (List ℕ)) → length ws ≡ 1 → one_word (get_or ws 0 d).now ≡ by_words (seen ws)
at_one [] d size = absurd (omega arith)
at_one (x ∷ []) d size = refl
at_one (x ∷ y ∷ ws) d size = absurd (omega arith)

pub at_two : (ws : List (Bor (List ℕ))) (d : Bor (List ℕ)) → length ws ≡ 2 → two_words (get_or ws 0 d).now (get_or ws 1 d).now ≡ by_words (seen ws)
at_two [] d size = absurd (omega arith)
at_two (x ∷ []) d size = absurd (omega arith)
at_two (x ∷ y ∷ []) d size = refl
at_two (x ∷ y ∷ z ∷ ws) d size = absurd (omega arith)

pub at_three : (ws : List (Bor (List ℕ))) (d : Bor (List ℕ)) → length ws ≡ 3
    → three_words (get_or ws 0 d).now (get_or ws 1 d).now (get_or ws 2 d).now ≡ by_words (seen ws)
at_three [] d size = absurd (omega arith)
at_three (x ∷ []) d size = absurd (omega arith)
at_three (x ∷ y ∷ []) d size = absurd (omega arith)
at_three (x ∷ y ∷ z ∷ []) d size = refl
at_three (x ∷ y ∷ z ∷ w ∷ ws) d size = absurd (omega arith)

pub at_four : (ws : List (Bor (List ℕ))) (d : Bor (List ℕ)) → length ws ≡ 4
    → four_words (get_or ws 0 d).now (get_or ws 1 d).now (get_or ws 2 d).now (get_or ws 3 d).now ≡ by_words (seen ws)
at_four [] d size = absurd (omega arith)
at_four (x ∷ []) d size = absurd (omega arith)
at_four (x ∷ y ∷ []) d size = absurd (omega arith)
at_four (x ∷ y ∷ z ∷ []) d size = absurd (omega arith)
at_four (x ∷ y ∷ z ∷ w ∷ []) d size = refl
at_four (x ∷ y ∷ z ∷ w ∷ v ∷ ws) d size = absurd (omega arith)

pub at_other : (ws : List (Bor (List ℕ))) → length ws ≢ 1 → length ws ≢ 2 → length ws ≢ 3 → length ws ≢ 4 → Bad ≡ by_words (seen ws)
at_other [] one two three four = refl
at_other (a ∷ []) one two three four = absurd (one (omega arith))
at_other (a ∷ b ∷ []) one two three four = absurd (two (omega arith))
at_other (a ∷ b ∷ c ∷ []) one two three four = absurd (three (omega arith))
at_other (a ∷ b ∷ c ∷ d ∷ []) one two three four = absurd (four (omega arith))
at_other (a ∷ b ∷ c ∷ d ∷ e ∷ ws) one two three four = refl

pub ruleset by_number = (at_one, at_two, at_three, at_four, at_other)
