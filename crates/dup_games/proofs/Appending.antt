-- What stands behind a text that was appended to.
use Rattle.std.proofs.Common.{◌≡◌, ◌+◌, ◌++◌, ◌∙◌, ℕ, append_assoc, add-one, ap, refl, sym}
use Rattle.std.specs.Prelude.{codes}
use Rattle.dup_names.specs.Words.{Word}
use Rattle.dup_games.specs.Games.{commit, each_to}

-- a text behind another
pub behind : {a b p : Word} (q : Word) → a ≡ p → b ≡ a ++ q → b ≡ p ++ q
behind q before more = more ∙ ap (λ (t : Word). t ++ q) before

onto : {a b : Word} (o p q : Word) → a ≡ o ++ p → b ≡ a ++ q → b ≡ o ++ (p ++ q)
onto o p q first second = behind q first second ∙ append_assoc o p q

-- the text of a loop, with that of one more turn
each_one_more : (f : ℕ → Word) (n : ℕ) → each_to f (n + 1) ≡ each_to f n ++ f (n + 1)
each_one_more f n = rw add-one refl

pub one_more : {a b : Word} (f : ℕ → Word) (n : ℕ) (o : Word) →
    a ≡ o ++ each_to f n → b ≡ a ++ f (n + 1) → b ≡ o ++ each_to f (n + 1)
one_more f n o so_far more =
    onto o (each_to f n) (f (n + 1)) so_far more ∙ ap (λ (t : Word). o ++ t) (sym (each_one_more f n))

pub turns_done : {a : Word} {n all : ℕ} (f : ℕ → Word) (o : Word) →
    n ≡ all → a ≡ o ++ each_to f n → a ≡ o ++ each_to f all
turns_done f o done so_far = so_far ∙ ap (λ (k : ℕ). o ++ each_to f k) done

-- a commit: its front, its changes, and its end
pub committed : {a b d : Word} (o changes : Word) → a ≡ o ++ codes "commit {\"changes\":[" →
    b ≡ a ++ changes → d ≡ b ++ codes "]}\n" → d ≡ o ++ commit changes
committed o changes front within back =
    onto o (codes "commit {\"changes\":[" ++ changes) (codes "]}\n")
    (onto o (codes "commit {\"changes\":[") changes front within) back
