-- A text that is copied into a blank place is kept there.
use Rattle.std.proofs.Common.{◌≡◌, ℕ, ◌≤◌, ◌-◌, List, ◌++◌, take, drop, length, sym, ◌∙◌, ap, length-append, arith}
use Rattle.std.specs.Prelude.{replicate}
use Rattle.std.proofs.lemmas.List.{drop-replicate, length-replicate}
use Rattle.std.proofs.Math.Seq.{take-append_seam}
use Rattle.dup_names.specs.Short.{IsKept}

abbrev blank : ℕ → List ℕ
blank n = replicate n 0

-- a text that was copied over the front of zeros
pub IsKept-copied : (n : ℕ) (xs : List ℕ) → length xs ≤ n → IsKept n record { bytes = xs ++ drop (length xs) (blank n); len = length xs }
IsKept-copied n xs fits =
    let rest : drop (length xs) (blank n) ≡ blank (n - length xs) = drop-replicate (length xs) n 0 in
    let front : take (length xs) (xs ++ drop (length xs) (blank n)) ≡ xs = take-append_seam xs (drop (length xs) (blank n)) in
    let long : length (drop (length xs) (blank n)) ≡ n - length xs = ap length rest ∙ length-replicate (n - length xs) 0 in
    record {
      fits = fits;
      filled = ap (λ ys. xs ++ ys) rest ∙ sym (ap (λ ys. ys ++ blank (n - length xs)) front);
      length = length-append xs (drop (length xs) (blank n)) ∙ omega (arith, long, fits);
    }
