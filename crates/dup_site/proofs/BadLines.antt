-- A bad line stays bad, whatever stands behind it.
use Rattle.std.proofs.Common.{◌≡◌, ℕ, zero, suc, ◌+◌, ◌<◌, ◌≤◌, List, [], ◌∷◌, map, length, take, ap, sym, ◌∙◌, arith}
use Rattle.std.specs.Prelude.{Option, Some, None, Result, Err}
use Rattle.dup_names.specs.Words.{Word}
use Rattle.dup_names.specs.Lines.{text_lines}
use Rattle.dup_template.specs.declared.site.Parts.{Parts}
use Rattle.dup_site.specs.Draft.{Draft, Open, blank, finished, onward, said_from, step_at}
use Rattle.dup_site.specs.SaidTexts.{BadLinesStay}
use Rattle.dup_site.specs.Spelling.{line_of}

abbrev pub bad : ℕ → Result Parts ℕ
bad n = Err n

pub same_number : (m n : ℕ) → bad m ≡ bad n → m ≡ n
same_number m n e = cc

pub finished_late : (n m : ℕ) (d : Draft) (os : List Open) → finished n d os ≡ Err m → n ≤ m
finished_late n m d [] e = absurd (cc)
finished_late n m d (o ∷ outer) e = let same : n ≡ m = same_number n m e in omega (arith, same)

-- no line before the first is bad
late : (ls : List Word) (n m : ℕ) (d : Draft) → said_from n d (map line_of ls) ≡ Err m → n ≤ m
late [] n m d e = finished_late n m d d.stack e
late (l ∷ ls) n m d e = by_step (step_at d (line_of l)) (λ x. late ls (n + 1) m x) e
  where
    by_step : (o : Option Draft) → ((x : Draft) → said_from (n + 1) x (map line_of ls) ≡ Err m → n + 1 ≤ m) → onward n o (λ x. said_from (n + 1) x (map line_of ls)) ≡ Err m → n ≤ m
    by_step None later e = let same : n ≡ m = same_number n m e in omega (arith, same)
    by_step (Some x) later e = omega (arith, later x e)

head_same : (l k : Word) (ls ks : List Word) → l ∷ ls ≡ k ∷ ks → (l ≡ k) × (ls ≡ ks)
head_same l k ls ks e = (cc, cc)

stays : (ls ks : List Word) (n i : ℕ) (d : Draft) → said_from n d (map line_of ls) ≡ Err (n + i) → i < length ls → take (suc i) ls ≡ take (suc i) ks →
    said_from n d (map line_of ks) ≡ Err (n + i)
stays [] ks n i d e less same = absurd (omega (arith, less))
stays (l ∷ ls) [] n i d e less same = absurd (cc)
stays (l ∷ ls) (k ∷ ks) n i d e less same =
    let both : (l ≡ k) × (take i ls ≡ take i ks) = head_same l k (take i ls) (take i ks) same in
    ap (λ (x : Word). onward n (step_at d (line_of x)) (λ y. said_from (n + 1) y (map line_of ks))) (sym both.0)
    ∙ by_step (step_at d (line_of l)) i less both.1 e (λ j. stays ls ks (n + 1) j)
  where
    by_step : (o : Option Draft) (i : ℕ) → i < suc (length ls) → take i ls ≡ take i ks → onward n o (λ x. said_from (n + 1) x (map line_of ls)) ≡ Err (n + i) →
        ((j : ℕ) (x : Draft) → said_from (n + 1) x (map line_of ls) ≡ Err (n + 1 + j) → j < length ls → take (suc j) ls ≡ take (suc j) ks → said_from (n + 1) x (map line_of ks) ≡ Err (n + 1 + j)) →
        onward n o (λ x. said_from (n + 1) x (map line_of ks)) ≡ Err (n + i)
    by_step None i less same e later = e
    by_step (Some x) zero less same e later = absurd (let l : n + 1 ≤ n + 0 = late ls (n + 1) (n + 0) x e in omega (arith, l))
    by_step (Some x) (suc j) less same e later =
        let shift : n + suc j ≡ n + 1 + j = omega arith in
        later j x (e ∙ ap bad shift) (omega (arith, less)) same ∙ ap bad (sym shift)

pub bad_lines_stay : BadLinesStay
bad_lines_stay text other zero e within same = absurd (let l : 1 ≤ 0 = late (text_lines text) 1 0 blank e in omega (arith, l))
bad_lines_stay text other (suc i) e within same =
    let shift : suc i ≡ 1 + i = omega arith in
    stays (text_lines text) (text_lines other) 1 i blank (e ∙ ap bad shift) (omega (arith, within)) same ∙ ap bad (sym shift)
