-- The measure of lines behind lines.
use Rattle.dup_names.specs.Words.{Word}
use Rattle.dup_template.specs.declared.measure.Measure.{Measure}
use Rattle.dup_template.specs.declared.statement.Statement.TheVariants as s
use Rattle.dup_template.specs.declared.statement.Statement.TheVariants.{rolls-If, rolls-Each, rolls-Link}
use Rattle.dup_template.specs.declared.statement.Statement.TheFolds.{fold-roll-Statement}
use Rattle.dup_template.specs.BodyLines.{between, body_text, each_text, if_text, joined, link_text, longest_of, measure_of, statement_text, within_64}
use Rattle.dup_template.specs.declared.statement.Statement.{Statement}
use Rattle.std.proofs.Common.{◌≡◌, ℕ, ◌+◌, ◌-◌, ◌^◌, ◌≤◌, List, [], ◌∷◌, ◌++◌, length, map, refl, sym, ap, ap₂, subst, ◌∙◌, arith, length-append, append-nil, append_assoc, zero, suc, take}
use Rattle.std.specs.Prelude.{Option, Some, None}
use Rattle.std.specs.List.{slice_get}
use Rattle.std.specs.Prelude.{max, min, codes}
use Rattle.std.specs.List.{sum_by, flat_map}
use Rattle.std.proofs.lemmas.List.Sums.{sum_by-append}

within_sum : (a b : ℕ) → within_64 (within_64 a + within_64 b) ≡ within_64 (a + b)
within_sum a b = omega arith

within_max : (a b : ℕ) → max (within_64 a) (within_64 b) ≡ within_64 (max a b)
within_max a b = omega arith

max_assoc : (a b c : ℕ) → max a (max b c) ≡ max (max a b) c
max_assoc a b c = omega arith

max_zero : (a : ℕ) → max 0 a ≡ a
max_zero a = omega arith

longest_append : (xs ys : List Word) → longest_of (xs ++ ys) ≡ max (longest_of xs) (longest_of ys)
longest_append [] ys = sym (max_zero (longest_of ys))
longest_append (x ∷ xs) ys = ap (max (length x)) (longest_append xs ys) ∙ max_assoc (length x) (longest_of xs) (longest_of ys)

pub measure_behind : (xs ys : List Word) → joined (measure_of xs) (measure_of ys) ≡ measure_of (xs ++ ys)
measure_behind xs ys = λ i. record {
  lines = (within_sum (length xs) (length ys) ∙ ap within_64 (sym (length-append xs ys))) i;
  longest = (within_max (longest_of xs) (longest_of ys) ∙ ap within_64 (sym (longest_append xs ys))) i;
  length = (within_sum (sum_by length xs) (sum_by length ys) ∙ ap within_64 (sym (sum_by-append length xs ys))) i;
}

-- the lines of one statement more
text_taken : (body : List Statement) (i : ℕ) (s : Statement) → slice_get body i ≡ Some s → body_text (take (suc i) body) ≡ body_text (take i body) ++ statement_text s
text_taken [] i s is = cc
text_taken (b ∷ bs) zero s is =
    let same : b ≡ s = cc in ap (λ t. statement_text t ++ []) same ∙ append-nil (statement_text s)
text_taken (b ∷ bs) (suc i) s is =
    ap (λ ls. statement_text b ++ ls) (text_taken bs i s is) ∙ sym (append_assoc (statement_text b) (body_text (take i bs)) (statement_text s))

one_more : (i : ℕ) → suc i ≡ i + 1
one_more i = omega arith

pub measure_taken : (body : List Statement) (i : ℕ) (s : Statement) → slice_get body i ≡ Some s →
    joined (measure_of (body_text (take i body))) (measure_of (statement_text s)) ≡ measure_of (body_text (take (i + 1) body))
measure_taken body i s is =
    measure_behind (body_text (take i body)) (statement_text s) ∙ ap measure_of (sym (text_taken body i s is))
    ∙ ap (λ n. measure_of (body_text (take n body))) (one_more i)

pub text_If : (f : Word) (body : List Statement) → statement_text (s.If f body) ≡ between (if_text f) (map statement_text body)
text_If f body = rw (← rolls-If f body, fold-roll-Statement) refl

pub text_Each : (kind : Word) (by order : Option Word) (body : List Statement) → statement_text (s.Each kind by order body) ≡ between (each_text kind by order) (map statement_text body)
text_Each kind by order body = rw (← rolls-Each kind by order body, fold-roll-Statement) refl

pub text_Link : (name : Word) (via : Option Word) (body : List Statement) → statement_text (s.Link name via body) ≡ between (link_text name via) (map statement_text body)
text_Link name via body = rw (← rolls-Link name via body, fold-roll-Statement) refl

one_line : (w : Word) → length w ≤ 2 ^ 64 - 1 → measure_of (w ∷ []) ≡ record { lines = 1; longest = length w; length = length w }
one_line w fits = λ i. record { lines = 1; longest = alone (length w) fits i; length = summed (length w) fits i }
  where
    alone : (n : ℕ) → n ≤ 2 ^ 64 - 1 → within_64 (max n 0) ≡ n
    alone n fits = omega (arith, fits)

    summed : (n : ℕ) → n ≤ 2 ^ 64 - 1 → within_64 (0 + n) ≡ n
    summed n fits = omega (arith, fits)

-- what is opened, the lines within, and `end`
pub enclosed_measure : (first : ℕ) (text : Word) (bodies : List (List Word)) → first ≤ 2 ^ 64 - 1 → length text ≡ first →
    joined (joined (record { lines = 1; longest = first; length = first }) (measure_of (flat_map (λ ls. ls) bodies))) (record { lines = 1; longest = 3; length = 3 })
    ≡ measure_of (between text bodies)
enclosed_measure first text bodies fits is =
    let open_line : measure_of (text ∷ []) ≡ record { lines = 1; longest = first; length = first } =
    one_line text (subst (λ n. n ≤ 2 ^ 64 - 1) (sym is) fits) ∙ (λ i. record { lines = 1; longest = is i; length = is i }) in
    ap₂ (λ a c. joined (joined a (measure_of (flat_map (λ ls. ls) bodies))) c) (sym open_line) (sym (one_line (codes "end") (omega arith)))
    ∙ ap (λ m. joined m (measure_of (codes "end" ∷ []))) (measure_behind (text ∷ []) (flat_map (λ ls. ls) bodies))
    ∙ measure_behind (text ∷ flat_map (λ ls. ls) bodies) (codes "end" ∷ [])
