-- The lines of a text, one after another.
use Rattle.std.proofs.Common.{◌≡◌, ℕ, zero, suc, ◌+◌, ◌-◌, ◌≤◌, ◌<◌, List, [], ◌∷◌, length, take, drop, refl, ap, sym, subst, ◌∙◌, arith, inl, inr, ◌⊎◌}
use Rattle.std.specs.Prelude.{Bool, true, false}
use Rattle.std.specs.List.{slice_split, onto_first}
use Rattle.std.proofs.lemmas.List.{take_rest}
use Rattle.dup_names.specs.Lines.{text_lines, without_last, is_feed}
use Rattle.dup_site.specs.LineSpans.{line_span}
use Rattle.dup_site.proofs.WrittenLines.{without-cons}

abbrev Cut : List ℕ → Type 0
Cut bs =
    ((slice_split is_feed bs ≡ take (line_span bs) bs ∷ []) × (line_span bs ≡ length bs))
    ⊎ (slice_split is_feed bs ≡ take (line_span bs) bs ∷ slice_split is_feed (drop (suc (line_span bs)) bs))

cut-on : (b : ℕ) (bs : List ℕ) → is_feed b ≡ false → Cut bs → Cut (b ∷ bs)
cut-on b bs is (inl p) = inl (rw is (ap (onto_first b) p.0), rw is (ap suc p.1))
cut-on b bs is (inr p) = inr (rw is (ap (onto_first b) p))

cut-by : (b : ℕ) (bs : List ℕ) (e : Bool) → is_feed b ≡ e → Cut bs → Cut (b ∷ bs)
cut-by b bs true is c = inr (rw is refl)
cut-by b bs false is c = cut-on b bs is c

cut : (bs : List ℕ) → Cut bs
cut [] = inl (refl, refl)
cut (b ∷ bs) = cut-by b bs (is_feed b) refl (cut bs)

drop-past : (bs : List ℕ) (n : ℕ) → length bs ≤ n → drop n bs ≡ []
drop-past [] zero h = refl
drop-past [] (suc n) h = refl
drop-past (b ∷ bs) zero h = absurd (omega arith)
drop-past (b ∷ bs) (suc n) h = drop-past bs n (omega arith)

last-line : (bs : List ℕ) (n : ℕ) → 0 < length bs → n ≡ length bs → without_last (take n bs ∷ []) ≡ take n bs ∷ text_lines (drop (suc n) bs)
last-line [] n some is = absurd (omega arith)
last-line (b ∷ bs) n some is =
    subst (λ (m : ℕ). without_last (take m (b ∷ bs) ∷ []) ≡ take m (b ∷ bs) ∷ text_lines (drop (suc m) (b ∷ bs))) (sym is)
    (ap (λ x. (b ∷ take (length bs) bs) ∷ text_lines x) (sym (drop-past bs (suc (length bs)) (omega arith))))

lines-by : (bs : List ℕ) → 0 < length bs → Cut bs → text_lines bs ≡ take (line_span bs) bs ∷ text_lines (drop (suc (line_span bs)) bs)
lines-by bs some (inl p) = ap without_last p.0 ∙ last-line bs (line_span bs) some p.1
lines-by bs some (inr p) = ap without_last p ∙ without-cons (take (line_span bs) bs) (drop (suc (line_span bs)) bs)

pub lines_next : (bs : List ℕ) → 0 < length bs → text_lines bs ≡ take (line_span bs) bs ∷ text_lines (drop (suc (line_span bs)) bs)
lines_next bs some = lines-by bs some (cut bs)

pub lines_more : (bs : List ℕ) (n rest : ℕ) → 0 < length bs → n ≡ line_span bs → rest ≡ n + 1 → text_lines bs ≡ take n bs ∷ text_lines (take (length bs - rest) (drop rest bs))
lines_more bs n rest some is at =
    let next : rest ≡ suc (line_span bs) = omega arith in
    rw (take_rest bs rest, next, is) (lines_next bs some)

pub lines_last : (bs : List ℕ) (n rest : ℕ) → 0 < length bs → n ≡ line_span bs → length bs ≤ n → rest ≡ n → text_lines bs ≡ take n bs ∷ text_lines (take (length bs - rest) (drop rest bs))
lines_last bs n rest some is past at =
    let here : drop rest bs ≡ [] = drop-past bs rest (omega arith) in
    let there : drop (suc (line_span bs)) bs ≡ [] = drop-past bs (suc (line_span bs)) (omega arith) in
    rw (take_rest bs rest, here, is) (lines_next bs some ∙ ap (λ x. take (line_span bs) bs ∷ text_lines x) there)
