-- The heads of templates, place by place.
use Rattle.std.proofs.Common.{◌≡◌, ℕ, zero, suc, ◌+◌, ◌<◌, List, [], ◌∷◌, length, take, get_or, map, sym, ap, ◌∙◌, arith}
use Rattle.std.proofs.lemmas.List.{length-map}
use Rattle.dup_template.specs.declared.site.TemplatePart.{TemplatePart}
use Rattle.dup_template.specs.Frame.{Head, head_of, heads_of}

pub heads_length : (a b : List TemplatePart) → heads_of a ≡ heads_of b → length a ≡ length b
heads_length a b is = sym (length-map a head_of) ∙ ap length is ∙ length-map b head_of

tail_of : List Head → List Head
tail_of [] = []
tail_of (h ∷ hs) = hs

-- the same heads are the same at each place
pub head_at : (a b : List TemplatePart) (i : ℕ) (x y : TemplatePart) → i < length a → i < length b → x ≡ get_or a i x → y ≡ get_or b i y →
    heads_of a ≡ heads_of b → head_of x ≡ head_of y
unfolding tail_of
head_at [] b i x y within also at_a at_b is = absurd (omega (arith, within))
head_at (p ∷ ps) [] i x y within also at_a at_b is = absurd (omega (arith, also))
head_at (p ∷ ps) (q ∷ qs) zero x y within also at_a at_b is =
    ap head_of at_a ∙ ap (λ l. get_or l 0 (head_of x)) is ∙ ap head_of (sym at_b)
head_at (p ∷ ps) (q ∷ qs) (suc i) x y within also at_a at_b is =
    head_at ps qs i x y (omega (arith, within)) (omega (arith, also)) at_a at_b (ap tail_of is)

-- one more place
pub heads_more : (a b : List TemplatePart) (i : ℕ) (x y : TemplatePart) → i < length a → i < length b → x ≡ get_or a i x → y ≡ get_or b i y →
    head_of x ≡ head_of y → heads_of (take i a) ≡ heads_of (take i b) → heads_of (take (suc i) a) ≡ heads_of (take (suc i) b)
unfolding tail_of
heads_more [] b i x y within also at_a at_b same is = absurd (omega (arith, within))
heads_more (p ∷ ps) [] i x y within also at_a at_b same is = absurd (omega (arith, also))
heads_more (p ∷ ps) (q ∷ qs) zero x y within also at_a at_b same is =
    λ j. (ap head_of (sym at_a) ∙ same ∙ ap head_of at_b) j ∷ []
heads_more (p ∷ ps) (q ∷ qs) (suc i) x y within also at_a at_b same is =
    λ j. get_or (is j) 0 (head_of p) ∷ heads_more ps qs i x y (omega (arith, within)) (omega (arith, also)) at_a at_b same (ap tail_of is) j
