-- A good site with a body in place of another, of which the rules hold, is good.
use Rattle.std.proofs.Common.{◌≡◌, ℕ, zero, suc, ◌<◌, List, [], ◌∷◌, ◌++◌, length, take, drop, refl, sym, ap, ap₂, subst, ◌∙◌, append-nil, append_assoc, arith, ◌+◌, ◌-◌}
use Rattle.std.proofs.Math.Seq.{take-length}
use Rattle.std.proofs.lemmas.List.{length-drop}
use Rattle.std.proofs.Math.ListN.{get_or}
use Rattle.std.proofs.lemmas.Option.{slice_get-get_or}
use Rattle.std.specs.Prelude.{Option, Some, None, map, slice_set}
use Rattle.std.specs.List.{slice_get}
use Rattle.std.specs.Option.{option_or}
use Rattle.dup_template.specs.Frame.{Frame, Head, bodies_of, frame_of, head_of, heads_of, set_body, with_body}
use Rattle.dup_template.specs.Good.{Fault, IsGood, body_broken, broken_at, first_from, heads_fault, kinds_fault, new_body_fault, pages_fault, template_fault, bodies_fault}
use Rattle.dup_template.specs.declared.site.Parts.{Parts}
use Rattle.dup_template.specs.declared.site.TemplatePart.{TemplatePart}
use Rattle.dup_template.specs.declared.statement.Statement.{Statement}
use Rattle.dup_template.proofs.GoodParts.{Good, get-head, good-parts, or-none}

-- the heads stay
pub same_heads : (ts : List TemplatePart) (n : ℕ) (body : List Statement) → heads_of (set_body ts n body) ≡ heads_of ts
same_heads [] n body = refl
same_heads (t ∷ ts) zero body = refl
same_heads (t ∷ ts) (suc n) body = ap (λ hs. head_of t ∷ hs) (same_heads ts n body)

pub heads_append : (xs ys : List TemplatePart) → heads_of (xs ++ ys) ≡ heads_of xs ++ heads_of ys
heads_append [] ys = refl
heads_append (x ∷ xs) ys = ap (λ hs. head_of x ∷ hs) (heads_append xs ys)

none-or : (a b : Fault) → a ≡ None → b ≡ None → option_or a b ≡ None
none-or a b p q = ap₂ option_or p q

module _ (f : Frame) where
  -- the rules look at the heads of the templates before
  by_heads : (xs ys ts : List TemplatePart) → heads_of xs ≡ heads_of ys → first_from (template_fault f) xs ts ≡ first_from (template_fault f) ys ts
  by_heads xs ys [] same = refl
  by_heads xs ys (t ∷ ts) same =
      ap₂ option_or (ap (λ hs. body_broken f hs (head_of t) t.body) same)
      (by_heads (xs ++ t ∷ []) (ys ++ t ∷ []) ts (heads_append xs (t ∷ []) ∙ ap (λ hs. hs ++ head_of t ∷ []) same ∙ sym (heads_append ys (t ∷ []))))

  body_set : (ts earlier : List TemplatePart) (n : ℕ) (body : List Statement) (t : TemplatePart) → slice_get ts n ≡ Some t →
      first_from (template_fault f) earlier ts ≡ None → body_broken f (heads_of earlier ++ take n (heads_of ts)) (head_of t) body ≡ None →
      first_from (template_fault f) earlier (set_body ts n body) ≡ None
  body_set [] earlier n body t is good holds = cc
  body_set (x ∷ ts) earlier zero body t is good holds =
      let same : x ≡ t = cc in
      let both = or-none (template_fault f earlier x) (first_from (template_fault f) (earlier ++ x ∷ []) ts) good in
      none-or (template_fault f earlier (record x { body = body })) (first_from (template_fault f) (earlier ++ record x { body = body } ∷ []) ts)
      (ap₂ (λ hs u. body_broken f hs (head_of u) body) (sym (append-nil (heads_of earlier))) same ∙ holds)
      (by_heads (earlier ++ record x { body = body } ∷ []) (earlier ++ x ∷ []) ts
      (heads_append earlier (record x { body = body } ∷ []) ∙ sym (heads_append earlier (x ∷ []))) ∙ both.1)
  body_set (x ∷ ts) earlier (suc n) body t is good holds =
      let both = or-none (template_fault f earlier x) (first_from (template_fault f) (earlier ++ x ∷ []) ts) good in
      none-or (template_fault f earlier x) (first_from (template_fault f) (earlier ++ x ∷ []) (set_body ts n body)) both.0
      (body_set ts (earlier ++ x ∷ []) n body t is both.1
      (ap (λ hs. body_broken f hs (head_of t) body) (ap (λ hs. hs ++ take n (heads_of ts)) (heads_append earlier (x ∷ [])) ∙ append_assoc (heads_of earlier) (head_of x ∷ []) (take n (heads_of ts))) ∙ holds))

pub heads_taken : (ts : List TemplatePart) (n : ℕ) → take n (heads_of ts) ≡ heads_of (take n ts)
heads_taken ts zero = refl
heads_taken [] (suc n) = refl
heads_taken (t ∷ ts) (suc n) = ap (λ hs. head_of t ∷ hs) (heads_taken ts n)

-- the rules for the body of the template with this number
pub fault_at : (site : Parts) (n : ℕ) (t : TemplatePart) (body : List Statement) → slice_get site.templates n ≡ Some t →
    new_body_fault (frame_of site) n body ≡ body_broken (frame_of site) (heads_of (take n site.templates)) (head_of t) body
fault_at site n t body is =
    ap (broken_at (frame_of site) n body) (get-head site.templates n t is)
    ∙ ap (λ hs. body_broken (frame_of site) hs (head_of t) body) (heads_taken site.templates n)

pub good_with_body : (site : Parts) (n : ℕ) (t : TemplatePart) (body : List Statement) → slice_get site.templates n ≡ Some t →
    IsGood site → new_body_fault (frame_of site) n body ≡ None → IsGood (with_body site n body)
good_with_body site n t body is good holds =
    let parts : Good site = good-parts site good in
    let frames : frame_of (with_body site n body) ≡ frame_of site =
    λ i. record { kinds = site.kinds; templates = same_heads site.templates n body i; pages = site.pages } in
    let bodies : first_from (template_fault (frame_of site)) [] (set_body site.templates n body) ≡ None =
    body_set (frame_of site) site.templates [] n body t is parts.bodies
    (ap (λ hs. body_broken (frame_of site) hs (head_of t) body) (heads_taken site.templates n) ∙ sym (fault_at site n t body is) ∙ holds) in
    none-or _ _ parts.kinds (none-or _ _
    (ap (heads_fault site.kinds) (same_heads site.templates n body) ∙ parts.heads) (none-or _ _
    (ap (λ hs. pages_fault hs site.pages) (same_heads site.templates n body) ∙ parts.pages)
    (ap (λ f. first_from (template_fault f) [] (set_body site.templates n body)) frames ∙ bodies)))

-- what stands before a template, its body, and what stands behind it
pub set_body_is : (ts : List TemplatePart) (n : ℕ) (t : TemplatePart) (body : List Statement) → slice_get ts n ≡ Some t →
    (take n ts ++ record t { body = body } ∷ []) ++ drop (suc n) ts ≡ set_body ts n body
set_body_is [] n t body is = cc
set_body_is (x ∷ ts) zero t body is =
    let same : t ≡ x = cc in ap (λ (u : TemplatePart). record u { body = body } ∷ ts) same
set_body_is (x ∷ ts) (suc n) t body is = ap (λ us. x ∷ us) (set_body_is ts n t body is)

one_more : (n : ℕ) → suc n ≡ n + 1
one_more n = omega arith

rest_taken : (ts : List TemplatePart) (k : ℕ) → take (length ts - k) (drop k ts) ≡ drop k ts
rest_taken ts k = ap (λ m. take m (drop k ts)) (sym (length-drop k ts)) ∙ take-length (drop k ts)

pub set_body_made : (ts : List TemplatePart) (n : ℕ) (t : TemplatePart) (body : List Statement) → n < length ts → t ≡ get_or ts n t →
    (take n ts ++ record t { body = body } ∷ []) ++ take (length ts - (n + 1)) (drop (n + 1) ts) ≡ set_body ts n body
set_body_made ts n t body there is =
    ap (λ m. (take n ts ++ record t { body = body } ∷ []) ++ m) (rest_taken ts (n + 1))
    ∙ ap (λ m. (take n ts ++ record t { body = body } ∷ []) ++ drop m ts) (sym (one_more n))
    ∙ set_body_is ts n t body (slice_get-get_or ts n t there ∙ ap Some (sym is))

pub good_replaced : (site : Parts) (n : ℕ) (body : List Statement) → n < length site.templates →
    IsGood site → new_body_fault (frame_of site) n body ≡ None → IsGood (with_body site n body)
good_replaced site n body there good holds = found site.templates n there
    (λ t is. good_with_body site n t body is good holds)
  where
    found : {A : Type 0} (ts : List TemplatePart) (n : ℕ) → n < length ts → ((t : TemplatePart) → slice_get ts n ≡ Some t → A) → A
    found [] n there f = absurd (omega (arith, there))
    found (t ∷ ts) zero there f = f t refl
    found (t ∷ ts) (suc n) there f = found ts n (omega (arith, there)) f

-- the frame stays, and the one body is replaced
pub frame_with_body : (site : Parts) (n : ℕ) (body : List Statement) → frame_of (with_body site n body) ≡ frame_of site
frame_with_body site n body = λ i. record { kinds = site.kinds; templates = same_heads site.templates n body i; pages = site.pages }

bodies_set : (ts : List TemplatePart) (n : ℕ) (body : List Statement) → map (λ t. t.body) (set_body ts n body) ≡ slice_set (map (λ t. t.body) ts) n body
bodies_set [] n body = refl
bodies_set (t ∷ ts) zero body = refl
bodies_set (t ∷ ts) (suc n) body = ap (λ bs. t.body ∷ bs) (bodies_set ts n body)

pub bodies_with_body : (site : Parts) (n : ℕ) (body : List Statement) → bodies_of (with_body site n body) ≡ slice_set (bodies_of site) n body
bodies_with_body site n body = bodies_set site.templates n body
