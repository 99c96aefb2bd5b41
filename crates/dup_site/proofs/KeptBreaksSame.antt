-- What is kept of parts breaks the same first rule as the parts, and where it breaks none it is all.
use Rattle.std.proofs.Common.{◌≡◌, ℕ, ◌<◌, ◌≤◌, ◌⊎◌, inl, inr, List, [], ◌∷◌, ◌++◌, refl, ap, ap₂, sym, ◌∙◌, arith}
use Rattle.std.specs.Option.{option_or}
use Rattle.std.specs.Prelude.{Some, None}
use Rattle.std.proofs.lemmas.Bool.{lt-ltb}
use Rattle.dup_template.specs.Frame.{Frame, Head, frame_of, head_of, heads_of}
use Rattle.dup_template.specs.Good.{Fault, at_most, first_from, kinds_fault, heads_fault, pages_fault, body_fault, template_fault, site_fault, body_size}
use Rattle.dup_template.specs.declared.refusal.SiteRefusal.TheVariants.{TooMany}
use Rattle.dup_template.specs.declared.refusal.What.TheVariants.{Statements}
use Rattle.dup_template.specs.declared.site.Parts.{Parts}
use Rattle.dup_template.specs.declared.site.TemplatePart.{TemplatePart}
use Rattle.dup_template.proofs.GoodParts.{or-none, at_most-none, good-parts}
use Rattle.dup_template.proofs.WithBody.{heads_append}
use Rattle.dup_site.specs.KeptStatements.{IsKeptOf, AreKeptOf, BreakSame, IsKept}

-- the heads are kept
head-kept : (t u : TemplatePart) → IsKeptOf t u → head_of t ≡ head_of u
head-kept t u one = λ i. record { name = one.0 i; kind = one.1 i }

heads-kept : (ts us : List TemplatePart) → AreKeptOf ts us → heads_of ts ≡ heads_of us
heads-kept [] [] all = refl
heads-kept (t ∷ ts) (u ∷ us) all = ap₂ (λ h hs. h ∷ hs) (head-kept t u all.0) (heads-kept ts us all.1)
heads-kept [] (u ∷ us) all = absurd all
heads-kept (t ∷ ts) [] all = absurd all

too-many : (n : ℕ) (f : Fault) → 4096 < n → option_or (at_most 4096 Statements n) f ≡ Some (TooMany Statements)
too-many n f more = rw (lt-ltb 4096 n more) refl

module _ (frame : Frame) where
  template-by : (es fs : List TemplatePart) (t u : TemplatePart) → heads_of es ≡ heads_of fs → head_of t ≡ head_of u →
      (t.body ≡ u.body) ⊎ (((4096 < body_size t.body) × (4096 < body_size u.body)) ⊎ ((body_size t.body ≡ body_size u.body) × BreakSame 1 t.body u.body)) →
      template_fault frame es t ≡ template_fault frame fs u
  template-by es fs t u before own (inl bodies) =
      λ i. option_or (at_most 4096 Statements (body_size (bodies i))) (body_fault frame (before i) (own i).name (bodies i) (own i).kind 1)
  template-by es fs t u before own (inr (inl more)) =
      too-many (body_size t.body) (body_fault frame (heads_of es) t.name t.body t.kind 1) more.0
      ∙ sym (too-many (body_size u.body) (body_fault frame (heads_of fs) u.name u.body u.kind 1) more.1)
  template-by es fs t u before own (inr (inr both)) =
      ap (λ n. option_or (at_most 4096 Statements n) (body_fault frame (heads_of es) t.name t.body t.kind 1)) both.0
      ∙ ap (λ f. option_or (at_most 4096 Statements (body_size u.body)) f)
      (both.1.same frame (heads_of es) t.name t.kind ∙ (λ i. body_fault frame (before i) (own i).name u.body (own i).kind 1))

  bodies-kept : (es fs ts us : List TemplatePart) → heads_of es ≡ heads_of fs → AreKeptOf ts us →
      first_from (template_fault frame) es ts ≡ first_from (template_fault frame) fs us
  bodies-kept es fs [] [] before all = refl
  bodies-kept es fs (t ∷ ts) (u ∷ us) before all =
      ap₂ option_or (template-by es fs t u before (head-kept t u all.0) all.0.2)
      (bodies-kept (es ++ t ∷ []) (fs ++ u ∷ []) ts us
      (heads_append es (t ∷ []) ∙ ap₂ (λ hs h. hs ++ h ∷ []) before (head-kept t u all.0) ∙ sym (heads_append fs (u ∷ []))) all.1)
  bodies-kept es fs [] (u ∷ us) before all = absurd all
  bodies-kept es fs (t ∷ ts) [] before all = absurd all

-- what is kept breaks the same first rule
pub kept_fault : (k w : Parts) → IsKept k w → site_fault k ≡ site_fault w
kept_fault k w is =
    let heads : heads_of k.templates ≡ heads_of w.templates = heads-kept k.templates w.templates is.templates in
    let frames : frame_of k ≡ frame_of w = λ i. record { kinds = is.kinds i; templates = heads i; pages = is.pages i } in
    let bodies : first_from (template_fault (frame_of k)) [] k.templates ≡ first_from (template_fault (frame_of w)) [] w.templates =
    bodies-kept (frame_of k) [] [] k.templates w.templates refl is.templates ∙ ap (λ f. first_from (template_fault f) [] w.templates) frames in
    λ i. option_or (kinds_fault (is.kinds i)) (option_or (heads_fault (is.kinds i) (heads i)) (option_or (pages_fault (heads i) (is.pages i)) (bodies i)))

same-template : (frame : Frame) (earlier : List Head) (t u : TemplatePart) → body_size t.body ≤ 4096 → body_fault frame earlier t.name t.body t.kind 1 ≡ None →
    t.name ≡ u.name → t.kind ≡ u.kind →
    (t.body ≡ u.body) ⊎ (((4096 < body_size t.body) × (4096 < body_size u.body)) ⊎ ((body_size t.body ≡ body_size u.body) × BreakSame 1 t.body u.body)) → t ≡ u
same-template frame earlier t u few good names kinds_are (inl bodies) = λ i. record { name = names i; kind = kinds_are i; body = bodies i }
same-template frame earlier t u few good names kinds_are (inr (inl more)) = absurd (let m = more.0 in omega arith)
same-template frame earlier t u few good names kinds_are (inr (inr both)) = absurd (both.1.broken frame earlier t.name t.kind good)

same-templates : (frame : Frame) (earlier ts us : List TemplatePart) → first_from (template_fault frame) earlier ts ≡ None → AreKeptOf ts us → ts ≡ us
same-templates frame earlier [] [] none all = refl
same-templates frame earlier (t ∷ ts) (u ∷ us) none all =
    let both = or-none (template_fault frame earlier t) (first_from (template_fault frame) (earlier ++ t ∷ []) ts) none in
    let good = or-none (at_most 4096 Statements (body_size t.body)) (body_fault frame (heads_of earlier) t.name t.body t.kind 1) both.0 in
    let few : body_size t.body ≤ 4096 = at_most-none 4096 Statements (body_size t.body) good.0 in
    let here : t ≡ u = same-template frame (heads_of earlier) t u few good.1 all.0.0 all.0.1 all.0.2 in
    let rest : ts ≡ us = same-templates frame (earlier ++ t ∷ []) ts us both.1 all.1 in
    λ i. here i ∷ rest i
same-templates frame earlier [] (u ∷ us) none all = absurd all
same-templates frame earlier (t ∷ ts) [] none all = absurd all

-- where what is kept is good, it is all
pub kept_good : (k w : Parts) → IsKept k w → site_fault k ≡ None → k ≡ w
kept_good k w is good =
    let templates_are : k.templates ≡ w.templates = same-templates (frame_of k) [] k.templates w.templates (good-parts k good).bodies is.templates in
    λ i. record { kinds = is.kinds i; templates = templates_are i; pages = is.pages i }
