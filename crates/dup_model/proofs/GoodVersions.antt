-- The frame with the bodies of any content of a history is a good site.
use Rattle.std.proofs.Common.{◌≡◌, ℕ, ◌+◌, ◌<◌, Bool, true, false, not, List, [], ◌∷◌, ◌++◌, length, refl, sym, ap, subst, ◌∙◌, arith, append_assoc, append-nil}
use Rattle.dup_names.specs.Words.{Word}
use Rattle.std.specs.Prelude.{Option, Some, None, slice_set, slice_get, if◌then◌else◌, nat_lt}
use Rattle.std.proofs.lemmas.Bool.{ltb-true}
use Rattle.std.proofs.lemmas.Option.{none-some}
use Rattle.std.proofs.lemmas.List.{length-map, take-append-le}
use Rattle.std.proofs.lemmas.List.Sums.{fold-append}
use Rattle.std.proofs.Math.Seq.{take-length}
use Rattle.dup_template.specs.Frame.{head_of, with_body}
use Rattle.dup_template.specs.Good.{new_body_fault}
use Rattle.dup_template.specs.declared.refusal.SiteRefusal.{SiteRefusal}
use Rattle.dup_template.specs.declared.site.Parts.{Parts}
use Rattle.dup_template.specs.declared.statement.Statement.{Statement}
use Rattle.dup_template.proofs.WithBody.{bodies_with_body, frame_with_body, good_replaced}
use Rattle.dup_model.specs.declared.edit.Edit.{Edit}
use Rattle.dup_model.specs.declared.edit.Edit.TheVariants.{Put, Remove, Replace}
use Rattle.dup_model.specs.Commits.{Commit, UnknownTemplate, after, bad_body, edit_misfit, edited, misfit, misfit_from, refusal}
use Rattle.dup_model.specs.Content.{Content, start}
use Rattle.dup_model.specs.GoodSites.{GoodHistoriesEmbedEarlier, GoodVersions, IsGoodContent}
use Rattle.dup_model.proofs.GoodSites.{good_embeds_earlier}
use Rattle.dup_model.specs.Names.{template_at}
use Rattle.dup_model.specs.Versions.{IsHistory, content}
use Rattle.dup_model.proofs.Histories.{fits_from, or_none}
use Rattle.dup_model.proofs.Lists.{get_front, get_last}

fits_body : (known : Bool) (fault : Option SiteRefusal) (n : ℕ) → (if not known then Some (UnknownTemplate n) else bad_body n fault) ≡ None → (known ≡ true) × (fault ≡ None)
fits_body true None n is = (refl, refl)
fits_body true (Some why) n is = absurd (none-some _ (sym is))
fits_body false fault n is = absurd (none-some _ (sym is))

replaced_good : (c : Content) (n : ℕ) (name : Word) (body : List Statement) → IsGoodContent c → edit_misfit c n (Replace name body) ≡ None → IsGoodContent (edited c (Replace name body))
replaced_good c n name body (p, good, of) is =
    let template : ℕ = template_at c.frame name in
    let fits : (nat_lt (template_at c.frame name) (length c.frame.templates) ≡ true) × (new_body_fault c.frame (template_at c.frame name) body ≡ None) =
    fits_body (nat_lt (template_at c.frame name) (length c.frame.templates)) (new_body_fault c.frame (template_at c.frame name) body) n is in
    let there : template_at c.frame name < length p.templates =
    subst (λ m. template_at c.frame name < m) (ap (λ f. length f.templates) of.frame ∙ length-map p.templates head_of) (ltb-true _ _ fits.0) in (
      with_body p (template_at c.frame name) body,
      good_replaced p (template_at c.frame name) body there good (ap (λ f. new_body_fault f (template_at c.frame name) body) (sym of.frame) ∙ fits.1),
      record {
        frame = of.frame ∙ sym (frame_with_body p (template_at c.frame name) body);
        bodies = ap (λ bs. slice_set bs (template_at c.frame name) body) of.bodies ∙ sym (bodies_with_body p (template_at c.frame name) body);
      },
    )

edited_good : (c : Content) (n : ℕ) (e : Edit) → IsGoodContent c → edit_misfit c n e ≡ None → IsGoodContent (edited c e)
edited_good c n (Put kind key fields) (p, good, of) is = (p, good, record { frame = of.frame; bodies = of.bodies })
edited_good c n (Remove kind key) (p, good, of) is = (p, good, record { frame = of.frame; bodies = of.bodies })
edited_good c n (Replace name body) at is = replaced_good c n name body at is

after_good : (es : Commit) (n : ℕ) (c : Content) → IsGoodContent c → misfit_from n c es ≡ None → IsGoodContent (after c es)
after_good [] n c good is = good
after_good (e ∷ es) n c good is =
    let both : (edit_misfit c n e ≡ None) × (misfit_from (1 + n) (edited c e) es ≡ None) = or_none _ _ is in
    after_good es (1 + n) (edited c e) (edited_good c n e good both.0) both.1

-- a commit that isn't refused keeps it so
pub after_good_content : (c : Content) (commit : Commit) (rows : ℕ) → IsGoodContent c → refusal c commit rows ≡ None → IsGoodContent (after c commit)
after_good_content c commit rows good is = after_good commit 1 c good (fits_from commit 1 c rows is)

-- along a history
along : (site : Parts) (front rest : List Commit) → IsGoodContent (content site front) → IsHistory site (front ++ rest) → IsGoodContent (content site (front ++ rest))
along site front [] good h = subst (λ l. IsGoodContent (content site l)) (sym (append-nil front)) good
along site front (commit ∷ rest) good h =
    let whole : (front ++ commit ∷ []) ++ rest ≡ front ++ commit ∷ rest = append_assoc front (commit ∷ []) rest in
    let at : slice_get (front ++ commit ∷ rest) (length front) ≡ Some commit =
    ap (λ l. slice_get l (length front)) (sym whole) ∙ get_front (front ++ commit ∷ []) rest (length front) commit (get_last front commit) in
    let fits : misfit (content site front) commit ≡ None =
    ap (λ l. misfit (content site l) commit) (sym (take-append-le (length front) front (commit ∷ rest) (omega arith) ∙ take-length front)) ∙ h.fits (length front) commit at in
    subst (λ l. IsGoodContent (content site l)) whole
    (along site (front ++ commit ∷ []) rest
    (subst IsGoodContent (sym (fold-append after (start site) front (commit ∷ []))) (after_good commit 1 (content site front) good fits))
    (subst (IsHistory site) (sym whole) h))

pub good_versions : GoodVersions
good_versions site commits good h = along site [] commits (site, good, record { frame = refl; bodies = refl }) h

pub good_histories : GoodHistoriesEmbedEarlier
good_histories site good commits h =
    let at : IsGoodContent (content site commits) = good_versions site commits good h in
    good_embeds_earlier at.0 (content site commits) at.1 at.2
