-- The site of a version, and what a commit that isn't refused fits.
use Rattle.std.proofs.Common.{◌≡◌, ℕ, ◌+◌, ◌<◌, inl, inr, List, [], ◌∷◌, ◌++◌, Option, Some, None, length, take, refl, sym, ap, subst, ◌∙◌, arith}
use Rattle.std.specs.List.{fold, slice_get}
use Rattle.std.specs.Option.{option_or}
use Rattle.std.proofs.lemmas.Option.{none-some}
use Rattle.std.proofs.lemmas.List.{take-append-le}
use Rattle.std.proofs.Math.Seq.{take-length}
use Rattle.dup_template.specs.declared.site.Parts.{Parts}
use Rattle.dup_model.specs.declared.edit.Edit.{Edit}
use Rattle.dup_model.specs.declared.edit.Edit.TheVariants.{Put, Remove, Replace}
use Rattle.std.specs.List.{AllByRecursion}
use Rattle.dup_model.specs.Tables.{AreOfRows, IsOfRow, VersionsAreOfTheSite, VersionsHaveTheFrame}
use Rattle.dup_model.specs.Content.{Content}
use Rattle.dup_model.specs.Commits.{Commit, edited, after, edit_misfit, no_room, misfit_from, refusal_from, misfit, refusal}
use Rattle.dup_model.specs.Content.{start}
use Rattle.dup_model.specs.Versions.{content, IsHistory}
use Rattle.dup_model.specs.Journal.{Limits, journal_full, commit_refusal}
use Rattle.dup_model.specs.Pages.{target}
use Rattle.dup_model.specs.Needs.{IsSound}
use Rattle.dup_model.specs.Editions.{target_looks}
use Rattle.dup_model.proofs.Lists.{get_snoc, get_take, take_take}
use Rattle.dup_model.proofs.Targets.{target_sound}

-- the frame stays
edited_frame : (c : Content) (e : Edit) → (edited c e).frame ≡ c.frame
edited_frame c (Put kind key fields) = refl
edited_frame c (Remove kind key) = refl
edited_frame c (Replace template body) = refl

pub after_frame : (c : Content) (es : Commit) → (after c es).frame ≡ c.frame
after_frame c [] = refl
after_frame c (e ∷ es) = after_frame (edited c e) es ∙ edited_frame c e

frame_after : (c : Content) (commits : List Commit) → (fold after c commits).frame ≡ c.frame
frame_after c [] = refl
frame_after c (commit ∷ commits) = frame_after (after c commit) commits ∙ after_frame c commit

pub content_frame : VersionsHaveTheFrame
content_frame site commits = frame_after (start site) commits

-- the bodies stay where no change is of a body
edited_bodies : (c : Content) (e : Edit) → IsOfRow e → (edited c e).bodies ≡ c.bodies
edited_bodies c (Put kind key fields) of = refl
edited_bodies c (Remove kind key) of = refl
edited_bodies c (Replace template body) of = absurd of

pub after_bodies : (c : Content) (es : Commit) → AllByRecursion IsOfRow es → (after c es).bodies ≡ c.bodies
after_bodies c [] of = refl
after_bodies c (e ∷ es) of = after_bodies (edited c e) es of.1 ∙ edited_bodies c e of.0

bodies_after : (c : Content) (commits : List Commit) → AreOfRows commits → (fold after c commits).bodies ≡ c.bodies
bodies_after c [] of = refl
bodies_after c (commit ∷ commits) of = bodies_after (after c commit) commits of.1 ∙ after_bodies c commit of.0

pub content_of : VersionsAreOfTheSite
content_of site commits of = record { frame = content_frame site commits; bodies = bodies_after (start site) commits of }

-- the target of each version is sound
pub version_sound : (site : Parts) (commits : List Commit) → IsSound (target_looks (target (content site commits)))
version_sound site commits = target_sound (content site commits)

pub or_none : {A : Type 0} (a b : Option A) → option_or a b ≡ None → (a ≡ None) × (b ≡ None)
or_none None b is = (refl, is)
or_none (Some x) b is = absurd (none-some x (sym is))

pub fits_from : (es : Commit) (n : ℕ) (c : Content) (rows : ℕ) → refusal_from n c es rows ≡ None → misfit_from n c es ≡ None
fits_from [] n c rows is = refl
fits_from (e ∷ es) n c rows is =
    let both : (option_or (edit_misfit c n e) (no_room c rows n e) ≡ None) × (refusal_from (1 + n) (edited c e) es rows ≡ None) = or_none _ _ is in
    let first : (edit_misfit c n e ≡ None) × (no_room c rows n e ≡ None) = or_none _ _ both.0 in
    ap (λ o. option_or o (misfit_from (1 + n) (edited c e) es)) first.0 ∙ fits_from es (1 + n) (edited c e) rows both.1

-- a commit that isn't refused fits
pub fits_unless_refused : (site : Parts) (limits : Limits) (commits : List Commit) (c : Commit) → commit_refusal site limits commits c ≡ None → misfit (content site commits) c ≡ None
fits_unless_refused site limits commits c is =
    let both : (journal_full limits commits c ≡ None) × (refusal (content site commits) c limits.rows ≡ None) = or_none _ _ is in
    fits_from c 1 (content site commits) limits.rows both.1

pub history_push : (site : Parts) (commits : List Commit) (c : Commit) → misfit (content site commits) c ≡ None → IsHistory site commits → IsHistory site (commits ++ c ∷ [])
history_push site commits c fine old = record {
  fits = λ k d is. elim (get_snoc commits c k d is) [
    | inl before ↦ subst (λ l. misfit (content site l) d ≡ None) (sym (take-append-le k commits (c ∷ []) (omega (arith, before.0)))) (old.fits k d before.1)
    | inr last ↦ subst (λ l. misfit (content site l) d ≡ None) (sym (ap (λ k. take k (commits ++ c ∷ [])) last.0 ∙ take-append-le (length commits) commits (c ∷ []) (omega arith) ∙ take-length commits))
        (subst (λ d. misfit (content site commits) d ≡ None) last.1 fine)
  ];
}

pub history_take : (site : Parts) (commits : List Commit) (v : ℕ) → IsHistory site commits → IsHistory site (take v commits)
history_take site commits v old = record {
  fits = λ k c is.
      let there : (k < v) × (slice_get commits k ≡ Some c) = get_take v commits k c is in
      subst (λ l. misfit (content site l) c ≡ None) (sym (take_take k v commits (omega (arith, there.0)))) (old.fits k c there.1);
}
