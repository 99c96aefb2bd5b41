-- The first edition is consistent, and a closed bundle keeps an edition so.
use Rattle.dup_model.proofs.Closed.{IsClosedBy}
use Rattle.std.proofs.Common.{◌≡◌, ◌≤◌, Bool, true, false, cond, List, [], ◌++◌, Option, Some, None, refl, sym, ap, subst, ◌∙◌, arith, length}
use Rattle.std.specs.Option.{option_map}
use Rattle.std.proofs.lemmas.Option.{none-some, same_Some}
use Rattle.std.proofs.lemmas.List.{take-append-le, length-append}
use Rattle.std.proofs.Math.Seq.{take-length}
use Rattle.std.specs.FinMap as fin
use Rattle.std.proofs.lemmas.Bool.{true≢false}
use Rattle.dup_model.proofs.Sound.{sound_from_closed, closed_from_sound, IsSound-alike}
use Rattle.dup_model.proofs.Absorb.{get_after_bundle, looks_after_bundle}
use Rattle.dup_names.specs.Words.{Path}
use Rattle.dup_names.specs.declared.value.Look.{Look}
use Rattle.dup_model.specs.Editions.{Page, Edition, IsConsistent, looks, target_looks, absorb, page_at, bundle_of, has}
use Rattle.dup_model.specs.Needs.{IsSound, IsClosed, links, clash}
use Rattle.dup_names.specs.Order.{text_cmp}
use Rattle.dup_model.specs.Pages.{Target, target}
use Rattle.dup_model.specs.Commits.{Commit}
use Rattle.dup_template.specs.declared.site.Parts.{Parts}
use Rattle.dup_model.specs.Versions.{content}
use Rattle.dup_model.specs.Pages.{target_at}

nothing : (q : Path) → looks fin.empty q ≡ None
nothing q = ap (option_map (λ page. page.look)) (fin.get-empty text_cmp q)

pub empty_sound : IsSound (looks fin.empty)
empty_sound = record {
  leads = λ p q h. absurd (true≢false (sym h ∙ ap (λ o. links o q) (nothing p)));
  agrees = λ p q. ap (λ o. clash o (looks fin.empty q)) (nothing p);
}

pub empty_consistent : (site : Parts) → IsConsistent site [] fin.empty
empty_consistent site = record {
  rendered = λ p page is. absurd (none-some page (sym (fin.get-empty text_cmp p) ∙ is));
  sound = empty_sound;
}

module _ (site : Parts) (before commits : List Commit) (e : Edition) (consistent : IsConsistent site before e) where
  Rendered : Path → Page → Type 0
  Rendered p page = (page.path ≡ p) × (page.version ≤ length (before ++ commits)) × (fin.get (target_at site (before ++ commits) page.version) p ≡ Some page.look)

  -- an entry stays rendered when commits are added
  rendered_kept : (p : Path) (page : Page) → fin.get e p ≡ Some page → Rendered p page
  unfolding Rendered
  rendered_kept p page is =
      let old : (page.path ≡ p) × (page.version ≤ length before) × (fin.get (target_at site before page.version) p ≡ Some page.look) = consistent.rendered p page is in
      (old.0, omega (arith, old.1, length-append before commits), ap (λ l. fin.get (target (content site l)) p) (take-append-le page.version before commits old.1) ∙ old.2)

  rendered_put : (p : Path) (page : Page) (found : Option Look) → fin.get (target (content site (before ++ commits))) p ≡ found →
      option_map (λ look. let page : Page = record { path = p; version = length (before ++ commits); look = look } in page) found ≡ Some page → Rendered p page
  unfolding Rendered
  rendered_put p page None at is = absurd (none-some page is)
  rendered_put p page (Some look) at is =
      let same : record { path = p; version = length (before ++ commits); look = look } ≡ page = same_Some _ page is in
      let P : Page → Type 0 = λ page. (page.path ≡ p) × (page.version ≤ length (before ++ commits)) × (fin.get (target_at site (before ++ commits) page.version) p ≡ Some page.look) in
      subst P same (refl, omega arith, ap (λ l. fin.get (target (content site l)) p) (take-length (before ++ commits)) ∙ at)

  rendered_after : (t : Target) → t ≡ target (content site (before ++ commits)) → (p : Path) (page : Page) (b : Bool) → cond b (page_at t (length (before ++ commits)) p) (fin.get e p) ≡ Some page → Rendered p page
  rendered_after t of p page true is = rendered_put p page (fin.get t p) (ap (λ t. fin.get t p) (sym of)) is
  rendered_after t of p page false is = rendered_kept p page is

  module _ (t : Target) (of : t ≡ target (content site (before ++ commits))) (ps : List Path) where
    pub consistent_after : IsSound (target_looks t) → IsClosedBy (looks e) (target_looks t) (has ps) →
        IsConsistent site (before ++ commits) (absorb e (bundle_of t (length (before ++ commits)) commits ps))
    unfolding Rendered
    consistent_after new closed = record {
      rendered = λ p page is. rendered_after t of p page (has ps p) (sym (get_after_bundle t (length (before ++ commits)) e commits ps p) ∙ is);
      sound = IsSound-alike _ _ (looks_after_bundle t (length (before ++ commits)) e commits ps) (sound_from_closed (looks e) (target_looks t) (has ps) consistent.sound new closed);
    }

    pub closed_after : IsConsistent site (before ++ commits) (absorb e (bundle_of t (length (before ++ commits)) commits ps)) →
        IsClosed (looks e) (target_looks t) (has ps)
    closed_after later = closed_from_sound (looks e) (target_looks t) (has ps) (IsSound-alike _ _ (λ q. sym (looks_after_bundle t (length (before ++ commits)) e commits ps q)) later.sound)
