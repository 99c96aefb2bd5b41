-- Each step keeps the rule.
use Rattle.std.proofs.Common.{◌≡◌, ℕ, zero, suc, ◌≢◌, List, [], ◌∷◌, sym, refl, subst, ⊎_elim}
use mathlib.Core.Option.{some}
use lib.ListN.{get_elem?}
use Rattle.crossbeam_utils.specs.Register.{Admits, TurnsAt}
use Rattle.atomic_table.proofs.Lists.{at_set, at_snoc}
use Rattle.logbook.specs.Pages.{Book}
use Rattle.dup_template.specs.declared.site.Parts.{Parts}
use Rattle.dup_model.specs.Editions.{Bundle}
use Rattle.dup_model.specs.Logs.{IsGoodLog}
use Rattle.dup_cache.specs.Holding.{BeginsWith}
use Rattle.dup_live.specs.declared.shown.State.{State}
use Rattle.dup_live.specs.Kept.{IsKept, IsOf, Reads}
use Rattle.dup_model.proofs.Push.{good_empty}
use Rattle.dup_live.proofs.Fronts.{prefix_self, prefix_trans}

-- each log begins with what the one thread has seen, which is nothing
one_seen : (log seen : List Bundle) (seat : ℕ) → get_elem? {A = List Bundle} ([] ∷ []) seat ≡ some seen → BeginsWith log seen
one_seen log seen zero is = let same : [] ≡ seen = cc is in subst (λ (u : List Bundle). BeginsWith log u) same (log, refl)
one_seen log seen (suc seat) is = absurd (cc is)

module _ (book : Book) (site : Parts) where
  abbrev pub Rule : State → List (List Bundle) → Type 0
  Rule s views = IsOf book site s × IsKept site s.edition.log views

  abbrev pub Then : List Bundle → State → State → List Bundle → Type 0
  Then v x y w = IsOf book site y × Reads site v y.edition.log w

  -- edition 0 opens the rule
  pub opens : (s : State) → IsOf book site s → s.edition.log ≡ [] → Rule s ([] ∷ [])
  opens s of empty = (
    of,
    (
      subst (λ (l : List Bundle). IsGoodLog site l) (sym empty) (good_empty site),
      λ seat seen at. one_seen s.edition.log seen seat at,
    ),
  )

  -- a step to a good log that begins with the one before
  pub turns : (seat : ℕ) (v : List Bundle) (x y : State) → BeginsWith y.edition.log x.edition.log → (IsOf book site x → IsOf book site y)
      → (IsGoodLog site x.edition.log → IsGoodLog site y.edition.log) → TurnsAt Rule seat v x y Then
  turns seat v x y pre same good views (of, kept) at =
      let a : List Bundle = x.edition.log in
      let b : List Bundle = y.edition.log in
      let mine : BeginsWith b v = prefix_trans v a b (kept.1 seat v at) pre in
      let P : List Bundle → Type 0 = λ u. BeginsWith b u in (
        b,
        (
          same of,
          (
            good kept.0,
            λ j u e. ⊎_elim (λ (t : (j ≡ seat) × (b ≡ u)). subst P t.1 (prefix_self b))
                (λ (t : (j ≢ seat) × (get_elem? views j ≡ some u)). prefix_trans u a b (kept.1 j u t.1) pre)
                (at_set views seat j b u e),
          ),
        ),
        (same of, (refl, mine, good kept.0)),
      )

  pub admits : Admits Rule []
  admits x views (of, kept) =
      let P : List Bundle → Type 0 = λ k. BeginsWith x.edition.log k in (
        of,
        (
          kept.0,
          λ j u e. ⊎_elim (λ (h : get_elem? views j ≡ some u). kept.1 j u h)
              (λ (same : [] ≡ u). subst P same (x.edition.log, refl))
              (at_snoc views [] u j e),
        ),
      )
