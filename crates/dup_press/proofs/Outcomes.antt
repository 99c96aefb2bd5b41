-- What the laws of the machine say of a settle: how many objects are handed, what is counted, and what is left.
use Rattle.std.proofs.Common.{◌≡◌, ℕ, inl, inr, List, Some, None, length, sym, ap, subst, ◌∙◌}
use Rattle.std.specs.List.{fold}
use Rattle.std.specs.FinMap as fin
use Rattle.std.proofs.lemmas.Bool.{cases_order, not-false}
use Rattle.std.proofs.Math.Seq.{take-length}
use Rattle.dup_names.specs.Objects.{is_in}
use Rattle.dup_names.specs.Words.{Path}
use Rattle.dup_names.proofs.ObjectOrder.{option_same}
use Rattle.dup_template.specs.declared.site.Parts.{Parts}
use Rattle.dup_model.specs.Commits.{Commit}
use Rattle.dup_model.specs.Editions.{edition, looks, target_looks}
use Rattle.dup_model.specs.Embeddings.{EmbedsEarlier}
use Rattle.dup_model.specs.Journal.{Limits}
use Rattle.dup_model.specs.Needs.{changed, same_look}
use Rattle.dup_model.specs.Pages.{live, target}
use Rattle.dup_model.specs.Touched.{expanded, without}
use Rattle.dup_model.specs.Versions.{content, target_content}
use Rattle.dup_model.proofs.Sound.{look_same}
use Rattle.dup_machine.specs.Press.{press_of, target_of}
use Rattle.dup_machine.specs.Presses.{Press}
use Rattle.dup_machine.specs.Run.{step}
use Rattle.dup_machine.specs.Settle.{AllPublished, IsPublished, IsWorked, begun_work, counts_of, handing, joining, publishing, settling}
use Rattle.dup_machine.specs.Until.{FirstTold, LastTold}
use Rattle.dup_machine.specs.World.{Counts, Event, Told, Work, World}
use Rattle.dup_machine.specs.World.Ended.{Report}
use Rattle.dup_machine.specs.World.Event.{Begin}
use Rattle.dup_machine.specs.World.Joined.{Done}
use Rattle.dup_machine.specs.World.Told.{Finished, Joins, NoneWaits, NothingChanged}
use Rattle.dup_machine.proofs.LastReply.{told_once}
use Rattle.dup_machine.proofs.Publishing.{publish_ends}
use Rattle.dup_machine.proofs.Settling.{fresh, resumed}
use Rattle.dup_press.proofs.Chains.{HasWorkedOff}

-- no commit came, no work is open, the target is of the last version, and the newest edition has its looks
pub record ShowsLast (site : Parts) (w : World) (q : Press) : Type 0 where
  pub commits : q.commits ≡ w.commits
  pub idle : q.work ≡ None
  pub made : q.target ≡ Some (length w.commits)
  pub shown : (p : Path) → looks (edition q.log) p ≡ target_looks (target (content site w.commits)) p

-- no work is open, and the target is of the last version
pub record IsMade (w v : World) : Type 0 where
  pub commits : v.commits ≡ w.commits
  pub idle : v.work ≡ None
  pub target : v.target ≡ Some (length w.commits)

module _ (site : Parts) (limits : Limits) where
  abbrev Steps : World → List Event → World
  Steps w events = fold (step site limits) w events

  -- events are told this for the first time but once
  first_once : (w : World) (events : ℕ → List Event) (t : Told) (n m : ℕ) → FirstTold site limits w events t n → FirstTold site limits w events t m → n ≡ m
  first_once w events t n m one two = elim (cases_order n m) [
    | inl same ↦ same
    | inr other ↦ elim other [ inl less ↦ absurd (two.1 n less one.0) | inr more ↦ absurd (one.1 m more two.0) ]
  ]

  -- once all is published over a target of the last version
  pub published_last : (w v : World) (n : ℕ) (q : Press) → IsMade w v → AllPublished site limits v n → press_of (Steps v (publishing n)) ≡ q → ShowsLast site w q
  published_last w v n q made all press =
      let law : (n : ℕ) × AllPublished site limits v n × IsPublished site v (Steps v (publishing n)) = publish_ends site limits v in
      let same : law.0 ≡ n = first_once v publishing NothingChanged law.0 n law.1 all in
      let p : IsPublished site v (Steps v (publishing n)) = subst (λ (k : ℕ). IsPublished site v (Steps v (publishing k))) same law.2 in
      let log_is : (Steps v (publishing n)).log ≡ q.log = ap (λ (x : Press). x.log) press in
      let target_is : target_of site v v.target ≡ target (content site w.commits) =
      ap (target_of site v) made.target ∙ ap (λ (l : List Commit). target_of site (record v { commits = l }) (Some (length w.commits))) made.commits
      ∙ ap (λ (l : List Commit). target (content site l)) (take-length w.commits) in
      record {
        commits = ap (λ (x : Press). x.commits) (sym press) ∙ p.commits ∙ made.commits;
        idle = ap (λ (x : Press). x.work) (sym press) ∙ p.work ∙ made.idle;
        made = ap (λ (x : Press). x.target) (sym press) ∙ p.target ∙ made.target;
        shown = λ path. option_same same_look look_same _ _ (not-false _
            ((λ i. changed (looks (edition (sym log_is i))) (target_looks (sym target_is i)) path) ∙ p.none path));
      }

  module _ (w : World) (k : ℕ) (counts : Counts) (q : Press) (o : HasWorkedOff site limits w k counts q) where
    module _ (j m : ℕ) (is : IsWorked site limits (step site limits w Begin) j m) where
      same_hands : k ≡ j
      same_hands = first_once (step site limits w Begin) handing NoneWaits k j o.worked.handed is.handed

      same_levels : o.levels ≡ m
      same_levels = first_once (Steps (step site limits w Begin) (handing j)) joining (Joins Done) o.levels m
          (subst (λ (n : ℕ). FirstTold site limits (Steps (step site limits w Begin) (handing n)) joining (Joins Done) o.levels) same_hands o.worked.joined) is.joined

      same_world : Steps w (settling k o.levels) ≡ Steps w (settling j m)
      same_world i = Steps w (settling (same_hands i) (same_levels i))

      same_counts : (law : Counts) → LastTold (Steps w (settling j m)) (Finished (Report law)) → counts ≡ law
      same_counts law report =
          let e : Finished (Report counts) ≡ Finished (Report law) =
          told_once (Steps w (settling j m)) (Finished (Report counts)) (Finished (Report law)) (subst (λ (v : World). LastTold v (Finished (Report counts))) same_world o.report) report in
          cc

      then_published : IsMade w (Steps w (settling j m)) → ShowsLast site w q
      then_published made = published_last w (Steps w (settling j m)) o.bundles q made
          (subst (λ (v : World). AllPublished site limits v o.bundles) same_world o.published)
          (ap (λ (v : World). press_of (Steps v (publishing o.bundles))) (sym same_world) ∙ o.press)

    module _ (earlier : EmbedsEarlier (content site w.commits)) (empty : fin.get w.slots 0 ≡ None) where
      -- where no work was open
      pub fresh_outcome : w.work ≡ None → (w.target ≡ Some (length w.commits) → ⊥) →
          (k ≡ length (expanded (target_content site w.commits w.target) (content site w.commits)))
          × (counts ≡ counts_of (target_content site w.commits w.target) (content site w.commits) (length w.commits))
          × ShowsLast site w q
      fresh_outcome idle other =
          let j : ℕ = length (expanded (target_content site w.commits w.target) (content site w.commits)) in
          let law = fresh site limits w earlier empty idle other in (
            same_hands j law.0 law.1,
            same_counts j law.0 law.1 (counts_of (target_content site w.commits w.target) (content site w.commits) (length w.commits)) law.2.report,
            then_published j law.0 law.1 (record { commits = law.2.commits; idle = law.2.idle; target = law.2.target }),
          )

      -- where one was
      pub resumed_outcome : (work : Work) → w.work ≡ Some work →
          (k ≡ length (without (is_in (begun_work site w work).done) (live (content site w.commits)))) × ShowsLast site w q
      resumed_outcome work has =
          let j : ℕ = length (without (is_in (begun_work site w work).done) (live (content site w.commits))) in
          let law = resumed site limits w earlier empty work has in (
            same_hands j law.0 law.1,
            then_published j law.0 law.1 (record { commits = law.2.commits; idle = law.2.idle; target = law.2.target }),
          )
