-- Settling leaves nothing pending.
use Rattle.std.proofs.Common.{◌≡◌, inl, inr, ℕ, cond, List, ◌∷◌, ◌++◌, length, refl, sym, ap, subst, ◌∙◌}
use Rattle.std.specs.Prelude.{Option, Some, None}
use Rattle.std.specs.List.{fold}
use Rattle.std.specs.FinMap as fin
use Rattle.std.proofs.lemmas.Bool.Decides.{Decides-eqb, eqb_tells}
use Rattle.std.proofs.lemmas.Option.{none-some, same_Some}
use Rattle.std.proofs.lemmas.List.Sums.{fold-append}
use Rattle.std.proofs.Math.Seq.{take-length}
use Rattle.dup_template.specs.declared.site.Parts.{Parts}
use Rattle.dup_model.specs.Versions.{content, target_content}
use Rattle.dup_model.specs.Journal.{Limits}
use Rattle.dup_model.specs.Pages.{target, live}
use Rattle.dup_model.specs.Needs.{changed}
use Rattle.dup_model.specs.Editions.{looks, edition, target_looks}
use Rattle.dup_names.specs.Objects.{is_in}
use Rattle.dup_model.specs.Touched.{expanded, without}
use Rattle.dup_machine.specs.World.{Counts, Event, World, Work, told}
use Rattle.dup_machine.specs.World.Begun.{Nothing}
use Rattle.dup_machine.specs.World.Ended.{Report}
use Rattle.dup_machine.specs.World.Told.{Begins, Finished}
use Rattle.dup_machine.specs.Works.{work_from}
use Rattle.dup_machine.specs.World.Event.{Begin}
use Rattle.dup_machine.proofs.WorldSteps.{begun_next}
use Rattle.dup_machine.specs.Press.{at, target_of, opened, begun}
use Rattle.dup_machine.specs.Run.{step}
use Rattle.dup_model.specs.Embeddings.{EmbedsEarlier}
use Rattle.dup_machine.specs.Status.{NothingPending}
use Rattle.dup_machine.specs.Until.{LastTold}
use Rattle.dup_machine.specs.Settle.{AllPublished, IsPublished, IsWorked, SettleEnds, Settles, begun_work, publishing, settling}
use Rattle.dup_machine.specs.Settle.Settles.{at_once, by_work}
use Rattle.dup_machine.proofs.Settling.{resumed, fresh}
use Rattle.dup_machine.proofs.Publishing.{publish_ends}

-- a state without work, whose target is of the last version
record IsMade (w v : World) : Type 0 where
  pub idle : v.work ≡ None
  pub made : v.target ≡ Some (length v.commits)

last_target : (site : Parts) (v : World) → v.target ≡ Some (length v.commits) → target_of site v v.target ≡ target (content site v.commits)
last_target site v made = ap (target_of site v) made ∙ ap (λ l. target (content site l)) (take-length v.commits)

ended : (site : Parts) (w v u : World) → IsMade w v → IsPublished site v u → NothingPending site u
ended site w v u s p = record {
  idle = p.work ∙ s.idle;
  made = p.target ∙ s.made ∙ ap (λ l. Some (length l)) (sym p.commits);
  published = λ q. ap (λ t. changed (looks (edition u.log)) (target_looks t) q) (ap (λ l. target (content site l)) p.commits ∙ sym (last_target site v s.made)) ∙ p.none q;
}

module _ (site : Parts) (limits : Limits) (w : World) (earlier : EmbedsEarlier (content site w.commits)) (empty : fin.get w.slots 0 ≡ None) where
  abbrev Settled : Type 0
  Settled = (events : List Event) × ((counts : Counts) × Settles site limits w events counts × NothingPending site (fold (step site limits) w events))

  -- once the target is made, publishing does the rest
  then_published : (k m : ℕ) (counts : Counts) → IsWorked site limits (step site limits w Begin) k m → LastTold (fold (step site limits) w (settling k m)) (Finished (Report counts)) →
      IsMade w (fold (step site limits) w (settling k m)) → Settled
  then_published k m counts worked report made =
      let p : (n : ℕ) × AllPublished site limits (fold (step site limits) w (settling k m)) n
      × IsPublished site (fold (step site limits) w (settling k m)) (fold (step site limits) (fold (step site limits) w (settling k m)) (publishing n)) =
      publish_ends site limits (fold (step site limits) w (settling k m)) in (
        settling k m ++ publishing p.0,
        (
          counts,
          by_work k m p.0 counts worked report p.1,
          subst (NothingPending site) (sym (fold-append (step site limits) w (settling k m) (publishing p.0)))
              (ended site w (fold (step site limits) w (settling k m)) (fold (step site limits) (fold (step site limits) w (settling k m)) (publishing p.0)) made p.2),
        ),
      )

  from_work : (work : Work) → w.work ≡ Some work → Settled
  from_work work has =
      let e = resumed site limits w earlier empty work has in
      then_published (length (without (is_in (begun_work site w work).done) (live (content site w.commits)))) e.0 _ e.1 (e.2.front, e.2.report)
      (record { idle = e.2.idle; made = e.2.target ∙ ap (λ l. Some (length l)) (sym e.2.commits) })

  from_target : w.work ≡ None → (w.target ≡ Some (length w.commits) → ⊥) → Settled
  from_target idle other =
      let e = fresh site limits w earlier empty idle other in
      then_published (length (expanded (target_content site w.commits w.target) (content site w.commits))) e.0 _ e.1 e.2.report
      (record { idle = e.2.idle; made = e.2.target ∙ ap (λ l. Some (length l)) (sym e.2.commits) })

  -- nothing is begun over a target of the last version
  from_last : w.work ≡ None → w.target ≡ Some (length w.commits) → Settled
  from_last idle made =
      let nothing : step site limits w Begin ≡ told (Begins (Nothing (length w.commits))) w =
      (λ i. begun site (idle i) (made i) w)
      ∙ begun_next site (length w.commits) w
      ∙ ap (λ b. cond b (told (Begins (Nothing (length w.commits))) w) (opened site (work_from (at site w (length w.commits)) (length w.commits) (content site w.commits)) w)) ((Decides-eqb (length w.commits) (length w.commits)).1 refl) in
      let begun_so : IsMade w (step site limits w Begin) = subst (IsMade w) (sym nothing) (record { idle = idle; made = made }) in
      let p : (n : ℕ) × AllPublished site limits (step site limits w Begin) n
      × IsPublished site (step site limits w Begin) (fold (step site limits) (step site limits w Begin) (publishing n)) =
      publish_ends site limits (step site limits w Begin) in (
        Begin ∷ publishing p.0,
        (
          record { version = length w.commits; expanded = 0; joined = 0; kept = length (live (content site w.commits)) },
          at_once (length w.commits) p.0 (w.replies, ap (λ u. u.replies) nothing) p.1,
          ended site w (step site limits w Begin) (fold (step site limits) (step site limits w Begin) (publishing p.0)) begun_so p.2,
        ),
      )

  by_state : (o : Option Work) → w.work ≡ o → (t : Option ℕ) → w.target ≡ t → Settled
  by_state (Some work) has t is = from_work work has
  by_state None idle None is = from_target idle (λ made. none-some _ (sym is ∙ made))
  by_state None idle (Some v) is = elim (eqb_tells v (length w.commits)) [
    | inl same ↦ from_last idle (is ∙ ap Some same.1)
    | inr other ↦ from_target idle (λ made. other.1 (same_Some v (length w.commits) (sym is ∙ made)))
  ]

pub settle_ends : SettleEnds
settle_ends site limits w earlier empty = by_state site limits w earlier empty w.work refl w.target refl
