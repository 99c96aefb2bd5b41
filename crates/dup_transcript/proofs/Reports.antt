-- What a settle reports is what it always reports.
use Rattle.std.proofs.Common.{◌≡◌, ℕ, zero, suc, ◌⊎◌, inl, inr, Bool, true, false, List, [], ◌∷◌, length, refl, sym, ap, subst, ◌∙◌}
use Rattle.std.specs.Prelude.{Option, Some, None, ◌==◌, if◌then◌else◌}
use Rattle.std.specs.List.{fold}
use Rattle.std.specs.FinMap as fin
use Rattle.std.proofs.lemmas.Bool.{true≢false}
use Rattle.std.proofs.lemmas.Bool.Decides.{Decides-eqb}
use Rattle.std.proofs.lemmas.Option.{same_Some}
use Rattle.std.proofs.lemmas.List.Sums.{fold-append}
use Rattle.dup_names.specs.declared.object.Obj.{Obj}
use Rattle.dup_template.specs.declared.site.Parts.{Parts}
use Rattle.dup_model.specs.Embeddings.{EmbedsEarlier}
use Rattle.dup_model.specs.Journal.{Limits}
use Rattle.dup_machine.specs.Until.{LastTold}
use Rattle.dup_machine.proofs.LastReply.{told_once}
use Rattle.dup_machine.proofs.WorldSteps.{begun_next}
use Rattle.dup_machine.specs.Press.{begun, handed, opened, put_from, at}
use Rattle.dup_machine.specs.Press.{joined as join_step}
use Rattle.dup_machine.specs.Run.{step}
use Rattle.dup_machine.specs.Settle.{IsSettled, IsWorked, counts_of, handing, hands, joining, joins, settling}
use Rattle.dup_model.specs.Versions.{content, target_content}
use Rattle.dup_model.specs.Found.{waiting}
use Rattle.dup_machine.specs.Works.{first_work, unjoined, work_from}
use Rattle.dup_machine.specs.World.{Begun, Counts, Joined, Work, World, told}
use Rattle.dup_machine.specs.World.Begun.{Nothing}
use Rattle.dup_machine.specs.World.Ended.{Report}
use Rattle.dup_machine.specs.World.Event.{Begin, Hand, Join, Put}
use Rattle.dup_machine.specs.World.Told.{Begins, Finished, Joins, NoneWaits, SlotEmpty}
use Rattle.dup_machine.proofs.Settling.{AreBegun, Ends, Stands, Steps, begins, end, ended, hand_isnt, handed_by, join_isnt, joined_from, settled_as, works, works_are}

-- where a work that is open is handed and joined until nothing is left, it comes to its end
-- no work is open, and the slot is empty
record IsIdle (w : World) : Type 0 where
  pub idle : w.work ≡ None
  pub slot : fin.get w.slots 0 ≡ None

module _ (site : Parts) (limits : Limits) (w0 : World) (earlier : EmbedsEarlier (end site limits w0)) (w : World) (work : Work) (s : Stands w0 w work) where
  pub reported : (k m : ℕ) → IsWorked site limits w k m → Ends site limits w0 (Steps site limits w0 w (works site limits w0 earlier w work s k m)) work
  reported k m worked = by_waiting (waiting (end site limits w0) (handed_by site limits w0 earlier w work s k).then.done) refl
    where
      by_unjoined : (calm : waiting (end site limits w0) (handed_by site limits w0 earlier w work s k).then.done ≡ []) (us : List Obj) →
          unjoined (end site limits w0) (joined_from site limits w0 earlier w work s k m calm).then ≡ us → Ends site limits w0 (Steps site limits w0 w (works site limits w0 earlier w work s k m)) work
      by_unjoined calm [] is = ended site limits w0 earlier w work s k m calm is
      by_unjoined calm (u ∷ us) is = absurd (join_isnt site limits w0 earlier w work s k m calm u us is worked.joined.0)

      by_waiting : (os : List Obj) → waiting (end site limits w0) (handed_by site limits w0 earlier w work s k).then.done ≡ os →
          Ends site limits w0 (Steps site limits w0 w (works site limits w0 earlier w work s k m)) work
      by_waiting [] is = by_unjoined is (unjoined (end site limits w0) (joined_from site limits w0 earlier w work s k m is).then) refl
      by_waiting (x ∷ xs) is = absurd (hand_isnt site limits w0 earlier w work s k x xs is worked.handed.0)

pub target_case : (o : Option ℕ) (n : ℕ) → (o ≡ Some n) ⊎ (o ≡ Some n → ⊥)
target_case None n = inr (λ e. absurd (cc))
target_case (Some v) n = by_test (v == n) refl
  where
    by_test : (b : Bool) → (v == n) ≡ b → (Some v ≡ Some n) ⊎ (Some v ≡ Some n → ⊥)
    by_test true is = inl (ap Some ((Decides-eqb v n).0 is))
    by_test false isnt = inr (λ e. true≢false (sym ((Decides-eqb v n).1 (same_Some v n e)) ∙ isnt))

-- where a report came, it is that of the settle
module _ (site : Parts) (limits : Limits) (w : World) (earlier : EmbedsEarlier (content site w.commits)) (idle : w.work ≡ None) (empty : fin.get w.slots 0 ≡ None) where
  abbrev pub settle_counts : Counts
  settle_counts = counts_of (target_content site w.commits w.target) (content site w.commits) (length w.commits)

  -- without a work nothing is handed, joined or finished
  idle_hands : (k : ℕ) (v : World) → IsIdle v → IsIdle (fold (step site limits) v (hands k))
  idle_hands zero v i = i
  idle_hands (suc k) v i =
      let first : step site limits v (Hand 0) ≡ told NoneWaits v = λ j. handed site 0 (i.idle j) (i.slot j) v in
      let goes : step site limits (step site limits v (Hand 0)) (Put 0) ≡ told (SlotEmpty 0) (told NoneWaits v) =
      ap (λ u. step site limits u (Put 0)) first ∙ ap (λ o. put_from site 0 o (told NoneWaits v)) i.slot in
      idle_hands k (step site limits (step site limits v (Hand 0)) (Put 0)) (subst IsIdle (sym goes) (record { idle = i.idle; slot = i.slot }))

  idle_joins : (m : ℕ) (v : World) → IsIdle v → IsIdle (fold (step site limits) v (joins m))
  idle_joins zero v i = i
  idle_joins (suc m) v i =
      let goes : step site limits v Join ≡ told (Joins Joined.Idle) v = ap (λ o. join_step site o v) i.idle in
      idle_joins m (step site limits v Join) (subst IsIdle (sym goes) (record { idle = i.idle; slot = i.slot }))

  idle_handing : (k : ℕ) (v : World) → IsIdle v → IsIdle (fold (step site limits) v (handing k))
  idle_handing k v i =
      let h : IsIdle (fold (step site limits) v (hands k)) = idle_hands k v i in
      let last : step site limits (fold (step site limits) v (hands k)) (Hand 0) ≡ told NoneWaits (fold (step site limits) v (hands k)) =
      λ j. handed site 0 (h.idle j) (h.slot j) (fold (step site limits) v (hands k)) in
      subst IsIdle (sym (fold-append (step site limits) v (hands k) (Hand 0 ∷ []) ∙ last)) (record { idle = h.idle; slot = h.slot })

  pub begins_nothing : w.target ≡ Some (length w.commits) → step site limits w Begin ≡ told (Begins (Nothing (length w.commits))) w
  begins_nothing last =
      (λ i. begun site (idle i) (last i) w)
      ∙ begun_next site (length w.commits) w
      ∙ ap (λ (b : Bool). if b then told (Begins (Nothing (length w.commits))) w else opened site (work_from (at site w (length w.commits)) (length w.commits) (content site w.commits)) w) ((Decides-eqb (length w.commits) (length w.commits)).1 refl)

  -- where `begin` has nothing to begin, no join is told that all is done
  pub none_worked : (k m : ℕ) → w.target ≡ Some (length w.commits) → IsWorked site limits (step site limits w Begin) k m → ⊥
  none_worked k m last worked =
      let opens : IsIdle (step site limits w Begin) = subst IsIdle (sym (begins_nothing last)) (record { idle = idle; slot = empty }) in
      let from : World = fold (step site limits) (step site limits w Begin) (handing k) in
      let i : IsIdle (fold (step site limits) (fold (step site limits) (step site limits w Begin) (handing k)) (joins m)) =
      idle_joins m (fold (step site limits) (step site limits w Begin) (handing k)) (idle_handing k (step site limits w Begin) opens) in
      let goes : fold (step site limits) from (joining m) ≡ told (Joins Joined.Idle) (fold (step site limits) from (joins m)) =
      fold-append (step site limits) from (joins m) (Join ∷ []) ∙ ap (λ o. join_step site o (fold (step site limits) from (joins m))) i.idle in
      let e : Joins Joined.Idle ≡ Joins Joined.Done =
      told_once (fold (step site limits) from (joining m)) (Joins Joined.Idle) (Joins Joined.Done) ((fold (step site limits) from (joins m)).replies, ap (λ u. u.replies) goes) worked.joined.0 in
      absurd (cc)

  pub report_is : (k m : ℕ) (counts : Counts) → (w.target ≡ Some (length w.commits) → ⊥) → IsWorked site limits (step site limits w Begin) k m → LastTold (fold (step site limits) w (settling k m)) (Finished (Report counts)) →
      IsSettled w settle_counts (fold (step site limits) w (settling k m)) × (counts ≡ settle_counts)
  report_is k m counts other worked report =
      let b : (work : Work) × AreBegun site limits w (step site limits w Begin) work = begins site limits w idle empty w.target refl other in
      let same : fold (step site limits) w (settling k m) ≡ Steps site limits w (step site limits w Begin) (works site limits w earlier (step site limits w Begin) b.0 b.1.stands k m) =
      sym (ap (λ events. fold (step site limits) (step site limits w Begin) events) (works_are site limits w earlier (step site limits w Begin) b.0 b.1.stands k m)) in
      let e : Ends site limits w (Steps site limits w (step site limits w Begin) (works site limits w earlier (step site limits w Begin) b.0 b.1.stands k m)) b.0 =
      reported site limits w earlier (step site limits w Begin) b.0 b.1.stands k m worked in
      let is : IsSettled w settle_counts (fold (step site limits) w (settling k m)) = subst (IsSettled w settle_counts) (sym same) (settled_as site limits w earlier empty _ b.0 b.1 e) in
      let one : Finished (Report counts) ≡ Finished (Report settle_counts) = told_once (fold (step site limits) w (settling k m)) (Finished (Report counts)) (Finished (Report settle_counts)) report is.report in
      (is, cc)

  -- `begin` has nothing to begin exactly where the target is of the last version
  pub nothing_new : (v : ℕ) → LastTold (step site limits w Begin) (Begins (Nothing v)) → (w.target ≡ Some (length w.commits)) × (v ≡ length w.commits)
  nothing_new v tells = by_target w.target refl
    where
      differs : (work : Work) → step site limits w Begin ≡ opened site work w → ⊥
      differs work goes =
          let e : Begins (Begun.Opened work.version (length (waiting (content site w.commits) work.done))) ≡ Begins (Nothing v) =
          told_once (step site limits w Begin) (Begins (Begun.Opened work.version (length (waiting (content site w.commits) work.done)))) (Begins (Nothing v)) (w.replies, ap (λ u. u.replies) goes) tells in
          absurd (cc)

      by_test : (a : ℕ) → w.target ≡ Some a → (b : Bool) → (a == length w.commits) ≡ b → (w.target ≡ Some (length w.commits)) × (v ≡ length w.commits)
      by_test a is true same =
          let n : a ≡ length w.commits = (Decides-eqb a (length w.commits)).0 same in
          let goes : step site limits w Begin ≡ told (Begins (Nothing a)) w =
          (λ i. begun site (idle i) (is i) w)
          ∙ begun_next site a w
          ∙ ap (λ (b : Bool). if b then told (Begins (Nothing a)) w else opened site (work_from (at site w a) (length w.commits) (content site w.commits)) w) same in
          let e : Begins (Nothing a) ≡ Begins (Nothing v) = told_once (step site limits w Begin) (Begins (Nothing a)) (Begins (Nothing v)) (w.replies, ap (λ u. u.replies) goes) tells in
          (is ∙ ap Some n, cc)
      by_test a is false other =
          absurd (differs (work_from (at site w a) (length w.commits) (content site w.commits)) ((λ i. begun site (idle i) (is i) w)
          ∙ begun_next site a w
          ∙ ap (λ (b : Bool). if b then told (Begins (Nothing a)) w else opened site (work_from (at site w a) (length w.commits) (content site w.commits)) w) other))

      by_target : (o : Option ℕ) → w.target ≡ o → (w.target ≡ Some (length w.commits)) × (v ≡ length w.commits)
      by_target None is = absurd (differs (first_work (length w.commits)) (λ i. begun site (idle i) (is i) w))
      by_target (Some a) is = by_test a is (a == length w.commits) refl
