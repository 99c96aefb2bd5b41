-- The events of a settle, behind the steps of a press.
use Rattle.std.proofs.Common.{◌≡◌, ℕ, zero, suc, ◌<◌, ◌⊎◌, inl, inr, List, [], ◌∷◌, ◌++◌, Option, Some, None, length, refl, sym, ap, subst, ◌∙◌, arith}
use Rattle.std.specs.List.{fold}
use Rattle.std.specs.Cmp.{nat_cmp_total}
use Rattle.std.specs.FinMap as fin
use Rattle.std.proofs.lemmas.List.Sums.{fold-append}
use Rattle.dup_names.specs.declared.object.Obj.{Obj}
use Rattle.dup_template.specs.declared.site.Parts.{Parts}
use Rattle.dup_model.specs.Expansions.{notes}
use Rattle.dup_model.specs.Journal.{Limits}
use Rattle.dup_model.specs.Pages.{live}
use Rattle.dup_model.specs.Versions.{content, version}
use Rattle.dup_machine.specs.Press.{handed, hands_over, press_of, put_from, replied, with_press}
use Rattle.dup_machine.specs.Presses.{Press, begin_step, finish_step, hand_step, put_step}
use Rattle.dup_machine.specs.Run.{step}
use Rattle.dup_machine.specs.Settle.{Settles, IsWorked, AllPublished, hands, handing, joins, joining, publishes, publishing, settling}
use Rattle.dup_machine.specs.Settle.Settles.{by_work, at_once}
use Rattle.dup_machine.specs.Until.{FirstTold, LastTold}
use Rattle.dup_machine.specs.World.{Counts, Event, Slot, Told, Work, World, told}
use Rattle.dup_machine.specs.World.Begun.{Nothing}
use Rattle.dup_machine.specs.World.Ended.{Report}
use Rattle.dup_machine.specs.World.Event.{Begin, Finish, Hand, Join, Publish, Put}
use Rattle.dup_machine.specs.World.Joined.{Done}
use Rattle.dup_machine.specs.World.Told.{Begins, Finished, Handed, Joins, NoneWaits, NothingChanged}
use Rattle.dup_machine.specs.World as machine
use Rattle.dup_machine.proofs.LastReply.{told_once}
use Rattle.dup_press.specs.Turns.{AllHanded, IsTurn, Repeats, Turns, UntilTold, join_on, publish_on}

last_or_before : (i k : ℕ) → i < suc k → (i < k) ⊎ (i ≡ k)
last_or_before zero zero less = inr refl
last_or_before zero (suc k) less = inl (omega arith)
last_or_before (suc i) zero less = absurd (omega (arith, less))
last_or_before (suc i) (suc k) less = elim (last_or_before i k (omega (arith, less))) [ inl before ↦ inl (omega (arith, before)) | inr last ↦ inr (ap suc last) ]

module _ (site : Parts) (limits : Limits) where
  abbrev Steps : World → List Event → World
  Steps w events = fold (step site limits) w events

  -- the press of a world whose slot 0 is empty
  pub record IsAt (p : Press) (w : World) : Type 0 where
    pub press : press_of w ≡ p
    pub slot : fin.get w.slots 0 ≡ None

  module _ (p q : Press) (w : World) (at : IsAt p w) (t : IsTurn site p q) where
    has : w.work ≡ Some t.work
    has = ap (λ (x : Press). x.work) at.press ∙ t.busy

    held : Slot
    held = record { obj = t.obj; version = t.work.version }

    in_hand : World
    in_hand = told (Handed t.obj) (record (with_press t.held w) { slots = fin.insert w.slots 0 held })

    emptied : World
    emptied = record in_hand { slots = fin.remove in_hand.slots 0 }

    hand_goes : step site limits w (Hand 0) ≡ in_hand
    unfolding in_hand held
    hand_goes =
        (λ i. handed site 0 (has i) (at.slot i) w)
        ∙ ap (λ (r : Option Obj × Press). hands_over 0 t.work.version r w)
        ((λ i. hand_step site (sym t.busy i) (at.press i).target (at.press i)) ∙ t.handed)

    put_goes : step site limits in_hand (Put 0) ≡ replied (put_step site t.obj (notes (version site t.held.commits t.work.version) t.obj) t.held.work t.held.target t.held) emptied
    unfolding in_hand held emptied
    put_goes = ap (λ (s : Option Slot). put_from site 0 s in_hand) (fin.get-insert nat_cmp_total w.slots 0 held 0)

    pub turned : IsAt q (step site limits (step site limits w (Hand 0)) (Put 0))
    unfolding in_hand held emptied
    turned = subst (IsAt q) (sym (ap (λ (v : World). step site limits v (Put 0)) hand_goes ∙ put_goes)) (record {
      press = t.brought;
      slot = fin.get-remove nat_cmp_total in_hand.slots 0 0;
    })

    told_handed : LastTold (step site limits w (Hand 0)) (Handed t.obj)
    unfolding in_hand held
    told_handed = (w.replies, ap (λ (v : World). v.replies) hand_goes)

  -- so many hands and puts, and one more

  hands_more : (k : ℕ) (w : World) → Steps w (hands (suc k)) ≡ step site limits (step site limits (Steps w (hands k)) (Hand 0)) (Put 0)
  hands_more zero w = refl
  hands_more (suc k) w = hands_more k (step site limits (step site limits w (Hand 0)) (Put 0))

  handing_ends : (k : ℕ) (w : World) → Steps w (handing k) ≡ step site limits (Steps w (hands k)) (Hand 0)
  handing_ends k w = fold-append (step site limits) w (hands k) (Hand 0 ∷ [])

  turns_on : (k : ℕ) (p q : Press) (w : World) → IsAt p w → Turns site k p q →
      IsAt q (Steps w (hands k)) × ((i : ℕ) → i < k → (o : Obj) × LastTold (Steps w (handing i)) (Handed o))
  turns_on zero p q w at is = (subst (λ (x : Press). IsAt x w) is at, λ i less. absurd (omega (arith, less)))
  turns_on (suc k) p q w at (mid, (turns, turn)) =
      let before : IsAt mid (Steps w (hands k)) × ((i : ℕ) → i < k → (o : Obj) × LastTold (Steps w (handing i)) (Handed o)) = turns_on k p mid w at turns in (
        subst (IsAt q) (sym (hands_more k w)) (turned mid q (Steps w (hands k)) before.0 turn),
        λ i less. elim (last_or_before i k less) [
          | inl earlier ↦ before.1 i earlier
          | inr last ↦ (
            turn.obj,
            subst (λ (v : World). LastTold v (Handed turn.obj)) (sym (ap (λ (n : ℕ). Steps w (handing n)) last ∙ handing_ends k w)) (told_handed mid q (Steps w (hands k)) before.0 turn),
          )
        ],
      )

  -- none waits
  none_goes : (q : Press) (v : World) → IsAt q v → hand_step site q.work q.target q ≡ (None, q) → (o : Option Work) → q.work ≡ o →
      IsAt q (step site limits v (Hand 0)) × LastTold (step site limits v (Hand 0)) NoneWaits
  none_goes q v at none None is =
      let goes : step site limits v (Hand 0) ≡ told NoneWaits v = λ i. handed site 0 ((ap (λ (x : Press). x.work) at.press ∙ is) i) (at.slot i) v in
      (subst (IsAt q) (sym goes) (record { press = at.press; slot = at.slot }), (v.replies, ap (λ (u : World). u.replies) goes))
  none_goes q v at none (Some work) is =
      let goes : step site limits v (Hand 0) ≡ told NoneWaits (with_press q v) =
      (λ i. handed site 0 ((ap (λ (x : Press). x.work) at.press ∙ is) i) (at.slot i) v)
      ∙ ap (λ (r : Option Obj × Press). hands_over 0 work.version r v)
      ((λ i. hand_step site (sym is i) (at.press i).target (at.press i)) ∙ none) in
      (subst (IsAt q) (sym goes) (record { press = refl; slot = at.slot }), (v.replies, ap (λ (u : World). u.replies) goes))

  handed_all : (p q : Press) (w : World) → IsAt p w → (a : AllHanded site p q) → IsAt q (Steps w (handing a.count)) × FirstTold site limits w handing NoneWaits a.count
  handed_all p q w at a =
      let turns : IsAt q (Steps w (hands a.count)) × ((i : ℕ) → i < a.count → (o : Obj) × LastTold (Steps w (handing i)) (Handed o)) = turns_on a.count p q w at a.turns in
      let last : IsAt q (step site limits (Steps w (hands a.count)) (Hand 0)) × LastTold (step site limits (Steps w (hands a.count)) (Hand 0)) NoneWaits = none_goes q (Steps w (hands a.count)) turns.0 a.none q.work refl in (
        subst (IsAt q) (sym (handing_ends a.count w)) last.0,
        (
          subst (λ (v : World). LastTold v NoneWaits) (sym (handing_ends a.count w)) last.1,
          λ i less tells.
              let one : (o : Obj) × LastTold (Steps w (handing i)) (Handed o) = turns.1 i less in
              let e : Handed one.0 ≡ NoneWaits = told_once (Steps w (handing i)) (Handed one.0) NoneWaits one.1 tells in
              absurd (cc),
        ),
      )

  -- a step again and again, whose events are these
  module _ (ev : Event) (f : Press → Told × Press) (end : Told) (events whole : ℕ → List Event)
      (acts : (w : World) → step site limits w ev ≡ replied (f (press_of w)) w)
      (none : (w : World) → Steps w (events zero) ≡ w)
      (more : (n : ℕ) (w : World) → Steps w (events (suc n)) ≡ step site limits (Steps w (events n)) ev)
      (last : (n : ℕ) (w : World) → Steps w (whole n) ≡ step site limits (Steps w (events n)) ev) where
    goes : (p q : Press) (t : Told) (w : World) → IsAt p w → f p ≡ (t, q) → IsAt q (step site limits w ev) × LastTold (step site limits w ev) t
    goes p q t w at is =
        let there : step site limits w ev ≡ replied (t, q) w = acts w ∙ ap (λ (r : Told × Press). replied r w) (ap f at.press ∙ is) in
        (subst (IsAt q) (sym there) (record { press = refl; slot = at.slot }), (w.replies, ap (λ (u : World). u.replies) there))

    repeated : (n : ℕ) (p q : Press) (w : World) → IsAt p w → Repeats f end n p q →
        IsAt q (Steps w (events n)) × ((i : ℕ) → i < n → LastTold (Steps w (whole i)) end → ⊥)
    repeated zero p q w at is = (subst2 (sym (none w)) is at, λ i less tells. omega (arith, less))
      where
        subst2 : {u v : World} {x y : Press} → u ≡ v → x ≡ y → IsAt x u → IsAt y v
        subst2 {u} {v} {x} {y} a b c = subst (λ (z : Press). IsAt z v) b (subst (IsAt x) a c)
    repeated (suc n) p q w at (mid, (t, (before, is, other))) =
        let earlier : IsAt mid (Steps w (events n)) × ((i : ℕ) → i < n → LastTold (Steps w (whole i)) end → ⊥) = repeated n p mid w at before in
        let one : IsAt q (step site limits (Steps w (events n)) ev) × LastTold (step site limits (Steps w (events n)) ev) t = goes mid q t (Steps w (events n)) earlier.0 is in (
          subst (IsAt q) (sym (more n w)) one.0,
          λ i less tells. elim (last_or_before i n less) [
            | inl sooner ↦ earlier.1 i sooner tells
            | inr here ↦ other (told_once (step site limits (Steps w (events n)) ev) t end one.1
                (subst (λ (v : World). LastTold v end) (ap (λ (m : ℕ). Steps w (whole m)) here ∙ last n w) tells))
          ],
        )

    until : (p q : Press) (w : World) → IsAt p w → (u : UntilTold f end p q) → IsAt q (Steps w (whole u.count)) × FirstTold site limits w whole end u.count
    until p q w at u =
        let all : IsAt q (Steps w (events u.count)) × ((i : ℕ) → i < u.count → LastTold (Steps w (whole i)) end → ⊥) = repeated u.count p q w at u.repeats in
        let one : IsAt q (step site limits (Steps w (events u.count)) ev) × LastTold (step site limits (Steps w (events u.count)) ev) end = goes q q end (Steps w (events u.count)) all.0 u.ends in (
          subst (IsAt q) (sym (last u.count w)) one.0,
          (subst (λ (v : World). LastTold v end) (sym (last u.count w)) one.1, all.1),
        )

  joins_more : (n : ℕ) (w : World) → Steps w (joins (suc n)) ≡ step site limits (Steps w (joins n)) Join
  joins_more zero w = refl
  joins_more (suc n) w = joins_more n (step site limits w Join)

  publishes_more : (n : ℕ) (w : World) → Steps w (publishes (suc n)) ≡ step site limits (Steps w (publishes n)) Publish
  publishes_more zero w = refl
  publishes_more (suc n) w = publishes_more n (step site limits w Publish)

  joined_all : (p q : Press) (w : World) → IsAt p w → (u : UntilTold (join_on site) (Joins Done) p q) →
      IsAt q (Steps w (joining u.count)) × FirstTold site limits w joining (Joins Done) u.count
  joined_all p q w at u =
      until Join (join_on site) (Joins Done) joins joining (λ w. refl) (λ w. refl) joins_more (λ n w. fold-append (step site limits) w (joins n) (Join ∷ [])) p q w at u

  pub published_all : (p q : Press) (w : World) → IsAt p w → (u : UntilTold (publish_on site) NothingChanged p q) →
      IsAt q (Steps w (publishing u.count)) × AllPublished site limits w u.count
  published_all p q w at u =
      until Publish (publish_on site) NothingChanged publishes publishing (λ w. refl) (λ w. refl) publishes_more (λ n w. fold-append (step site limits) w (publishes n) (Publish ∷ [])) p q w at u

  -- a step of the press by itself
  pub one_step : (ev : Event) (f : Press → Told × Press) → ((w : World) → step site limits w ev ≡ replied (f (press_of w)) w) →
      (p q : Press) (t : Told) (w : World) → IsAt p w → f p ≡ (t, q) → IsAt q (step site limits w ev) × LastTold (step site limits w ev) t
  one_step ev f acts p q t w at is =
      let there : step site limits w ev ≡ replied (t, q) w = acts w ∙ ap (λ (r : Told × Press). replied r w) (ap f at.press ∙ is) in
      (subst (IsAt q) (sym there) (record { press = refl; slot = at.slot }), (w.replies, ap (λ (u : World). u.replies) there))

  abbrev pub begin_on : Press → Told × Press
  begin_on p = begin_step site p.work p.target p

  abbrev pub finish_on : Press → Told × Press
  finish_on p = finish_step site p.work p.target p

  -- the events of a settle, and where they lead
  pub record Led (w : World) (counts : Counts) (q : Press) : Type 0 where
    pub events : List Event
    pub settles : Settles site limits w events counts
    pub press : press_of (Steps w events) ≡ q

  -- a work of so many hands, and what is published behind it
  pub record HasWorkedOff (w : World) (k : ℕ) (counts : Counts) (q : Press) : Type 0 where
    pub levels : ℕ
    pub bundles : ℕ
    pub worked : IsWorked site limits (step site limits w Begin) k levels
    pub report : LastTold (Steps w (settling k levels)) (Finished (Report counts))
    pub published : AllPublished site limits (Steps w (settling k levels)) bundles
    pub press : press_of (Steps (Steps w (settling k levels)) (publishing bundles)) ≡ q

  pub worked_off : (p begun handed joined finished q : Press) (b : machine.Begun) (counts : Counts) → begin_on p ≡ (Begins b, begun) →
      (hands_are : AllHanded site begun handed) → UntilTold (join_on site) (Joins Done) handed joined → finish_on joined ≡ (Finished (Report counts), finished) →
      UntilTold (publish_on site) NothingChanged finished q → (w : World) → IsAt p w → HasWorkedOff w hands_are.count counts q
  worked_off p begun handed joined finished q b counts begins hands_are joins_are finishes publishes_are w at =
      let one : IsAt begun (step site limits w Begin) × LastTold (step site limits w Begin) (Begins b) = one_step Begin begin_on (λ w. refl) p begun (Begins b) w at begins in
      let k : ℕ = hands_are.count in
      let m : ℕ = joins_are.count in
      let n : ℕ = publishes_are.count in
      let two : IsAt handed (Steps (step site limits w Begin) (handing k)) × FirstTold site limits (step site limits w Begin) handing NoneWaits k =
      handed_all begun handed (step site limits w Begin) one.0 hands_are in
      let three : IsAt joined (Steps (Steps (step site limits w Begin) (handing k)) (joining m)) × FirstTold site limits (Steps (step site limits w Begin) (handing k)) joining (Joins Done) m =
      joined_all handed joined (Steps (step site limits w Begin) (handing k)) two.0 joins_are in
      let there : World = Steps (Steps (step site limits w Begin) (handing k)) (joining m) in
      let four : IsAt finished (step site limits there Finish) × LastTold (step site limits there Finish) (Finished (Report counts)) =
      one_step Finish finish_on (λ w. refl) joined finished (Finished (Report counts)) there three.0 finishes in
      let ran : Steps w (settling k m) ≡ step site limits there Finish =
      fold-append (step site limits) (step site limits w Begin) (handing k) (joining m ++ Finish ∷ [])
      ∙ fold-append (step site limits) (Steps (step site limits w Begin) (handing k)) (joining m) (Finish ∷ []) in
      let five : IsAt q (Steps (Steps w (settling k m)) (publishing n)) × AllPublished site limits (Steps w (settling k m)) n =
      published_all finished q (Steps w (settling k m)) (subst (IsAt finished) (sym ran) four.0) publishes_are in
      record {
        levels = m;
        bundles = n;
        worked = record { handed = two.1; joined = three.1 };
        report = subst (λ (v : World). LastTold v (Finished (Report counts))) (sym ran) four.1;
        published = five.1;
        press = five.0.press;
      }

  pub led_by_work : (k : ℕ) (w : World) (counts : Counts) (q : Press) → HasWorkedOff w k counts q → Led w counts q
  led_by_work k w counts q o = record {
    events = settling k o.levels ++ publishing o.bundles;
    settles = by_work k o.levels o.bundles counts o.worked o.report o.published;
    press = ap press_of (fold-append (step site limits) w (settling k o.levels) (publishing o.bundles)) ∙ o.press;
  }

  pub led_at_once : (p begun q : Press) (v : ℕ) → begin_on p ≡ (Begins (Nothing v), begun) → UntilTold (publish_on site) NothingChanged begun q →
      (w : World) → IsAt p w → Led w (record { version = v; expanded = 0; joined = 0; kept = length (live (content site w.commits)) }) q
  led_at_once p begun q v begins publishes_are w at =
      let one : IsAt begun (step site limits w Begin) × LastTold (step site limits w Begin) (Begins (Nothing v)) = one_step Begin begin_on (λ w. refl) p begun (Begins (Nothing v)) w at begins in
      let n : ℕ = publishes_are.count in
      let two : IsAt q (Steps (step site limits w Begin) (publishing n)) × AllPublished site limits (step site limits w Begin) n =
      published_all begun q (step site limits w Begin) one.0 publishes_are in
      record {
        events = Begin ∷ publishing n;
        settles = at_once v n one.1 two.1;
        press = two.0.press;
      }
