use Rattle.std.proofs.Common.{◌≡◌, suc, ◌+◌, ◌-◌, ◌≤◌, ◌<◌, ◌^◌, ℕ, length, arith, sym, ◌∙◌, subst, ap, inl, inr}
use Rattle.std.specs.List.{flat_map}
use Rattle.dup_chunks.specs.Cut.{front, first_passes, Falls}
use Rattle.dup_chunks.specs.Chunks.{items_at, IsPlace}
use Rattle.dup_chunks.proofs.Placed.{falls_firsts, place_none, place_next, place_here, within, as_many, at_most, falls_at}
use Rattle.dup_chunks.proofs.place.place_counted.Goals as goal

pub cut-count-requires : goal.cut-count-requires
cut-count-requires g c = falls_firsts (λ a. a.value) (g.P.Probe.is_below c.args.probe.now) c.args.chunks.now c.requires.chunks c.requires.falls

pub returns-then-count-eq0-clause-value : goal.returns-then-count-eq0-clause-value
returns-then-count-eq0-clause-value g c =
    place_none (λ a. a.value) (g.P.Probe.is_below c.args.probe.now) c.args.chunks.now c.requires.chunks c.requires.falls (sym c.cut-count.ensures.value ∙ c.if-count-eq0.true)

pub returns-then-count-eq0-clause-cost : goal.returns-then-count-eq0-clause-cost
returns-then-count-eq0-clause-cost g c = λ d small.
    let more : c.cut-count.new.steps ≤ c.args.steps.now + d = c.cut-count.ensures.cost d (omega (arith, as_many (λ a. a.value) c.args.chunks.now c.requires.chunks)) in
    omega arith

pub cut-at-requires : goal.cut-at-requires
cut-at-requires g c =
    subst (Falls (g.P.Probe.is_below c.args.probe.now)) (sym c.items_of-items.ensures)
    (falls_at (λ a. a.value) (g.P.Probe.is_below c.args.probe.now) c.args.chunks.now (c.cut-count.result - 1) c.requires.falls)

pub returns-then-count-chunks-clause-value : goal.returns-then-count-chunks-clause-value
returns-then-count-chunks-clause-value g c =
    let p = g.P.Probe.is_below c.args.probe.now in
    let k = c.cut-count.result - 1 in
    let one : c.cut-count.result ≡ suc k = omega arith in
    let w = within (λ a. a.value) p c.args.chunks.now k c.requires.chunks c.requires.falls (sym c.cut-count.ensures.value ∙ one) in
    let found = c.cut-at.ensures.value ∙ ap (λ l. length (front p l)) c.items_of-items.ensures in
    let end = c.if-at-items.true ∙ ap length c.items_of-items.ensures in
    subst (λ n. IsPlace (λ a. a.value) p c.args.chunks.now n 0) (sym one)
    (place_next (λ a. a.value) p c.args.chunks.now k c.cut-at.result c.requires.chunks w found end (omega (arith, c.if-count-chunks.true)))

pub returns-then-count-chunks-clause-cost : goal.returns-then-count-chunks-clause-cost
returns-then-count-chunks-clause-cost g c = λ d small.
    let more : c.cut-count.new.steps ≤ c.args.steps.now + d = c.cut-count.ensures.cost d (omega (arith, as_many (λ a. a.value) c.args.chunks.now c.requires.chunks)) in
    let few : length c.items_of-items.result.now ≤ 64 = subst (λ l. length l ≤ 64) (sym c.items_of-items.ensures) (at_most (λ a. a.value) c.args.chunks.now (c.cut-count.result - 1) c.requires.chunks) in
    let then : c.cut-at.new.steps ≤ c.cut-count.new.steps + 7 = c.cut-at.ensures.cost 7 (omega arith) in
    omega arith

pub returns-else-at-items-clause-value : goal.returns-else-at-items-clause-value
returns-else-at-items-clause-value g c =
    let p = g.P.Probe.is_below c.args.probe.now in
    let k = c.cut-count.result - 1 in
    let one : c.cut-count.result ≡ suc k = omega arith in
    let w = within (λ a. a.value) p c.args.chunks.now k c.requires.chunks c.requires.falls (sym c.cut-count.ensures.value ∙ one) in
    let found = c.cut-at.ensures.value ∙ ap (λ l. length (front p l)) c.items_of-items.ensures in
    let last : c.cut-at.result ≡ length (items_at (λ a. a.value) c.args.chunks.now k) → length c.args.chunks.now ≤ suc k = λ end. elim c.else-at-items.either [
      | inl is ↦ omega (arith, is.1)
      | inr isnt ↦ absurd (isnt (end ∙ sym (ap length c.items_of-items.ensures)))
    ] in
    place_here (λ a. a.value) p c.args.chunks.now k c.cut-at.result w found last

pub returns-else-at-items-clause-cost : goal.returns-else-at-items-clause-cost
returns-else-at-items-clause-cost g c = λ d small.
    let more : c.cut-count.new.steps ≤ c.args.steps.now + d = c.cut-count.ensures.cost d (omega (arith, as_many (λ a. a.value) c.args.chunks.now c.requires.chunks)) in
    let few : length c.items_of-items.result.now ≤ 64 = subst (λ l. length l ≤ 64) (sym c.items_of-items.ensures) (at_most (λ a. a.value) c.args.chunks.now (c.cut-count.result - 1) c.requires.chunks) in
    let then : c.cut-at.new.steps ≤ c.cut-count.new.steps + 7 = c.cut-at.ensures.cost 7 (omega arith) in
    omega arith
