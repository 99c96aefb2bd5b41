use Rattle.std.proofs.Common.{◌≡◌, ◌∷◌, ◌++◌, ◌+◌, ◌/◌, ◌<◌, ◌≤◌, length, arith, sym, ap, ◌∙◌}
use Rattle.dup_chunks.proofs.Cuts.{whole, falls_behind, falls_before, cut_right, cut_left, cost_more, front_within}
use Rattle.dup_chunks.proofs.cut.+cut.Goals as goal

pub cut-requires : goal.cut-requires
cut-requires g t c =
    let is = whole (length c.args.items.now / 2) c.args.items.now c.split_at.result.0.now c.split_at.result.1.now c.in-Some.first.now c.in-Some.behind.now
    c.split_at.ensures.front c.split_at.ensures.back c.in-Some.ensures.cases.0 in
    λ κs outlives. (
      (omega (arith, c.decreases, c.in-Some.ensures.cases.1, c.split_at.ensures.back_len)),
      (
        outlives.0,
        (
          outlives.1.0,
          (
            outlives.1.1,
            falls_behind (g.P.Probe.is_below c.args.probe.now) c.args.items.now _ _ c.in-Some.behind.now is c.requires,
          ),
        ),
      ),
    )

pub cut-requires-else-is_below : goal.cut-requires-else-is_below
cut-requires-else-is_below g t c =
    let is = whole (length c.args.items.now / 2) c.args.items.now c.split_at.result.0.now c.split_at.result.1.now c.in-Some.first.now c.in-Some.behind.now
    c.split_at.ensures.front c.split_at.ensures.back c.in-Some.ensures.cases.0 in
    λ κs outlives. (
      (omega (arith, c.decreases, c.in-Some.ensures.cases.1, c.split_at.ensures.back_len)),
      (
        outlives.0,
        (
          outlives.1.0,
          (
            outlives.1.1,
            falls_before (g.P.Probe.is_below c.args.probe.now) c.args.items.now c.split_at.result.0.now _ _ is c.requires,
          ),
        ),
      ),
    )

pub overflow_add-result-then-is_below : goal.overflow_add-result-then-is_below
overflow_add-result-then-is_below g t c =
    let small : c.cut.result ≤ length c.in-Some.behind.now = omega (arith, c.cut.ensures.value, front_within (g.P.Probe.is_below c.args.probe.now) c.in-Some.behind.now) in
    omega (arith, c.well_formed.0.0, c.in-Some.ensures.cases.1, c.split_at.ensures.back_len, c.split_at.ensures.front_len)

pub returns-then-is_below-clause-value : goal.returns-then-is_below-clause-value
returns-then-is_below-clause-value g t c =
    let is = whole (length c.args.items.now / 2) c.args.items.now c.split_at.result.0.now c.split_at.result.1.now c.in-Some.first.now c.in-Some.behind.now
    c.split_at.ensures.front c.split_at.ensures.back c.in-Some.ensures.cases.0 in
    cut_right (g.P.Probe.is_below c.args.probe.now) c.args.items.now c.split_at.result.0.now c.in-Some.first.now c.in-Some.behind.now c.cut.result is c.requires
    (sym c.is_below.ensures ∙ c.if-is_below.true) c.cut.ensures.value

pub returns-then-is_below-clause-cost : goal.returns-then-is_below-clause-cost
returns-then-is_below-clause-cost g t c =
    cost_more (length c.args.items.now) (length c.in-Some.behind.now) c.args.steps.now c.add.new.self c.cut.new.steps c.cut.ensures.cost
    (omega (arith, c.in-Some.ensures.cases.1, c.split_at.ensures.back_len)) (omega (arith, c.in-Some.ensures.cases.1, c.split_at.ensures.back_len)) c.add.ensures

pub returns-else-is_below-clause-value : goal.returns-else-is_below-clause-value
returns-else-is_below-clause-value g t c =
    let is = whole (length c.args.items.now / 2) c.args.items.now c.split_at.result.0.now c.split_at.result.1.now c.in-Some.first.now c.in-Some.behind.now
    c.split_at.ensures.front c.split_at.ensures.back c.in-Some.ensures.cases.0 in
    c.cut-else-is_below.ensures.value ∙ cut_left (g.P.Probe.is_below c.args.probe.now) c.args.items.now c.split_at.result.0.now c.in-Some.first.now c.in-Some.behind.now is c.requires
    (sym c.is_below.ensures ∙ c.if-is_below.false)

pub returns-else-is_below-clause-cost : goal.returns-else-is_below-clause-cost
returns-else-is_below-clause-cost g t c =
    cost_more (length c.args.items.now) (length c.split_at.result.0.now) c.args.steps.now c.add.new.self c.cut-else-is_below.new.steps c.cut-else-is_below.ensures.cost
    (omega (arith, c.in-Some.ensures.cases.1, c.split_at.ensures.back_len)) (omega (arith, c.split_at.ensures.front_len)) c.add.ensures
