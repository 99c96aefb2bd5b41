use Rattle.std.proofs.Common.{◌≡◌, true, false, cond, sym, ap, ◌∙◌}
use Rattle.std.specs.Prelude.{Some, None}
use Rattle.dup_names.specs.Words.{same}
use Rattle.dup_model.specs.Content.{Entry}
use Rattle.dup_chunks.proofs.Sorted.{pick}
use Rattle.dup_records.proofs.RowPlaces.{falls, first_is}
use Rattle.dup_records.proofs.table.found.Goals as goal

pub first_from-requires : goal.first_from-requires
first_from-requires g c = falls c.args.key.now c.args.rows.now c.requires

pub returns-in-None : goal.returns-in-None
returns-in-None g c = sym (first_is c.args.key.now c.args.rows.now c.requires ∙ ap (pick (λ (e : Entry). same e.0 c.args.key.now)) (sym c.in-None.ensures))

pub returns-then-eq : goal.returns-then-eq
returns-then-eq g c =
    let is : same c.in-Some.row.now.0 c.args.key.now ≡ true = ap (λ k. same k c.args.key.now) (sym c.key.ensures) ∙ sym c.eq.ensures ∙ c.if-eq.true in
    sym (first_is c.args.key.now c.args.rows.now c.requires ∙ ap (pick (λ (e : Entry). same e.0 c.args.key.now)) (sym c.in-Some.ensures) ∙ ap (λ b. cond b (Some c.in-Some.row.now) None) is)

pub returns-else-eq : goal.returns-else-eq
returns-else-eq g c =
    let is : same c.in-Some.row.now.0 c.args.key.now ≡ false = ap (λ k. same k c.args.key.now) (sym c.key.ensures) ∙ sym c.eq.ensures ∙ c.if-eq.false in
    sym (first_is c.args.key.now c.args.rows.now c.requires ∙ ap (pick (λ (e : Entry). same e.0 c.args.key.now)) (sym c.in-Some.ensures) ∙ ap (λ b. cond b (Some c.in-Some.row.now) None) is)
