use Rattle.std.proofs.Common.{◌≡◌, ◌&&◌, sym, ap, ◌∙◌}
use Rattle.std.specs.List.{list_all}
use Rattle.dup_names.specs.Objects.{is_in}
use Rattle.dup_model.specs.Found.{found}
use Rattle.dup_model.proofs.Finds.{done_unless_waiting}
use Rattle.dup_machine.proofs.Closing.{without_parts}
use Rattle.dup_machine.specs.Reached.{opened}
use Rattle.dup_build.specs.Stocked.{unjoined_in}
use Rattle.dup_build.proofs.Planning.{next_tried}
use Rattle.dup_build.proofs.stock.Stock.is_next.Goals as goal

pub is_ready-requires-clause-unjoined : goal.is_ready-requires-clause-unjoined
is_ready-requires-clause-unjoined c =
    sym (c.contains.ensures ∙ ap (λ l. is_in l c.args.obj.now) (c.self.invariant.stock.unjoined ∙ ap unjoined_in c.self.view_is)) ∙ c.if-contains.true

pub is_ready-requires-clause-done : goal.is_ready-requires-clause-done
is_ready-requires-clause-done c =
    done_unless_waiting c.args.self.now.content c.args.self.now.done c.requires c.args.obj.now
    (without_parts (is_in c.args.self.now.looked) (found c.args.self.now.content c.args.self.now.done) c.args.obj.now
    (sym (c.contains.ensures ∙ ap (λ l. is_in l c.args.obj.now) (c.self.invariant.stock.unjoined ∙ ap unjoined_in c.self.view_is)) ∙ c.if-contains.true)).0

pub returns-then-contains : goal.returns-then-contains
returns-then-contains c =
    let inside : c.contains.result ≡ is_in (unjoined_in c.args.self.now) c.args.obj.now = c.contains.ensures ∙ ap (λ l. is_in l c.args.obj.now) (c.self.invariant.stock.unjoined ∙ ap unjoined_in c.self.view_is) in
    c.is_ready.ensures ∙ ap (λ b. b && list_all (is_in c.args.self.now.looked) (opened c.args.self.now.content c.args.self.now.done c.args.obj.now)) (sym c.if-contains.true ∙ inside)
    ∙ next_tried c.args.self.now c.requires c.args.obj.now

pub returns-else-contains : goal.returns-else-contains
returns-else-contains c =
    let inside : c.contains.result ≡ is_in (unjoined_in c.args.self.now) c.args.obj.now = c.contains.ensures ∙ ap (λ l. is_in l c.args.obj.now) (c.self.invariant.stock.unjoined ∙ ap unjoined_in c.self.view_is) in
    c.if-contains.false ∙ ap (λ b. b && list_all (is_in c.args.self.now.looked) (opened c.args.self.now.content c.args.self.now.done c.args.obj.now)) (sym c.if-contains.false ∙ inside)
    ∙ next_tried c.args.self.now c.requires c.args.obj.now
