use Rattle.std.proofs.Common.{◌≡◌, ◌∷◌, Bool, true, false, cond, Some, None, map, sym, ap, ◌∙◌, subst}
use Rattle.std.specs.List.{All}
use Rattle.std.specs.Option.{option_map}
use Rattle.dup_names.specs.Order.{obj_cmp}
use Rattle.dup_names.specs.Words.{in_order}
use Rattle.dup_names.specs.declared.object.Obj.{Obj}
use Rattle.dup_names.specs.Objects.{is_in}
use Rattle.dup_model.specs.Expansions.{Expansion}
use Rattle.dup_model.specs.Found.{found, waiting}
use Rattle.dup_graph.specs.Graph.{Nodes}
use Rattle.dup_graph.specs.declared.nodes.Node.{Node as Reads}
use Rattle.dup_machine.proofs.Closing.{without_parts}
use Rattle.dup_walk.specs.OverReads.{HasReads}
use Rattle.std.specs.FinMap as fin
use Rattle.dup_build.specs.Nodes.{IsNode}
use Rattle.dup_build.specs.Build.{IsBuild, once_in, work_in}
use Rattle.dup_build.specs.Paths.{IsCurrent, looks_in}
use Rattle.dup_build.specs.Spare.{AreTurned}
use Rattle.dup_build.specs.Targets.{pages_in}
use Rattle.dup_build.specs.Built.{Built, done_by, looked_by}
use Rattle.dup_build.specs.Stocked.{Stocked}
use Rattle.dup_build.proofs.Builds.{open_from, waits_open}
use Rattle.dup_build.proofs.Graphs.{reads_put, reads_back}
use Rattle.dup_build.proofs.build.Build.keep.Goals as goal

pub invariant_of-self-in_default : goal.invariant_of-self-in_default
invariant_of-self-in_default c =
    let open_is : c.self.inside.is_open ≡ true = open_from c.self.inside.is_open (work_in c.self.inside) c.args.self.now.works.work (ap (λ (b : Built). b.works.work) c.self.view_is) c.requires.busy in
    let one : c.obj.result.now ≡ c.args.node.expanded.value.obj = c.obj.ensures ∙ ap (λ (e : Expansion). e.obj) c.deref.ensures in
    let node : IsNode c.self.inside.stock.content c.obj.result.now c.args.node =
    subst (λ (b : Built). IsNode b.works.content c.obj.result.now c.args.node) (sym c.self.view_is) (subst (λ o. IsNode c.args.self.now.works.content o c.args.node) (sym one) c.requires.node) in
    let kept : Reads = record { items = map (λ n. n.0) c.args.node.expanded.value.notes; children = c.args.node.children } in
    let after = record c.self.inside { stock = c.keep.new.self; graph = c.put_node.new.graph; expanded = c.saturating_add-self-inside.result } in
    record {
      is_done = ap (λ (o : Bool). done_by c.keep.new.self.content (option_map (λ t. t.version) c.self.inside.target) (cond o (Some (work_in after)) None)) (sym open_is);
      is_looked = ap (λ (o : Bool). looked_by c.keep.new.self.content (option_map (λ t. t.version) c.self.inside.target) (cond o (Some (work_in after)) None)) (sym open_is);
      planned = tt;
      turned = subst (λ (s : Stocked). AreTurned c.self.inside.same_pages s.content (pages_in c.self.inside.target) c.self.inside.spare) (sym c.in_default.ensures.ok) c.self.invariant.turned;
      rising = c.self.invariant.rising;
      shown = subst (λ (s : Stocked). All (IsCurrent s.content s.looked (once_in c.self.inside)) (looks_in (pages_in c.self.inside.target))) (sym c.in_default.ensures.ok) c.self.invariant.shown;
      reads = subst (λ (s : Stocked). HasReads s.content s.done c.put_node.new.graph) (sym c.in_default.ensures.ok)
          (subst (λ (o : Obj). HasReads c.self.inside.stock.content (in_order obj_cmp (o ∷ c.self.inside.stock.done)) c.put_node.new.graph) one
          (subst (λ (g : Nodes). HasReads c.self.inside.stock.content (in_order obj_cmp (c.obj.result.now ∷ c.self.inside.stock.done)) g) (sym c.in_ok-put_node.ensures.ok)
          (reads_put c.self.inside.stock.content c.self.inside.stock.done c.obj.result.now kept c.self.inside.graph node.items node.children c.self.invariant.reads)));
    }

pub invariant_of-self-2 : goal.invariant_of-self-2
invariant_of-self-2 c =
    let open_is : c.self.inside.is_open ≡ true = open_from c.self.inside.is_open (work_in c.self.inside) c.args.self.now.works.work (ap (λ (b : Built). b.works.work) c.self.view_is) c.requires.busy in
    let work_is : c.args.self.now.works.work ≡ Some (work_in c.self.inside) = ap (λ (b : Built). b.works.work) (sym c.self.view_is) ∙ ap (λ (o : Bool). cond o (Some (work_in c.self.inside)) None) open_is in
    let one : c.obj.result.now ≡ c.args.node.expanded.value.obj = c.obj.ensures ∙ ap (λ (e : Expansion). e.obj) c.deref.ensures in
    let waits : is_in (waiting c.args.self.now.works.content c.self.inside.stock.done) c.obj.result.now ≡ true =
    ap (is_in (waiting c.args.self.now.works.content c.self.inside.stock.done)) one
    ∙ sym (waits_open c.args.self.now.works (work_in c.self.inside) work_is c.args.node.expanded.value.obj c.args.node.expanded.value.notes) ∙ c.requires.waits in
    let out : is_in c.self.inside.stock.done c.obj.result.now ≡ false =
    (without_parts (is_in c.self.inside.stock.done) (found c.args.self.now.works.content c.self.inside.stock.done) c.obj.result.now waits).1 in
    let kept : Reads = record { items = map (λ n. n.0) c.args.node.expanded.value.notes; children = c.args.node.children } in
    subst (λ (s : Stocked). IsBuild (record c.self.inside { stock = s; graph = c.drop_obj.new.self })) (sym c.in-Err.ensures.err) (record {
      is_done = c.self.invariant.is_done;
      is_looked = c.self.invariant.is_looked;
      planned = c.self.invariant.planned;
      turned = c.self.invariant.turned;
      rising = c.self.invariant.rising;
      shown = c.self.invariant.shown;
      reads = subst (λ (g : Nodes). HasReads c.self.inside.stock.content c.self.inside.stock.done g)
          (sym (c.drop_obj.ensures.rest ∙ ap (λ (g : Nodes). fin.remove g c.obj.result.now) c.in_ok-put_node.ensures.ok))
          (reads_back c.self.inside.stock.content c.self.inside.stock.done c.obj.result.now kept c.self.inside.graph out c.self.invariant.reads);
    })
