use Rattle.std.proofs.Common.{◌≡◌, None, length, refl, sym, ap, ◌∙◌, subst}
use Rattle.std.specs.Option.{option_copied, option_map}
use Rattle.dup_names.specs.declared.object.Obj.{Obj}
use Rattle.dup_machine.specs.World.Told.{Kept}
use Rattle.dup_model.specs.Expansions.{Expansion, IsGoodExpansion, stale}
use Rattle.dup_machine.specs.Works.{with_done}
use Rattle.dup_build.specs.Built.{Built, waiting_by}
use Rattle.dup_build.specs.Nodes.{IsNode}
use Rattle.dup_build.proofs.Builds.{put_kept}
use Rattle.dup_build.proofs.Stocking.{node_made}
use Rattle.dup_build.proofs.build.Build.put_asked.Goals as goal

pub keep-requires-clause-node : goal.keep-requires-clause-node
keep-requires-clause-node c =
    let good : IsGoodExpansion c.args.expanded.value = subst IsGoodExpansion c.deref-2.ensures c.expansion_known.ensures in
    let agrees : stale c.args.self.now.works.content c.args.expanded.value.notes ≡ None =
    ap (stale c.args.self.now.works.content) (sym (c.notes.ensures.value ∙ ap (λ (e : Expansion). e.notes) c.deref.ensures))
    ∙ ap (λ (b : Built). stale b.works.content c.notes.result.now) (sym c.self.view_is)
    ∙ sym c.first_stale.ensures ∙ ap option_copied c.in_default.is in
    subst (λ (o : Obj). IsNode c.args.self.now.works.content o c.in_ok-node.node) (sym (ap (λ (e : Expansion). e.obj) c.in_ok-node.ensures.expanded))
    (node_made c.args.self.now.works.content c.args.expanded.value c.in_ok-node.node good (sym c.requires.site) agrees c.in_ok-node.ensures.expanded c.in_ok-node.ensures.children)

pub returns-clause-told : goal.returns-clause-told
returns-clause-told c =
    let agrees : stale c.args.self.now.works.content c.args.expanded.value.notes ≡ None =
    ap (stale c.args.self.now.works.content) (sym (c.notes.ensures.value ∙ ap (λ (e : Expansion). e.notes) c.deref.ensures))
    ∙ ap (λ (b : Built). stale b.works.content c.notes.result.now) (sym c.self.view_is)
    ∙ sym c.first_stale.ensures ∙ ap option_copied c.in_default.is in
    ap (Kept c.args.expanded.value.obj) (c.in_ok-waiting.ensures.waiting
    ∙ ap (λ (e : Expansion). length (waiting_by c.args.self.now.works.content (option_map (with_done e.obj) c.args.self.now.works.work))) c.in_ok-node.ensures.expanded)
    ∙ sym (put_kept c.args.self.now.works c.args.expanded.value.obj c.args.expanded.value.notes c.args.self.now.works.work refl c.requires.waits agrees)
