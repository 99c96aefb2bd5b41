use Rattle.std.proofs.Common.{◌≡◌, map, sym, ap, ◌∙◌}
use Rattle.std.specs.Prelude.{is_some}
use Rattle.std.specs.Option.{option_copied}
use Rattle.dup_names.specs.Objects.{is_in}
use Rattle.dup_model.specs.Expansions.{Expansion}
use Rattle.dup_model.specs.JoinedLooks.{joined_look}
use Rattle.dup_model.specs.Looks.{look}
use Rattle.dup_model.specs.Skeletons.{embeds, skeleton}
use Rattle.dup_model.proofs.LooksFromParts.{looks_from_parts}
use Rattle.dup_machine.proofs.Closing.{all_at}
use Rattle.dup_sets.proofs.Entries.{at_in, some_copied}
use Rattle.dup_build.specs.Nodes.{IsNode}
use Rattle.dup_build.specs.Stocked.{Stocked}
use Rattle.dup_build.proofs.stock.Stock.join_job.Goals as goal

pub unwrap-node-requires : goal.unwrap-node-requires
unwrap-node-requires c =
    some_copied c.get.result ∙ ap is_some c.get.ensures ∙ sym (at_in c.self.inside.nodes c.args.obj.now)
    ∙ ap (λ (s : Stocked). is_in s.done c.args.obj.now) c.self.view_is ∙ c.requires.done

pub looks_of-requires : goal.looks_of-requires
looks_of-requires c = λ g h.
    let node : IsNode c.self.inside.content c.args.obj.now c.unwrap-node.result.now =
    c.self.invariant.stock.nodes_are c.args.obj.now c.unwrap-node.result.now (sym c.get.ensures ∙ ap option_copied c.unwrap-node.ensures) in
    let all : c.items.result.now ≡ embeds c.args.self.now.content c.args.obj.now =
    c.items.ensures ∙ node.children ∙ ap (λ (s : Stocked). embeds s.content c.args.obj.now) c.self.view_is in
    all_at (is_in c.args.self.now.looked) (embeds c.args.self.now.content c.args.obj.now) c.requires.looked g (ap (λ l. is_in l g) (sym all) ∙ h)

pub returns : goal.returns
returns c =
    let node : IsNode c.self.inside.content c.args.obj.now c.unwrap-node.result.now =
    c.self.invariant.stock.nodes_are c.args.obj.now c.unwrap-node.result.now (sym c.get.ensures ∙ ap option_copied c.unwrap-node.ensures) in
    let all : c.items.result.now ≡ embeds c.self.inside.content c.args.obj.now = c.items.ensures ∙ node.children in
    let parts : map (λ p. p.value) c.of.result ≡ map (look c.self.inside.content) (embeds c.self.inside.content c.args.obj.now) =
    ap (map (λ p. p.value)) c.of.ensures ∙ c.in_ok-parts.ensures ∙ (λ i. map (look (sym c.self.view_is i).content) (all i)) in
    let held : c.in_ok-skeleton.skeleton.value ≡ skeleton c.self.inside.content c.args.obj.now =
    c.in_ok-skeleton.ensures ∙ c.skeleton.ensures ∙ ap (λ (e : Expansion). e.skeleton) c.deref.ensures ∙ node.skeleton in
    (λ i. joined_look c.args.obj.now (held i) (parts i))
    ∙ looks_from_parts c.self.inside.content c.args.obj.now c.site_known.ensures.earlier
    ∙ ap (λ (s : Stocked). look s.content c.args.obj.now) c.self.view_is
