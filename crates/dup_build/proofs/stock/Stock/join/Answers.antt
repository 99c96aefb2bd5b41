use Rattle.std.proofs.Common.{◌≡◌, ◌++◌, [], map, refl, sym, ap, subst, ◌∙◌}
use Rattle.dup_names.specs.Order.{obj_cmp}
use Rattle.dup_names.specs.Words.{in_order}
use Rattle.dup_model.specs.Looks.{look}
use Rattle.dup_names.specs.Objects.{is_in}
use Rattle.dup_model.specs.Found.{waiting}
use Rattle.dup_sets.specs.Entries.{objs}
use Rattle.dup_build.specs.Looked.{look_at, last_look}
use Rattle.dup_build.specs.Stocked.{Stocked, waiting_in, level_in}
use Rattle.dup_model.proofs.Objects.{IsOnce}
use Rattle.dup_walk.specs.OverReads.{HasReads}
use Rattle.dup_build.proofs.Counting.{joined_counts}
use Rattle.dup_build.proofs.Joining.{level_apart, level_once, objs_looked, objs_of_values, joined_stock}
use Rattle.dup_build.proofs.Planning.{next_above}
use Rattle.dup_build.proofs.stock.Stock.join.Goals as goal

pub add_looks-requires-clause-level : goal.add_looks-requires-clause-level
add_looks-requires-clause-level c =
    sym (objs_looked c.args.self.now.content c.args.level.now) ∙ ap (map (λ l. l.obj)) (sym c.requires.looks) ∙ objs_of_values (λ l. l.value) c.args.looks.now

pub add_looks-requires-clause-apart : goal.add_looks-requires-clause-apart
add_looks-requires-clause-apart c = λ x h.
    ap (λ (s : Stocked). is_in s.looked x) c.self.view_is ∙ level_apart c.args.self.now x (ap (λ l. is_in l x) (sym c.requires.level) ∙ h)

pub invariant_of-self-2 : goal.invariant_of-self-2
invariant_of-self-2 c =
    let calm : waiting c.self.inside.content (objs c.self.inside.nodes) ≡ [] = ap waiting_in c.self.view_is ∙ c.requires.calm in
    let level : c.args.level.now ≡ level_in (record { content = c.self.inside.content; done = objs c.self.inside.nodes; looked = objs c.self.inside.looks }) = c.requires.level ∙ ap level_in (sym c.self.view_is) in
    record {
      stock = joined_stock c.self.inside.content c.self.inside.nodes c.self.inside.looks c.self.inside.progress c.self.invariant.stock calm c.add_looks.new.looks
          (record { pages = c.self.inside.progress.pages; waiting = c.self.inside.progress.waiting; unjoined = c.remove_all.new.self; loose = c.self.inside.progress.loose }) c.args.level.now
          level c.in_ok-add_looks.ensures.objs
          (λ q. c.in_ok-add_looks.ensures.looks q ∙ ap (last_look q (look_at c.self.inside.looks q)) (c.requires.looks ∙ ap (λ (s : Stocked). map (look s.content) c.args.level.now) (sym c.self.view_is)))
          refl refl refl c.remove_all.ensures;
      counts = joined_counts c.self.inside.content c.self.inside.nodes (objs c.self.inside.looks) (objs c.add_looks.new.looks) c.self.inside.progress.unjoined c.remove_all.new.self c.args.level.now c.args.graph.now
          c.self.inside.missing c.lower_above.new.missing c.self.invariant.stock.nodes_are (subst (λ (s : Stocked). HasReads s.content s.done c.args.graph.now) (sym c.self.view_is) c.requires.reads) c.self.invariant.counts
          c.in_ok-add_looks.ensures.objs c.remove_all.ensures
          (subst IsOnce (sym level) (level_once (record { content = c.self.inside.content; done = objs c.self.inside.nodes; looked = objs c.self.inside.looks })))
          (λ x h. level_apart (record { content = c.self.inside.content; done = objs c.self.inside.nodes; looked = objs c.self.inside.looks }) x (ap (λ l. is_in l x) (sym level) ∙ h))
          c.lower_above.ensures;
    }

pub returns-clause-ok : goal.returns-clause-ok
returns-clause-ok c =
    let looked : objs c.add_looks.new.looks ≡ in_order obj_cmp (c.args.level.now ++ c.args.self.now.looked) =
    c.in_ok-add_looks.ensures.objs ∙ ap (λ (s : Stocked). in_order obj_cmp (c.args.level.now ++ s.looked)) c.self.view_is in
    λ i. record { content = (c.self.view_is i).content; done = (c.self.view_is i).done; looked = looked i }

pub returns-clause-above : goal.returns-clause-above
returns-clause-above c =
    let looked : objs c.add_looks.new.looks ≡ in_order obj_cmp (c.args.level.now ++ c.args.self.now.looked) =
    c.in_ok-add_looks.ensures.objs ∙ ap (λ (s : Stocked). in_order obj_cmp (c.args.level.now ++ s.looked)) c.self.view_is in
    let after : Stocked = record { content = c.self.inside.content; done = objs c.self.inside.nodes; looked = objs c.add_looks.new.looks } in
    let is : after ≡ record c.args.self.now { looked = in_order obj_cmp (c.args.level.now ++ c.args.self.now.looked) } =
    λ i. record { content = (c.self.view_is i).content; done = (c.self.view_is i).done; looked = looked i } in
    λ o h. next_above c.args.self.now c.args.level.now c.requires.level o (ap (λ (s : Stocked). is_in (level_in s) o) (sym is) ∙ h)
