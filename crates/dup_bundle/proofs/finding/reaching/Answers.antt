use Rattle.std.proofs.Common.{◌≡◌, Bool, true, ◌&&◌, ◌||◌, ◌++◌, ◌∷◌, [], List, length, sym, ap, subst, ◌∙◌}
use Rattle.std.proofs.lemmas.List.{length-append}
use Rattle.std.specs.Ordering.{eq_by_cmp}
use Rattle.dup_names.specs.Order.{text_cmp}
use Rattle.dup_names.specs.Words.{Path}
use Rattle.dup_model.specs.Bundles.{reached}
use Rattle.dup_model.specs.Editions.{has}
use Rattle.dup_bundle.specs.Between.{is_needed}
use Rattle.dup_bundle.specs.Waiting.{Adds}
use Rattle.dup_bundle.proofs.Hinting.{last_there}
use Rattle.dup_bundle.proofs.Waiting.{back_start, back_step, only_one, popped_early, some_fewer, walk_smaller}
use Rattle.std.proofs.lemmas.Bool.{and_parts}
use Rattle.dup_bundle.proofs.finding.reaching.Goals as goal

pub loop-path-init : goal.loop-path-init
loop-path-init c =
    let need : Path → Path → Bool = is_needed c.args.edition.now c.args.target.now in (
      c.in_ok-add_path.ensures.order,
      back_start need c.args.changed.now c.args.to.now c.requires.to c.add_path.new.paths.keys
          (λ q h. only_one _ (sym (c.in_ok-add_path.ensures.has q ∙ ap (λ l. eq_by_cmp text_cmp q c.args.to.now || has l q) c.new-seen.ensures.empty) ∙ h)),
      back_start need c.args.changed.now c.args.to.now c.requires.to c.push.new.self.items
          (λ q h. only_one _ (sym (ap (λ l. has l q) c.in_ok-push.ensures.items ∙ ap (λ l. has (l ++ c.args.to.now ∷ []) q) c.new-due.ensures.items) ∙ h)),
    )

pub loop-path-preserved : goal.loop-path-preserved
loop-path-preserved c =
    let need : Path → Path → Bool = is_needed c.args.edition.now c.args.target.now in
    let changed : List Path = c.args.changed.now in
    let to : Path = c.args.to.now in
    let path : Path = c.in-Some.path in
    let kind : Path → Bool = λ q. has changed q && need q path in
    let path_is : (has changed path && reached need changed path to) ≡ true = c.loop-path.invariant.2 path (ap (λ l. has l path) c.in-Some.ensures.items ∙ last_there c.pop.new.self.items path) in
    let finds : Adds kind [] c.deref.result.now = subst (λ l. Adds kind [] l) (sym c.deref.ensures.value) (subst (λ l. Adds kind l c.list_needing.new.found.items) c.new-found.ensures.items c.in_ok-list_needing.ensures) in (
      c.in_ok-add_new.ensures.order,
      back_step need changed to path path_is c.deref.result.now finds c.loop-path.seen.keys c.add_new.new.seen.keys c.loop-path.invariant.1 c.in_ok-add_new.ensures.seen,
      back_step need changed to path path_is c.deref.result.now finds c.pop.new.self.items c.add_new.new.due.items
          (λ q h. c.loop-path.invariant.2 q (ap (λ l. has l q) c.in-Some.ensures.items ∙ popped_early c.pop.new.self.items path q h)) c.in_ok-add_new.ensures.due,
    )

pub loop-path-smaller : goal.loop-path-smaller
loop-path-smaller c =
    walk_smaller (length c.args.changed.now) (length c.loop-path.seen.keys) (length c.add_new.new.seen.keys) (length c.loop-path.due.items) (length c.add_new.new.due.items) (length c.pop.new.self.items)
    c.in_ok-add_new.ensures.grows
    (some_fewer c.add_new.new.seen.keys c.args.changed.now c.in_ok-add_new.ensures.order (λ q h. (and_parts _ _ ((loop-path-preserved c).1 q h)).0))
    c.in_ok-add_new.ensures.count
    (ap length c.in-Some.ensures.items ∙ length-append c.pop.new.self.items (c.in-Some.path ∷ []))

pub returns : goal.returns
returns c = λ q h. (and_parts _ _ (c.loop-path.invariant.1 q h)).1
