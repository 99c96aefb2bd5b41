use Rattle.std.proofs.Common.{◌≡◌, ◌&&◌, true, inl, inr, sym, ap, ◌∙◌}
use Rattle.std.specs.List.{list_all}
use Rattle.std.specs.Ordering.{is_eq}
use Rattle.std.proofs.lemmas.Bool.{and_parts, or_cases, or_left}
use Rattle.dup_names.specs.contracts.object.ObjOrd.TheImpl.{ghosts as order}
use Rattle.dup_model.specs.Editions.{has}
use Rattle.dup_bundle.specs.Between.{needs_changed}
use Rattle.dup_bundle.specs.Hinted.{is_done, users_of}
use Rattle.dup_bundle.proofs.Hinting.{same_object}
use Rattle.dup_bundle.proofs.Steps.{all_at, covered_by}
use Rattle.dup_bundle.proofs.reach.add_object.Goals as goal

pub returns-then-contains-clause-seen : goal.returns-then-contains-clause-seen
returns-then-contains-clause-seen c = λ q.
    covered_by (has c.args.seen.now.keys q) (has (users_of c.args.hints.now.users c.args.obj.now) q) (needs_changed c.args.edition.now c.args.target.now c.args.changed.now c.args.path.now q)
    (c.requires.done c.args.obj.now (sym c.contains.ensures ∙ c.if-contains.true) q)

pub returns-clause-done : goal.returns-clause-done
returns-clause-done c = λ o marked q noted.
    elim (or_cases (is_eq (order.cmp c.args.obj.now o) && list_all (has c.add_listed.new.seen.keys) c.users-users.result.now) (is_done c.args.done.now o) (sym (c.in_ok-mark_if_seen.ensures o) ∙ marked)) [
      | inl here ↦
          let parts : (is_eq (order.cmp c.args.obj.now o) ≡ true) × (list_all (has c.add_listed.new.seen.keys) c.users-users.result.now ≡ true) = and_parts _ _ here in
          all_at (has c.add_listed.new.seen.keys) c.users-users.result.now parts.1 q
          (ap (λ l. has l q) c.users-users.ensures ∙ ap (λ o. has (users_of c.args.hints.now.users o) q) (same_object c.args.obj.now o parts.0) ∙ noted)
      | inr old ↦ c.in_ok-add_listed.ensures.seen q ∙ or_left (has c.args.seen.now.keys q) _ (c.requires.done o old q noted)
    ]
