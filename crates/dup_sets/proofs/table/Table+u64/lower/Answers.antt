use Rattle.std.proofs.Common.{◌≡◌, ◌-◌, ℕ, Bool, true, false, cond, List, Option, Some, None, refl, sym, ap, ◌∙◌}
use Rattle.std.specs.Prelude.{is_some}
use Rattle.std.specs.Option.{option_map}
use Rattle.dup_names.specs.Objects.{same_obj}
use Rattle.dup_names.proofs.ObjectOrder.{obj_same}
use Rattle.dup_names.specs.declared.object.Obj.{Obj}
use Rattle.dup_sets.specs.Entries.{at, by_object}
use Rattle.dup_sets.proofs.Entries.{at_ordered, found_is, updated_at}
use Rattle.dup_sets.proofs.table.Table+u64.lower.Goals.{in-Some, in_default}
use Rattle.dup_sets.proofs.table.Table+u64.lower.Goals as goal

-- where the object's number is this one, and it is written one lower
lowered : (es : List (Obj × ℕ)) (o q : Obj) (b : Bool) → same_obj q o ≡ b → (had : Option ℕ) → at es o ≡ had →
    cond b (option_map (λ n. n - 1) had) (at es q) ≡ cond b (option_map (λ n. n - 1) (at es q)) (at es q)
lowered es o q true one had is = ap (option_map (λ n. n - 1)) (sym is ∙ ap (at es) (sym (obj_same q o one)))
lowered es o q false apart had is = refl

-- and where it has none
stays : (es : List (Obj × ℕ)) (o q : Obj) (b : Bool) → same_obj q o ≡ b → at es o ≡ None →
    at es q ≡ cond b (option_map (λ n. n - 1) (at es q)) (at es q)
stays es o q true one is =
    let none : at es q ≡ None = ap (at es) (obj_same q o one) ∙ is in
    none ∙ ap (option_map (λ n. n - 1)) (sym none)
stays es o q false apart is = refl

pub returns : goal.returns
returns c = λ q.
    let es : List (Obj × ℕ) = c.self.inside.entries.entries in
    let o : Obj = c.args.obj.now in
    let is : by_object es ≡ c.args.self.now = c.self.view_is in
    elim c.match-get_mut.branch [
      | in-Some w ↦
          ap (λ t. at (by_object t.entries.entries) q) w.self-inside-is
          ∙ updated_at o es (c.get_mut.follows.lender w.saturating_sub.result).entries (Some w.saturating_sub.result) q
          (((c.get_mut.follows.holds w.saturating_sub.result).3 (ap is_some (sym w.in-Some.ensures.value))).0 q)
          ∙ ap (λ n. cond (same_obj q o) (Some n) (at (by_object es) q)) w.saturating_sub.ensures
          ∙ lowered (by_object es) o q (same_obj q o) refl (Some w.in-Some.number.now) (at_ordered es o ∙ sym (found_is o es) ∙ sym w.in-Some.ensures.value)
          ∙ ap (λ es. cond (same_obj q o) (option_map (λ n. n - 1) (at es q)) (at es q)) is
      | in_default w ↦
          ap (λ t. at (by_object t.entries.entries) q) w.self-inside-is
          ∙ ap (λ m. at (by_object m.entries) q) c.get_mut.follows.holds-at-none
          ∙ stays (by_object es) o q (same_obj q o) refl (at_ordered es o ∙ sym (found_is o es) ∙ sym w.in_default.ensures.value)
          ∙ ap (λ es. cond (same_obj q o) (option_map (λ n. n - 1) (at es q)) (at es q)) is
    ]
