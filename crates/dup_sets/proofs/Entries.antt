-- Entries of objects, as a map has them and in object order.
use Rattle.std.proofs.Common.{◌≡◌, suc, Bool, true, false, not, cond, ◌||◌, ◌&&◌, List, [], ◌∷◌, Option, Some, None, Bor, length, refl, sym, ap, subst, ◌∙◌, rules}
use Rattle.std.specs.Prelude.{is_some}
use Rattle.std.specs.BTreeMap.{insert_entry}
use Rattle.std.specs.List.{AllByRecursion, IsDistinct}
use Rattle.std.specs.Map.{lookup}
use Rattle.std.specs.Option.{option_copied}
use Rattle.std.specs.Ordering.{is_eq, match_ordering}
use Rattle.std.specs.declared.cmp.Ordering.{Ordering}
use Rattle.std.specs.declared.cmp.Ordering.TheVariants.{Less, Equal, Greater}
use Rattle.std.proofs.lemmas.Bool.{true≢false, or_left}
use Rattle.std.proofs.lemmas.List.{length-map}
use Rattle.dup_names.specs.Objects.{same_obj, is_in}
use Rattle.dup_names.specs.Order.{obj_cmp}
use Rattle.dup_names.specs.Words.{in_order, put, put_at}
use Rattle.dup_names.specs.contracts.object.ObjPartialEq.TheImpl.{ghosts as equal}
use Rattle.dup_names.specs.declared.object.Obj.{Obj}
use Rattle.dup_names.proofs.ObjectOrder.{obj_same, obj_tied}
use Rattle.dup_model.specs.Touched.{without}
use Rattle.dup_model.proofs.Earlier.{in_ordered}
use Rattle.dup_model.proofs.Objects.{IsOnce}
use Rattle.dup_machine.proofs.InOrder.{IsOrdered, ordered_filter, ordered_in_order, in_without, same_ordered, same_turned, tied_obj}
use Rattle.dup_sets.specs.Entries.{at, objs, by_object}

-- something is kept of an object exactly where it is among those
pub at_in : {T : Type 0} (es : List (Obj × T)) (o : Obj) → is_in (objs es) o ≡ is_some (at es o)
at_in [] o = refl
at_in (e ∷ es) o = by_test (same_obj o e.0) (at_in es o)
  where
    by_test : (b : Bool) → is_in (objs es) o ≡ is_some (at es o) → (b || is_in (objs es) o) ≡ is_some (cond b (Some e.1) (at es o))
    by_test true more = refl
    by_test false more = more

pub some_copied : {T : Type 0} (o : Option (Bor T)) → is_some o ≡ is_some (option_copied o)
some_copied None = refl
some_copied (Some x) = refl

pub both_none : {T : Type 0} (a b : Bool) (o : Option T) → cond a None (cond b None o) ≡ cond (b || a) None o
both_none true true o = refl
both_none true false o = refl
both_none false true o = refl
both_none false false o = refl

-- a map's test of its keys

pub eq_is : (a b : Obj) → equal.eq a b ≡ same_obj a b
eq_is a b = search rules

pub found_is : {T : Type 0} (o : Obj) (es : List (Obj × T)) → lookup (equal.eq o) es ≡ at es o
found_is o [] = refl
found_is o (e ∷ es) = λ i. cond (eq_is o e.0 i) (Some e.1) (found_is o es i)

pub once_keys : (os : List Obj) → IsDistinct equal.eq os → IsOnce os
unfolding IsDistinct
once_keys [] h = tt
once_keys (o ∷ os) h = (none os h.0, once_keys os h.1)
  where
    none : (xs : List Obj) → AllByRecursion (λ y. equal.eq o y ≡ false) xs → is_in xs o ≡ false
    none [] all = refl
    none (x ∷ xs) all = ap (λ b. b || is_in xs o) (sym (eq_is o x) ∙ all.0) ∙ none xs all.1

-- the entries in object order

module _ {T : Type 0} where
  objs_at : (r : Ordering) (o : Obj) (kept : T) (e : Obj × T) (es rest : List (Obj × T)) →
      objs (match_ordering r ((o, kept) ∷ e ∷ es) ((e.0, kept) ∷ es) (e ∷ rest)) ≡ put_at r o e.0 (objs es) (objs rest)
  objs_at Less o kept e es rest = refl
  objs_at Equal o kept e es rest = refl
  objs_at Greater o kept e es rest = refl

  objs_put : (o : Obj) (kept : T) (es : List (Obj × T)) → objs (insert_entry obj_cmp es o kept) ≡ put obj_cmp o (objs es)
  objs_put o kept [] = refl
  objs_put o kept (e ∷ es) =
      objs_at (obj_cmp o e.0) o kept e es (insert_entry obj_cmp es o kept) ∙ ap (put_at (obj_cmp o e.0) o e.0 (objs es)) (objs_put o kept es)

  -- the laws of `by_object`: the entries are of the same objects
  pub objs_ordered : (es : List (Obj × T)) → objs (by_object es) ≡ in_order obj_cmp (objs es)
  objs_ordered [] = refl
  objs_ordered (e ∷ es) = objs_put e.0 e.1 (by_object es) ∙ ap (put obj_cmp e.0) (objs_ordered es)

  pub ordered_objs : (es : List (Obj × T)) → IsOrdered (objs (by_object es))
  ordered_objs es = subst IsOrdered (sym (objs_ordered es)) (ordered_in_order (objs es))

  first_wins : (b : Bool) (x y : T) (rest : Option T) → cond b (Some x) rest ≡ cond b (Some x) (cond b (Some y) rest)
  first_wins true x y rest = refl
  first_wins false x y rest = refl

  either_first : (a b : Bool) (x y : T) (rest : Option T) → (a ≡ true → b ≡ false) → cond b (Some y) (cond a (Some x) rest) ≡ cond a (Some x) (cond b (Some y) rest)
  either_first true true x y rest apart = absurd (true≢false (apart refl))
  either_first true false x y rest apart = refl
  either_first false b x y rest apart = refl

  at_put : (o : Obj) (kept : T) (es : List (Obj × T)) (q : Obj) → at (insert_entry obj_cmp es o kept) q ≡ cond (same_obj q o) (Some kept) (at es q)
  at_put o kept [] q = refl
  at_put o kept (e ∷ es) q = by_order (obj_cmp o e.0) refl (at_put o kept es q)
    where
      by_order : (r : Ordering) → obj_cmp o e.0 ≡ r → at (insert_entry obj_cmp es o kept) q ≡ cond (same_obj q o) (Some kept) (at es q) →
          at (match_ordering r ((o, kept) ∷ e ∷ es) ((e.0, kept) ∷ es) (e ∷ insert_entry obj_cmp es o kept)) q ≡ cond (same_obj q o) (Some kept) (at (e ∷ es) q)
      by_order Less is more = refl
      by_order Equal is more =
          first_wins (same_obj q e.0) kept e.1 (at es q)
          ∙ ap (λ x. cond (same_obj q x) (Some kept) (cond (same_obj q e.0) (Some e.1) (at es q))) (sym (obj_tied o e.0 is))
      by_order Greater is more =
          ap (cond (same_obj q e.0) (Some e.1)) more
          ∙ either_first (same_obj q o) (same_obj q e.0) kept e.1 (at es q)
          (λ one. ap (λ x. same_obj x e.0) (obj_same q o one) ∙ sym (tied_obj o e.0) ∙ ap is_eq is)

  -- and have the same of each
  pub at_ordered : (es : List (Obj × T)) (q : Obj) → at (by_object es) q ≡ at es q
  at_ordered [] q = refl
  at_ordered (e ∷ es) q = at_put e.0 e.1 (by_object es) q ∙ ap (cond (same_obj q e.0) (Some e.1)) (at_ordered es q)

put_new : (o : Obj) (os : List Obj) → is_in os o ≡ false → length (put obj_cmp o os) ≡ suc (length os)
put_new o [] out = refl
put_new o (x ∷ xs) out = by_order (obj_cmp o x) refl (λ apart. put_new o xs apart)
  where
    second : (a b : Bool) → (a || b) ≡ false → b ≡ false
    second true b h = absurd (true≢false h)
    second false b h = h

    by_order : (r : Ordering) → obj_cmp o x ≡ r → (is_in xs o ≡ false → length (put obj_cmp o xs) ≡ suc (length xs)) → length (put_at r o x xs (put obj_cmp o xs)) ≡ suc (length (x ∷ xs))
    by_order Less is more = refl
    by_order Equal is more = absurd (true≢false (sym (or_left (same_obj o x) (is_in xs o) (sym (tied_obj o x) ∙ ap is_eq is)) ∙ out))
    by_order Greater is more = ap suc (more (second (same_obj o x) (is_in xs o) out))

once_length : (os : List Obj) → IsOnce os → length (in_order obj_cmp os) ≡ length os
once_length [] h = refl
once_length (o ∷ os) h = put_new o (in_order obj_cmp os) (in_ordered os o ∙ h.0) ∙ ap suc (once_length os h.1)

-- a map has as many entries in object order
pub length_ordered : {T : Type 0} (es : List (Obj × T)) → IsDistinct equal.eq (objs es) → length es ≡ length (objs (by_object es))
length_ordered es h = sym (length-map es (λ e. e.0)) ∙ sym (ap length (objs_ordered es) ∙ once_length (objs es) (once_keys (objs es) h))

-- one is put in or taken out

module _ {T : Type 0} (o : Obj) (old new : List (Obj × T)) where
  -- what is at q once w is at o
  pub updated_at : (w : Option T) (q : Obj) → lookup (equal.eq q) new ≡ cond (equal.eq o q) w (lookup (equal.eq q) old) →
      at (by_object new) q ≡ cond (same_obj q o) w (at (by_object old) q)
  updated_at w q is =
      at_ordered new q ∙ sym (found_is q new) ∙ is
      ∙ (λ i. cond (eq_is o q i) w (found_is q old i))
      ∙ ap (λ b. cond b w (at old q)) (same_turned o q) ∙ ap (cond (same_obj q o) w) (sym (at_ordered old q))

  pub objs_added : (kept : T) → IsOrdered (objs new) → ((q : Obj) → at new q ≡ cond (same_obj q o) (Some kept) (at old q)) → objs new ≡ in_order obj_cmp (o ∷ objs old)
  objs_added kept h each = same_ordered (objs new) (in_order obj_cmp (o ∷ objs old)) h (ordered_in_order (o ∷ objs old))
      (λ x. at_in new x ∙ ap is_some (each x) ∙ by_test (same_obj x o) (at old x) ∙ ap (λ b. same_obj x o || b) (sym (at_in old x)) ∙ sym (in_ordered (o ∷ objs old) x))
    where
      by_test : (b : Bool) (had : Option T) → is_some (cond b (Some kept) had) ≡ (b || is_some had)
      by_test true had = refl
      by_test false had = refl

  pub objs_removed : IsOrdered (objs old) → IsOrdered (objs new) → ((q : Obj) → at new q ≡ cond (same_obj q o) None (at old q)) → objs new ≡ without (same_obj o) (objs old)
  objs_removed h k each = same_ordered (objs new) (without (same_obj o) (objs old)) k (ordered_filter (λ x. not (same_obj o x)) (objs old) h)
      (λ x.
      at_in new x ∙ ap is_some (each x) ∙ by_test (same_obj x o) (at old x)
      ∙ ap (λ b. is_some (at old x) && not b) (same_turned x o) ∙ ap (λ b. b && not (same_obj o x)) (sym (at_in old x))
      ∙ sym (in_without (same_obj o) (objs old) x))
    where
      by_test : (b : Bool) (had : Option T) → is_some (cond b None had) ≡ (is_some had && not b)
      by_test true None = refl
      by_test true (Some t) = refl
      by_test false None = refl
      by_test false (Some t) = refl
