-- Where a walk may start.
use Rattle.std.proofs.Common.{List, ◌++◌, inl, inr, sym, ◌∙◌}
use Rattle.std.specs.List.{filter}
use Rattle.std.proofs.lemmas.Bool.{true≢false, and_from, and_parts, cases_Bool, or_left}
use Rattle.dup_names.specs.declared.object.Obj.{Obj}
use Rattle.dup_names.specs.Objects.{same_obj, is_in}
use Rattle.dup_model.proofs.Objects.{in_filter}
use Rattle.dup_model.proofs.Ordering.{any_append}
use Rattle.dup_model.proofs.Reached.{or_right}
use Rattle.dup_sets.specs.Entries.{objs}
use Rattle.dup_build.specs.declared.node.Shown.{Shown}
use Rattle.dup_build.specs.Loose.{AreStarts, HadNoLook}
use Rattle.dup_build.proofs.Holding.{without_from}

pub all_start : (roots : List Obj) (looks : List (Obj × Shown)) (stale : List Obj) → AreStarts roots looks stale roots
all_start roots looks stale = record { rooted = λ o h. h; all = λ o h out. h }

-- what is stale or had no look
pub some_start : (roots : List Obj) (looks : List (Obj × Shown)) (stale unjoined : List Obj) → HadNoLook roots looks unjoined → AreStarts roots looks stale (filter (is_in roots) (stale ++ unjoined))
some_start roots looks stale unjoined had = record {
  rooted = λ o h. (and_parts (is_in (stale ++ unjoined) o) (is_in roots o) (sym (in_filter (is_in roots) (stale ++ unjoined) o) ∙ h)).1;
  all = λ o h out. in_filter (is_in roots) (stale ++ unjoined) o ∙ and_from (is_in (stale ++ unjoined) o) (is_in roots o) (any_append (same_obj o) stale unjoined ∙ elim (cases_Bool (is_in stale o)) [
    | inl is ↦ or_left (is_in stale o) (is_in unjoined o) is
    | inr isnt ↦ or_right (is_in stale o) (is_in unjoined o) (had o h (elim (cases_Bool (is_in (objs looks) o)) [
      | inr none ↦ none
      | inl has ↦ absurd (true≢false (sym (without_from (is_in stale) (objs looks) o has isnt) ∙ out))
    ]))
  ]) h;
}
