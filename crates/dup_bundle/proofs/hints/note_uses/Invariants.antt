use Rattle.std.proofs.Common.{◌≡◌, true, not, ◌&&◌, take}
use Rattle.std.specs.List.{list_any}
use Rattle.dup_names.specs.Words.{Path}
use Rattle.dup_names.specs.declared.object.Obj.{Obj}
use Rattle.dup_model.specs.Editions.{has}
use Rattle.dup_names.specs.Objects.{same_obj}
use Rattle.dup_bundle.specs.Hinted.{is_kept, users_of}
use Rattle.dup_bundle.proofs.hints.note_uses.Given as goal

abbrev pub invariant-loop-shown : goal.invariant-loop-shown
invariant-loop-shown l =
    ((o : Obj) → list_any (λ u. same_obj o u.0 && not (is_kept l.others u)) (take l.shown-index l.uses) ≡ true → has (users_of l.users o) l.path ≡ true)
    × ((o : Obj) (q : Path) → has (users_of l.initial.users o) q ≡ true → has (users_of l.users o) q ≡ true)
