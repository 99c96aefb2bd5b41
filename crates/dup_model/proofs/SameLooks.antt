-- Looks are the same as themselves, and what that leaves changed once paths are published.
use Rattle.std.proofs.Common.{◌≡◌, Bool, true, false, not, ◌&&◌, List, [], ◌∷◌, refl, ap}
use Rattle.std.specs.Prelude.{Option, Some, None, if◌then◌else◌}
use Rattle.std.specs.Option.{option_eq}
use Rattle.std.specs.Cmp.Lexicographic.{pointwise, nat_list_eq_equiv, lists_equiv}
use Rattle.std.proofs.lemmas.Bool.{and_from}
use Rattle.std.proofs.lemmas.Slice.Eq.{bytes_eq-Decides}
use Rattle.dup_names.specs.declared.object.Obj.{Obj}
use Rattle.dup_names.specs.declared.value.Look.{Look}
use Rattle.dup_names.specs.Words.{Word}
use Rattle.dup_model.specs.Needs.{same_look, same_use}
use Rattle.dup_names.proofs.ObjectOrder.{obj_itself}

uses_itself : (us : List (Obj × Word)) → pointwise same_use us us ≡ true
uses_itself [] = refl
uses_itself (u ∷ us) = and_from _ _ (and_from _ _ (obj_itself u.0) ((bytes_eq-Decides u.1 u.1).1 refl)) (uses_itself us)

pub look_itself : (l : Look) → same_look l l ≡ true
look_itself l =
    and_from _ _ (and_from _ _ (and_from _ _ (obj_itself l.obj) ((bytes_eq-Decides l.bytes l.bytes).1 refl)) (uses_itself l.uses)) ((lists_equiv nat_list_eq_equiv).refl l.links)

pub option_itself : (o : Option Look) → option_eq same_look o o ≡ true
option_itself None = refl
option_itself (Some l) = look_itself l

-- what is published isn't changed any more
pub changed_mixed : (inside : Bool) (a b : Option Look) → not (option_eq same_look (if inside then b else a) b) ≡ (not inside && not (option_eq same_look a b))
changed_mixed true a b = ap not (option_itself b)
changed_mixed false a b = refl
