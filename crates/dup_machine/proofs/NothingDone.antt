-- From a target to itself nothing is expanded and nothing joined.
use Rattle.std.proofs.Common.{◌≡◌, Bool, true, false, not, ◌||◌, List, [], ◌∷◌, length, refl, ap, ◌∙◌}
use Rattle.std.specs.Prelude.{Some}
use Rattle.std.specs.List.{filter, list_any}
use Rattle.std.proofs.lemmas.Bool.{or_left}
use Rattle.dup_names.specs.declared.object.Obj.{Obj}
use Rattle.dup_names.specs.declared.object.Item.{Item}
use Rattle.dup_names.specs.Objects.{is_in}
use Rattle.dup_names.proofs.ObjectOrder.{obj_itself}
use Rattle.dup_model.specs.Content.{Content, value}
use Rattle.dup_model.specs.Looks.{uses}
use Rattle.dup_model.specs.Pages.{live}
use Rattle.dup_model.specs.Skeletons.{reads}
use Rattle.dup_model.specs.Touched.{affected, differs, expanded, joined, touched, without}
use Rattle.dup_model.proofs.Finds.{value_itself}
use Rattle.dup_model.proofs.Reached.{or_right}
use Rattle.dup_machine.specs.Settle.{NothingIsDone}
use Rattle.dup_machine.specs.Works.{more}

differs_not : (c : Content) (its : List Item) → list_any (differs c c) its ≡ false
differs_not c [] = refl
differs_not c (it ∷ its) = rw (differs_not c its) (ap (λ b. not b || false) (value_itself (value c it)))

untouched : (c : Content) (os : List Obj) → list_any (touched c c) os ≡ false
untouched c [] = refl
untouched c (o ∷ os) = rw (untouched c os) (ap (λ b. b || false) (differs_not c (reads c o)))

none_renewed : (c : Content) (test : Content → Content → Obj → Bool) → ((o : Obj) → test c c o ≡ false) → (os : List Obj) → ((o : Obj) → is_in os o ≡ true → is_in (live c) o ≡ true) →
    filter (λ o. not (is_in (live c) o) || test c c o) os ≡ []
none_renewed c test never [] inside = refl
none_renewed c test never (o ∷ os) inside =
    rw (inside o (or_left _ _ (obj_itself o)), never o) (none_renewed c test never os (λ x h. inside x (or_right _ _ h)))

pub nothing_is_done : NothingIsDone
nothing_is_done c v =
    let none : expanded (Some c) c ≡ [] = none_renewed c touched (λ o. differs_not c (reads c o)) (live c) (λ o h. h) in
    let also : joined (Some c) c ≡ [] = none_renewed c affected (λ o. untouched c (uses c o)) (live c) (λ o h. h) in
    λ i. record { version = v; expanded = more 0 (length (none i)); joined = more 0 (length (also i)); kept = length ((ap (λ l. without (is_in l) (live c)) also ∙ all_of (live c)) i) }
  where
    all_of : (os : List Obj) → without (is_in []) os ≡ os
    all_of [] = refl
    all_of (o ∷ os) = ap (λ l. o ∷ l) (all_of os)
