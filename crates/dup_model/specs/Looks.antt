-- What an object uses, and its look. The law above: `uses_law`.
use Rattle.std.specs.Prelude.{ℕ, zero, suc, Bool, true, List, [], ◌∷◌, map, if◌then◌else◌, ◌==◌}
use Rattle.std.specs.List.{flat_map}
use Rattle.dup_names.specs.Order.{text_cmp, obj_cmp}
use Rattle.dup_names.specs.declared.object.Obj.{Obj}
use Rattle.dup_names.specs.declared.value.Look.{Look}
use Rattle.dup_names.specs.Words.{in_order}
use Rattle.dup_model.specs.Content.{Content}
use Rattle.dup_model.specs.Show.{show}
use Rattle.dup_model.specs.Skeletons.{embeds, goes}

-- an object of the first n templates, and all that it embeds, followed down through the objects that are open
abbrev pub down : Content → (Obj → Bool) → ℕ → Obj → List Obj
down c is_open zero o = []
down c is_open (suc n) o =
    if o.template == n then o ∷ (if is_open o then flat_map (down c is_open n) (embeds c o) else [])
    else down c is_open n o

abbrev pub reached_from : Content → (Obj → Bool) → Obj → List Obj
reached_from c is_open o = in_order obj_cmp (down c is_open (suc o.template) o)

-- o and all that it embeds, followed down
abbrev pub uses : Content → Obj → List Obj
uses c o = reached_from c (λ _. true) o

abbrev pub look : Content → Obj → Look
look c o = record {
  obj = o;
  bytes = show c o;
  uses = map (λ f. (f, show c f)) (uses c o);
  links = in_order text_cmp (flat_map (goes c) (uses c o));
}
