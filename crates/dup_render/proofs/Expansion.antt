-- What is made of an object's marks is its expansion.
use Rattle.std.proofs.Common.{◌≡◌, ℕ, List, map, sym, ap, ◌∙◌}
use Rattle.std.specs.List.{flat_map}
use Rattle.dup_names.specs.Order.{item_cmp, text_cmp}
use Rattle.dup_names.specs.Words.{in_order}
use Rattle.dup_names.specs.declared.object.Item.{Item}
use Rattle.dup_names.specs.declared.object.Obj.{Obj}
use Rattle.dup_template.specs.declared.value.Value.{Value}
use Rattle.dup_names.specs.declared.value.Skeleton.{Skeleton}
use Rattle.dup_template.specs.Frame.{Frame}
use Rattle.dup_model.specs.declared.mark.Mark.{Mark}
use Rattle.dup_model.specs.Content.{Content, value}
use Rattle.dup_model.specs.Expansions.{expansion}
use Rattle.dup_model.specs.Marks.{marks}
use Rattle.dup_model.specs.Skeletons.{read_by, goes_by, pieces}
use Rattle.dup_model.specs.Expansions.{notes}

abbrev with_values : Content → List Mark → List (Item × Value)
with_values c ms = map (λ it. (it, value c it)) (in_order item_cmp (flat_map read_by ms))

abbrev links : List Mark → List (List ℕ)
links ms = in_order text_cmp (flat_map goes_by ms)

pub expansion_made : (f : Frame) (c : Content) (o : Obj) (ms : List Mark) (ns : List (Item × Value)) (s : Skeleton)
    → c.frame ≡ f → ms ≡ marks c o → ns ≡ with_values c ms → s.pieces ≡ pieces ms → s.links ≡ links ms
    → expansion c o ≡ record { frame = f; obj = o; notes = ns; skeleton = s }
expansion_made f c o ms ns s framed of noted parts linked =
    let all : notes c o ≡ ns = sym (noted ∙ ap (with_values c) of) in
    let own : pieces (marks c o) ≡ s.pieces = sym (parts ∙ ap pieces of) in
    let lead : links (marks c o) ≡ s.links = sym (linked ∙ ap links of) in
    λ i. record { frame = framed i; obj = o; notes = all i; skeleton = record { pieces = own i; links = lead i } }
