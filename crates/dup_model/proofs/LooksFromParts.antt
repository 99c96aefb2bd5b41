-- A look from the skeleton and the looks of what is embedded, without a content.
use Rattle.std.proofs.Common.{◌≡◌, Bool, true, false, cond, ◌||◌, List, [], ◌∷◌, ◌++◌, map, Some, refl, sym, ap, ◌∙◌}
use Rattle.std.specs.List.{find, flat_map}
use Rattle.std.specs.declared.cmp.Ordering.{Ordering}
use Rattle.std.specs.declared.cmp.Ordering.TheVariants.{Less, Equal, Greater}
use Rattle.std.proofs.lemmas.Bool.{true≢false, or_left}
use Rattle.dup_names.specs.Order.{obj_cmp, text_cmp}
use Rattle.dup_names.specs.Words.{Word, in_order, put, put_at}
use Rattle.dup_names.specs.declared.object.Obj.{Obj}
use Rattle.dup_names.specs.declared.value.Look.{Look}
use Rattle.dup_model.specs.declared.mark.Mark.{Mark}
use Rattle.dup_model.specs.declared.mark.Mark.TheVariants as mark
use Rattle.dup_model.specs.Content.{Content}
use Rattle.dup_model.specs.Embeddings.{EmbedsEarlier}
use Rattle.dup_model.specs.JoinedLooks.{LooksFromParts, bytes_in, filled, joined_look, shown_in, use_cmp}
use Rattle.dup_model.specs.Looks.{look, uses}
use Rattle.dup_model.specs.Marks.{marks}
use Rattle.dup_model.specs.Show.{show, shown}
use Rattle.dup_model.specs.Skeletons.{embeds, hole_of, skeleton}
use Rattle.dup_names.specs.Objects.{is_in, same_obj}
use Rattle.dup_names.proofs.ObjectOrder.{obj_itself, obj_same}
use Rattle.dup_model.proofs.Earlier.{in_ordered, show_is_of_marks}
use Rattle.dup_model.proofs.JoinedLooks.{filled_pieces, links_joined, uses_joined}
use Rattle.dup_model.proofs.Reached.{or_right}

module _ (c : Content) where
  abbrev pair : Obj → Obj × Word
  pair f = (f, show c f)

  -- pairs are in the order of their objects
  put_at-map : (r : Ordering) (x y : Obj) (ys rest : List Obj) → put_at r (pair x) (pair y) (map pair ys) (map pair rest) ≡ map pair (put_at r x y ys rest)
  put_at-map Less x y ys rest = refl
  put_at-map Equal x y ys rest = refl
  put_at-map Greater x y ys rest = refl

  put-map : (x : Obj) (ys : List Obj) → put use_cmp (pair x) (map pair ys) ≡ map pair (put obj_cmp x ys)
  put-map x [] = refl
  put-map x (y ∷ ys) =
      ap (λ rest. put_at (obj_cmp x y) (pair x) (pair y) (map pair ys) rest) (put-map x ys)
      ∙ put_at-map (obj_cmp x y) x y ys (put obj_cmp x ys)

  in_order-map : (xs : List Obj) → in_order use_cmp (map pair xs) ≡ map pair (in_order obj_cmp xs)
  in_order-map [] = refl
  in_order-map (x ∷ xs) = ap (put use_cmp (pair x)) (in_order-map xs) ∙ put-map x (in_order obj_cmp xs)

  map-join : (xs ys : List Obj) → map pair (xs ++ ys) ≡ map pair xs ++ map pair ys
  map-join [] ys = refl
  map-join (x ∷ xs) ys = ap (λ rest. pair x ∷ rest) (map-join xs ys)

  uses_of : (gs : List Obj) → flat_map (λ look. look.uses) (map (look c) gs) ≡ map pair (flat_map (uses c) gs)
  uses_of [] = refl
  uses_of (g ∷ gs) = ap (λ rest. map pair (uses c g) ++ rest) (uses_of gs) ∙ sym (map-join (uses c g) (flat_map (uses c) gs))

  links_of : (gs : List Obj) → flat_map (λ look. look.links) (map (look c) gs) ≡ flat_map (λ f. (look c f).links) gs
  links_of [] = refl
  links_of (g ∷ gs) = ap (λ rest. (look c g).links ++ rest) (links_of gs)

  -- what is embedded is shown as its look has it
  shown_of : (gs : List Obj) (g : Obj) → is_in gs g ≡ true → shown_in (map (look c) gs) g ≡ show c g
  shown_of [] g inside = absurd (true≢false (sym inside))
  shown_of (x ∷ gs) g inside = by_test (same_obj g x) refl inside (shown_of gs g)
    where
      by_test : (b : Bool) → same_obj g x ≡ b → (b || is_in gs g) ≡ true → (is_in gs g ≡ true → shown_in (map (look c) gs) g ≡ show c g) →
          bytes_in (cond b (Some (look c x)) (find (λ look. same_obj g look.obj) (map (look c) gs))) ≡ show c g
      by_test true is inside rest = ap (show c) (sym (obj_same g x is))
      by_test false is inside rest = rest inside

  agree : (below : Obj → Word) (ms : List Mark) → ((g : Obj) → is_in (flat_map hole_of ms) g ≡ true → below g ≡ show c g) →
      flat_map (shown below) ms ≡ flat_map (shown (show c)) ms
  agree below [] same = refl
  agree below (mark.Plain w ∷ ms) same = ap (λ rest. w ++ rest) (agree below ms same)
  agree below (mark.Hole o ∷ ms) same =
      λ i. same o (or_left (same_obj o o) (is_in (flat_map hole_of ms) o) (obj_itself o)) i
      ++ agree below ms (λ g inside. same g (or_right (same_obj g o) (is_in (flat_map hole_of ms) g) inside)) i
  agree below (mark.Read it ∷ ms) same = agree below ms same
  agree below (mark.Goes q ∷ ms) same = agree below ms same

  module _ (earlier : EmbedsEarlier c) (o : Obj) where
    abbrev looks : List Look
    looks = map (look c) (embeds c o)

    bytes_joined : flat_map (filled (shown_in looks)) (skeleton c o).pieces ≡ show c o
    bytes_joined =
        filled_pieces (shown_in looks) (marks c o)
        ∙ agree (shown_in looks) (marks c o) (λ g inside. shown_of (embeds c o) g (in_ordered (flat_map hole_of (marks c o)) g ∙ inside))
        ∙ sym (show_is_of_marks c o earlier)

    uses_pairs : in_order use_cmp (pair o ∷ flat_map (λ look. look.uses) looks) ≡ map pair (uses c o)
    uses_pairs =
        ap (λ rest. in_order use_cmp (pair o ∷ rest)) (uses_of (embeds c o))
        ∙ in_order-map (o ∷ flat_map (uses c) (embeds c o))
        ∙ ap (map pair) (sym (uses_joined c earlier o))

    joined : joined_look o (skeleton c o) looks ≡ look c o
    joined i = record {
      obj = o;
      bytes = bytes_joined i;
      uses = (ap (λ w. in_order use_cmp ((o, w) ∷ flat_map (λ look. look.uses) looks)) bytes_joined ∙ uses_pairs) i;
      links = (ap (λ rest. in_order text_cmp ((skeleton c o).links ++ rest)) (links_of (embeds c o)) ∙ sym (links_joined c earlier o)) i;
    }

pub looks_from_parts : LooksFromParts
looks_from_parts c o earlier = joined c earlier o
