-- A look is joined from the skeleton and the looks of what is embedded.
use Rattle.std.proofs.Common.{◌≡◌, suc, ◌⊎◌, inl, inr, Bool, true, ◌||◌, List, [], ◌∷◌, ◌++◌, refl, sym, ap, subst, ◌∙◌, append_assoc}
use Rattle.std.specs.List.{list_any, flat_map}
use Rattle.std.specs.Ordering.{eq_by_cmp}
use Rattle.std.specs.FinMap as fin
use Rattle.std.specs.declared.cmp.Ordering.TheVariants.{Equal}
use Rattle.std.specs.Cmp.{Equal-is, eq_by_cmp_equiv, both_ways}
use Rattle.std.specs.Cmp.Lexicographic.{nat_list_cmp_total}
use Rattle.std.proofs.lemmas.Bool.{true≢false, or_cases, or_left}
use Rattle.dup_names.specs.Order.{obj_cmp, text_cmp}
use Rattle.dup_names.specs.declared.object.Obj.{Obj}
use Rattle.dup_names.specs.declared.value.Piece.{Piece}
use Rattle.dup_names.specs.declared.value.Piece.TheVariants as piece
use Rattle.dup_model.specs.declared.mark.Mark.{Mark}
use Rattle.dup_model.specs.declared.mark.Mark.TheVariants as mark
use Rattle.dup_names.specs.Words.{Word, Path, in_order}
use Rattle.dup_model.specs.Content.{Content}
use Rattle.dup_model.specs.Marks.{marks}
use Rattle.dup_model.specs.Show.{show, shown}
use Rattle.dup_model.specs.Skeletons.{embeds, goes, pieces, before}
use Rattle.dup_model.specs.Looks.{uses, look, down}
use Rattle.dup_names.specs.Objects.{same_obj, is_in}
use Rattle.dup_model.specs.Touched.{touched}
use Rattle.dup_model.specs.Embeddings.{EmbedsEarlier}
use Rattle.dup_model.specs.Uses.{Uses}
use Rattle.dup_model.specs.Uses.Uses.{itself, further}
use Rattle.dup_model.specs.JoinedLooks.{filled, LooksAreJoined, AffectedUpwards}
use Rattle.dup_names.proofs.ObjectOrder.{obj_same, obj_tied, obj_itself, obj_total}
use Rattle.dup_model.proofs.Reached.{or_right}
use Rattle.dup_model.proofs.Ordering.{any_in_order, any_flat, any_append}
use Rattle.dup_model.proofs.Earlier.{in_ordered, always, uses_are_all, show_is_of_marks, from_further}
use Rattle.dup_model.proofs.Canonical.{same_in_order}

-- the bytes

filled_before : (below : Obj → Word) (w : Word) (ps : List Piece) → flat_map (filled below) (before w ps) ≡ w ++ flat_map (filled below) ps
filled_before below [] ps = refl
filled_before below (b ∷ bs) [] = refl
filled_before below (b ∷ bs) (piece.Plain more ∷ ps) = ap (λ l. b ∷ l) (append_assoc bs more (flat_map (filled below) ps))
filled_before below (b ∷ bs) (piece.Hole o ∷ ps) = refl

pub filled_pieces : (below : Obj → Word) (ms : List Mark) → flat_map (filled below) (pieces ms) ≡ flat_map (shown below) ms
filled_pieces below [] = refl
filled_pieces below (mark.Plain w ∷ ms) = filled_before below w (pieces ms) ∙ ap (λ l. w ++ l) (filled_pieces below ms)
filled_pieces below (mark.Hole o ∷ ms) = ap (λ l. below o ++ l) (filled_pieces below ms)
filled_pieces below (mark.Read it ∷ ms) = filled_pieces below ms
filled_pieces below (mark.Goes q ∷ ms) = filled_pieces below ms

-- membership

tied_obj : (x y : Obj) → eq_by_cmp obj_cmp x y ≡ same_obj x y
tied_obj x y = both_ways (eq_by_cmp obj_cmp x y) (same_obj x y)
    (λ tie. ap (same_obj x) (sym (obj_tied x y ((Equal-is (obj_cmp x y)).0 tie))) ∙ obj_itself x)
    (λ h. ap (eq_by_cmp obj_cmp x) (sym (obj_same x y h)) ∙ (eq_by_cmp_equiv obj_total).refl x)

any_alike : {X : Type 0} (f g : X → Bool) → ((x : X) → f x ≡ g x) → (xs : List X) → list_any f xs ≡ list_any g xs
any_alike f g same [] = refl
any_alike f g same (x ∷ xs) = λ i. same x i || any_alike f g same xs i

any_at : (f : Obj → Bool) (os : List Obj) (g : Obj) → is_in os g ≡ true → f g ≡ true → list_any f os ≡ true
any_at f [] g inside h = absurd (true≢false (sym inside))
any_at f (o ∷ os) g inside h = elim (or_cases (same_obj g o) (is_in os g) inside) [
  | inl here ↦ or_left (f o) (list_any f os) (ap f (sym (obj_same g o here)) ∙ h)
  | inr later ↦ or_right (f o) (list_any f os) (any_at f os g later h)
]

at_any : (f : Obj → Bool) (os : List Obj) → list_any f os ≡ true → (g : Obj) × (is_in os g ≡ true) × (f g ≡ true)
at_any f [] h = absurd (true≢false (sym h))
at_any f (o ∷ os) h = elim (or_cases (f o) (list_any f os) h) [
  | inl here ↦ (o, or_left (same_obj o o) (is_in os o) (obj_itself o), here)
  | inr later ↦ let rest : (g : Obj) × (is_in os g ≡ true) × (f g ≡ true) = at_any f os later in (rest.0, or_right (same_obj rest.0 o) (is_in os rest.0) rest.1, rest.2)
]

module _ (c : Content) (earlier : EmbedsEarlier c) where
  -- what is used is the object, or is used by something embedded
  first_step : (o f : Obj) → Uses c o f → (f ≡ o) ⊎ ((g : Obj) × (is_in (embeds c o) g ≡ true) × Uses c g f)
  first_step o f itself = inl refl
  first_step o f (further {f = e} h g k) = elim (first_step o e h) [
    | inl one ↦ inr (g, ap (λ e. is_in (embeds c e) g) (sym one) ∙ k, itself)
    | inr via ↦ inr (via.0, via.1, further via.2 g k)
  ]

  used : (o f : Obj) → is_in (uses c o) f ≡ (same_obj f o || list_any (λ g. is_in (uses c g) f) (embeds c o))
  used o f = both_ways _ _
      (λ h. elim (first_step o f ((uses_are_all c o f earlier).0 h)) [
        | inl one ↦ or_left (same_obj f o) (list_any (λ g. is_in (uses c g) f) (embeds c o)) (ap (same_obj f) (sym one) ∙ obj_itself f)
        | inr via ↦ or_right (same_obj f o) (list_any (λ g. is_in (uses c g) f) (embeds c o))
            (any_at (λ g. is_in (uses c g) f) (embeds c o) via.0 via.1 ((uses_are_all c via.0 f earlier).1 via.2))
      ])
      (λ h. elim (or_cases (same_obj f o) (list_any (λ g. is_in (uses c g) f) (embeds c o)) h) [
        | inl here ↦ (uses_are_all c o f earlier).1 (subst (Uses c o) (sym (obj_same f o here)) itself)
        | inr later ↦
            let via : (g : Obj) × (is_in (embeds c o) g ≡ true) × (is_in (uses c g) f ≡ true) = at_any (λ g. is_in (uses c g) f) (embeds c o) later in
            (uses_are_all c o f earlier).1 (from_further c o via.0 f via.1 ((uses_are_all c via.0 f earlier).0 via.2))
      ])

  pub uses_joined : (o : Obj) → uses c o ≡ in_order obj_cmp (o ∷ flat_map (uses c) (embeds c o))
  uses_joined o = same_in_order obj_cmp obj_total obj_tied (down c always (suc o.template) o) (o ∷ flat_map (uses c) (embeds c o)) (λ z.
      any_alike (eq_by_cmp obj_cmp z) (same_obj z) (tied_obj z) (down c always (suc o.template) o)
      ∙ sym (in_ordered (down c always (suc o.template) o) z)
      ∙ used o z
      ∙ ap (λ b. same_obj z o || b) (sym (any_flat (same_obj z) (uses c) (embeds c o)))
      ∙ sym (any_alike (eq_by_cmp obj_cmp z) (same_obj z) (tied_obj z) (o ∷ flat_map (uses c) (embeds c o))))

  word_tied : (x y : Path) → text_cmp x y ≡ Equal → x ≡ y
  word_tied x y is = fin.slice_cmp-IsAntisymmetric fin.nat_cmp-IsAntisymmetric x y is

  pub links_joined : (o : Obj) → (look c o).links ≡ in_order text_cmp (goes c o ++ flat_map (λ f. (look c f).links) (embeds c o))
  links_joined o = same_in_order text_cmp nat_list_cmp_total word_tied (flat_map (goes c) (uses c o)) (goes c o ++ flat_map (λ f. (look c f).links) (embeds c o)) (λ z.
      any_flat (eq_by_cmp text_cmp z) (goes c) (uses c o)
      ∙ ap (list_any (λ f. list_any (eq_by_cmp text_cmp z) (goes c f))) (uses_joined o)
      ∙ any_in_order obj_cmp (λ f. list_any (eq_by_cmp text_cmp z) (goes c f)) (λ x y tie. ap (λ f. list_any (eq_by_cmp text_cmp z) (goes c f)) (obj_tied x y tie)) (o ∷ flat_map (uses c) (embeds c o))
      ∙ ap (λ b. list_any (eq_by_cmp text_cmp z) (goes c o) || b)
      (any_flat (λ f. list_any (eq_by_cmp text_cmp z) (goes c f)) (uses c) (embeds c o)
      ∙ any_alike (λ g. list_any (λ f. list_any (eq_by_cmp text_cmp z) (goes c f)) (uses c g)) (λ g. list_any (eq_by_cmp text_cmp z) (look c g).links)
      (λ g. sym (any_in_order text_cmp (eq_by_cmp text_cmp z) (λ x y tie. ap (eq_by_cmp text_cmp z) (word_tied x y tie)) (flat_map (goes c) (uses c g)) ∙ any_flat (eq_by_cmp text_cmp z) (goes c) (uses c g)))
      (embeds c o)
      ∙ sym (any_flat (eq_by_cmp text_cmp z) (λ f. (look c f).links) (embeds c o)))
      ∙ sym (any_append (eq_by_cmp text_cmp z) (goes c o) (flat_map (λ f. (look c f).links) (embeds c o))))

pub looks_joined : LooksAreJoined
looks_joined c o earlier = record {
  bytes = show_is_of_marks c o earlier ∙ sym (filled_pieces (show c) (marks c o));
  uses = uses_joined c earlier o;
  links = links_joined c earlier o;
}

pub affected_upwards : AffectedUpwards
affected_upwards a b o earlier =
    ap (list_any (touched a b)) (uses_joined a earlier o)
    ∙ any_in_order obj_cmp (touched a b) (λ x y tie. ap (touched a b) (obj_tied x y tie)) (o ∷ flat_map (uses a) (embeds a o))
    ∙ ap (λ t. touched a b o || t) (any_flat (touched a b) (uses a) (embeds a o))
