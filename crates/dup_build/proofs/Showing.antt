-- The looks of the last target that are still its objects' own.
use Rattle.std.proofs.Common.{◌≡◌, ℕ, ◌<◌, arith, length, get_or, Bool, true, false, not, cond, ◌||◌, ◌&&◌, List, [], ◌∷◌, ◌++◌, map, Option, Some, None, subst, refl, sym, ap, ◌∙◌}
use Rattle.std.specs.List.{All}
use Rattle.std.specs.FinMap as fin
use Rattle.std.specs.declared.alloc.Global.{Global}
use Rattle.std.specs.declared.sync.Arc.{Arc}
use Rattle.std.proofs.lemmas.List.{length-map}
use Rattle.std.proofs.Math.ListN.{get_or-map}
use Rattle.dup_build.specs.Targets.{looks_by_path}
use Rattle.std.specs.Ordering.{eq_by_cmp}
use Rattle.std.proofs.lemmas.List.Elements.{All-cons, All-get_or, All-head, All-map, All-nil, All-tail, All-weaker}
use Rattle.std.proofs.lemmas.List.Folds.{list_any-append}
use Rattle.std.proofs.lemmas.Bool.{true≢false, or_left}
use Rattle.std.proofs.lemmas.Option.{none-some, same_Some}
use Rattle.dup_names.specs.Order.{obj_cmp, text_cmp}
use Rattle.dup_names.specs.Words.{Path, in_order}
use Rattle.dup_names.specs.declared.object.Obj.{Obj}
use Rattle.dup_names.specs.declared.value.Look.{Look}
use Rattle.dup_names.specs.Objects.{is_in, same_obj}
use Rattle.dup_model.specs.Content.{Content}
use Rattle.dup_model.specs.Looks.{look}
use Rattle.dup_model.specs.Pages.{page_looks, pages}
use Rattle.dup_model.specs.Embeddings.{EmbedsEarlier}
use Rattle.dup_model.specs.Found.{found}
use Rattle.dup_model.specs.Found.Found.{of_page}
use Rattle.dup_model.proofs.FoundWords.{found_is_found}
use Rattle.dup_model.proofs.Reached.{or_right}
use Rattle.dup_names.proofs.ObjectOrder.{obj_itself, obj_same}
use Rattle.dup_model.specs.Touched.{without, affected}
use Rattle.dup_model.proofs.Incremental.{unaffected_same}
use Rattle.dup_model.proofs.Earlier.{in_ordered}
use Rattle.dup_machine.proofs.Closing.{without_parts}
use Rattle.dup_build.proofs.Forgetting.{all_passed}
use Rattle.dup_build.specs.Paths.{AreTouched, IsCurrent, SameElsewhere, is_touched, looks_in}

-- on the way to the next content
pub current_moved : (a b : Content) → a.frame ≡ b.frame → (looked once : List Obj) (ls : List Look) → All (IsCurrent a looked once) ls → All (IsCurrent b (without (affected a b) looked) once) ls
current_moved a b frames looked once ls all =
    All-weaker (IsCurrent a looked once) (IsCurrent b (without (affected a b) looked) once)
    (λ l is inside out.
    let parts : (is_in looked l.obj ≡ true) × (affected a b l.obj ≡ false) = without_parts (affected a b) looked l.obj inside in
    is parts.0 out ∙ unaffected_same a b l.obj frames parts.1)
    ls all

-- the look at a place of the last target
pub current_at : (c : Content) (looked once : List Obj) (last : List (Path × Arc Look Global)) (i : ℕ) (s : Path × Arc Look Global) → i < length last → s ≡ get_or last i s →
    All (IsCurrent c looked once) (looks_in (looks_by_path last)) → IsCurrent c looked once s.1.value
current_at c looked once last i s below at_i all =
    let unshared : Path × Arc Look Global → Path × Look = λ p. (p.0, p.1.value) in
    subst (IsCurrent c looked once)
    (get_or-map (λ (p : Path × Look). p.1) (looks_by_path last) i (unshared s) ∙ ap (λ (p : Path × Look). p.1) (get_or-map unshared last i s) ∙ ap (λ (p : Path × Arc Look Global). p.1.value) (sym at_i))
    (All-get_or (IsCurrent c looked once) (looks_in (looks_by_path last)) i s.1.value (omega (arith, below, length-map (looks_by_path last) (λ (p : Path × Look). p.1), length-map last unshared)) all)

-- where a work opens, none is joined
pub current_opened : (c : Content) (looked once : List Obj) (ls : List Look) → once ≡ [] → All (IsCurrent c looked []) ls → All (IsCurrent c looked once) ls
current_opened c looked once ls none all =
    All-weaker (IsCurrent c looked []) (IsCurrent c looked once) (λ l is inside out. is inside refl) ls all

-- these objects, or those
in_either : (os more : List Obj) (o : Obj) → is_in (in_order obj_cmp (os ++ more)) o ≡ (is_in os o || is_in more o)
in_either os more o = in_ordered (os ++ more) o ∙ list_any-append (same_obj o) os more

-- once a level is joined
pub current_joined : (c : Content) (looked once level : List Obj) (ls : List Look) → All (IsCurrent c looked once) ls →
    All (IsCurrent c (in_order obj_cmp (level ++ looked)) (in_order obj_cmp (level ++ once))) ls
current_joined c looked once level ls all =
    All-weaker (IsCurrent c looked once) (IsCurrent c (in_order obj_cmp (level ++ looked)) (in_order obj_cmp (level ++ once)))
    (λ l is inside out. by_level l is (is_in level l.obj) refl (sym (in_either level looked l.obj) ∙ inside) (sym (in_either level once l.obj) ∙ out))
    ls all
  where
    by_level : (l : Look) → IsCurrent c looked once l → (b : Bool) → is_in level l.obj ≡ b → (is_in level l.obj || is_in looked l.obj) ≡ true → (is_in level l.obj || is_in once l.obj) ≡ false → l ≡ look c l.obj
    by_level l is true there inside out = absurd (true≢false (ap (λ b. b || is_in once l.obj) (sym there) ∙ out))
    by_level l is false apart inside out = is (ap (λ b. b || is_in looked l.obj) (sym apart) ∙ inside) (ap (λ b. b || is_in once l.obj) (sym apart) ∙ out)

-- each look of a content's pages is its object's
pub target_current : (c : Content) (looked once : List Obj) → All (IsCurrent c looked once) (looks_in (page_looks c))
target_current c looked once =
    All-map (IsCurrent c looked once) (λ (p : Path × Look). p.1) (page_looks c)
    (All-map (λ (p : Path × Look). IsCurrent c looked once p.1) (λ (p : Path × Obj). (p.0, look c p.1)) (pages c) (λ k d below inside out. refl))

-- what holds of each look holds of that at a path
pub look_found : (P : Look → Type 0) (p : Path) (es : List (Path × Look)) (l : Look) → All P (looks_in es) → fin.find text_cmp p es ≡ Some l → P l
look_found P p [] l all is = absurd (none-some l is)
look_found P p (e ∷ es) l all is = by_path (eq_by_cmp text_cmp p e.0) (λ later. look_found P p es l (All-tail P e.1 (looks_in es) all) later) is
  where
    by_path : (b : Bool) → (fin.find text_cmp p es ≡ Some l → P l) → cond b (Some e.1) (fin.find text_cmp p es) ≡ Some l → P l
    by_path true later is = subst P (same_Some e.1 l is) (All-head P e.1 (looks_in es) all)
    by_path false later is = later is

in_itself : (ps : List (Path × Obj)) → All (λ (p : Path × Obj). is_in (map (λ (p : Path × Obj). p.1) ps) p.1 ≡ true) ps
in_itself [] = All-nil (λ (p : Path × Obj). is_in [] p.1 ≡ true)
in_itself (p ∷ ps) =
    All-cons (λ (q : Path × Obj). is_in (map (λ (p : Path × Obj). p.1) (p ∷ ps)) q.1 ≡ true) p ps
    (or_left (same_obj p.1 p.1) (is_in (map (λ (p : Path × Obj). p.1) ps) p.1) (obj_itself p.1))
    (All-weaker (λ (q : Path × Obj). is_in (map (λ (p : Path × Obj). p.1) ps) q.1 ≡ true) (λ (q : Path × Obj). is_in (map (λ (p : Path × Obj). p.1) (p ∷ ps)) q.1 ≡ true)
    (λ q h. or_right (same_obj q.1 p.1) (is_in (map (λ (p : Path × Obj). p.1) ps) q.1) h) ps (in_itself ps))

module _ (c : Content) (earlier : EmbedsEarlier c) (done looked : List Obj) (joined : without (is_in looked) (found c done) ≡ []) where
  -- where all that is found has a look, so has each page's object
  pub pages_looked : All (λ (p : Path × Obj). is_in looked p.1 ≡ true) (pages c)
  pages_looked =
      All-weaker (λ (p : Path × Obj). is_in (map (λ (p : Path × Obj). p.1) (pages c)) p.1 ≡ true) (λ (p : Path × Obj). is_in looked p.1 ≡ true)
      (λ p h. all_passed (is_in looked) (found c done) joined p.1 ((found_is_found c done p.1 earlier).1 (of_page h)))
      (pages c) (in_itself (pages c))

  looks_looked : All (λ (m : Look). (m ≡ look c m.obj) × (is_in looked m.obj ≡ true)) (looks_in (page_looks c))
  looks_looked =
      All-map (λ (m : Look). (m ≡ look c m.obj) × (is_in looked m.obj ≡ true)) (λ (p : Path × Look). p.1) (page_looks c)
      (All-map (λ (p : Path × Look). (p.1 ≡ look c p.1.obj) × (is_in looked p.1.obj ≡ true)) (λ (p : Path × Obj). (p.0, look c p.1)) (pages c)
      (λ k d below. (refl, pages_looked k d below)))

  -- away from the touched paths the looks are the same
  pub current_elsewhere : (once : List Obj) (old : List (Path × Look)) (paths : List Path) → All (IsCurrent c looked once) (looks_in old) → AreTouched once old (page_looks c) paths → SameElsewhere paths old (page_looks c)
  current_elsewhere once old paths all touched p out = by_looks (fin.find text_cmp p old) refl (fin.find text_cmp p (page_looks c)) refl (sym (touched p) ∙ out)
    where
      by_tests : (l m : Look) → IsCurrent c looked once l → (m ≡ look c m.obj) × (is_in looked m.obj ≡ true) → (s : Bool) → same_obj l.obj m.obj ≡ s → (i : Bool) → is_in once m.obj ≡ i → not (s && not i) ≡ false → l ≡ m
      by_tests l m was now true same false away is =
          let one : l.obj ≡ m.obj = obj_same l.obj m.obj same in
          was (ap (is_in looked) one ∙ now.1) (ap (is_in once) one ∙ away) ∙ ap (look c) one ∙ sym now.0
      by_tests l m was now true same true inside is = absurd (true≢false is)
      by_tests l m was now false other i at is = absurd (true≢false is)

      by_looks : (o : Option Look) → fin.find text_cmp p old ≡ o → (q : Option Look) → fin.find text_cmp p (page_looks c) ≡ q → is_touched once o q ≡ false → o ≡ q
      by_looks None at_old None at_new is = refl
      by_looks None at_old (Some m) at_new is = absurd (true≢false is)
      by_looks (Some l) at_old None at_new is = absurd (true≢false is)
      by_looks (Some l) at_old (Some m) at_new is =
          ap Some (by_tests l m
          (look_found (IsCurrent c looked once) p old l all at_old)
          (look_found (λ (m : Look). (m ≡ look c m.obj) × (is_in looked m.obj ≡ true)) p (page_looks c) m looks_looked at_new)
          (same_obj l.obj m.obj) refl (is_in once m.obj) refl is)
