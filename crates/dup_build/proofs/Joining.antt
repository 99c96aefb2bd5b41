-- A stock once a level is joined.
use Rattle.std.proofs.Common.{◌≡◌, ℕ, ◌+◌, ◌<◌, Bool, true, false, not, cond, ◌||◌, ◌&&◌, inl, inr, List, [], ◌∷◌, ◌++◌, map, length, take, get_or, Option, Some, None, refl, sym, ap, subst, ◌∙◌}
use Rattle.std.specs.Prelude.{is_some}
use Rattle.std.specs.Option.{option_map}
use Rattle.std.specs.List.{filter, list_all}
use Rattle.std.proofs.lemmas.List.{take_more, take-map, map-append}
use Rattle.std.proofs.Math.ListN.{get_or-map}
use Rattle.std.proofs.lemmas.Option.{none-some, same_Some}
use Rattle.std.proofs.lemmas.Bool.{true≢false, cases_Bool, not-true}
use Rattle.dup_names.specs.Order.{obj_cmp}
use Rattle.dup_names.specs.Words.{in_order}
use Rattle.dup_names.specs.declared.object.Obj.{Obj}
use Rattle.dup_names.specs.declared.value.Look.{Look}
use Rattle.dup_model.specs.Content.{Content}
use Rattle.dup_model.specs.Looks.{look}
use Rattle.dup_model.specs.Skeletons.{embeds}
use Rattle.dup_names.specs.Objects.{same_obj, is_in}
use Rattle.dup_model.specs.Touched.{without}
use Rattle.dup_machine.specs.World.{Work}
use Rattle.dup_model.specs.Found.{found, waiting}
use Rattle.dup_machine.specs.Works.{level}
use Rattle.dup_names.proofs.ObjectOrder.{obj_same}
use Rattle.dup_model.proofs.Objects.{IsOnce, filter_same, in_filter, once_filter, once_in_order}
use Rattle.dup_model.proofs.Finds.{done_unless_waiting}
use Rattle.dup_build.specs.declared.node.Node.{Node}
use Rattle.dup_build.specs.declared.node.Shown.{Shown}
use Rattle.dup_build.specs.declared.survey.Survey.{Survey}
use Rattle.dup_build.proofs.Stocking.{same_held}
use Rattle.dup_machine.specs.Closed.{IsClosed}
use Rattle.dup_sets.specs.Entries.{at, objs}
use Rattle.dup_build.specs.Looked.{look_at, last_look}
use Rattle.dup_machine.specs.Reached.{opened}
use Rattle.dup_build.specs.Stock.{IsStock}
use Rattle.dup_build.specs.Stocked.{Stocked, waiting_in, unjoined_in, level_in}
use Rattle.dup_machine.proofs.Closing.{closed_once_joined, level_leaves}
use Rattle.dup_sets.proofs.Entries.{at_in}
use Rattle.dup_machine.proofs.InOrder.{in_without, ordered_found}
use Rattle.dup_sets.proofs.Sets.{taken_within}

and_first : (a b : Bool) → (a && b) ≡ true → a ≡ true
and_first true b h = refl
and_first false b h = h

and_second : (a b : Bool) → (a && b) ≡ true → b ≡ true
and_second true b h = h
and_second false b h = absurd (true≢false (sym h))

-- where none waits, what a done object embeds is what it embeds
pub level_is : (s : Stocked) → waiting_in s ≡ [] → filter (λ o. list_all (is_in s.looked) (opened s.content s.done o)) (unjoined_in s) ≡ level_in s
level_is s calm = filter_same (λ o. list_all (is_in s.looked) (opened s.content s.done o)) (λ o. list_all (is_in s.looked) (embeds s.content o)) (unjoined_in s) (λ o h.
    let here : is_in (found s.content s.done) o ≡ true = and_first (is_in (found s.content s.done) o) (not (is_in s.looked o)) (sym (in_without (is_in s.looked) (found s.content s.done) o) ∙ h) in
    ap (λ b. list_all (is_in s.looked) (cond b (embeds s.content o) [])) (done_unless_waiting s.content s.done calm o here))

-- a level has each object once
pub level_once : (s : Stocked) → IsOnce (level_in s)
level_once s = once_filter (λ o. list_all (is_in s.looked) (embeds s.content o)) (unjoined_in s) (once_filter (λ o. not (is_in s.looked o)) (found s.content s.done) (subst IsOnce (ordered_found s.content s.done) (once_in_order (found s.content s.done))))

-- what is in a level has no look yet
pub level_apart : (s : Stocked) (o : Obj) → is_in (level_in s) o ≡ true → is_in s.looked o ≡ false
level_apart s o h =
    let inside : is_in (unjoined_in s) o ≡ true =
    and_first (is_in (unjoined_in s) o) (list_all (is_in s.looked) (embeds s.content o)) (sym (in_filter (λ o. list_all (is_in s.looked) (embeds s.content o)) (unjoined_in s) o) ∙ h) in
    not-true (is_in s.looked o) (and_second (is_in (found s.content s.done) o) (not (is_in s.looked o)) (sym (in_without (is_in s.looked) (found s.content s.done) o) ∙ inside))

-- what is in a level is done, where none waits
pub level_done : (s : Stocked) → waiting_in s ≡ [] → (o : Obj) → is_in (level_in s) o ≡ true → is_in s.done o ≡ true
level_done s calm o h =
    let inside : is_in (unjoined_in s) o ≡ true =
    and_first (is_in (unjoined_in s) o) (list_all (is_in s.looked) (embeds s.content o)) (sym (in_filter (λ o. list_all (is_in s.looked) (embeds s.content o)) (unjoined_in s) o) ∙ h) in
    done_unless_waiting s.content s.done calm o (and_first (is_in (found s.content s.done) o) (not (is_in s.looked o)) (sym (in_without (is_in s.looked) (found s.content s.done) o) ∙ inside))

-- and all that it embeds has looks
pub level_ready : (s : Stocked) (o : Obj) → is_in (level_in s) o ≡ true → list_all (is_in s.looked) (embeds s.content o) ≡ true
level_ready s o h = and_second (is_in (unjoined_in s) o) (list_all (is_in s.looked) (embeds s.content o)) (sym (in_filter (λ o. list_all (is_in s.looked) (embeds s.content o)) (unjoined_in s) o) ∙ h)

-- the last look

pub last_push : (q : Obj) (had : Option Look) (ls : List Look) (l : Look) → last_look q had (ls ++ l ∷ []) ≡ cond (same_obj q l.obj) (Some l) (last_look q had ls)
last_push q had [] l = refl
last_push q had (k ∷ ls) l = last_push q (cond (same_obj q k.obj) (Some k) had) ls l

pub last_other : (q : Obj) (had : Option Look) (ls : List Look) → is_in (map (λ l. l.obj) ls) q ≡ false → last_look q had ls ≡ had
last_other q had [] out = refl
last_other q had (l ∷ ls) out =
    let both : (same_obj q l.obj ≡ false) × (is_in (map (λ l. l.obj) ls) q ≡ false) = or_false (same_obj q l.obj) (is_in (map (λ l. l.obj) ls) q) out in
    ap (λ b. last_look q (cond b (Some l) had) ls) both.0 ∙ last_other q had ls both.1
  where
    or_false : (x y : Bool) → (x || y) ≡ false → (x ≡ false) × (y ≡ false)
    or_false true y h = absurd (true≢false h)
    or_false false y h = (refl, h)

-- looks that are right stay so
pub last_right : (c : Content) (q : Obj) (had : Option Look) (os : List Obj) → ((l : Look) → had ≡ Some l → l ≡ look c q) → (l : Look) → last_look q had (map (look c) os) ≡ Some l → l ≡ look c q
last_right c q had [] right l is = right l is
last_right c q had (o ∷ os) right l is = last_right c q (cond (same_obj q o) (Some (look c o)) had) os (λ k h. by_object k (same_obj q o) refl h) l is
  where
    by_object : (k : Look) (b : Bool) → same_obj q o ≡ b → cond b (Some (look c o)) had ≡ Some k → k ≡ look c q
    by_object k true one h = sym (same_Some (look c o) k h) ∙ ap (look c) (sym (obj_same q o one))
    by_object k false apart h = right k h

pub objs_of_values : {A : Type 0} (f : A → Look) (made : List A) → map (λ l. l.obj) (map f made) ≡ map (λ m. (f m).obj) made
objs_of_values f [] = refl
objs_of_values f (m ∷ made) = ap (λ l. (f m).obj ∷ l) (objs_of_values f made)

pub objs_looked : (c : Content) (os : List Obj) → map (λ l. l.obj) (map (look c) os) ≡ os
objs_looked c [] = refl
objs_looked c (o ∷ os) = ap (λ l. o ∷ l) (objs_looked c os)

-- what isn't of the level isn't of a part of it
pub others : {A : Type 0} (f : A → Look) (made : List A) (lvl : List Obj) → lvl ≡ map (λ m. (f m).obj) made → (i : ℕ) (q : Obj) → is_in lvl q ≡ false → is_in (map (λ l. l.obj) (map f (take i made))) q ≡ false
others f made lvl is i q out = elim (cases_Bool (is_in (map (λ l. l.obj) (map f (take i made))) q)) [
  | inr isnt ↦ isnt
  | inl inside ↦
      let part : map (λ l. l.obj) (map f (take i made)) ≡ take i lvl = objs_of_values f (take i made) ∙ sym (take-map (λ m. (f m).obj) i made) ∙ ap (take i) (sym is) in
      absurd (true≢false (sym (taken_within lvl i q (ap (λ l. is_in l q) (sym part) ∙ inside)) ∙ out))
]

pub values_push : {A : Type 0} (f : A → Look) (made : List A) (i : ℕ) (m : A) → i < length made → m ≡ get_or made i m → map f (take (i + 1) made) ≡ map f (take i made) ++ f m ∷ []
values_push f made i m below is = ap (map f) (take_more made i m below ∙ ap (λ y. take i made ++ y ∷ []) (sym is)) ∙ map-append f (take i made) (m ∷ [])

pub obj_at : {A : Type 0} (f : A → Look) (made : List A) (lvl : List Obj) → lvl ≡ map (λ m. (f m).obj) made → (i : ℕ) (m : A) → m ≡ get_or made i m → (f m).obj ≡ get_or lvl i (f m).obj
obj_at f made lvl is i m at_i = sym (ap (λ l. get_or l i (f m).obj) is ∙ get_or-map (λ m. (f m).obj) made i m ∙ ap (λ m. (f m).obj) (sym at_i))

pub none_at : (es : List (Obj × Shown)) (q : Obj) → is_in (objs es) q ≡ false → look_at es q ≡ None
none_at es q out = by_entry (at es q) (sym (at_in es q) ∙ out)
  where
    by_entry : (o : Option Shown) → is_some o ≡ false → option_map (λ (s : Shown). s.look.value) o ≡ None
    by_entry None h = refl
    by_entry (Some s) h = absurd (true≢false h)

module _ (c : Content) (nodes : List (Obj × Node)) (looks : List (Obj × Shown)) (o : Survey) (k : IsStock c nodes looks o) (calm : waiting c (objs nodes) ≡ [])
    (more : List (Obj × Shown)) (o' : Survey) (lvl : List Obj) where
  abbrev before : Stocked
  before = record { content = c; done = objs nodes; looked = objs looks }

  abbrev work : Work
  work = record { version = 0; last_handed = None; done = objs nodes; looked = objs looks; once = []; expanded = 0; joined = 0 }

  pub joined_stock : lvl ≡ level_in before → objs more ≡ in_order obj_cmp (lvl ++ objs looks) → ((q : Obj) → look_at more q ≡ last_look q (look_at looks q) (map (look c) lvl)) →
      o'.pages.value ≡ o.pages.value → o'.loose ≡ o.loose → o'.waiting ≡ o.waiting → o'.unjoined ≡ without (is_in lvl) o.unjoined → IsStock c nodes more o'
  joined_stock is more_objs more_at same_pages same_loose waits unjoined_is =
      let looked : objs more ≡ in_order obj_cmp (level c work ++ objs looks) = more_objs ∙ ap (λ l. in_order obj_cmp (l ++ objs looks)) is in
      record {
        nodes_are = k.nodes_are;
        looks_are = λ q s at_q. last_right c q (look_at looks q) lvl (λ l h. by_old q l (at looks q) refl h) s.look.value (sym (more_at q) ∙ ap (option_map (λ (s : Shown). s.look.value)) at_q);
        closed = subst (IsClosed c (objs nodes)) (sym looked) (closed_once_joined c work k.closed calm);
        pages = same_pages ∙ k.pages;
        held = same_held nodes o o' same_pages same_loose k.held;
        waits = waits ∙ k.waits;
        unjoined = unjoined_is ∙ (λ i. without (is_in (is i)) (k.unjoined i)) ∙ sym (level_leaves c work) ∙ ap (λ l. without (is_in l) (found c (objs nodes))) (sym looked);
        keyed = k.keyed;
        keys = k.keys;
      }
    where
      by_old : (q : Obj) (l : Look) (s : Option Shown) → at looks q ≡ s → option_map (λ (s : Shown). s.look.value) s ≡ Some l → l ≡ look c q
      by_old q l None at_q h = absurd (none-some l h)
      by_old q l (Some s) at_q h = sym (same_Some s.look.value l h) ∙ k.looks_are q s at_q
