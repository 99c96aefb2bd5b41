-- A stock that forgets what isn't live.
use Rattle.std.proofs.Common.{◌≡◌, Bool, true, false, not, cond, ◌&&◌, inl, inr, List, [], ◌∷◌, ◌++◌, ℕ, zero, suc, ◌+◌, ◌<◌, ◌≤◌, length, take, get_or, map, None, refl, sym, ap, subst, ◌∙◌, arith}
use Rattle.std.proofs.lemmas.List.{take_more, map-append, length-map}
use Rattle.std.proofs.Math.ListN.{get_or-map}
use Rattle.dup_names.specs.Words.{Path}
use Rattle.dup_names.specs.declared.value.Look.{Look}
use Rattle.std.specs.Cmp.{both_ways}
use Rattle.std.specs.List.{filter}
use Rattle.std.proofs.lemmas.List.Filters.{length-filter_both}
use Rattle.dup_model.proofs.Objects.{in_filter}
use Rattle.dup_model.specs.Skeletons.{embeds}
use Rattle.dup_model.specs.Found.{Found}
use Rattle.dup_model.specs.Found.Found.{of_page, embedded}
use Rattle.dup_model.proofs.Earlier.{embeds_earlier}
use Rattle.dup_machine.proofs.Closing.{without_parts}
use Rattle.dup_build.specs.Nodes.{children_of}
use Rattle.dup_build.specs.Loose.{is_embedded, is_held, shown_by, AreGone, HoldsBut}
use Rattle.dup_build.proofs.Holding.{either_none, embedded_by, embedder, or_none, without_from}
use Rattle.dup_build.proofs.Stocking.{children_opened}
use Rattle.dup_model.proofs.FoundWords.{found_is_found}
use Rattle.dup_sets.proofs.Sets.{item_in}
use Rattle.std.proofs.lemmas.Bool.{true≢false, and_from, and_parts, cases_Bool, or_cases, or_left}
use Rattle.dup_names.specs.declared.object.Obj.{Obj}
use Rattle.dup_model.specs.Content.{Content}
use Rattle.dup_model.specs.Looks.{look}
use Rattle.dup_model.specs.Pages.{pages, live}
use Rattle.dup_names.specs.Objects.{same_obj, is_in}
use Rattle.dup_model.specs.Touched.{without}
use Rattle.dup_model.specs.Found.{found, waiting}
use Rattle.dup_model.specs.Embeddings.{EmbedsEarlier}
use Rattle.dup_model.proofs.Reached.{or_right}
use Rattle.dup_names.proofs.ObjectOrder.{obj_itself, obj_same}
use Rattle.dup_model.proofs.Finds.{done_unless_waiting, found_live, found_is_live}
use Rattle.dup_build.specs.declared.node.Node.{Node}
use Rattle.dup_build.specs.declared.node.Shown.{Shown}
use Rattle.dup_build.specs.declared.survey.Survey.{Survey}
use Rattle.dup_machine.specs.Closed.{IsClosed}
use Rattle.dup_sets.specs.Entries.{at, objs}
use Rattle.dup_build.specs.Stock.{IsStock}
use Rattle.dup_machine.proofs.Closing.{closed_live}
use Rattle.dup_machine.proofs.InOrder.{IsOrdered, same_ordered, ordered_filter, ordered_live, in_without}
use Rattle.dup_build.proofs.Moving.{still}

pub without_all : (test : Obj → Bool) (os : List Obj) → ((x : Obj) → is_in os x ≡ true → test x ≡ true) → without test os ≡ []
without_all test [] all = refl
without_all test (o ∷ os) all =
    ap (λ b. cond (not b) (o ∷ without test os) (without test os)) (all o (or_left (same_obj o o) (is_in os o) (obj_itself o)))
    ∙ without_all test os (λ x h. all x (or_right (same_obj x o) (is_in os x) h))

-- where nothing is left by a test, all pass it
pub all_passed : (test : Obj → Bool) (os : List Obj) → without test os ≡ [] → (x : Obj) → is_in os x ≡ true → test x ≡ true
all_passed test os none x h = elim (cases_Bool (test x)) [
  | inl is ↦ is
  | inr isnt ↦ absurd (true≢false (sym (in_without test os x ∙ (λ i. h i && not (isnt i))) ∙ ap (λ l. is_in l x) none))
]

-- above the templates of these objects
abbrev top : List Obj → ℕ
top [] = 0
top (o ∷ os) = (o.template + 1) + top os

below_top : (os : List Obj) (x : Obj) → is_in os x ≡ true → x.template < top os
below_top [] x h = absurd (true≢false (sym h))
below_top (o ∷ os) x h = elim (or_cases (same_obj x o) (is_in os x) h) [
  | inl one ↦ omega (arith, ap (λ (y : Obj). y.template) (obj_same x o one))
  | inr later ↦ omega (arith, below_top os x later)
]

module _ (c : Content) (earlier : EmbedsEarlier c) where
  all_live : found c (live c) ≡ live c
  all_live = found_is_live c (live c) (λ f h. found_live c (live c) f h)

  none_waits : waiting c (live c) ≡ []
  none_waits = ap (without (is_in (live c))) all_live ∙ without_all (is_in (live c)) (live c) (λ x h. h)

  module _ (nodes : List (Obj × Node)) (looks : List (Obj × Shown)) (o : Survey) (k : IsStock c nodes looks o)
      (calm : waiting c (objs nodes) ≡ []) (joined : without (is_in (objs looks)) (found c (objs nodes)) ≡ [])
      (gone : List Obj) (are_gone : AreGone (shown_by o.pages.value) nodes gone) (holds : HoldsBut (shown_by o.pages.value) nodes gone []) where
    is_live : found c (objs nodes) ≡ live c
    is_live = found_is_live c (objs nodes) (done_unless_waiting c (objs nodes) calm)

    live_done : (x : Obj) → is_in (live c) x ≡ true → is_in (objs nodes) x ≡ true
    live_done x h = done_unless_waiting c (objs nodes) calm x (ap (λ l. is_in l x) is_live ∙ h)

    live_looked : (x : Obj) → is_in (live c) x ≡ true → is_in (objs looks) x ≡ true
    live_looked x h = all_passed (is_in (objs looks)) (found c (objs nodes)) joined x (ap (λ l. is_in l x) is_live ∙ h)

    kids : (p x : Obj) → is_in (objs nodes) p ≡ true → is_in (children_of (at nodes p)) x ≡ is_in (embeds c p) x
    kids p x h = ap (λ l. is_in l x) (children_opened c nodes k.nodes_are p) ∙ ap (λ b. is_in (cond b (embeds c p) []) x) h

    -- what is found isn't gone
    found_stays : {x : Obj} → Found c (objs nodes) x → is_in gone x ≡ false
    found_stays (of_page {o = x} h) = elim (cases_Bool (is_in gone x)) [
      | inr stays ↦ stays
      | inl out ↦ absurd (true≢false (sym (ap (λ ps. is_in (shown_by ps) x) k.pages ∙ h) ∙ (or_none (is_in (shown_by o.pages.value) x) (is_embedded nodes gone x) (are_gone.free x out)).0))
    ]
    found_stays (embedded {f} way is_done x h) = elim (cases_Bool (is_in gone x)) [
      | inr stays ↦ stays
      | inl out ↦ absurd (true≢false (sym (embedded_by nodes gone f x is_done (found_stays way) (kids f x is_done ∙ h)) ∙ (or_none (is_in (shown_by o.pages.value) x) (is_embedded nodes gone x) (are_gone.free x out)).1))
    ]

    -- what isn't gone is found: a page's object, or embedded by another such object, of a later template
    stays_found : (n : ℕ) (x : Obj) → top (objs nodes) ≤ x.template + n → is_in (objs nodes) x ≡ true → is_in gone x ≡ false → Found c (objs nodes) x
    stays_found zero x far h stays = absurd (omega (arith, far, below_top (objs nodes) x h))
    stays_found (suc n) x far h stays = by_held (λ p k is out. stays_found n p k is out) (is_held (shown_by o.pages.value) nodes gone x) refl
      where
        by_held : ((p : Obj) → top (objs nodes) ≤ p.template + n → is_in (objs nodes) p ≡ true → is_in gone p ≡ false → Found c (objs nodes) p) → (b : Bool) → is_held (shown_by o.pages.value) nodes gone x ≡ b → Found c (objs nodes) x
        by_held before false free = absurd (true≢false (sym (holds x (without_from (is_in gone) (objs nodes) x h stays) free)))
        by_held before true held = elim (or_cases (is_in (shown_by o.pages.value) x) (is_embedded nodes gone x) held) [
          | inl page ↦ of_page (ap (λ ps. is_in (shown_by ps) x) (sym k.pages) ∙ page)
          | inr in_one ↦
              let e : (p : Obj) × (is_in (objs nodes) p ≡ true) × (is_in gone p ≡ false) × (is_in (children_of (at nodes p)) x ≡ true) = embedder nodes gone x in_one in
              let inside : is_in (embeds c e.0) x ≡ true = sym (kids e.0 x e.1) ∙ e.3 in
              embedded (before e.0 (omega (arith, far, embeds_earlier c earlier e.0 x inside)) e.1 e.2) e.1 x inside
        ]

    in_gone : (x : Obj) → is_in gone x ≡ (is_in (objs nodes) x && not (is_in (live c) x))
    in_gone x = both_ways (is_in gone x) (is_in (objs nodes) x && not (is_in (live c) x))
        (λ h.
        let out : is_in (live c) x ≡ false = elim (cases_Bool (is_in (live c) x)) [
          | inr out ↦ out
          | inl is ↦ absurd (true≢false (sym h ∙ found_stays ((found_is_found c (objs nodes) x earlier).0 (ap (λ l. is_in l x) is_live ∙ is))))
        ] in
        and_from (is_in (objs nodes) x) (not (is_in (live c) x)) (are_gone.kept x h) (ap not out))
        (λ h. let parts : (is_in (objs nodes) x ≡ true) × (not (is_in (live c) x) ≡ true) = and_parts (is_in (objs nodes) x) (not (is_in (live c) x)) h in
        elim (cases_Bool (is_in gone x)) [
          | inl is ↦ is
          | inr stays ↦
              let alive : is_in (live c) x ≡ true = ap (λ l. is_in l x) (sym is_live) ∙ (found_is_found c (objs nodes) x earlier).1 (stays_found (top (objs nodes)) x (omega arith) parts.0 stays) in
              absurd (true≢false (sym parts.1 ∙ ap not alive))
        ])

    left : (os : List Obj) → IsOrdered os → ((x : Obj) → is_in os x ≡ true → is_in (objs nodes) x ≡ true) → ((x : Obj) → is_in (live c) x ≡ true → is_in os x ≡ true) → without (is_in gone) os ≡ live c
    left os ordered within all = same_ordered (without (is_in gone) os) (live c) (ordered_filter (λ x. not (is_in gone x)) os ordered) (ordered_live c) (λ x.
        in_without (is_in gone) os x ∙ ap (λ b. is_in os x && not b) (in_gone x) ∙ by_cases (is_in os x) (is_in (objs nodes) x) (is_in (live c) x) (within x) (all x))
      where
        by_cases : (a d l : Bool) → (a ≡ true → d ≡ true) → (l ≡ true → a ≡ true) → (a && not (d && not l)) ≡ l
        by_cases true true true h g = refl
        by_cases true true false h g = refl
        by_cases true false l h g = absurd (true≢false (sym (h refl)))
        by_cases false d true h g = absurd (true≢false (sym (g refl)))
        by_cases false d false h g = refl

    pub done_left : IsOrdered (objs nodes) → without (is_in gone) (objs nodes) ≡ live c
    done_left ordered = left (objs nodes) ordered (λ x h. h) live_done

    pub looked_left : IsOrdered (objs looks) → without (is_in gone) (objs looks) ≡ live c
    looked_left ordered = left (objs looks) ordered k.closed.is_done live_looked

    pub gone_unfound : (x : Obj) → is_in gone x ≡ true → is_in (found c (objs nodes)) x ≡ false
    gone_unfound x h = ap (λ l. is_in l x) is_live ∙ elim (cases_Bool (is_in (live c) x)) [
      | inr out ↦ out
      | inl is ↦ absurd (true≢false (sym h ∙ found_stays ((found_is_found c (objs nodes) x earlier).0 (ap (λ l. is_in l x) is_live ∙ is))))
    ]

    pub forgotten : (fewer : List (Obj × Node)) (fewer_looks : List (Obj × Shown)) (o' : Survey) → ((q : Obj) → at fewer q ≡ cond (is_in gone q) None (at nodes q)) → objs fewer ≡ without (is_in gone) (objs nodes) → objs fewer ≡ live c →
        ((q : Obj) → at fewer_looks q ≡ cond (is_in gone q) None (at looks q)) → objs fewer_looks ≡ live c →
        o'.pages.value ≡ o.pages.value → o'.waiting ≡ o.waiting → o'.unjoined ≡ o.unjoined → o'.loose ≡ [] → IsStock c fewer fewer_looks o'
    forgotten fewer fewer_looks o' nodes_at fewer_objs nodes_objs looks_at looks_objs same_pages same_waiting same_unjoined none_loose = record {
      nodes_are = λ q n is. k.nodes_are q n (still (is_in gone q) (at nodes q) n (sym (nodes_at q) ∙ is)).1;
      looks_are = λ q s is. k.looks_are q s (still (is_in gone q) (at looks q) s (sym (looks_at q) ∙ is)).1;
      closed = subst (λ l. IsClosed c l (objs fewer_looks)) (sym nodes_objs) (subst (IsClosed c (live c)) (sym looks_objs) (closed_live c earlier));
      pages = same_pages ∙ k.pages;
      held = subst (HoldsBut (shown_by o'.pages.value) fewer []) (sym none_loose) (subst (λ ps. HoldsBut (shown_by ps) fewer [] []) (sym same_pages) held_left);
      waits = same_waiting ∙ k.waits ∙ calm ∙ sym none_waits ∙ ap (waiting c) (sym nodes_objs);
      unjoined = same_unjoined ∙ k.unjoined ∙ joined ∙ sym (ap (without (is_in (live c))) all_live ∙ without_all (is_in (live c)) (live c) (λ x h. h)) ∙ (λ i. without (is_in (sym looks_objs i)) (found c (sym nodes_objs i)));
      keyed = λ q h. k.keyed q (live_done q (ap (λ l. is_in l q) (sym nodes_objs) ∙ h));
      keys = k.keys;
    }
      where
        held_left : HoldsBut (shown_by o.pages.value) fewer [] []
        held_left x inside free =
            let none : (is_in (shown_by o.pages.value) x ≡ false) × (is_embedded fewer [] x ≡ false) = or_none (is_in (shown_by o.pages.value) x) (is_embedded fewer [] x) free in
            holds x (ap (λ l. is_in l x) (sym fewer_objs) ∙ (without_parts (is_in []) (objs fewer) x inside).0)
            (either_none (is_in (shown_by o.pages.value) x) (is_embedded nodes gone x) none.0 (elim (cases_Bool (is_embedded nodes gone x)) [
              | inr isnt ↦ isnt
              | inl is ↦
                  let e : (p : Obj) × (is_in (objs nodes) p ≡ true) × (is_in gone p ≡ false) × (is_in (children_of (at nodes p)) x ≡ true) = embedder nodes gone x is in
                  absurd (true≢false (sym (embedded_by fewer [] e.0 x (ap (λ l. is_in l e.0) fewer_objs ∙ without_from (is_in gone) (objs nodes) e.0 e.1 e.2) refl
                  (ap (λ m. is_in (children_of m) x) (nodes_at e.0 ∙ ap (λ b. cond b None (at nodes e.0)) e.2) ∙ e.3)) ∙ none.1))
            ]))

-- those of these objects that aren't among others are as many as they are all, but for the others among them
pub counted_apart : (os once : List Obj) → IsOrdered os → IsOrdered once → length (filter (is_in os) once) + length (without (is_in once) os) ≡ length os
counted_apart os once first second =
    ap (λ l. length l + length (without (is_in once) os)) (same_ordered (filter (is_in os) once) (filter (is_in once) os) (ordered_filter (is_in os) once second) (ordered_filter (is_in once) os first)
    (λ x. in_filter (is_in os) once x ∙ and_turned (is_in once x) (is_in os x) ∙ sym (in_filter (is_in once) os x)))
    ∙ length-filter_both (is_in once) (λ o. not (is_in once o)) (λ o. refl) os
  where
    and_turned : (a b : Bool) → (a && b) ≡ (b && a)
    and_turned true true = refl
    and_turned true false = refl
    and_turned false true = refl
    and_turned false false = refl

-- a page's object is found, whatever is done
pub page_found : (c : Content) → EmbedsEarlier c → (done : List Obj) (ps : List (Path × Obj)) → ps ≡ pages c → (i : ℕ) (p : Path × Obj) → i < length ps → p ≡ get_or ps i p → is_in (found c done) p.1 ≡ true
page_found c earlier done ps is i p below at_i =
    (found_is_found c done p.1 earlier).1 (of_page (ap (λ l. is_in (map (λ (p : Path × Obj). p.1) l) p.1) (sym is) ∙ item_in (map (λ (p : Path × Obj). p.1) ps) i p.1 (omega (arith, below, length-map ps (λ (p : Path × Obj). p.1)))
    (sym (get_or-map (λ (p : Path × Obj). p.1) ps i p ∙ ap (λ (p : Path × Obj). p.1) (sym at_i)))))

pub map_push : {A B : Type 0} (f : A → B) (xs : List A) (i : ℕ) (x : A) → i < length xs → x ≡ get_or xs i x → map f (take (i + 1) xs) ≡ map f (take i xs) ++ f x ∷ []
map_push f xs i x below is = ap (map f) (take_more xs i x below ∙ ap (λ y. take i xs ++ y ∷ []) (sym is)) ∙ map-append f (take i xs) (x ∷ [])

-- one more, which one function gives of what was made, and another of the object
pub mapped_push : {A V : Type 0} (f : A → V) (g : Obj → V) (out new : List A) (m : A) (os : List Obj) (i : ℕ) (o : Obj) →
    new ≡ out ++ m ∷ [] → f m ≡ g o → map f out ≡ map g (take i os) → i < length os → o ≡ get_or os i o → map f new ≡ map g (take (i + 1) os)
mapped_push f g out new m os i o is same before below at_i =
    ap (map f) is ∙ map-append f out (m ∷ []) ∙ (λ j. before j ++ same j ∷ []) ∙ sym (map_push g os i o below at_i)

-- one more page with its look
pub looked_push : {A : Type 0} (value : A → Look) (c : Content) (out new : List (Path × A)) (ps : List (Path × Obj)) (i : ℕ) (p : Path × Obj) (m : A) →
    new ≡ out ++ (let e : Path × A = (p.0, m) in e) ∷ [] → value m ≡ look c p.1 →
    map {B = Path × Look} (λ e. (e.0, value e.1)) out ≡ map {B = Path × Look} (λ p. (p.0, look c p.1)) (take i ps) → i < length ps → p ≡ get_or ps i p →
    map {B = Path × Look} (λ e. (e.0, value e.1)) new ≡ map {B = Path × Look} (λ p. (p.0, look c p.1)) (take (i + 1) ps)
looked_push {A} value c out new ps i p m is shown before below at_i =
    let e : Path × A = (p.0, m) in
    ap (map {B = Path × Look} (λ (e : Path × A). (e.0, value e.1))) is
    ∙ map-append {B = Path × Look} (λ (e : Path × A). (e.0, value e.1)) out (e ∷ [])
    ∙ (λ j. before j ++ (let l : Path × Look = (p.0, shown j) in l) ∷ [])
    ∙ sym (map_push {B = Path × Look} (λ (p : Path × Obj). (p.0, look c p.1)) ps i p below at_i)
