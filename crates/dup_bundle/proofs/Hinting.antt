-- Hints that note each changed path are complete.
use Rattle.std.proofs.Common.{◌≡◌, Bool, true, false, not, ◌||◌, ◌&&◌, List, [], ◌∷◌, ◌++◌, Option, Some, None, cond, inl, inr, refl, sym, ap, subst, ◌∙◌, rules}
use Rattle.std.proofs.lemmas.Bool.{true≢false, and_parts, and_from, or_cases, or_left}
use Rattle.std.proofs.lemmas.Slice.Eq.{bytes_eq-Decides}
use Rattle.std.specs.List.{list_any}
use Rattle.std.specs.Cmp.{Equal-is}
use Rattle.std.specs.declared.alloc.Global.{Global}
use Rattle.std.specs.declared.cmp.Ordering.{Ordering}
use Rattle.std.specs.declared.vec.Vec.{Vec}
use Rattle.std.specs.Ordering.{eq_by_cmp, is_eq}
use Rattle.std.specs.Option.{is_none}
use Rattle.std.specs.Prelude.{bytes_eq}
use Rattle.dup_names.specs.Words.{Path, Word}
use Rattle.dup_names.specs.declared.object.Obj.{Obj}
use Rattle.dup_names.specs.declared.value.Look.{Look}
use Rattle.dup_names.specs.Order.{obj_cmp, text_cmp}
use Rattle.dup_names.specs.contracts.object.ObjOrd.TheImpl.{ghosts as order}
use Rattle.dup_model.specs.Editions.{edition, has, looks, target_looks}
use Rattle.dup_model.specs.Needs.{IsSound, clash, links, same_use}
use Rattle.dup_names.specs.Objects.{same_obj}
use Rattle.dup_names.proofs.ObjectOrder.{obj_tied}
use Rattle.std.proofs.lemmas.List.Folds.{list_any-append}
use Rattle.dup_model.proofs.Reached.{or_right, tie_itself}
use Rattle.dup_names.proofs.ObjectOrder.{obj_same}
use Rattle.dup_edition.specs.Logged.{Logged}
use Rattle.dup_bundle.specs.Between.{is_changed, is_needed, needs_changed}
use Rattle.dup_bundle.specs.Hinted.{is_hinted, is_kept, linkers_of, links_of, listed, uses_of, users_of, AreComplete, Grows, IsNoted}
use Rattle.dup_bundle.specs.Targets.{Aim}
use Rattle.dup_bundle.specs.declared.hints.Hints.{Hints}
use Rattle.dup_bundle.proofs.Steps.{has_by_bytes}

any_where : {X : Type 0} (f g : X → Bool) → ((x : X) → f x ≡ true → g x ≡ true) → (xs : List X) → list_any f xs ≡ true → list_any g xs ≡ true
any_where f g each [] h = absurd (true≢false (sym h))
any_where f g each (x ∷ xs) h = elim (or_cases (f x) (list_any f xs) h) [
  | inl here ↦ or_left (g x) (list_any g xs) (each x here)
  | inr later ↦ or_right (g x) (list_any g xs) (any_where f g each xs later)
]

-- two uses show one object in two ways
abbrev clashing : Obj × Word → Obj × Word → Bool
clashing x y = same_obj x.0 y.0 && not (bytes_eq x.1 y.1)

-- where x clashes with y and with none of zs, y isn't among these
module _ (x y : Obj × Word) (with_y : clashing x y ≡ true) where
  clash_along : (z : Obj × Word) → same_use y z ≡ true → clashing x z ≡ true
  clash_along z same =
      let parts : (same_obj y.0 z.0 ≡ true) × (bytes_eq y.1 z.1 ≡ true) = and_parts _ _ same in
      subst (λ o. (same_obj x.0 o && not (bytes_eq x.1 z.1)) ≡ true) (obj_same y.0 z.0 parts.0)
      (subst (λ w. (same_obj x.0 y.0 && not (bytes_eq x.1 w)) ≡ true) ((bytes_eq-Decides y.1 z.1).0 parts.1) with_y)

  not_kept : (zs : List (Obj × Word)) → list_any (clashing x) zs ≡ false → (b : Bool) → is_kept zs y ≡ b → b ≡ false
  not_kept zs none false is = refl
  not_kept zs none true is = absurd (true≢false (sym (any_where (same_use y) (clashing x) clash_along zs is) ∙ none))

module _ (zs : List (Obj × Word)) where
  given_up : (x : Obj × Word) (ys : List (Obj × Word)) → list_any (clashing x) zs ≡ false → list_any (clashing x) ys ≡ true →
      list_any (λ u. same_obj x.0 u.0 && not (is_kept zs u)) ys ≡ true
  given_up x ys none some = any_where (clashing x) (λ u. same_obj x.0 u.0 && not (is_kept zs u)) (λ y with_y.
      and_from _ _ (and_parts (same_obj x.0 y.0) (not (bytes_eq x.1 y.1)) with_y).0 (ap not (not_kept x y with_y zs none (is_kept zs y) refl))) ys some

  no_left : (a b : Bool) → (a || b) ≡ false → (a ≡ false) × (b ≡ false)
  no_left true b h = absurd (true≢false h)
  no_left false b h = (refl, h)

  all_given_up : (ys xs : List (Obj × Word)) → list_any (λ x. list_any (clashing x) zs) xs ≡ false → list_any (λ x. list_any (clashing x) ys) xs ≡ true →
      list_any (λ x. list_any (λ u. same_obj x.0 u.0 && not (is_kept zs u)) ys) xs ≡ true
  all_given_up ys [] none some = absurd (true≢false (sym some))
  all_given_up ys (x ∷ xs) none some =
      let parts : (list_any (clashing x) zs ≡ false) × (list_any (λ x. list_any (clashing x) zs) xs ≡ false) = no_left _ _ none in
      elim (or_cases (list_any (clashing x) ys) (list_any (λ x. list_any (clashing x) ys) xs) some) [
        | inl here ↦ or_left (list_any (λ u. same_obj x.0 u.0 && not (is_kept zs u)) ys) _ (given_up x ys parts.0 here)
        | inr later ↦ or_right (list_any (λ u. same_obj x.0 u.0 && not (is_kept zs u)) ys) _ (all_given_up ys xs parts.1 later)
      ]

never : {X : Type 0} (xs : List X) → list_any (λ x. false) xs ≡ false
never [] = refl
never (x ∷ xs) = never xs

clash_uses : (a : Look) (o : Option Look) → clash (Some a) o ≡ list_any (λ x. list_any (clashing x) (uses_of o)) a.uses
clash_uses a None = sym (never a.uses)
clash_uses a (Some b) = refl

module _ (h : Hints) (e : Logged) (t : Aim) (others : Path → List (Obj × Word)) (agrees : (p q : Path) → list_any (λ x. list_any (clashing x) (others q)) (uses_of (target_looks t.pages p)) ≡ false) (noted : (q : Path) → is_changed e t q ≡ true → IsNoted h e t (others q) q) where
  hinted_at : (p q : Path) (a o : Option Look) → target_looks t.pages p ≡ a → looks (edition e.log) q ≡ o → IsNoted h e t (others q) q →
      (clash a o || links a q && is_none o || is_none a && links o p) ≡ true → is_hinted h a p q ≡ true
  hinted_at p q None o aimed shows n needed = n.linkers p (and_from _ _ (ap (λ o. links o p) shows ∙ linked (clash None o) refl needed) (ap is_none aimed))
    where
      linked : (c : Bool) → c ≡ false → ((c || false) || links o p) ≡ true → links o p ≡ true
      linked true is h = absurd (true≢false is)
      linked false is h = h
  hinted_at p q (Some a) o aimed shows n needed = elim (or_cases (clash (Some a) o) (links (Some a) q && is_none o) (last (clash (Some a) o || links (Some a) q && is_none o) needed)) [
    | inl clashes ↦ or_left _ _ (any_where
        (λ x. list_any (λ u. same_obj x.0 u.0 && not (is_kept (others q) u)) (uses_of o))
        (λ x. has (users_of h.users x.0) q)
        (λ x given. n.users x.0 (ap (λ o. list_any (λ u. same_obj x.0 u.0 && not (is_kept (others q) u)) (uses_of o)) shows ∙ given))
        a.uses
        (all_given_up (others q) (uses_of o) a.uses
        (ap (λ a. list_any (λ x. list_any (clashing x) (others q)) (uses_of a)) (sym aimed) ∙ agrees p q)
        (sym (clash_uses a o) ∙ clashes)))
    | inr linked ↦ or_right _ _ (has_by_bytes a.links q ∙ (and_parts _ _ linked).0)
  ]
    where
      last : (b : Bool) → (b || false) ≡ true → b ≡ true
      last true h = refl
      last false h = h

  pub complete : AreComplete h e t
  complete p q changes needed = hinted_at p q (target_looks t.pages p) (looks (edition e.log) q) refl refl (noted q changes) (and_parts _ _ needed).1

-- pages of a sound target agree, and each agrees with none
clash_both : (a o : Option Look) → clash a o ≡ list_any (λ x. list_any (clashing x) (uses_of o)) (uses_of a)
clash_both None o = refl
clash_both (Some a) o = clash_uses a o

pub agrees_sound : (t : Aim) → IsSound (target_looks t.pages) → (p q : Path) → list_any (λ x. list_any (clashing x) (uses_of (target_looks t.pages q))) (uses_of (target_looks t.pages p)) ≡ false
agrees_sound t sound p q = sym (clash_both (target_looks t.pages p) (target_looks t.pages q)) ∙ sound.agrees p q

pub agrees_none : (t : Aim) (p q : Path) → list_any (λ x. list_any (clashing x) []) (uses_of (target_looks t.pages p)) ≡ false
agrees_none t p q = never (uses_of (target_looks t.pages p))

-- what a page needs, where the target has none or this look there
module _ (h : Hints) (e : Logged) (t : Aim) (changed : List Path) (only : (q : Path) → has changed q ≡ true → is_changed e t q ≡ true) (done : AreComplete h e t) (p q : Path) where
  by_hints : needs_changed e t changed p q ≡ true → is_hinted h (target_looks t.pages p) p q ≡ true
  by_hints needed =
      let parts : (has changed q ≡ true) × (is_needed e t p q ≡ true) = and_parts _ _ needed in
      done p q (only q parts.0) parts.1

  pub hinted_none : None ≡ target_looks t.pages p → needs_changed e t changed p q ≡ true → has (linkers_of h.linkers p) q ≡ true
  hinted_none aimed needed = ap (λ a. is_hinted h a p q) aimed ∙ by_hints needed

  pub hinted_some : (look : Look) → Some look ≡ target_looks t.pages p → needs_changed e t changed p q ≡ true → (list_any (λ x. has (users_of h.users x.0) q) look.uses || has look.links q) ≡ true
  hinted_some look aimed needed = ap (λ a. is_hinted h a p q) aimed ∙ by_hints needed

-- what is kept in a table, once a path is put behind those at a key
behind : (q path : Path) (found : List Path) → has found q ≡ true → has (found ++ path ∷ []) q ≡ true
behind q path found h = list_any-append (eq_by_cmp text_cmp q) found (path ∷ []) ∙ or_left _ _ h

module _ {K : Type 0} (cmp : K → K → Ordering) (same : (x y : K) → is_eq (cmp x y) ≡ true → x ≡ y) (before between after : K → Option (Vec Path Global)) (k : K) (path : Path) (v : Vec Path Global)
    (removed : (x : K) → between x ≡ cond (is_eq (cmp k x)) None (before x)) (put : (x : K) → after x ≡ cond (is_eq (cmp k x)) (Some v) (between x)) (is : v.items ≡ listed (before k) ++ path ∷ []) where
  kept_at : (x : K) (q : Path) (tie : Bool) → is_eq (cmp k x) ≡ tie → has (listed (before x)) q ≡ true → has (listed (after x)) q ≡ true
  kept_at x q true tie h =
      ap (λ o. has (listed o) q) (put x ∙ ap (λ b. cond b (Some v) (between x)) tie)
      ∙ ap (λ l. has l q) is
      ∙ behind q path (listed (before k)) (ap (λ y. has (listed (before y)) q) (same k x tie) ∙ h)
  kept_at x q false tie h =
      ap (λ o. has (listed o) q) (put x ∙ ap (λ b. cond b (Some v) (between x)) tie ∙ removed x ∙ ap (λ b. cond b None (before x)) tie) ∙ h

  pub noted_kept : (x : K) (q : Path) → has (listed (before x)) q ≡ true → has (listed (after x)) q ≡ true
  noted_kept x q h = kept_at x q (is_eq (cmp k x)) refl h

order_is : (a b : Obj) → order.cmp a b ≡ obj_cmp a b
order_is a b = search rules

pub same_object : (a b : Obj) → is_eq (order.cmp a b) ≡ true → a ≡ b
same_object a b tie = obj_tied a b (sym (order_is a b) ∙ (Equal-is (order.cmp a b)).0 tie)

pub has_links : (o : Option Look) (p : Path) → has (links_of o) p ≡ links o p
has_links None p = refl
has_links (Some look) p = has_by_bytes look.links p

pub noted_grows : (old new : Hints) (e : Logged) (t : Aim) (others : List (Obj × Word)) (q : Path) → Grows old new → IsNoted old e t others q → IsNoted new e t others q
noted_grows old new e t others q grows n = record {
  users = λ o given. grows.users o q (n.users o given);
  linkers = λ p given. grows.linkers p q (n.linkers p given);
}

pub last_there : (found : List Path) (path : Path) → has (found ++ path ∷ []) path ≡ true
last_there found path = list_any-append (eq_by_cmp text_cmp path) found (path ∷ []) ∙ or_right _ _ (or_left _ _ (tie_itself path))
