-- Every target is sound: its links lead to its pages, and its pages show an object in one way.
use Rattle.std.proofs.Common.{◌≡◌, ℕ, inl, inr, Bool, true, false, not, cond, ◌||◌, ◌&&◌, List, [], ◌∷◌, ◌++◌, map, refl, sym, ap, subst, ◌∙◌}
use Rattle.std.specs.Prelude.{Option, Some, None, is_some, bytes_eq}
use Rattle.std.specs.Option.{option_map}
use Rattle.std.specs.List.{list_any, flat_map, find, AllByRecursion}
use Rattle.std.specs.FinMap as fin
use Rattle.std.specs.FinMap.Entries.{is_some-find}
use Rattle.std.specs.FinMap.Entries as entry
use Rattle.std.specs.Ordering.{eq_by_cmp}
use Rattle.std.specs.declared.cmp.Ordering.TheVariants.{Equal}
use Rattle.std.specs.Cmp.Lexicographic.{nat_list_cmp_total}
use Rattle.std.proofs.lemmas.Bool.{true≢false, or_cases, or_left}
use Rattle.std.proofs.lemmas.Option.{none-some, same_Some}
use Rattle.std.proofs.lemmas.Slice.Eq.{bytes_eq-Decides}
use Rattle.dup_names.specs.Order.{text_cmp}
use Rattle.dup_names.specs.declared.object.Obj.{Obj}
use Rattle.dup_names.specs.declared.value.Look.{Look}
use Rattle.dup_template.specs.declared.site.PageRule.{PageRule}
use Rattle.dup_template.specs.declared.site.PageRule.TheVariants.{Fixed, Family}
use Rattle.dup_template.specs.Good.{shown_by}
use Rattle.dup_template.specs.Paths.{rule_of, path_by}
use Rattle.dup_model.specs.declared.mark.Mark.{Mark}
use Rattle.dup_model.specs.declared.mark.Mark.TheVariants as mark
use Rattle.dup_names.specs.Words.{Word, Path, same}
use Rattle.dup_model.specs.Content.{Content, Entry, row, keys, table, body_at}
use Rattle.dup_model.specs.Names.{kind_named, template_at, object_of}
use Rattle.dup_model.specs.Marks.{marks}
use Rattle.dup_model.specs.Show.{show}
use Rattle.dup_model.specs.Skeletons.{goes, goes_by}
use Rattle.dup_model.specs.Looks.{look, uses}
use Rattle.dup_model.specs.Pages.{pages, pages_of, keys_of, target}
use Rattle.dup_model.specs.Needs.{IsSound, links, clash}
use Rattle.dup_names.specs.Objects.{same_obj}
use Rattle.dup_model.specs.Editions.{target_looks}
use Rattle.dup_model.specs.Embeddings.{embedded}
use Rattle.dup_model.proofs.EachMark.{Gives, marks_all}
use Rattle.dup_model.proofs.Reached.{tie_itself, or_right}
use Rattle.dup_names.proofs.ObjectOrder.{obj_same}
use Rattle.dup_model.proofs.Ordering.{any_in_order, any_flat, any_map}

-- the declaration is of this template
abbrev is_for : Word → PageRule → Bool
is_for name rule = same (shown_by rule) name

-- a page stands at q
abbrev pub IsPage : Content → Path → Type 0
IsPage c q = list_any (λ p. eq_by_cmp text_cmp q p.0) (flat_map (pages_of c) c.frame.pages) ≡ true

same_itself : (w : Word) → same w w ≡ true
same_itself w = (bytes_eq-Decides w w).1 refl

same_is : (v w : Word) → same v w ≡ true → v ≡ w
same_is v w is = (bytes_eq-Decides v w).0 is

-- a declaration that is found is one of them, and passes
found_rule : (f : PageRule → Bool) (g : PageRule → Bool) (rules : List PageRule) (rule : PageRule) → find f rules ≡ Some rule → (f rule ≡ true) × ((g rule ≡ true) → list_any g rules ≡ true)
found_rule f g [] rule is = absurd (none-some rule is)
found_rule f g (r ∷ rules) rule is = by_test (f r) refl (λ later. found_rule f g rules rule later) is
  where
    by_test : (b : Bool) → f r ≡ b → (find f rules ≡ Some rule → (f rule ≡ true) × ((g rule ≡ true) → list_any g rules ≡ true)) →
        cond b (Some r) (find f rules) ≡ Some rule → (f rule ≡ true) × ((g rule ≡ true) → list_any g (r ∷ rules) ≡ true)
    by_test true passes later is =
        let one : r ≡ rule = same_Some r rule is in
        (ap f (sym one) ∙ passes, λ h. or_left (g r) _ (ap g one ∙ h))
    by_test false fails later is =
        let rest : (f rule ≡ true) × ((g rule ≡ true) → list_any g rules ≡ true) = later is in
        (rest.0, λ h. or_right (g r) _ (rest.1 h))

-- a row that is there has its key among the keys
key_of_row : (key : Word) (es : List Entry) → is_some (option_map (λ e. e.1) (find (λ e. same e.0 key) es)) ≡ true → list_any (λ k. same k key) (map (λ e. e.0) es) ≡ true
key_of_row key [] there = absurd (true≢false (sym there))
key_of_row key (e ∷ es) there = by_test (same e.0 key) (λ later. key_of_row key es later) there
  where
    by_test : (b : Bool) → (is_some (option_map (λ e. e.1) (find (λ e. same e.0 key) es)) ≡ true → list_any (λ k. same k key) (map (λ e. e.0) es) ≡ true) →
        is_some (option_map (λ e. e.1) (cond b (Some e) (find (λ e. same e.0 key) es))) ≡ true → (b || list_any (λ k. same k key) (map (λ e. e.0) es)) ≡ true
    by_test true later there = refl
    by_test false later there = later there

any_of : {A : Type 0} (f g : A → Bool) → ((x : A) → f x ≡ true → g x ≡ true) → (xs : List A) → list_any f xs ≡ true → list_any g xs ≡ true
any_of f g more [] h = h
any_of f g more (x ∷ xs) h = elim (or_cases _ _ h) [ inl here ↦ or_left _ _ (more x here) | inr later ↦ or_right _ _ (any_of f g more xs later) ]

module _ (c : Content) where
  page_at : (rule : PageRule) (q name : Word) → is_for name rule ≡ true → rule_of c.frame.pages name ≡ Some rule →
      list_any (λ p. eq_by_cmp text_cmp q p.0) (pages_of c rule) ≡ true → IsPage c q
  page_at rule q name passes is there =
      any_flat (λ p. eq_by_cmp text_cmp q p.0) (pages_of c) c.frame.pages
      ∙ (found_rule (is_for name) (λ r. list_any (λ p. eq_by_cmp text_cmp q p.0) (pages_of c r)) c.frame.pages rule is).1 there

  fixed_page : (name q : Word) (key : Option Word) (path of : Word) → path_by (Some (Fixed path of)) key ≡ Some q → rule_of c.frame.pages name ≡ Some (Fixed path of) → IsPage c q
  fixed_page name q None path of at is =
      page_at (Fixed path of) q name (found_rule (is_for name) (is_for name) c.frame.pages (Fixed path of) is).0 is
      (or_left _ _ (ap (eq_by_cmp text_cmp q) (same_Some path q at) ∙ tie_itself q))
  fixed_page name q (Some key) path of at is = absurd (none-some q at)

  -- a template without kind: its page is a fixed one
  goes_fixed : (name q : Word) (rule : Option PageRule) → rule_of c.frame.pages name ≡ rule → path_by rule None ≡ Some q → IsPage c q
  goes_fixed name q None is at = absurd (none-some q at)
  goes_fixed name q (Some (Fixed path of)) is at = fixed_page name q None path of at is
  goes_fixed name q (Some (Family prefix of)) is at = absurd (none-some q at)

  -- a template of a kind: the row is there, and so is its page
  goes_row : (name key q : Word) (kind : ℕ) → kind_named c.frame name ≡ Some kind → is_some (row c kind key) ≡ true →
      (rule : Option PageRule) → rule_of c.frame.pages name ≡ rule → path_by rule (Some key) ≡ Some q → IsPage c q
  goes_row name key q kind named there None is at = absurd (none-some q at)
  goes_row name key q kind named there (Some (Fixed path of)) is at = fixed_page name q (Some key) path of at is
  goes_row name key q kind named there (Some (Family prefix of)) is at =
      let passes : is_for name (Family prefix of) ≡ true = (found_rule (is_for name) (is_for name) c.frame.pages (Family prefix of) is).0 in
      let kinds : kind_named c.frame of ≡ Some kind = ap (kind_named c.frame) (same_is of name passes) ∙ named in
      page_at (Family prefix of) q name passes is
      (any_map (λ p. eq_by_cmp text_cmp q p.0) (λ k. (prefix ++ 47 ∷ k, object_of c.frame (template_at c.frame of) (Some k))) (keys_of c (kind_named c.frame of))
      ∙ ap (λ k. list_any (λ k. eq_by_cmp text_cmp q (prefix ++ 47 ∷ k)) (keys_of c k)) kinds
      ∙ any_of (λ k. same k key) (λ k. eq_by_cmp text_cmp q (prefix ++ 47 ∷ k))
      (λ k is_key. ap (λ p. eq_by_cmp text_cmp q p) (ap (λ k. prefix ++ 47 ∷ k) (same_is k key is_key) ∙ same_Some _ q at) ∙ tie_itself q)
      (keys c kind) (key_of_row key (table c kind) there))

  abbrev LeadsToPage : Mark → Type 0
  LeadsToPage (mark.Goes q) = IsPage c q
  LeadsToPage _ = Unit {0}

  gives : Gives c LeadsToPage (λ name. Unit {0})
  gives = record {
    plain = λ w. tt;
    read = λ it. tt;
    hole = λ name allowed key. tt;
    fixed = λ name q none at. goes_fixed name q (rule_of c.frame.pages name) refl at;
    in_row = λ name key q kind named there at. goes_row name key q kind named there (rule_of c.frame.pages name) refl at;
  }

  all_names : (names : List Word) → AllByRecursion (λ name. Unit {0}) names
  all_names [] = tt
  all_names (n ∷ names) = (tt, all_names names)

  -- each link that an object shows leads to a page
  pub links_of_marks : (ms : List Mark) → AllByRecursion LeadsToPage ms → (q : Path) → list_any (bytes_eq q) (flat_map goes_by ms) ≡ true → IsPage c q
  links_of_marks [] all q h = absurd (true≢false (sym h))
  links_of_marks (mark.Plain w ∷ ms) all q h = links_of_marks ms all.1 q h
  links_of_marks (mark.Hole o ∷ ms) all q h = links_of_marks ms all.1 q h
  links_of_marks (mark.Read it ∷ ms) all q h = links_of_marks ms all.1 q h
  links_of_marks (mark.Goes p ∷ ms) all q h = elim (or_cases _ _ h) [
    | inl here ↦ subst (IsPage c) (sym (same_is q p here)) all.0
    | inr later ↦ links_of_marks ms all.1 q later
  ]

  alike_path : (q : Path) (x y : Path) → text_cmp x y ≡ Equal → bytes_eq q x ≡ bytes_eq q y
  alike_path q x y tie = ap (bytes_eq q) (fin.slice_cmp-IsAntisymmetric fin.nat_cmp-IsAntisymmetric x y tie)

  links_of : (o : Obj) (q : Path) → list_any (bytes_eq q) (goes c o) ≡ true → IsPage c q
  links_of o q h =
      links_of_marks (marks c o) (marks_all c LeadsToPage (λ name. Unit {0}) gives o (all_names (flat_map embedded (body_at c o.template)))) q
      (sym (any_in_order text_cmp (bytes_eq q) (alike_path q) (flat_map goes_by (marks c o))) ∙ h)

  links_of_all : (os : List Obj) (q : Path) → list_any (λ o. list_any (bytes_eq q) (goes c o)) os ≡ true → IsPage c q
  links_of_all [] q h = absurd (true≢false (sym h))
  links_of_all (o ∷ os) q h = elim (or_cases _ _ h) [ inl here ↦ links_of o q here | inr later ↦ links_of_all os q later ]

  pub links_of_look : (o : Obj) (q : Path) → links (Some (look c o)) q ≡ true → IsPage c q
  links_of_look o q h =
      links_of_all (uses c o) q
      (sym (any_in_order text_cmp (bytes_eq q) (alike_path q) (flat_map (goes c) (uses c o)) ∙ any_flat (bytes_eq q) (goes c) (uses c o)) ∙ h)

-- what a target has at a path is the look of an object
module _ (c : Content) where
  abbrev entries : List (Path × Obj) → List (Path × Look)
  entries ps = map (λ p. (p.0, look c p.1)) ps

  find_look : (ps : List (Path × Obj)) (p : Path) (l : Look) → entry.find text_cmp p (entries ps) ≡ Some l → (o : Obj) × (l ≡ look c o)
  find_look [] p l is = absurd (none-some l is)
  find_look (x ∷ ps) p l is = by_test (eq_by_cmp text_cmp p x.0) (λ later. find_look ps p l later) is
    where
      by_test : (b : Bool) → (entry.find text_cmp p (entries ps) ≡ Some l → (o : Obj) × (l ≡ look c o)) →
          cond b (Some (look c x.1)) (entry.find text_cmp p (entries ps)) ≡ Some l → (o : Obj) × (l ≡ look c o)
      by_test true later is = (x.1, sym (same_Some _ l is))
      by_test false later is = later is

  pub look_at : (p : Path) (l : Look) → fin.get (target c) p ≡ Some l → (o : Obj) × (l ≡ look c o)
  look_at p l is = find_look (pages c) p l (sym (fin.get-from_entries nat_list_cmp_total (entries (pages c)) p) ∙ is)

  -- a page is in the target
  pub page_in : (q : Path) → IsPage c q → is_some (fin.get (target c) q) ≡ true
  page_in q page =
      ap is_some (fin.get-from_entries nat_list_cmp_total (entries (pages c)) q)
      ∙ is_some-find text_cmp q (entries (pages c))
      ∙ any_map (eq_by_cmp text_cmp q) (λ e. e.0) (entries (pages c))
      ∙ any_map (λ e. eq_by_cmp text_cmp q e.0) (λ p. (p.0, look c p.1)) (pages c)
      ∙ any_in_order (λ p r. text_cmp p.0 r.0) (λ p. eq_by_cmp text_cmp q p.0)
      (λ x y tie. ap (eq_by_cmp text_cmp q) (fin.slice_cmp-IsAntisymmetric fin.nat_cmp-IsAntisymmetric x.0 y.0 tie)) (flat_map (pages_of c) c.frame.pages)
      ∙ page

  -- two looks of one content agree
  none_differs : (o : Obj) (us : List Obj) → list_any {X = Obj × Word} (λ y. same_obj o y.0 && not (bytes_eq (show c o) y.1)) (map (λ f. (f, show c f)) us) ≡ false
  none_differs o [] = refl
  none_differs o (u ∷ us) = rw (none_differs o us) (by_test (same_obj o u) refl)
    where
      by_test : (b : Bool) → same_obj o u ≡ b → ((b && not (bytes_eq (show c o) (show c u))) || false) ≡ false
      by_test false is = refl
      by_test true is = rw ((bytes_eq-Decides (show c o) (show c u)).1 (ap (show c) (obj_same o u is))) refl

  pub no_clash : (os us : List Obj) → list_any {X = Obj × Word} (λ x. list_any {X = Obj × Word} (λ y. same_obj x.0 y.0 && not (bytes_eq x.1 y.1)) (map (λ f. (f, show c f)) us)) (map (λ f. (f, show c f)) os) ≡ false
  no_clash [] us = refl
  no_clash (o ∷ os) us = rw (none_differs o us) (no_clash os us)

  agree : (a b : Option Look) → ((l : Look) → a ≡ Some l → (o : Obj) × (l ≡ look c o)) → ((l : Look) → b ≡ Some l → (o : Obj) × (l ≡ look c o)) → clash a b ≡ false
  agree None b one two = refl
  agree (Some a) None one two = refl
  agree (Some a) (Some b) one two =
      let x : (o : Obj) × (a ≡ look c o) = one a refl in
      let y : (o : Obj) × (b ≡ look c o) = two b refl in
      ap (λ a. clash (Some a) (Some b)) x.1 ∙ ap (λ b. clash (Some (look c x.0)) (Some b)) y.1 ∙ no_clash (uses c x.0) (uses c y.0)

  led : (p q : Path) (o : Option Look) → fin.get (target c) p ≡ o → links o q ≡ true → is_some (fin.get (target c) q) ≡ true
  led p q None is h = absurd (true≢false (sym h))
  led p q (Some l) is h =
      let at : (o : Obj) × (l ≡ look c o) = look_at p l is in
      page_in q (links_of_look c at.0 q (ap (λ l. links (Some l) q) (sym at.1) ∙ h))

  pub target_sound : IsSound (target_looks (target c))
  target_sound = record {
    leads = λ p q h. led p q (fin.get (target c) p) refl h;
    agrees = λ p q. agree (fin.get (target c) p) (fin.get (target c) q) (look_at p) (look_at q);
  }
