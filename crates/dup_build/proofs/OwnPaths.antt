-- An object that a page of a good site shows has that page's path.
use Rattle.std.proofs.Common.{◌≡◌, suc, arith, ◌+◌, Bool, true, false, not, cond, List, [], ◌∷◌, ◌++◌, map, Option, Some, None, refl, sym, ap, subst, ◌∙◌, append_assoc}
use Rattle.std.specs.Prelude.{is_some}
use Rattle.std.specs.List.{AllByRecursion, find, flat_map, list_any, slice_get}
use Rattle.std.specs.Option.{option_map}
use Rattle.std.specs.FinMap as fin
use Rattle.std.specs.Ordering.{eq_by_cmp}
use Rattle.std.proofs.lemmas.Bool.{true≢false, or_parts}
use Rattle.std.proofs.lemmas.Option.{none-some, same_Some}
use Rattle.std.proofs.lemmas.Slice.Eq.{bytes_eq-Decides}
use Rattle.dup_names.specs.Order.{text_cmp}
use Rattle.dup_names.specs.declared.object.Obj.{Obj}
use Rattle.dup_names.specs.Words.{Path, Word, place, same}
use Rattle.dup_template.specs.Frame.{Head, frame_of, heads_of}
use Rattle.dup_template.specs.Good.{IsGood, at_most, declared, find_template, first_from, page_fault, shown_by, shows_fault, template_names, unless}
use Rattle.dup_template.specs.Paths.{path_at, path_by, path_in, rule_of}
use Rattle.dup_template.specs.declared.refusal.What.TheVariants.{Pages}
use Rattle.dup_template.specs.declared.site.PageRule.{PageRule}
use Rattle.dup_template.specs.declared.site.PageRule.TheVariants.{Fixed, Family}
use Rattle.dup_template.specs.declared.site.Parts.{Parts}
use Rattle.dup_template.specs.declared.site.TemplatePart.{TemplatePart}
use Rattle.dup_template.proofs.GoodParts.{good-parts, not-not, or-none, unless-none}
use Rattle.dup_model.specs.Content.{Content}
use Rattle.dup_model.specs.Names.{key_for, kind_at, kind_of, template_at}
use Rattle.dup_model.specs.Pages.{keys_of, pages, pages_of}
use Rattle.dup_model.proofs.EachMark.{all_append}
use Rattle.dup_model.proofs.Ordering.{all_in_order}
use Rattle.dup_build.proofs.Touching.{same_path}

same_itself : (w : Word) → same w w ≡ true
same_itself w = (bytes_eq-Decides w w).1 refl

-- the template of a name that is known has its name's place
placed : (n : Word) (ts : List TemplatePart) → is_some (find_template (heads_of ts) n) ≡ true →
    (t : TemplatePart) × (slice_get ts (place n (template_names (heads_of ts))) ≡ Some t) × (t.name ≡ n)
placed n [] known = absurd (true≢false (sym known))
placed n (t ∷ ts) known = by_name (λ more. placed n ts more) (same t.name n) refl known
  where
    by_name : (is_some (find_template (heads_of ts) n) ≡ true → (u : TemplatePart) × (slice_get ts (place n (template_names (heads_of ts))) ≡ Some u) × (u.name ≡ n)) → (b : Bool) → same t.name n ≡ b → is_some (cond b (Some (let h : Head = record { name = t.name; kind = t.kind } in h)) (find_template (heads_of ts) n)) ≡ true →
        (u : TemplatePart) × (slice_get (t ∷ ts) (cond b 0 (1 + place n (template_names (heads_of ts)))) ≡ Some u) × (u.name ≡ n)
    by_name later true is known = (t, refl, (bytes_eq-Decides t.name n).0 is)
    by_name later false isnt known =
        let behind = later known in
        let next : 1 + place n (template_names (heads_of ts)) ≡ suc (place n (template_names (heads_of ts))) = omega arith in
        (behind.0, ap (slice_get (t ∷ ts)) next ∙ behind.1, behind.2)

-- what a test finds past elements that fail it
found_past : {A : Type 0} (f : A → Bool) (xs ys : List A) → list_any f xs ≡ false → find f (xs ++ ys) ≡ find f ys
found_past f [] ys none = refl
found_past f (x ∷ xs) ys none =
    let parts : (f x ≡ false) × (list_any f xs ≡ false) = or_parts (f x) (list_any f xs) none in
    ap (λ b. cond b (Some x) (find f (xs ++ ys))) parts.0 ∙ found_past f xs ys parts.1

module _ (site : Parts) (c : Content) (frames : c.frame ≡ frame_of site) where
  abbrev IsOwn : Path × Obj → Type 0
  IsOwn e = path_at site e.1 ≡ Some e.0

  -- an object of a template with a page, by the declaration of that page
  own_path : (r : PageRule) (key : Option Word) (path : Path) → rule_of site.pages (shown_by r) ≡ Some r → is_some (find_template (heads_of site.templates) (shown_by r)) ≡ true → path_by (Some r) key ≡ Some path →
      path_at site (let o : Obj = record { template = template_at c.frame (shown_by r); key = key } in o) ≡ Some path
  own_path r key path ruled known is =
      let t : (t : TemplatePart) × (slice_get site.templates (place (shown_by r) (template_names (heads_of site.templates))) ≡ Some t) × (t.name ≡ shown_by r) = placed (shown_by r) site.templates known in
      ap (λ f. path_in site (slice_get site.templates (template_at f (shown_by r))) key) frames
      ∙ ap (λ t. path_in site t key) t.1
      ∙ ap (λ n. path_by (rule_of site.pages n) key) t.2
      ∙ ap (λ r. path_by r key) ruled
      ∙ is

  no_key : (kind : Option Word) → key_for kind None ≡ None
  no_key None = refl
  no_key (Some k) = refl

  family_own : (prefix of : Word) → rule_of site.pages of ≡ Some (Family prefix of) → is_some (find_template (heads_of site.templates) of) ≡ true → (keys : List Word) (kind : Word) →
      AllByRecursion IsOwn (map (λ key. (let e : Path × Obj = (prefix ++ 47 ∷ key, record { template = template_at c.frame of; key = Some key }) in e)) keys)
  family_own prefix of ruled known [] kind = tt
  family_own prefix of ruled known (key ∷ keys) kind = (own_path (Family prefix of) (Some key) (prefix ++ 47 ∷ key) ruled known refl, family_own prefix of ruled known keys kind)

  family_by : (prefix of : Word) → rule_of site.pages of ≡ Some (Family prefix of) → is_some (find_template (heads_of site.templates) of) ≡ true → (kind : Option Word) →
      AllByRecursion IsOwn (map (λ key. (let e : Path × Obj = (prefix ++ 47 ∷ key, record { template = template_at c.frame of; key = key_for kind (Some key) }) in e)) (keys_of c (option_map (kind_at c.frame) kind)))
  family_by prefix of ruled known None = tt
  family_by prefix of ruled known (Some kind) = family_own prefix of ruled known (keys_of c (Some (kind_at c.frame kind))) kind

  declared_own : (r : PageRule) → rule_of site.pages (shown_by r) ≡ Some r → is_some (find_template (heads_of site.templates) (shown_by r)) ≡ true → AllByRecursion IsOwn (pages_of c r)
  declared_own (Fixed path of) ruled known = (
    ap (λ key. path_at site (let o : Obj = record { template = template_at c.frame of; key = key } in o)) (no_key (kind_of c.frame (template_at c.frame of)))
        ∙ own_path (Fixed path of) None path ruled known refl,
    tt,
  )
  declared_own (Family prefix of) ruled known = family_by prefix of ruled known (kind_of c.frame (template_at c.frame of))

  known_of : (r : PageRule) (found : Option Head) → shows_fault r found ≡ None → is_some found ≡ true
  known_of r None none = absurd (none-some _ (sym none))
  known_of r (Some t) none = refl

  all_own : (earlier rs : List PageRule) → earlier ++ rs ≡ site.pages → first_from (page_fault (heads_of site.templates)) earlier rs ≡ None → AllByRecursion IsOwn (flat_map (pages_of c) rs)
  all_own earlier [] whole none = tt
  all_own earlier (r ∷ rs) whole none =
      let here = or-none (page_fault (heads_of site.templates) earlier r) (first_from (page_fault (heads_of site.templates)) (earlier ++ r ∷ []) rs) none in
      let shows = or-none (shows_fault r (find_template (heads_of site.templates) (shown_by r))) _ here.0 in
      let once = or-none (unless (not (declared earlier (shown_by r))) _) _ shows.1 in
      let new : list_any (λ x. same (shown_by x) (shown_by r)) earlier ≡ false = not-not (declared earlier (shown_by r)) (unless-none (not (declared earlier (shown_by r))) _ once.0) in
      let ruled : rule_of site.pages (shown_by r) ≡ Some r =
      ap (λ rules. rule_of rules (shown_by r)) (sym whole) ∙ found_past (λ x. same (shown_by x) (shown_by r)) earlier (r ∷ rs) new
      ∙ ap (λ b. cond b (Some r) (rule_of rs (shown_by r))) (same_itself (shown_by r)) in
      all_append IsOwn (pages_of c r) (flat_map (pages_of c) rs) (declared_own r ruled (known_of r (find_template (heads_of site.templates) (shown_by r)) shows.0))
      (all_own (earlier ++ r ∷ []) rs (append_assoc earlier (r ∷ []) rs ∙ whole) here.1)

  -- the pages of a good site's content
  pages_own : IsGood site → AllByRecursion IsOwn (pages c)
  pages_own good =
      let declared = (or-none (at_most 256 Pages _) (first_from (page_fault (heads_of site.templates)) [] site.pages) (good-parts site good).pages).1 in
      all_in_order (λ (p q : Path × Obj). text_cmp p.0 q.0) IsOwn (flat_map (pages_of c) c.frame.pages)
      (subst (λ rules. AllByRecursion IsOwn (flat_map (pages_of c) rules)) (sym (ap (λ f. f.pages) frames)) (all_own [] site.pages refl declared))

  own_found : (ps : List (Path × Obj)) → AllByRecursion IsOwn ps → (p : Path) (o : Obj) → fin.find text_cmp p ps ≡ Some o → path_at site o ≡ Some p
  own_found [] all p o is = absurd (none-some o is)
  own_found (e ∷ ps) all p o is = by_path (λ more. own_found ps all.1 p o more) (eq_by_cmp text_cmp p e.0) refl is
    where
      by_path : (fin.find text_cmp p ps ≡ Some o → path_at site o ≡ Some p) → (b : Bool) → eq_by_cmp text_cmp p e.0 ≡ b → cond b (Some e.1) (fin.find text_cmp p ps) ≡ Some o → path_at site o ≡ Some p
      by_path later true here is = subst (λ x. path_at site x ≡ Some p) (same_Some e.1 o is) (subst (λ q. path_at site e.1 ≡ Some q) (sym (same_path p e.0 here)) all.0)
      by_path later false there is = later is

  -- an object that one of the pages shows has that page's path
  pub page_own : IsGood site → (p : Path) (o : Obj) → fin.find text_cmp p (pages c) ≡ Some o → path_at site o ≡ Some p
  page_own good = own_found (pages c) (pages_own good)
