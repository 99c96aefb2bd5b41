-- The object of the path of an object is that object.
use Rattle.dup_names.specs.Words.{Word, place, same}
use Rattle.std.proofs.Common.{◌≡◌, ℕ, zero, suc, List, [], ◌∷◌, ◌++◌, length, take, drop, refl, ap, ap₂, sym, subst, ◌∙◌, arith}
use Rattle.std.specs.Prelude.{Bool, true, false, not, ◌&&◌, ◌||◌, nat_eq, nat_le, if◌then◌else◌, Option, Some, None}
use Rattle.std.specs.List.{list_any, list_all, slice_get}
use Rattle.std.specs.Option.{option_or}
use Rattle.std.proofs.Math.Seq.{take-append_seam}
use Rattle.std.proofs.lemmas.List.{take-append-drop}
use Rattle.std.proofs.lemmas.Bool.{and_parts, false≢true, eqb-true, or_parts}
use Rattle.std.proofs.lemmas.List.Folds.{list_any-append}
use Rattle.std.proofs.lemmas.Slice.Eq.{bytes_eq-Decides}
use Rattle.dup_names.specs.Grammar.{is_key, is_key_byte}
use Rattle.dup_names.specs.declared.object.Obj.{Obj}
use Rattle.dup_template.specs.declared.site.Parts.{Parts}
use Rattle.dup_template.specs.Frame.{Head, head_of, heads_of}
use Rattle.dup_template.proofs.GoodParts.{get-head}
use Rattle.dup_template.specs.declared.site.KindPart.{KindPart}
use Rattle.dup_template.specs.declared.site.TemplatePart.{TemplatePart}
use Rattle.dup_template.specs.declared.site.PageRule.{PageRule}
use Rattle.dup_template.specs.declared.site.PageRule.TheVariants.{Fixed, Family}
use Rattle.dup_template.specs.Good.{is_slash_key, has, shown_by, behind, meet, is_in_family, template_names, first_from, head_fault, page_fault, site_fault, kind_known, declared, shows_fault, find_template, unless, new_name, at_most}
use Rattle.dup_template.specs.declared.refusal.What.TheVariants.{Templates, Pages}
use Rattle.dup_template.specs.Paths.{rule_of, path_by, path_in, path_at, keyed, shown_at, first_shown, obj_at, KeyOk}
use Rattle.dup_template.proofs.GoodParts.{or-none, unless-none, not-not, Good, good-parts}
use Rattle.dup_template.proofs.JoinedPath.{slash-no}

same-refl : (w : Word) → same w w ≡ true
same-refl w = (bytes_eq-Decides w w).1 refl

same-true : (v w : Word) → same v w ≡ true → v ≡ w
same-true v w h = (bytes_eq-Decides v w).0 h

-- an element of a list, as each test sees it
abbrev Within : {X : Type 0} → X → List X → Type 0
Within {X} x xs = (p : X → Bool) → list_any p xs ≡ false → p x ≡ false

Within-more : {X : Type 0} (x y : X) (xs : List X) → Within x xs → Within x (xs ++ y ∷ [])
Within-more x y xs h p none = h p (or_parts (list_any p xs) (list_any p (y ∷ [])) (sym (list_any-append p xs (y ∷ [])) ∙ none)).0

Within-last : {X : Type 0} (x : X) (xs : List X) → Within x (xs ++ x ∷ [])
Within-last x xs p none = (or_parts (p x) false (or_parts (list_any p xs) (list_any p (x ∷ [])) (sym (list_any-append p xs (x ∷ [])) ∙ none)).1).0

module _ (ts : List Head) where
  clear : (r0 r : PageRule) (earlier : List PageRule) → Within r0 earlier → page_fault ts earlier r ≡ None → meet r0 r ≡ false
  clear r0 r earlier h none =
      let a = or-none (shows_fault r (find_template ts (shown_by r))) _ none in
      let b = or-none (unless (not (declared earlier (shown_by r))) _) _ a.1 in
      h (λ x. meet x r) (not-not (list_any (λ x. meet x r) earlier) (unless-none (not (list_any (λ x. meet x r) earlier)) _ b.1))

  one-clear : (r0 x : PageRule) (rs earlier : List PageRule) → Within r0 earlier → page_fault ts earlier x ≡ None → (name : Word) (r : PageRule) →
      (rule_of rs name ≡ Some r → meet r0 r ≡ false) → (e : Bool) → (if e then Some x else rule_of rs name) ≡ Some r → meet r0 r ≡ false
  one-clear r0 x rs earlier w here name r more true is =
      let same_rule : x ≡ r = cc in subst (λ (y : PageRule). meet r0 y ≡ false) same_rule (clear r0 x earlier w here)
  one-clear r0 x rs earlier w here name r more false is = more is

  rules-clear : (r0 : PageRule) (rs earlier : List PageRule) → Within r0 earlier → first_from (page_fault ts) earlier rs ≡ None →
      (name : Word) (r : PageRule) → rule_of rs name ≡ Some r → meet r0 r ≡ false
  rules-clear r0 [] earlier w none name r is = cc
  rules-clear r0 (x ∷ rs) earlier w none name r is =
      let both = or-none (page_fault ts earlier x) (first_from (page_fault ts) (earlier ++ x ∷ []) rs) none in
      one-clear r0 x rs earlier w both.0 name r (rules-clear r0 rs (earlier ++ x ∷ []) (Within-more r0 x earlier w) both.1 name r) (same (shown_by x) name) is

drop-front : (xs ys : List ℕ) → drop (length xs) (xs ++ ys) ≡ ys
drop-front [] ys = refl
drop-front (x ∷ xs) ys = drop-front xs ys

behind-joined : (q rest : Word) → behind q (q ++ rest) ≡ Some rest
behind-joined q rest = rw (take-append_seam q rest, same-refl q, drop-front q rest) refl

behind-by : (p path rest : Word) (e : Bool) → same (take (length p) path) p ≡ e → (if e then Some (drop (length p) path) else None) ≡ Some rest → path ≡ p ++ rest
behind-by p path rest true is h =
    let front : take (length p) path ≡ p = same-true (take (length p) path) p is in
    let back : drop (length p) path ≡ rest = cc in
    sym (take-append-drop (length p) path) ∙ ap₂ (λ x y. x ++ y) front back
behind-by p path rest false is h = cc

behind-is : (p path rest : Word) → behind p path ≡ Some rest → path ≡ p ++ rest
behind-is p path rest h = behind-by p path rest (same (take (length p) path) p) refl h

-- a key without slash
key-bytes : (k : Word) → is_key k ≡ true → list_all is_key_byte k ≡ true
key-bytes k h = (and_parts (nat_le 1 (length k)) (list_all is_key_byte k) (and_parts (nat_le 1 (length k) && list_all is_key_byte k) (nat_le (length k) 48) h).0).1

slash-free : (q k l : Word) → list_all is_key_byte k ≡ true → k ≡ q ++ 47 ∷ l → ⊥
slash-free [] [] l h is = cc
slash-free [] (b ∷ k) l h is =
    let first : b ≡ 47 = cc in
    false≢true (sym (slash-no b (and_parts (is_key_byte b) (list_all is_key_byte k) h).0) ∙ ap (λ x. nat_eq x 47) first)
slash-free (x ∷ q) [] l h is = cc
slash-free (x ∷ q) (b ∷ k) l h is =
    let rest : k ≡ q ++ 47 ∷ l = cc in
    slash-free q k l (and_parts (is_key_byte b) (list_all is_key_byte k) h).1 rest

same-front : (p q k l : Word) → list_all is_key_byte k ≡ true → list_all is_key_byte l ≡ true → p ++ 47 ∷ k ≡ q ++ 47 ∷ l → p ≡ q
same-front [] [] k l g h is = refl
same-front [] (x ∷ q) k l g h is =
    let rest : k ≡ q ++ 47 ∷ l = cc in absurd (slash-free q k l g rest)
same-front (x ∷ p) [] k l g h is =
    let rest : l ≡ p ++ 47 ∷ k = cc in absurd (slash-free p l k h rest)
same-front (x ∷ p) (y ∷ q) k l g h is =
    let rest : p ++ 47 ∷ k ≡ q ++ 47 ∷ l = cc in
    let first : x ≡ y = cc in
    ap₂ (λ a b. a ∷ b) first (same-front p q k l g h rest)

keyed-joined : (of k : Word) → is_key k ≡ true → keyed of (Some (47 ∷ k)) ≡ Some (of, Some k)
keyed-joined of k h = rw h refl

shown-own : (r : PageRule) (key : Option Word) (path : Word) → KeyOk key → path_by (Some r) key ≡ Some path → shown_at path r ≡ Some (shown_by r, key)
shown-own (Fixed p of) None path ok is =
    let e : p ≡ path = cc in rw (e, same-refl path) refl
shown-own (Fixed p of) (Some k) path ok is = cc
shown-own (Family q of) None path ok is = cc
shown-own (Family q of) (Some k) path ok is =
    let e : q ++ 47 ∷ k ≡ path = cc in
    subst (λ (x : Word). shown_at x (Family q of) ≡ Some (of, Some k)) e (ap (keyed of) (behind-joined q (47 ∷ k)) ∙ keyed-joined of k ok)

keyed-by : (of : Word) (b : ℕ) (k : Word) (s : Word × Option Word) (e : Bool) → (nat_eq b 47 && is_key k) ≡ e → (if e then Some (of, Some k) else None) ≡ Some s →
    (x : Word) × (Some (b ∷ k) ≡ Some (47 ∷ x)) × (is_key x ≡ true)
keyed-by of b k s true is h =
    let both = and_parts (nat_eq b 47) (is_key k) is in (k, ap (λ x. Some (x ∷ k)) (eqb-true b 47 both.0), both.1)
keyed-by of b k s false is h = cc

-- what a path is behind a prefix, where a key is read there
keyed-is : (of : Word) (rest : Option Word) (s : Word × Option Word) → keyed of rest ≡ Some s → (k : Word) × (rest ≡ Some (47 ∷ k)) × (is_key k ≡ true)
keyed-is of None s h = cc
keyed-is of (Some []) s h = cc
keyed-is of (Some (b ∷ k)) s h = keyed-by of b k s (nat_eq b 47 && is_key k) refl h

fixed-is : (p path of : Word) (s : Word × Option Word) (e : Bool) → same p path ≡ e → (if e then Some (of, None) else None) ≡ Some s → p ≡ path
fixed-is p path of s true is h = same-true p path is
fixed-is p path of s false is h = cc

slash-key : (k : Word) → is_key k ≡ true → is_slash_key (Some (47 ∷ k)) ≡ true
slash-key k h = h

shown-meets : (r0 r : PageRule) (key : Option Word) (path : Word) (s : Word × Option Word) → KeyOk key → shown_at path r0 ≡ Some s → path_by (Some r) key ≡ Some path → meet r0 r ≡ true
shown-meets (Fixed p of) (Fixed q u) None path s ok at is =
    let e : p ≡ path = fixed-is p path of s (same p path) refl at in
    let f : q ≡ path = cc in
    rw (e, f) (same-refl path)
shown-meets (Fixed p of) (Fixed q u) (Some k) path s ok at is = cc
shown-meets (Fixed p of) (Family q u) None path s ok at is = cc
shown-meets (Fixed p of) (Family q u) (Some k) path s ok at is =
    let e : p ≡ path = fixed-is p path of s (same p path) refl at in
    let f : q ++ 47 ∷ k ≡ path = cc in
    subst (λ (x : Word). is_in_family q x ≡ true) (f ∙ sym e) (ap is_slash_key (behind-joined q (47 ∷ k)) ∙ ok)
shown-meets (Family p of) (Fixed q u) None path s ok at is =
    let e = keyed-is of (behind p path) s at in
    let f : q ≡ path = cc in
    rw f (ap is_slash_key e.1 ∙ e.2)
shown-meets (Family p of) (Fixed q u) (Some k) path s ok at is = cc
shown-meets (Family p of) (Family q u) None path s ok at is = cc
shown-meets (Family p of) (Family q u) (Some k) path s ok at is =
    let e = keyed-is of (behind p path) s at in
    let f : q ++ 47 ∷ k ≡ path = cc in
    let both : p ++ 47 ∷ e.0 ≡ q ++ 47 ∷ k = sym (behind-is p path (47 ∷ e.0) e.1) ∙ sym f in
    let front : p ≡ q = same-front p q e.0 k (key-bytes e.0 e.2) (key-bytes k ok) both in
    rw front (same-refl q)

module _ (ts : List Head) (key : Option Word) (path : Word) (ok : KeyOk key) where
  none-shown : (x r : PageRule) → path_by (Some r) key ≡ Some path → meet x r ≡ false → (s : Option (Word × Option Word)) → shown_at path x ≡ s → s ≡ None
  none-shown x r at apart None is = refl
  none-shown x r at apart (Some s) is = absurd (false≢true (sym apart ∙ shown-meets x r key path s ok is at))

  back-by : (x : PageRule) (rs : List PageRule) (name : Word) (r : PageRule) → path_by (Some r) key ≡ Some path →
      (rule_of rs name ≡ Some r → (meet x r ≡ false) × (first_shown path rs ≡ Some (name, key))) →
      (e : Bool) → same (shown_by x) name ≡ e → (if e then Some x else rule_of rs name) ≡ Some r → first_shown path (x ∷ rs) ≡ Some (name, key)
  back-by x rs name r at more true same_name is =
      let same_rule : r ≡ x = cc in
      let own : shown_at path x ≡ Some (shown_by x, key) = shown-own x key path ok (subst (λ (y : PageRule). path_by (Some y) key ≡ Some path) same_rule at) in
      let named : shown_by x ≡ name = same-true (shown_by x) name same_name in
      ap (λ o. option_or o (first_shown path rs)) own ∙ ap (λ n. Some (n, key)) named
  back-by x rs name r at more false same_name is =
      let rest = more is in
      ap (λ o. option_or o (first_shown path rs)) (none-shown x r at rest.0 (shown_at path x) refl) ∙ rest.1

  back : (rs earlier : List PageRule) (name : Word) (r : PageRule) → first_from (page_fault ts) earlier rs ≡ None →
      rule_of rs name ≡ Some r → path_by (Some r) key ≡ Some path → first_shown path rs ≡ Some (name, key)
  back [] earlier name r none is at = cc
  back (x ∷ rs) earlier name r none is at =
      let both = or-none (page_fault ts earlier x) (first_from (page_fault ts) (earlier ++ x ∷ []) rs) none in
      back-by x rs name r at
      (λ (found : rule_of rs name ≡ Some r). (rules-clear ts x rs (earlier ++ x ∷ []) (Within-last x earlier) both.1 name r found, back rs (earlier ++ x ∷ []) name r both.1 found at))
      (same (shown_by x) name) refl is

-- a template's name has its own place
any-names : (n : Word) (ts : List Head) → has n (template_names ts) ≡ list_any (λ y. same y.name n) ts
any-names n [] = refl
any-names n (t ∷ ts) = ap (λ b. same t.name n || b) (any-names n ts)

module _ (kinds : List KindPart) where
  apart : (t0 : Head) (rest earlier : List Head) → Within t0 earlier → first_from (head_fault kinds) earlier rest ≡ None →
      (i : ℕ) (t : Head) → slice_get rest i ≡ Some t → same t0.name t.name ≡ false
  apart t0 [] earlier w none i t is = cc
  apart t0 (x ∷ rest) earlier w none zero t is =
      let both = or-none (head_fault kinds earlier x) (first_from (head_fault kinds) (earlier ++ x ∷ []) rest) none in
      let new = or-none (new_name (template_names earlier) x.name) (kind_known kinds x.kind) both.0 in
      let same_part : x ≡ t = cc in
      subst (λ (y : Head). same t0.name y.name ≡ false) same_part
      (w (λ y. same y.name x.name) (sym (any-names x.name earlier) ∙ not-not (has x.name (template_names earlier)) (unless-none (not (has x.name (template_names earlier))) _ new.0)))
  apart t0 (x ∷ rest) earlier w none (suc i) t is =
      apart t0 rest (earlier ++ x ∷ []) (Within-more t0 x earlier w) (or-none (head_fault kinds earlier x) (first_from (head_fault kinds) (earlier ++ x ∷ []) rest) none).1 i t is

  own-place : (ts earlier : List Head) → first_from (head_fault kinds) earlier ts ≡ None → (i : ℕ) (t : Head) → slice_get ts i ≡ Some t → place t.name (template_names ts) ≡ i
  own-place [] earlier none i t is = cc
  own-place (x ∷ ts) earlier none zero t is =
      let same_part : x ≡ t = cc in
      subst (λ (y : Head). place y.name (template_names (x ∷ ts)) ≡ 0) same_part (rw (same-refl x.name) refl)
  own-place (x ∷ ts) earlier none (suc i) t is =
      let more = (or-none (head_fault kinds earlier x) (first_from (head_fault kinds) (earlier ++ x ∷ []) ts) none).1 in
      rw (apart x ts (earlier ++ x ∷ []) (Within-last x earlier) more i t is) (let rest = own-place ts (earlier ++ x ∷ []) more i t is in omega (arith, rest))

path-of-template : (site : Parts) → Good site → (o : Obj) (path : Word) → KeyOk o.key → (t : TemplatePart) → slice_get site.templates o.template ≡ Some t →
    (r : Option PageRule) → rule_of site.pages t.name ≡ r → path_by r o.key ≡ Some path → obj_at site path ≡ Some o
path-of-template site good o path ok t at None found is = cc
path-of-template site good o path ok t at (Some r) found is =
    let pages = (or-none (at_most 256 Pages (length site.pages)) (first_from (page_fault (heads_of site.templates)) [] site.pages) good.pages).1 in
    let heads = (or-none (at_most 256 Templates (length (heads_of site.templates))) (first_from (head_fault site.kinds) [] (heads_of site.templates)) good.heads).1 in
    let shown : first_shown path site.pages ≡ Some (t.name, o.key) = back (heads_of site.templates) o.key path ok site.pages [] t.name r pages found is in
    rw shown (ap (λ n. Some (record { template = n; key = o.key })) (own-place site.kinds (heads_of site.templates) [] heads o.template (head_of t) (get-head site.templates o.template t at)))

path-of-found : (site : Parts) → Good site → (o : Obj) (path : Word) → KeyOk o.key → (t : Option TemplatePart) → slice_get site.templates o.template ≡ t →
    path_in site t o.key ≡ Some path → obj_at site path ≡ Some o
path-of-found site good o path ok None at is = cc
path-of-found site good o path ok (Some t) at is = path-of-template site good o path ok t at (rule_of site.pages t.name) refl is

pub obj_of_path : (site : Parts) → site_fault site ≡ None → (o : Obj) (path : Word) → KeyOk o.key → path_at site o ≡ Some path → obj_at site path ≡ Some o
obj_of_path site good o path ok is = path-of-found site (good-parts site good) o path ok (slice_get site.templates o.template) refl is
