-- Two lists of pages, walked side by side from a place in each.
use Rattle.std.proofs.Common.{◌≡◌, ℕ, ◌+◌, ◌-◌, ◌<◌, ◌≤◌, cond, List, [], ◌∷◌, ◌++◌, map, length, length-drop, take, drop, get_or, sym, ap, refl, subst, ◌∙◌, arith}
use Rattle.std.proofs.lemmas.List.{drop_more, take_all, take-append-drop, map-append}
use Rattle.std.specs.declared.alloc.Global.{Global}
use Rattle.std.specs.declared.cmp.Ordering.TheVariants.{Less, Equal, Greater}
use Rattle.std.specs.declared.sync.Arc.{Arc}
use Rattle.dup_names.specs.Order.{text_cmp}
use Rattle.dup_names.specs.declared.object.Obj.{Obj}
use Rattle.dup_names.specs.declared.value.Look.{Look}
use Rattle.dup_names.specs.Words.{Path}
use Rattle.std.specs.FinMap as fin
use Rattle.dup_model.specs.Content.{Content}
use Rattle.dup_model.specs.Looks.{look}
use Rattle.dup_build.specs.Paths.{looks_shown}
use Rattle.dup_build.specs.Targets.{looks_by_path}
use Rattle.dup_build.proofs.Forgetting.{map_push}
use Rattle.dup_build.proofs.Touching.{Walked, keeps, passed_both, passed_new, passed_old}

-- the element at a place, and what is behind it
map_drop : {A B : Type 0} (f : A → B) (xs : List A) (i : ℕ) (x : A) → i < length xs → x ≡ get_or xs i x → map f (drop i xs) ≡ f x ∷ map f (drop (i + 1) xs)
map_drop f xs i x below is = ap (map f) (drop_more xs i x below ∙ ap (λ y. y ∷ drop (i + 1) xs) (sym is))

-- all that is behind a place
pub rest_of : {A : Type 0} (xs : List A) (i : ℕ) → take (length xs - i) (drop i xs) ≡ drop i xs
rest_of xs i = take_all (length xs - i) (drop i xs) (omega (arith, length-drop i xs))

empty_of : {A : Type 0} (xs : List A) → length xs ≡ 0 → xs ≡ []
empty_of [] h = refl
empty_of (x ∷ xs) h = absurd (omega (arith, h))

-- nothing is behind the end
pub no_rest : (pages : List (Path × Arc Look Global)) (i : ℕ) → length pages ≤ i → looks_by_path (drop i pages) ≡ []
no_rest pages i past = ap looks_by_path (empty_of (drop i pages) (omega (arith, past, length-drop i pages)))

-- nor of others
pub no_more : {A : Type 0} (xs : List A) (i : ℕ) → length xs ≤ i → drop i xs ≡ []
no_more xs i past = empty_of (drop i xs) (omega (arith, past, length-drop i xs))

pub paths_by_path : (pages : List (Path × Arc Look Global)) → map (λ (e : Path × Look). e.0) (looks_by_path pages) ≡ map (λ (e : Path × Arc Look Global). e.0) pages
paths_by_path [] = refl
paths_by_path (p ∷ pages) = ap (λ l. p.0 ∷ l) (paths_by_path pages)

abbrev unshared : Path × Arc Look Global → Path × Look
unshared p = (p.0, p.1.value)

module _ {B : Type 0} (page : B → Path × Look) (once : List Obj) (paths : List Path) (olds news : List (Path × Look)) (old : List (Path × Arc Look Global)) (new : List B) (i j : ℕ) (x : Path × Arc Look Global) (y : B)
    (old_below : i < length old) (old_is : x ≡ get_or old i x) (new_below : j < length new) (new_is : y ≡ get_or new j y)
    (w : Walked once paths olds news (looks_by_path (drop i old)) (map page (drop j new))) where
  old_here : looks_by_path (drop i old) ≡ unshared x ∷ looks_by_path (drop (i + 1) old)
  old_here = map_drop unshared old i x old_below old_is

  new_here : map page (drop j new) ≡ page y ∷ map page (drop (j + 1) new)
  new_here = map_drop page new j y new_below new_is

  here : Walked once paths olds news (unshared x ∷ looks_by_path (drop (i + 1) old)) (page y ∷ map page (drop (j + 1) new))
  here =
      subst (λ l. Walked once paths olds news (unshared x ∷ looks_by_path (drop (i + 1) old)) l) new_here
      (subst (λ l. Walked once paths olds news l (map page (drop j new))) old_here w)

  pub step_old : (more : List Path) → more ≡ paths ++ x.0 ∷ [] → text_cmp x.0 (page y).0 ≡ Less → Walked once more olds news (looks_by_path (drop (i + 1) old)) (map page (drop j new))
  step_old more is less =
      subst (λ ps. Walked once ps olds news (looks_by_path (drop (i + 1) old)) (map page (drop j new))) (sym is)
      (subst (λ l. Walked once (paths ++ x.0 ∷ []) olds news (looks_by_path (drop (i + 1) old)) l) (sym new_here)
      (passed_old once paths olds news (unshared x) (page y) (looks_by_path (drop (i + 1) old)) (map page (drop (j + 1) new)) here less))

  pub step_new : (more : List Path) → more ≡ paths ++ (page y).0 ∷ [] → text_cmp x.0 (page y).0 ≡ Greater → Walked once more olds news (looks_by_path (drop i old)) (map page (drop (j + 1) new))
  step_new more is greater =
      subst (λ ps. Walked once ps olds news (looks_by_path (drop i old)) (map page (drop (j + 1) new))) (sym is)
      (subst (λ l. Walked once (paths ++ (page y).0 ∷ []) olds news l (map page (drop (j + 1) new))) (sym old_here)
      (passed_new once paths olds news (unshared x) (page y) (looks_by_path (drop (i + 1) old)) (map page (drop (j + 1) new)) here greater))

  pub step_both : (more : List Path) → more ≡ cond (keeps once x.1.value (page y).1) paths (paths ++ (page y).0 ∷ []) → text_cmp x.0 (page y).0 ≡ Equal →
      Walked once more olds news (looks_by_path (drop (i + 1) old)) (map page (drop (j + 1) new))
  step_both more is equal =
      subst (λ ps. Walked once ps olds news (looks_by_path (drop (i + 1) old)) (map page (drop (j + 1) new)))
      (ap (λ (p : Path). cond (keeps once x.1.value (page y).1) paths (paths ++ p ∷ [])) (fin.slice_cmp-IsAntisymmetric fin.nat_cmp-IsAntisymmetric x.0 (page y).0 equal) ∙ sym is)
      (passed_both once paths olds news (unshared x) (page y) (looks_by_path (drop (i + 1) old)) (map page (drop (j + 1) new)) here equal)

-- one more page with its look
pub turned_push : (c : Content) (out new : List (Path × Look)) (ps : List (Path × Obj)) (i : ℕ) (p : Path × Obj) → new ≡ out ++ (p.0, look c p.1) ∷ [] →
    out ≡ looks_shown c (take i ps) → i < length ps → p ≡ get_or ps i p → new ≡ looks_shown c (take (i + 1) ps)
turned_push c out new ps i p is before below at_i =
    is ∙ (λ j. before j ++ (let l : Path × Look = (p.0, look c p.1) in l) ∷ []) ∙ sym (map_push {B = Path × Look} (λ (p : Path × Obj). (p.0, look c p.1)) ps i p below at_i)

-- what was made of the pages before a place, and of those behind it
pub turned_all : (c : Content) (ps : List (Path × Obj)) (i : ℕ) → looks_shown c (take i ps) ++ looks_shown c (drop i ps) ≡ looks_shown c ps
turned_all c ps i =
    sym (map-append {B = Path × Look} (λ (p : Path × Obj). (p.0, look c p.1)) (take i ps) (drop i ps)) ∙ ap (looks_shown c) (take-append-drop i ps)

-- the paths of pages with their looks
pub paths_shown : (c : Content) (ps : List (Path × Obj)) → map (λ (e : Path × Look). e.0) (looks_shown c ps) ≡ map (λ (p : Path × Obj). p.0) ps
paths_shown c [] = refl
paths_shown c (p ∷ ps) = ap (λ l. p.0 ∷ l) (paths_shown c ps)

-- one more page with its look
pub page_push : (pages new : List (Path × Arc Look Global)) (p : Path) (shared : Arc Look Global) (l : Look) → new ≡ pages ++ (let e : Path × Arc Look Global = (p, shared) in e) ∷ [] → shared.value ≡ l →
    looks_by_path new ≡ looks_by_path pages ++ (let e : Path × Look = (p, l) in e) ∷ []
page_push pages new p shared l is same =
    ap looks_by_path is ∙ map-append unshared pages ((let e : Path × Arc Look Global = (p, shared) in e) ∷ []) ∙ (λ i. looks_by_path pages ++ (let e : Path × Look = (p, same i) in e) ∷ [])
