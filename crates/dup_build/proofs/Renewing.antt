-- What is spare, renewed where it is behind and where the work joined an object, is the target of the content.
use Rattle.std.proofs.Common.{◌≡◌, ◌↔◌, ℕ, zero, suc, ◌+◌, ◌<◌, length, take, Bool, true, false, not, cond, ◌||◌, ◌&&◌, List, [], ◌∷◌, ◌++◌, map, get_or, Option, Some, None, refl, sym, ap, subst, ◌∙◌}
use Rattle.std.specs.Prelude.{IfSome, slice_set}
use Rattle.std.specs.List.{All, list_any}
use Rattle.std.specs.Option.{option_map}
use Rattle.std.specs.FinMap as fin
use Rattle.std.specs.FinMap.Entries.{find-put, is_sorted, is_sorted-put, put, same_entries}
use Rattle.std.specs.Ordering.{eq_by_cmp}
use Rattle.std.specs.Cmp.{eq_by_cmp_equiv}
use Rattle.std.specs.Cmp.Lexicographic.{nat_list_cmp_total}
use Rattle.std.specs.declared.alloc.Global.{Global}
use Rattle.std.specs.declared.sync.Arc.{Arc}
use Rattle.std.proofs.Math.Dec.{T}
use Rattle.std.proofs.lemmas.Bool.{true≢false, or_parts}
use Rattle.std.proofs.lemmas.List.{take_more}
use Rattle.std.proofs.lemmas.List.Elements.{All-head, All-tail}
use Rattle.std.proofs.lemmas.List.Folds.{list_any-append}
use Rattle.std.proofs.lemmas.Option.{none-some, same_Some}
use Rattle.dup_names.specs.Order.{text_cmp}
use Rattle.dup_names.specs.declared.object.Obj.{Obj}
use Rattle.dup_names.specs.declared.value.Look.{Look}
use Rattle.dup_names.specs.Objects.{is_in, same_obj}
use Rattle.dup_names.specs.Words.{Path}
use Rattle.dup_names.proofs.ObjectOrder.{obj_itself, obj_same}
use Rattle.dup_template.specs.Good.{IsGood}
use Rattle.dup_template.specs.Paths.{path_at}
use Rattle.dup_template.specs.declared.site.Parts.{Parts}
use Rattle.dup_model.specs.Content.{Content, IsOf}
use Rattle.dup_model.specs.Editions.{has}
use Rattle.dup_model.specs.Embeddings.{EmbedsEarlier}
use Rattle.dup_model.specs.Found.{found}
use Rattle.dup_model.specs.Looks.{look}
use Rattle.dup_model.specs.Pages.{page_looks, pages}
use Rattle.dup_model.specs.Touched.{without}
use Rattle.dup_edition.specs.Places.{IsAt}
use Rattle.dup_edition.proofs.Places.{found_at, put_over}
use Rattle.dup_build.specs.Paths.{AreTouched, IsCurrent, SameElsewhere, is_touched, looks_in}
use Rattle.dup_build.specs.Spare.{AreRenewed, AreTurned, HaveOwnPaths, IsSpare, ShowLooked, is_of_one, objs_by_path}
use Rattle.dup_build.specs.Targets.{looks_by_path}
use Rattle.dup_build.specs.declared.spare.Spare.{Spare}
use Rattle.dup_build.proofs.OwnPaths.{page_own}
use Rattle.dup_build.proofs.Rising.{page_looks_rise}
use Rattle.dup_build.proofs.Showing.{look_found, pages_looked}
use Rattle.dup_build.proofs.Touching.{or_none, or_true, same_path}

abbrev at : Path → List (Path × Look) → Option Look
at p es = fin.find text_cmp p es

abbrev Page : Type 0
Page = Path × Arc Look Global

abbrev pub unshared : Page → Path × Look
unshared p = (p.0, p.1.value)

to_T : (b : Bool) → b ≡ true → T b
to_T b h = subst T (sym h) tt

from_T : (b : Bool) → T b → b ≡ true
from_T true h = refl
from_T false h = absurd h

-- of two lists of objects
of_one_more : (objs : List Obj) (o : Obj) (l : Option Look) → is_of_one (objs ++ o ∷ []) l ≡ (is_of_one objs l || is_of_one (o ∷ []) l)
of_one_more objs o None = refl
of_one_more objs o (Some l) = list_any-append (same_obj l.obj) objs (o ∷ [])

-- one more element
pub taken_more : {A : Type 0} (xs : List A) (i : ℕ) (x : A) → i < length xs → x ≡ get_or xs i x → take (i + 1) xs ≡ take i xs ++ x ∷ []
taken_more xs i x below is = take_more xs i x below ∙ ap (λ y. take i xs ++ y ∷ []) (sym is)

-- the path of an object, where pages show it
module _ (site : Parts) (es : List (Path × Look)) (own : HaveOwnPaths site es) (o : Obj) where
  abbrev shows : Path → Bool
  shows p = is_of_one (o ∷ []) (at p es)

  shown_own : (p : Path) → shows p ≡ true → path_at site o ≡ Some p
  shown_own p is = by_look (at p es) refl is
    where
      by_look : (l : Option Look) → at p es ≡ l → is_of_one (o ∷ []) l ≡ true → path_at site o ≡ Some p
      by_look None there is = absurd (true≢false (sym is))
      by_look (Some l) there is = subst (λ x. path_at site x ≡ Some p) (obj_same l.obj o (sym (or_none (same_obj l.obj o)) ∙ is)) (own p l there)

  pub unshown : (path : Path) → path_at site o ≡ Some path → shows path ≡ false → (p : Path) → (None ≡ Some p) ↔ (shows p ≡ true)
  unshown path is out p = (
    λ h. absurd (none-some p h),
    λ h. absurd (true≢false (sym h ∙ ap shows (same_Some p path (sym (shown_own p h) ∙ is)) ∙ out)),
  )

  pub shown_there : (path : Path) → path_at site o ≡ Some path → shows path ≡ true → (p : Path) → (Some path ≡ Some p) ↔ (shows p ≡ true)
  shown_there path is here p = (λ h. ap shows (sym (same_Some path p h)) ∙ here, λ h. sym is ∙ shown_own p h)

-- an object at a path
pub is_shown : (o : Obj) (es : List (Path × Look)) (path : Path) (l : Look) → at path es ≡ Some l → is_of_one (o ∷ []) (at path es) ≡ same_obj l.obj o
is_shown o es path l there = ap (is_of_one (o ∷ [])) there ∙ or_none (same_obj l.obj o)

-- one more object that isn't shown, or is
pub none_more : (objs more : List Obj) (o : Obj) (l : Option Look) (b : Bool) → more ≡ objs ++ o ∷ [] → b ≡ is_of_one objs l → (is_of_one (o ∷ []) l ≡ true → ⊥) → b ≡ is_of_one more l
none_more objs more o l b is before out = before ∙ by_test (is_of_one (o ∷ []) l) refl ∙ sym (ap (λ os. is_of_one os l) is ∙ of_one_more objs o l)
  where
    by_test : (t : Bool) → is_of_one (o ∷ []) l ≡ t → is_of_one objs l ≡ (is_of_one objs l || is_of_one (o ∷ []) l)
    by_test true there = absurd (out there)
    by_test false there = sym (ap (λ t. is_of_one objs l || t) there ∙ or_none (is_of_one objs l))

tied_itself : (p : Path) → eq_by_cmp text_cmp p p ≡ true
tied_itself p = (eq_by_cmp_equiv nat_list_cmp_total).refl p

pub one_more : (objs more : List Obj) (o : Obj) (p path : Path) (l : Option Look) (b old : Bool) → more ≡ objs ++ o ∷ [] → old ≡ is_of_one objs l → (Some path ≡ Some p) ↔ (is_of_one (o ∷ []) l ≡ true) →
    b ≡ cond (eq_by_cmp text_cmp path p) true old → b ≡ is_of_one more l
one_more objs more o p path l b old is before shown put =
    put ∙ by_tests (eq_by_cmp text_cmp path p) refl (is_of_one (o ∷ []) l) refl ∙ sym (ap (λ os. is_of_one os l) is ∙ of_one_more objs o l)
  where
    by_tests : (e : Bool) → eq_by_cmp text_cmp path p ≡ e → (t : Bool) → is_of_one (o ∷ []) l ≡ t → cond e true old ≡ (is_of_one objs l || is_of_one (o ∷ []) l)
    by_tests true here t is = sym (ap (λ t. is_of_one objs l || t) (shown.0 (ap Some (same_path path p here))) ∙ or_true (is_of_one objs l))
    by_tests false there false out = before ∙ sym (ap (λ t. is_of_one objs l || t) out ∙ or_none (is_of_one objs l))
    by_tests false there true is = absurd (true≢false (sym (tied_itself p) ∙ ap (λ q. eq_by_cmp text_cmp q p) (sym (same_Some path p (shown.1 is))) ∙ there))

-- the pages, and the look that one gets
pub at_is : (ys : List Page) (i : ℕ) (d : Page) (key : Path) → IsAt (looks_by_path ys) key i → (get_or ys i d).0 ≡ key
at_is [] i d key there = absurd there
at_is (y ∷ ys) zero d key there = there
at_is (y ∷ ys) (suc i) d key there = at_is ys i d key there

option_same : (o : Option Look) → option_map (λ (l : Look). l) o ≡ o
option_same None = refl
option_same (Some l) = refl

abbrev renewing : Content → Bool → Look → Look
renewing c b l = cond b (look c l.obj) l

has_one : (path p : Path) → has (path ∷ []) p ≡ eq_by_cmp text_cmp p path
has_one path p = or_none (eq_by_cmp text_cmp p path)

module _ (c : Content) where
  -- nothing is at the path
  pub gap_renews : (es : List (Path × Look)) (path : Path) → at path es ≡ None → AreRenewed c (path ∷ []) es es
  gap_renews es path none p = by_path (eq_by_cmp text_cmp p path) refl ∙ sym (ap (λ b. option_map (renewing c b) (at p es)) (has_one path p))
    where
      by_path : (b : Bool) → eq_by_cmp text_cmp p path ≡ b → at p es ≡ option_map (renewing c b) (at p es)
      by_path true here =
          let out : at p es ≡ None = ap (λ q. at q es) (same_path p path here) ∙ none in
          out ∙ sym (ap (option_map (renewing c true)) out)
      by_path false there = sym (option_same (at p es))

  module _ (ys new : List Page) (i : ℕ) (path : Path) (d : Page) (y : Page) (rises : is_sorted text_cmp (looks_by_path ys) ≡ true) (there : IsAt (looks_by_path ys) path i) (here : y.0 ≡ path)
      (y_look : y.1.value ≡ look c (get_or ys i d).1.value.obj) (is : new ≡ slice_set ys i y) where
    over : looks_by_path new ≡ put text_cmp y.0 y.1.value (looks_by_path ys)
    over = ap looks_by_path is ∙ put_over text_cmp nat_list_cmp_total fin_same unshared y ys i rises (subst (λ k. IsAt (looks_by_path ys) k i) (sym here) there)
      where
        fin_same : (p q : Path) → text_cmp p q ≡ Rattle.std.specs.declared.cmp.Ordering.TheVariants.Equal → p ≡ q
        fin_same = fin.slice_cmp-IsAntisymmetric fin.nat_cmp-IsAntisymmetric

    was : at path (looks_by_path ys) ≡ Some (get_or ys i d).1.value
    was = found_at text_cmp nat_list_cmp_total fin_same unshared path ys i d rises there
      where
        fin_same : (p q : Path) → text_cmp p q ≡ Rattle.std.specs.declared.cmp.Ordering.TheVariants.Equal → p ≡ q
        fin_same = fin.slice_cmp-IsAntisymmetric fin.nat_cmp-IsAntisymmetric

    pub over_rises : is_sorted text_cmp (looks_by_path new) ≡ true
    over_rises = from_T _ (subst (λ es. T (is_sorted text_cmp es)) (sym over) (is_sorted-put text_cmp nat_list_cmp_total y.0 y.1.value (looks_by_path ys) (to_T _ rises)))

    pub over_renews : AreRenewed c (path ∷ []) (looks_by_path ys) (looks_by_path new)
    over_renews p =
        ap (at p) over ∙ find-put text_cmp nat_list_cmp_total p y.0 y.1.value (looks_by_path ys) ∙ ap (λ k. cond (eq_by_cmp text_cmp p k) (Some y.1.value) (at p (looks_by_path ys))) here
        ∙ by_path (eq_by_cmp text_cmp p path) refl
        ∙ sym (ap (λ b. option_map (renewing c b) (at p (looks_by_path ys))) (has_one path p))
      where
        by_path : (b : Bool) → eq_by_cmp text_cmp p path ≡ b → cond b (Some y.1.value) (at p (looks_by_path ys)) ≡ option_map (renewing c b) (at p (looks_by_path ys))
        by_path true one = ap Some y_look ∙ sym (ap (option_map (renewing c true)) (ap (λ q. at q (looks_by_path ys)) (same_path p path one) ∙ was))
        by_path false other = sym (option_same (at p (looks_by_path ys)))

  pub none_renewed : (es : List (Path × Look)) → AreRenewed c [] es es
  none_renewed es p = sym (option_same (at p es))

  -- at more paths
  pub renewed_more : (paths more : List Path) (path : Path) (a b d : List (Path × Look)) → more ≡ paths ++ path ∷ [] → AreRenewed c paths a b → AreRenewed c (path ∷ []) b d → AreRenewed c more a d
  renewed_more paths more path a b d is first second p =
      second p ∙ ap (option_map (renewing c (has (path ∷ []) p))) (first p)
      ∙ by_look (at p a) (has paths p) (has (path ∷ []) p)
      ∙ sym (ap (λ b. option_map (renewing c b) (at p a)) (ap (λ l. has l p) is ∙ list_any-append (eq_by_cmp text_cmp p) paths (path ∷ [])))
    where
      twice : (l : Look) (u v : Bool) → renewing c v (renewing c u l) ≡ renewing c (u || v) l
      twice l true true = refl
      twice l true false = refl
      twice l false v = refl

      by_look : (o : Option Look) (u v : Bool) → option_map (renewing c v) (option_map (renewing c u) o) ≡ option_map (renewing c (u || v)) o
      by_look None u v = refl
      by_look (Some l) u v = ap Some (twice l u v)

  pub renewed_looked : (looked : List Obj) (paths : List Path) (a b : List (Path × Look)) → AreRenewed c paths a b → ShowLooked looked a → ShowLooked looked b
  renewed_looked looked paths a b renewed all p m is = by_look (at p a) refl (sym (renewed p) ∙ is)
    where
      same_obj_of : (l : Look) (u : Bool) → (renewing c u l).obj ≡ l.obj
      same_obj_of l true = refl
      same_obj_of l false = refl

      by_look : (o : Option Look) → at p a ≡ o → option_map (renewing c (has paths p)) o ≡ Some m → is_in looked m.obj ≡ true
      by_look None there is = absurd (none-some m is)
      by_look (Some l) there is =
          ap (is_in looked) (sym (ap (λ (x : Look). x.obj) (same_Some (renewing c (has paths p) l) m is)) ∙ same_obj_of l (has paths p)) ∙ all p l there

-- objects at paths
found_obj : (p : Path) (es : List (Path × Look)) → fin.find text_cmp p (objs_by_path es) ≡ option_map (λ (l : Look). l.obj) (at p es)
found_obj p [] = refl
found_obj p (e ∷ es) = by_path (found_obj p es) (eq_by_cmp text_cmp p e.0)
  where
    by_path : fin.find text_cmp p (objs_by_path es) ≡ option_map (λ (l : Look). l.obj) (at p es) → (b : Bool) → cond b (Some e.1.obj) (fin.find text_cmp p (objs_by_path es)) ≡ option_map (λ (l : Look). l.obj) (cond b (Some e.1) (at p es))
    by_path later true = refl
    by_path later false = later

found_look : (c : Content) (p : Path) (ps : List (Path × Obj)) → at p (map (λ (e : Path × Obj). (let l : Path × Look = (e.0, look c e.1) in l)) ps) ≡ option_map (look c) (fin.find text_cmp p ps)
found_look c p [] = refl
found_look c p (e ∷ ps) = by_path (found_look c p ps) (eq_by_cmp text_cmp p e.0)
  where
    by_path : at p (map (λ (e : Path × Obj). (let l : Path × Look = (e.0, look c e.1) in l)) ps) ≡ option_map (look c) (fin.find text_cmp p ps) → (b : Bool) → cond b (Some (look c e.1)) (at p (map (λ (e : Path × Obj). (let l : Path × Look = (e.0, look c e.1) in l)) ps)) ≡ option_map (look c) (cond b (Some e.1) (fin.find text_cmp p ps))
    by_path later true = refl
    by_path later false = later

-- what holds of each page holds of that at a path
page_found : (P : Path × Obj → Type 0) (p : Path) (ps : List (Path × Obj)) (o : Obj) → All P ps → fin.find text_cmp p ps ≡ Some o → P (p, o)
page_found P p [] o all is = absurd (none-some o is)
page_found P p (e ∷ ps) o all is = by_path (λ more. page_found P p ps o (All-tail P e ps all) more) (eq_by_cmp text_cmp p e.0) refl is
  where
    by_path : (fin.find text_cmp p ps ≡ Some o → P (p, o)) → (b : Bool) → eq_by_cmp text_cmp p e.0 ≡ b → cond b (Some e.1) (fin.find text_cmp p ps) ≡ Some o → P (p, o)
    by_path later true here is = subst P (λ i. (sym (same_path p e.0 here) i, same_Some e.1 o is i)) (All-head P e ps all)
    by_path later false there is = later is

pub objs_shown : (c : Content) (ps : List (Path × Obj)) → objs_by_path (map (λ (e : Path × Obj). (let l : Path × Look = (e.0, look c e.1) in l)) ps) ≡ ps
objs_shown c [] = refl
objs_shown c (e ∷ ps) = ap (λ l. (e.0, e.1) ∷ l) (objs_shown c ps)

module _ (c : Content) (es : List (Path × Look)) (listed : objs_by_path es ≡ pages c) where
  page_there : (p : Path) → option_map (λ (l : Look). l.obj) (at p es) ≡ fin.find text_cmp p (pages c)
  page_there p = sym (found_obj p es) ∙ ap (fin.find text_cmp p) listed

  page_at : (p : Path) (l : Look) → at p es ≡ Some l → fin.find text_cmp p (pages c) ≡ Some l.obj
  page_at p l there = sym (page_there p) ∙ ap (option_map (λ (l : Look). l.obj)) there

  target_at : (p : Path) → at p (page_looks c) ≡ option_map (look c) (option_map (λ (l : Look). l.obj) (at p es))
  target_at p = found_look c p (pages c) ∙ ap (option_map (look c)) (sym (page_there p))

  pub listed_own : (site : Parts) → IsGood site → IsOf site c → HaveOwnPaths site es
  listed_own site good of p l there = page_own site c of.frame good p l.obj (page_at p l there)

  pub listed_looked : (done looked : List Obj) → EmbedsEarlier c → without (is_in looked) (found c done) ≡ [] → ShowLooked looked es
  listed_looked done looked earlier joined p l there =
      page_found (λ (e : Path × Obj). is_in looked e.1 ≡ true) p (pages c) l.obj (pages_looked c earlier done looked joined) (page_at p l there)

  not_not : (b : Bool) → b ≡ not (not b)
  not_not true = refl
  not_not false = refl

  -- the paths of the pages that show one of these objects are touched
  pub told_touched : (once : List Obj) (paths : List Path) → ((p : Path) → has paths p ≡ is_of_one once (at p es)) → AreTouched once es (page_looks c) paths
  told_touched once paths told p = told p ∙ by_look (at p es) ∙ ap (is_touched once (at p es)) (sym (target_at p))
    where
      by_look : (o : Option Look) → is_of_one once o ≡ is_touched once o (option_map (look c) (option_map (λ (l : Look). l.obj) o))
      by_look None = refl
      by_look (Some l) = not_not (is_in once l.obj) ∙ sym (ap (λ b. not (b && not (is_in once l.obj))) (obj_itself l.obj))

  -- what is spare, once it is renewed
  module _ (once looked : List Obj) (shown : All (IsCurrent c looked once) (looks_in es)) (all_looked : ShowLooked looked es) (spare new : List (Path × Look)) (behind touched : List Path)
      (spare_shown : objs_by_path spare ≡ objs_by_path es) (elsewhere : SameElsewhere behind spare es) (told : (p : Path) → has touched p ≡ is_of_one once (at p es)) where
    current : (p : Path) (l : Look) → at p spare ≡ Some l → (b : Bool) → has (behind ++ touched) p ≡ b → renewing c b l ≡ look c l.obj
    current p l there true is = refl
    current p l there false out =
        let parts : (has behind p ≡ false) × (has touched p ≡ false) = or_parts (has behind p) (has touched p) (sym (list_any-append (eq_by_cmp text_cmp p) behind touched) ∙ out) in
        let here : at p es ≡ Some l = sym (elsewhere p parts.0) ∙ there in
        look_found (IsCurrent c looked once) p es l shown here (all_looked p l here) (sym (ap (is_of_one once) here) ∙ sym (told p) ∙ parts.1)

    pub spare_serves : is_sorted text_cmp new ≡ true → AreRenewed c (behind ++ touched) spare new → new ≡ page_looks c
    spare_serves rises renewed =
        same_entries text_cmp nat_list_cmp_total (fin.slice_cmp-IsAntisymmetric fin.nat_cmp-IsAntisymmetric) new (page_looks c) (to_T _ rises) (to_T _ (page_looks_rise c))
        (λ p. renewed p ∙ by_look p (at p spare) refl ∙ sym (target_at p ∙ ap (option_map (look c)) (sym (found_obj p es) ∙ ap (fin.find text_cmp p) (sym spare_shown) ∙ found_obj p spare)))
      where
        by_look : (p : Path) (o : Option Look) → at p spare ≡ o → option_map (renewing c (has (behind ++ touched) p)) (at p spare) ≡ option_map (look c) (option_map (λ (l : Look). l.obj) (at p spare))
        by_look p None there = ap (option_map (renewing c (has (behind ++ touched) p))) there ∙ sym (ap (λ o. option_map (look c) (option_map (λ (l : Look). l.obj) o)) there)
        by_look p (Some l) there =
            ap (option_map (renewing c (has (behind ++ touched) p))) there ∙ ap Some (current p l there (has (behind ++ touched) p) refl) ∙ sym (ap (λ o. option_map (look c) (option_map (λ (l : Look). l.obj) o)) there)

-- on the way to the next content
pub turned_moved : (a b : Content) (same more : Bool) (target : List (Path × Look)) (spare : Option Spare) → (more ≡ true → pages a ≡ pages b) → AreTurned same a target spare → AreTurned (same && more) b target spare
turned_moved a b same more target spare stay turned = record { listed = by_tests same more turned.listed stay; spare = turned.spare }
  where
    by_tests : (s m : Bool) → (s ≡ true → objs_by_path target ≡ pages a) → (m ≡ true → pages a ≡ pages b) → (s && m) ≡ true → objs_by_path target ≡ pages b
    by_tests true true listed stay h = listed refl ∙ stay refl
    by_tests true false listed stay h = absurd (true≢false (sym h))
    by_tests false m listed stay h = absurd (true≢false (sym h))

-- once the target is another
pub turned_closed : (c : Content) (same : Bool) (old new : List (Path × Look)) (touched behind : List Path) (before spare : Option Spare) → AreTurned same c old before → is_sorted text_cmp old ≡ true → new ≡ page_looks c →
    SameElsewhere touched old new → behind ≡ touched → IfSome spare (λ s. same ≡ true) → IfSome spare (λ s. looks_by_path s.pages.items ≡ old) → IfSome spare (λ s. s.behind.items ≡ behind) → AreTurned true c new spare
turned_closed c same old new touched behind before spare turned rises is elsewhere behind_is kept old_pages told = record { listed = λ h. listed; spare = by_spare spare kept old_pages told }
  where
    listed : objs_by_path new ≡ pages c
    listed = ap objs_by_path is ∙ objs_shown c (pages c)

    by_spare : (o : Option Spare) → IfSome o (λ s. same ≡ true) → IfSome o (λ s. looks_by_path s.pages.items ≡ old) → IfSome o (λ s. s.behind.items ≡ behind) → IfSome o (IsSpare new)
    by_spare None kept old_pages told = tt
    by_spare (Some s) kept old_pages told = record {
      rising = ap (is_sorted text_cmp) old_pages ∙ rises;
      shown = ap objs_by_path old_pages ∙ turned.listed kept ∙ sym listed;
      elsewhere = λ p out. ap (at p) old_pages ∙ elsewhere p (ap (λ l. has l p) (sym (told ∙ behind_is)) ∙ out);
    }
