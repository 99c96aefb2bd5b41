-- The set of changed paths is the one list in order that has them.
use Rattle.std.proofs.Common.{◌≡◌, ℕ, Bool, true, false, not, cond, ◌||◌, ◌&&◌, List, [], ◌∷◌, Option, Some, None, map, refl, sym, ap, subst, ◌∙◌}
use Rattle.std.proofs.lemmas.Bool.{true≢false}
use Rattle.std.proofs.lemmas.List.Kept.{IsStrictlySortedBy-filter}
use Rattle.std.specs.declared.alloc.Global.{Global}
use Rattle.std.specs.declared.sync.Arc.{Arc}
use Rattle.std.specs.FinMap as fin
use Rattle.std.specs.List.{filter, filter_map, list_any}
use Rattle.std.specs.Option.{is_none, is_some, option_eq, option_map}
use Rattle.std.specs.List.Sorted.{IsStrictlySortedBy}
use Rattle.std.specs.Ordering.{eq_by_cmp}
use Rattle.std.specs.Prelude.{bytes_eq}
use Rattle.dup_names.specs.declared.value.Look.{Look}
use Rattle.dup_names.specs.Order.{text_cmp}
use Rattle.dup_names.specs.Words.{Path}
use Rattle.dup_model.specs.Commits.{Commit}
use Rattle.dup_model.specs.Editions.{Bundle, Edition, Page, absorb, bundle_of, edition, has, looks, page_at, target_looks}
use Rattle.dup_model.specs.Pages.{Target}
use Rattle.dup_model.specs.Needs.{IsSound, changed, clash, links, needs, same_look}
use Rattle.dup_model.specs.Bundles.{changed_paths, paths_of}
use Rattle.dup_model.proofs.Absorb.{looks_after_bundle}
use Rattle.dup_model.proofs.ChangedPaths.{only_changed, all_changed}
use Rattle.dup_model.proofs.SameLooks.{option_itself}
use Rattle.dup_edition.specs.ByPath.{by_path}
use Rattle.dup_edition.specs.Logged.{Logged}
use Rattle.dup_bundle.specs.Between.{has_look, has_page, AreChanged}
use Rattle.dup_bundle.specs.Targets.{looks_by_path, Aim}
use Rattle.dup_bundle.proofs.Paths.{IsInOrder, same_members, map_in_order}
use Rattle.dup_bundle.proofs.Steps.{and_not_or}

same_tests : (a b : Bool) → (a ≡ true → b ≡ true) → (b ≡ true → a ≡ true) → a ≡ b
same_tests true b to from = sym (to refl)
same_tests false true to from = from refl
same_tests false false to from = refl

module _ (e : Edition) (t : Target) where
  pub has_changed : (q : Path) → has (changed_paths e t) q ≡ changed (looks e) (target_looks t) q
  has_changed q = same_tests _ _ (only_changed e t q) (all_changed e t q)

  pub changed_in_order : IsInOrder (changed_paths e t)
  changed_in_order = IsStrictlySortedBy-filter text_cmp (changed (looks e) (target_looks t)) (paths_of e t) (map_in_order _)

  pub exact : (l : List Path) → IsInOrder l → ((q : Path) → has l q ≡ changed (looks e) (target_looks t) q) → l ≡ changed_paths e t
  exact l order same = same_members l (changed_paths e t) order changed_in_order (λ q. same q ∙ sym (has_changed q))

pub are_changed : (e : Logged) (t : Aim) (l : List Path) → l ≡ changed_paths (edition e.log) t.pages → AreChanged e t l
are_changed e t l is = record {
  only = λ q inside. sym (has_changed (edition e.log) t.pages q) ∙ ap (λ l. has l q) (sym is) ∙ inside;
  order = subst IsInOrder (sym is) (changed_in_order (edition e.log) t.pages);
}

-- pages and looks, as slices have them
page_keys : (pages : List (Arc Page Global)) (q : Path) → has_page pages q ≡ list_any (eq_by_cmp text_cmp q) (map (λ x. x.0) (by_path pages))
page_keys [] q = refl
page_keys (p ∷ pages) q = ap (λ b. eq_by_cmp text_cmp q p.value.path || b) (page_keys pages q)

look_keys : (pages : List (Path × Arc Look Global)) (q : Path) → has_look pages q ≡ list_any (eq_by_cmp text_cmp q) (map (λ x. x.0) (looks_by_path pages))
look_keys [] q = refl
look_keys (p ∷ pages) q = ap (λ b. eq_by_cmp text_cmp q p.0 || b) (look_keys pages q)

is_some-map : (o : Option Page) → is_some o ≡ is_some (option_map (λ page. page.look) o)
is_some-map None = refl
is_some-map (Some page) = refl

pub page_there : (pages : List (Arc Page Global)) (e : Edition) → by_path pages ≡ fin.entries e → (q : Path) → has_page pages q ≡ is_some (looks e q)
page_there pages e is q = page_keys pages q ∙ ap (λ es. list_any (eq_by_cmp text_cmp q) (map (λ x. x.0) es)) is ∙ sym (fin.contains_key-keys e q) ∙ is_some-map (fin.get e q)

pub look_there : (pages : List (Path × Arc Look Global)) (t : Target) → looks_by_path pages ≡ fin.entries t → (q : Path) → has_look pages q ≡ is_some (target_looks t q)
look_there pages t is q = look_keys pages q ∙ ap (λ es. list_any (eq_by_cmp text_cmp q) (map (λ x. x.0) es)) is ∙ sym (fin.contains_key-keys t q)

-- what is changed is there in one of the two
known : (a b : Option Look) → cond (is_some b) (not (option_eq same_look a b)) (cond (is_some a) (not (option_eq same_look a b)) false) ≡ not (option_eq same_look a b)
known None None = refl
known (Some a) None = refl
known a (Some b) = refl

pub between_exact : (e : Edition) (t : Target) (shown : List (Arc Page Global)) (aimed : List (Path × Arc Look Global)) → by_path shown ≡ fin.entries e → looks_by_path aimed ≡ fin.entries t →
    (l : List Path) → IsInOrder l → ((q : Path) → has l q ≡ cond (has_look aimed q) (changed (looks e) (target_looks t) q) (cond (has_page shown q) (changed (looks e) (target_looks t) q) false)) →
    l ≡ changed_paths e t
between_exact e t shown aimed shown_are aimed_are l order is =
    exact e t l order (λ q. is q ∙ rw (page_there shown e shown_are q, look_there aimed t aimed_are q) (known (looks e q) (target_looks t q)))

pub retarget_exact : (e : Edition) (old t : Target) (touched before l : List Path) → ((p : Path) → has touched p ≡ false → fin.get old p ≡ fin.get t p) → before ≡ changed_paths e old →
    IsInOrder l → ((q : Path) → has l q ≡ cond (has touched q) (changed (looks e) (target_looks t) q) (has before q)) → l ≡ changed_paths e t
retarget_exact e old t touched before l same was order is = exact e t l order (λ q. is q ∙ by_touch q (has touched q) refl)
  where
    by_touch : (q : Path) (b : Bool) → has touched q ≡ b → cond b (changed (looks e) (target_looks t) q) (has before q) ≡ changed (looks e) (target_looks t) q
    by_touch q true touch = refl
    by_touch q false touch =
        ap (λ l. has l q) was ∙ has_changed e old q ∙ ap (λ o. not (option_eq same_look (looks e q) o)) (same q touch)

-- the paths of what is put and what is dropped
module _ (t : Target) (version : ℕ) (q : Path) where
  in_puts : List Page → Bool
  in_puts pages = list_any (λ page. eq_by_cmp text_cmp q page.path) pages

  later : (tie a b : Bool) → (a || (tie || b)) ≡ (tie || (a || b))
  later true true b = refl
  later true false b = refl
  later false a b = refl

  assoc : (tie a b : Bool) → ((tie || a) || b) ≡ (tie || (a || b))
  assoc true a b = refl
  assoc false a b = refl

  pub named : (paths : List Path) → (list_any (λ (page : Page). eq_by_cmp text_cmp q page.path) (filter_map (page_at t version) paths) || has (filter (λ p. is_none (fin.get t p)) paths) q) ≡ has paths q
  named [] = refl
  named (p ∷ paths) = by_look (fin.get t p) refl (named paths)
    where
      by_look : (found : Option Look) → fin.get t p ≡ found →
          (list_any (λ (page : Page). eq_by_cmp text_cmp q page.path) (filter_map (page_at t version) paths) || has (filter (λ p. is_none (fin.get t p)) paths) q) ≡ has paths q →
          (list_any (λ (page : Page). eq_by_cmp text_cmp q page.path) (filter_map (page_at t version) (p ∷ paths)) || has (filter (λ p. is_none (fin.get t p)) (p ∷ paths)) q) ≡ has (p ∷ paths) q
      by_look None is rest = rw is (later (eq_by_cmp text_cmp q p) _ _ ∙ ap (λ b. eq_by_cmp text_cmp q p || b) rest)
      by_look (Some look) is rest = rw is (assoc (eq_by_cmp text_cmp q p) _ _ ∙ ap (λ b. eq_by_cmp text_cmp q p || b) rest)

put_keys : (pages : List (Arc Page Global)) (q : Path) → has_page pages q ≡ list_any (λ (page : Page). eq_by_cmp text_cmp q page.path) (map (λ p. p.value) pages)
put_keys [] q = refl
put_keys (p ∷ pages) q = ap (λ b. eq_by_cmp text_cmp q p.value.path || b) (put_keys pages q)

pub published_exact : (e : Edition) (t : Target) (version : ℕ) (commits : List Commit) (paths : List Path) (b : Bundle) (puts : List (Arc Page Global)) (drops before l : List Path) →
    b ≡ bundle_of t version commits paths → map (λ p. p.value) puts ≡ b.puts → drops ≡ b.drops → before ≡ changed_paths e t → IsInOrder l →
    ((q : Path) → has l q ≡ (not (has drops q) && (not (has_page puts q) && has before q))) → l ≡ changed_paths (absorb e b) t
published_exact e t version commits paths b puts drops before l record_is puts_are drops_are was order is =
    exact (absorb e b) t l order (λ q. is q ∙ and_not_or (has_page puts q) (has drops q) (has before q) ∙ rest q)
  where
    gone : (q : Path) → (has_page puts q || has drops q) ≡ has paths q
    gone q =
        ap (λ x. x || has drops q) (put_keys puts q ∙ ap (λ pages. list_any (λ (page : Page). eq_by_cmp text_cmp q page.path) pages) (puts_are ∙ ap (λ b. b.puts) record_is))
        ∙ ap (λ paths'. list_any (λ (page : Page). eq_by_cmp text_cmp q page.path) (filter_map (page_at t version) paths) || has paths' q) (drops_are ∙ ap (λ b. b.drops) record_is)
        ∙ named t version q paths

    by_path_gone : (q : Path) (g : Bool) → has paths q ≡ g → (not g && changed (looks e) (target_looks t) q) ≡ not (option_eq same_look (cond g (target_looks t q) (looks e q)) (target_looks t q))
    by_path_gone q true is = ap not (sym (option_itself (target_looks t q)))
    by_path_gone q false is = refl

    rest : (q : Path) → (not (has_page puts q || has drops q) && has before q) ≡ changed (looks (absorb e b)) (target_looks t) q
    rest q =
        ap (λ g. not g && has before q) (gone q)
        ∙ ap (λ x. not (has paths q) && x) (ap (λ l. has l q) was ∙ has_changed e t q)
        ∙ by_path_gone q (has paths q) refl
        ∙ ap (λ o. not (option_eq same_look o (target_looks t q))) (sym (ap (λ b. looks (absorb e b) q) record_is ∙ looks_after_bundle t version e commits paths q))

-- what is needed stands in the edition, or is linked
needed_at : (a o : Option Look) (p q : Path) →
    let n = not (bytes_eq p q) && (clash a o || links a q && is_none o || is_none a && links o p) in ((is_some o && n) || (links a q && n)) ≡ n
needed_at a (Some look) p q = both (links a q) _
  where
    both : (l n : Bool) → (n || (l && n)) ≡ n
    both true true = refl
    both true false = refl
    both false true = refl
    both false false = refl
needed_at None None p q = no (not (bytes_eq p q))
  where
    no : (b : Bool) → false ≡ (b && false)
    no true = refl
    no false = refl
needed_at (Some a) None p q = linked (not (bytes_eq p q)) (links (Some a) q)
  where
    linked : (b l : Bool) → (l && (b && ((l && true) || false))) ≡ (b && ((l && true) || false))
    linked true true = refl
    linked true false = refl
    linked false true = refl
    linked false false = refl

pub needed_there : (e : Edition) (t : Target) (p q : Path) →
    ((is_some (looks e q) && needs (looks e) (target_looks t) p q) || (links (target_looks t p) q && needs (looks e) (target_looks t) p q)) ≡ needs (looks e) (target_looks t) p q
needed_there e t p q = needed_at (target_looks t p) (looks e q) p q

-- nothing is changed between edition 0 and a target without pages
pub nothing_changed : changed_paths fin.empty fin.empty ≡ []
unfolding IsStrictlySortedBy
nothing_changed = sym (exact fin.empty fin.empty [] tt (λ q.
    ap (λ o. not (option_eq same_look (option_map (λ page. page.look) o) None)) (sym (fin.get-empty {X = Page} text_cmp q))
    ∙ ap (λ o. not (option_eq same_look (looks fin.empty q) o)) (sym (fin.get-empty {X = Look} text_cmp q))))

-- a target without pages is sound
module _ (t : Aim) (pages : List (Path × Arc Look Global)) (is : t.pages ≡ fin.from_sorted (looks_by_path pages)) (empty : pages ≡ []) where
  no_page : (p : Path) → target_looks t.pages p ≡ None
  no_page p =
      ap (λ m. fin.get m p) is
      ∙ ap (λ ps. fin.get (fin.from_sorted {R = text_cmp} (looks_by_path ps)) p) empty
      ∙ fin.get-from_sorted text_cmp [] p tt

  pub no_page_sound : IsSound (target_looks t.pages)
  no_page_sound = record {
    leads = λ p q h. absurd (true≢false (sym h ∙ ap (λ o. links o q) (no_page p)));
    agrees = λ p q. ap (λ o. clash o (target_looks t.pages q)) (no_page p);
  }
