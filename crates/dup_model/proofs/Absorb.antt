-- A bundle of paths makes the edition that the target is at those paths.
use Rattle.std.proofs.Common.{◌≡◌, ℕ, Bool, true, false, cond, ◌||◌, ◌&&◌, List, [], ◌∷◌, Option, Some, None, refl, ap, ◌∙◌}
use Rattle.std.specs.List.{fold, filter, filter_map}
use Rattle.std.specs.Option.{is_none, option_map, option_or}
use Rattle.std.specs.Ordering.{eq_by_cmp}
use Rattle.std.specs.Cmp.{Equal-is}
use Rattle.std.specs.Cmp.Lexicographic.{nat_list_cmp_total}
use Rattle.std.specs.FinMap as fin
use Rattle.dup_names.specs.Words.{Path}
use Rattle.dup_names.specs.declared.value.Look.{Look}
use Rattle.dup_model.specs.Editions.{Page, Edition, looks, target_looks, put_page, drop_path, absorb, page_at, bundle_of, has}
use Rattle.dup_model.specs.Needs.{mixed}
use Rattle.dup_names.specs.Order.{text_cmp}
use Rattle.dup_model.specs.Pages.{Target}
use Rattle.dup_model.specs.Commits.{Commit}

-- two paths that tie are one
same_path : (p q : Path) → eq_by_cmp text_cmp p q ≡ true → p ≡ q
same_path p q tie = fin.slice_cmp-IsAntisymmetric fin.nat_cmp-IsAntisymmetric p q ((Equal-is _).0 tie)

get_after_put : (e : Edition) (page : Page) (q : Path) → fin.get (put_page e page) q ≡ cond (eq_by_cmp text_cmp q page.path) (Some page) (fin.get e q)
get_after_put e page q = fin.get-insert nat_list_cmp_total e page.path page q

get_after_drop : (e : Edition) (p q : Path) → fin.get (drop_path e p) q ≡ cond (eq_by_cmp text_cmp q p) None (fin.get e q)
get_after_drop e p q = fin.get-remove nat_list_cmp_total e p q

either : {A : Type 0} (a b : Bool) (x y : A) → cond b x (cond a x y) ≡ cond (a || b) x y
either true true x y = refl
either true false x y = refl
either false true x y = refl
either false false x y = refl

either_or : {A : Type 0} (a b : Bool) (x y : Option A) → cond b (option_or x (cond a (option_or x y) y)) (cond a (option_or x y) y) ≡ cond (a || b) (option_or x y) y
either_or true true None y = refl
either_or true true (Some x) y = refl
either_or true false x y = refl
either_or false true x y = refl
either_or false false x y = refl

get_after_drops : (ps : List Path) (e : Edition) (q : Path) → fin.get (fold drop_path e ps) q ≡ cond (has ps q) None (fin.get e q)
get_after_drops [] e q = refl
get_after_drops (p ∷ ps) e q = get_after_drops ps (drop_path e p) q ∙ rw (get_after_drop e p q) (either (eq_by_cmp text_cmp q p) (has ps q) None (fin.get e q))

-- what a put, if any, leaves
put_option : Edition → Option Page → Edition
put_option e None = e
put_option e (Some page) = put_page e page

module _ (t : Target) (version : ℕ) where
  put_step : (e : Edition) (p : Path) (ps : List Path) (found : Option Look) → fin.get t p ≡ found →
      fold put_page e (filter_map (page_at t version) (p ∷ ps)) ≡ fold put_page (put_option e (page_at t version p)) (filter_map (page_at t version) ps)
  unfolding put_option
  put_step e p ps None is = rw is
  put_step e p ps (Some look) is = rw is

  get_put_option : (e : Edition) (p q : Path) (found : Option Look) → fin.get t p ≡ found → (tie : Bool) → eq_by_cmp text_cmp q p ≡ tie →
      fin.get (put_option e (page_at t version p)) q ≡ cond tie (option_or (page_at t version q) (fin.get e q)) (fin.get e q)
  unfolding put_option
  get_put_option e p q None is true tie = rw (same_path q p tie, is)
  get_put_option e p q None is false tie = rw is
  get_put_option e p q (Some look) is true tie = rw is (get_after_put e _ q ∙ rw (tie, same_path q p tie, is))
  get_put_option e p q (Some look) is false tie = rw is (get_after_put e _ q ∙ rw tie)

  get_after_puts : (ps : List Path) (e : Edition) (q : Path) →
      fin.get (fold put_page e (filter_map (page_at t version) ps)) q ≡ cond (has ps q) (option_or (page_at t version q) (fin.get e q)) (fin.get e q)
  get_after_puts [] e q = refl
  get_after_puts (p ∷ ps) e q =
      ap (λ m. fin.get m q) (put_step e p ps (fin.get t p) refl)
      ∙ get_after_puts ps (put_option e (page_at t version p)) q
      ∙ rw (get_put_option e p q (fin.get t p) refl (eq_by_cmp text_cmp q p) refl) (either_or (eq_by_cmp text_cmp q p) (has ps q) (page_at t version q) (fin.get e q))

  and_false : (b : Bool) → (b && false) ≡ false
  and_false true = refl
  and_false false = refl

  has_drops_at : (p q : Path) (ps dropped : List Path) → has dropped q ≡ (has ps q && is_none (fin.get t q)) →
      (tie : Bool) → eq_by_cmp text_cmp q p ≡ tie → (none : Bool) → is_none (fin.get t p) ≡ none →
      has (cond none (p ∷ dropped) dropped) q ≡ ((tie || has ps q) && is_none (fin.get t q))
  has_drops_at p q ps dropped rest true is true none = rw (is, same_path q p is, none)
  has_drops_at p q ps dropped rest true is false none = rest ∙ rw (same_path q p is, none) (and_false (has ps p))
  has_drops_at p q ps dropped rest false is true none = rw is rest
  has_drops_at p q ps dropped rest false is false none = rest

  has_drops : (ps : List Path) (q : Path) → has (filter (λ r. is_none (fin.get t r)) ps) q ≡ (has ps q && is_none (fin.get t q))
  has_drops [] q = refl
  has_drops (p ∷ ps) q = has_drops_at p q ps _ (has_drops ps q) (eq_by_cmp text_cmp q p) refl (is_none (fin.get t p)) refl

  absorbed : (has_it : Bool) (version : ℕ) (q : Path) (found : Option Look) (before : Option Page) →
      cond (has_it && is_none found) None (cond has_it (option_or (option_map (λ look. record { path = q; version = version; look = look }) found) before) before)
      ≡ cond has_it (option_map (λ look. record { path = q; version = version; look = look }) found) before
  absorbed true version q None before = refl
  absorbed true version q (Some look) before = refl
  absorbed false version q found before = refl

  pub get_after_bundle : (e : Edition) (commits : List Commit) (ps : List Path) (q : Path) →
      fin.get (absorb e (bundle_of t version commits ps)) q ≡ cond (has ps q) (page_at t version q) (fin.get e q)
  get_after_bundle e commits ps q =
      get_after_drops (filter (λ r. is_none (fin.get t r)) ps) (fold put_page e (filter_map (page_at t version) ps)) q
      ∙ rw (has_drops ps q, get_after_puts ps e q) (absorbed (has ps q) version q (fin.get t q) (fin.get e q))

  look_of_page : (q : Path) (found : Option Look) → option_map (λ page. page.look) (option_map (λ look. let page : Page = record { path = q; version = version; look = look } in page) found) ≡ found
  look_of_page q None = refl
  look_of_page q (Some look) = refl

  look_of_cond : (b : Bool) (x y : Option Page) → option_map (λ page. page.look) (cond b x y) ≡ cond b (option_map (λ page. page.look) x) (option_map (λ page. page.look) y)
  look_of_cond true x y = refl
  look_of_cond false x y = refl

  pub looks_after_bundle : (e : Edition) (commits : List Commit) (ps : List Path) (q : Path) →
      looks (absorb e (bundle_of t version commits ps)) q ≡ mixed (has ps) (looks e) (target_looks t) q
  looks_after_bundle e commits ps q =
      ap (option_map (λ page. page.look)) (get_after_bundle e commits ps q)
      ∙ look_of_cond (has ps q) (page_at t version q) (fin.get e q)
      ∙ rw (look_of_page q (fin.get t q))
