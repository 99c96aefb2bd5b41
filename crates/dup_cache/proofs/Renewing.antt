-- Entries that have caught up with a log, bundle by bundle.
use Rattle.std.proofs.Common.{◌≡◌, ℕ, ◌<◌, ◌≤◌, nat_lt, Bool, true, false, not, ◌||◌, cond, List, [], ◌∷◌, map, filter, length, take, drop, Option, Some, None, refl, sym, ap, subst, ◌∙◌, arith, length-drop}
use Rattle.std.specs.Prelude.{bytes_eq, IfSome}
use Rattle.std.specs.List.{AllByRecursion, cons_option, filter_map, flat_map, fold, list_any}
use Rattle.std.specs.Cmp.Lexicographic.{nat_list_eq_equiv}
use Rattle.std.specs.FinMap as fin
use Rattle.std.proofs.lemmas.List.Folds.{list_any-append}
use Rattle.std.proofs.Math.Seq.{take-length}
use Rattle.std.proofs.lemmas.Slice.Eq.{bytes_eq-Decides}
use Rattle.dup_names.specs.Words.{Path}
use Rattle.dup_model.specs.Editions.{Bundle, Edition, Page, edition}
use Rattle.dup_model.specs.Caches.{Cache, caught_up, names}
use Rattle.dup_model.specs.declared.mode.Mode.TheVariants.{Invalidate, Update}
use Rattle.dup_edition.specs.Since.{IsSince}
use Rattle.dup_edition.specs.declared.edition.Changes.{Changes}
use Rattle.dup_edition.specs.declared.edition.Changes.TheVariants.{All, Named}
use Rattle.dup_cache.specs.Entries.{has_path, without}
use Rattle.dup_cache.specs.Holding.{AreOf}
use Rattle.dup_cache.specs.Renewing.{ArePlaced, asked, due, due_by, left_by, named, paths_of, renewed, unnamed}
use Rattle.dup_cache.proofs.Holding.{Placed, caught_up_holds, log_placed}

-- the path is one of these
abbrev among : Path → List Path → Bool
among p ps = list_any (bytes_eq p) ps

-- two tests, one after the other
twice : {X : Type 0} (f g : X → Bool) (xs : List X) → filter (λ x. not (g x)) (filter (λ x. not (f x)) xs) ≡ filter (λ x. not (f x || g x)) xs
twice f g [] = refl
twice f g (x ∷ xs) = elim (f x) as (λ b. filter (λ x. not (g x)) (cond (not b) (x ∷ filter (λ x. not (f x)) xs) (filter (λ x. not (f x)) xs)) ≡ cond (not (b || g x)) (x ∷ filter (λ x. not (f x || g x)) xs) (filter (λ x. not (f x || g x)) xs)) [
  | true ↦ twice f g xs
  | false ↦ ap (λ l. cond (not (g x)) (x ∷ l) l) (twice f g xs)
]

all_pass : {X : Type 0} (xs : List X) → xs ≡ filter (λ x. not false) xs
all_pass [] = refl
all_pass (x ∷ xs) = ap (λ l. x ∷ l) (all_pass xs)

same_filter : {X : Type 0} (f g : X → Bool) → ((x : X) → f x ≡ g x) → (xs : List X) → filter (λ x. not (f x)) xs ≡ filter (λ x. not (g x)) xs
same_filter f g same [] = refl
same_filter f g same (x ∷ xs) = rw (same x) (ap (λ l. cond (not (g x)) (x ∷ l) l) (same_filter f g same xs))

without_all : (paths : List Path) (pages : List Page) → fold without pages paths ≡ filter (λ page. not (among page.path paths)) pages
without_all [] pages = all_pass pages
without_all (p ∷ ps) pages = without_all ps (without pages p) ∙ twice (λ page. bytes_eq page.path p) (λ page. among page.path ps) pages

-- a path is among those of pages
among_paths : (p : Path) (pages : List Page) → among p (paths_of pages) ≡ list_any (λ page. bytes_eq page.path p) pages
among_paths p [] = refl
among_paths p (page ∷ pages) = λ i. nat_list_eq_equiv.symm p page.path i || among_paths p pages i

among_named : (p : Path) (b : Bundle) → among p (named b) ≡ names p b
among_named p b = list_any-append (bytes_eq p) (paths_of b.puts) b.drops ∙ ap (λ t. t || among p b.drops) (among_paths p b.puts)

among_all : (p : Path) (bundles : List Bundle) → among p (flat_map named bundles) ≡ list_any (names p) bundles
among_all p [] = refl
among_all p (b ∷ bundles) = list_any-append (bytes_eq p) (named b) (flat_map named bundles) ∙ (λ i. among_named p b i || among_all p bundles i)

pub unnamed_left : (bundles : List Bundle) (pages : List Page) → unnamed pages bundles ≡ filter (λ page. not (list_any (names page.path) bundles)) pages
unnamed_left bundles pages = without_all (flat_map named bundles) pages ∙ same_filter (λ page. among page.path (flat_map named bundles)) (λ page. list_any (names page.path) bundles) (λ page. among_all page.path bundles) pages

-- what is over 64 isn't named
over_64 : (n : ℕ) → 64 < n → nat_lt 64 n ≡ true
over_64 n over = grind arith

not_over : (n : ℕ) → n ≤ 64 → nat_lt 64 n ≡ false
not_over n few = grind arith

by_count : {X : Type 0} (n : ℕ) (x y : X) → 64 < n → cond (nat_lt 64 n) x y ≡ x
by_count n x y over = ap (λ b. cond b x y) (over_64 n over)

by_few : {X : Type 0} (n : ℕ) (x y : X) → n ≤ 64 → cond (nat_lt 64 n) x y ≡ y
by_few n x y few = ap (λ b. cond b x y) (not_over n few)

-- invalidation by changes is that of the definition
pub left_is : (log : List Bundle) (from : ℕ) (changes : Changes) (pages : List Page) → IsSince log from changes → left_by changes pages ≡ caught_up Invalidate (drop from log) (edition log) pages
left_is log from All pages since = sym (by_count _ _ _ (subst (λ n. 64 < n) (sym (length-drop from log)) since))
left_is log from (Named bundles) pages since =
    unnamed_left (map (λ r. r.value) bundles.now) pages
    ∙ ap (λ l. filter (λ page. not (list_any (names page.path) l)) pages) since.1
    ∙ sym (by_few _ _ _ (subst (λ n. n ≤ 64) (sym (length-drop from log)) since.0))

module _ (e : Edition) (placed : Placed e) where
  pub asked_placed : (paths : List Path) → ArePlaced (asked e paths)
  asked_placed [] = tt
  asked_placed (p ∷ ps) = ((elim (fin.get e p) as (λ o. fin.get e p ≡ o → IfSome o (λ page. page.path ≡ p)) [ None ↦ λ is. tt | Some page ↦ λ is. placed p page is ]) refl, asked_placed ps)

  -- an entry whose path is among these takes the edition's page
  abbrev taking : List Path → Page → Option Page
  taking paths page = cond (among page.path paths) (fin.get e page.path) (Some page)

  abbrev then_by : (Page → Option Page) → Option Page → Option Page
  then_by g None = None
  then_by g (Some page) = g page

  fused : (f g : Page → Option Page) (pages : List Page) → filter_map g (filter_map f pages) ≡ filter_map (λ page. then_by g (f page)) pages
  fused f g [] = refl
  fused f g (page ∷ pages) = elim (f page) as (λ o. filter_map g (cons_option o (filter_map f pages)) ≡ cons_option (then_by g o) (filter_map (λ page. then_by g (f page)) pages)) [
    | None ↦ fused f g pages
    | Some other ↦ ap (cons_option (g other)) (fused f g pages)
  ]

  same_maps : (f g : Page → Option Page) → (pages : List Page) → AllByRecursion (λ page. f page ≡ g page) pages → filter_map f pages ≡ filter_map g pages
  same_maps f g [] all = refl
  same_maps f g (page ∷ pages) all = λ i. cons_option (all.0 i) (same_maps f g pages all.1 i)

  each : {P : Page → Type 0} → ((page : Page) → P page) → (pages : List Page) → AllByRecursion P pages
  each h [] = tt
  each h (page ∷ pages) = (h page, each h pages)

  taken_again : (p : Path) (ps : List Path) (o : Option Page) → fin.get e p ≡ o → then_by (taking ps) o ≡ o
  taken_again p ps None is = refl
  taken_again p ps (Some page) is =
      (elim (among page.path ps) as (λ b. cond b (fin.get e page.path) (Some page) ≡ Some page) [
        | true ↦ ap (fin.get e) (placed p page is) ∙ is
        | false ↦ refl
      ])

  one_more : (p : Path) (ps : List Path) (page : Page) → then_by (taking ps) (cond (bytes_eq page.path p) (fin.get e p) (Some page)) ≡ taking (p ∷ ps) page
  one_more p ps page = (elim (bytes_eq page.path p) as (λ b. bytes_eq page.path p ≡ b → then_by (taking ps) (cond b (fin.get e p) (Some page)) ≡ cond (b || among page.path ps) (fin.get e page.path) (Some page)) [
    | true ↦ λ same. taken_again p ps (fin.get e p) refl ∙ ap (fin.get e) (sym ((bytes_eq-Decides page.path p).0 same))
    | false ↦ λ other. refl
  ]) refl

  all_stay : (pages : List Page) → pages ≡ filter_map (taking []) pages
  all_stay [] = refl
  all_stay (page ∷ pages) = ap (λ l. page ∷ l) (all_stay pages)

  renewed_all : (paths : List Path) (pages : List Page) → fold renewed pages (asked e paths) ≡ filter_map (taking paths) pages
  renewed_all [] pages = all_stay pages
  renewed_all (p ∷ ps) pages =
      renewed_all ps (renewed pages (p, fin.get e p))
      ∙ fused (λ page. cond (bytes_eq page.path p) (fin.get e p) (Some page)) (taking ps) pages
      ∙ same_maps _ (taking (p ∷ ps)) pages (each (one_more p ps) pages)

  -- an entry's path is among those of the entries
  own_among : (pages : List Page) (paths : List Path) → AllByRecursion (λ page. among page.path paths ≡ true) pages → AllByRecursion (λ page. taking paths page ≡ fin.get e page.path) pages
  own_among [] paths all = tt
  own_among (page ∷ pages) paths all = (ap (λ b. cond b (fin.get e page.path) (Some page)) all.0, own_among pages paths all.1)

  or_true : (a b : Bool) → b ≡ true → (a || b) ≡ true
  or_true true b is = refl
  or_true false b is = is

  more_among : (q : Path) (paths : List Path) (pages : List Page) → AllByRecursion (λ page. among page.path paths ≡ true) pages → AllByRecursion (λ page. among page.path (q ∷ paths) ≡ true) pages
  more_among q paths [] all = tt
  more_among q paths (page ∷ pages) all = (or_true (bytes_eq page.path q) _ all.0, more_among q paths pages all.1)

  all_among : (pages : List Page) → AllByRecursion (λ page. among page.path (paths_of pages) ≡ true) pages
  all_among [] = tt
  all_among (page ∷ pages) = (ap (λ b. b || among page.path (paths_of pages)) (nat_list_eq_equiv.refl page.path), more_among page.path (paths_of pages) pages (all_among pages))

  -- where each entry is asked for, each takes the edition's page
  pub all_renewed : (pages : List Page) → fold renewed pages (asked e (paths_of pages)) ≡ filter_map (λ page. fin.get e page.path) pages
  all_renewed pages = renewed_all (paths_of pages) pages ∙ same_maps (taking (paths_of pages)) (λ page. fin.get e page.path) pages (own_among pages (paths_of pages) (all_among pages))

  -- an entry is among the entries' paths that are named where it is named
  still_among : (has : Path → Bool) (q : Path) → has q ≡ true → (paths : List Path) → among q (filter has paths) ≡ among q paths
  still_among has q own [] = refl
  still_among has q own (p ∷ ps) = (elim (bytes_eq q p) as (λ b. bytes_eq q p ≡ b → among q (filter has (p ∷ ps)) ≡ (b || among q ps)) [
    | true ↦ λ same.
        let is : has p ≡ true = subst (λ r. has r ≡ true) ((bytes_eq-Decides q p).0 same) own in
        rw (is, same) refl
    | false ↦ λ other. (elim (has p) as (λ b. among q (cond b (p ∷ filter has ps) (filter has ps)) ≡ among q ps) [
      | true ↦ rw other (still_among has q own ps)
      | false ↦ still_among has q own ps
    ])
  ]) refl

  module _ (old : Edition) (bundles : List Bundle) (alone : (page : Page) → list_any (names page.path) bundles ≡ false → fin.get old page.path ≡ Some page → fin.get e page.path ≡ Some page) where
    takes : (all : List Page) (page : Page) → has_path all page.path ≡ true → fin.get old page.path ≡ Some page → taking (filter (has_path all) (flat_map named bundles)) page ≡ fin.get e page.path
    takes all page own held =
        ap (λ b. cond b (fin.get e page.path) (Some page)) (still_among (has_path all) page.path own (flat_map named bundles) ∙ among_all page.path bundles)
        ∙ (elim (list_any (names page.path) bundles) as (λ b. list_any (names page.path) bundles ≡ b → cond b (fin.get e page.path) (Some page) ≡ fin.get e page.path) [
          | true ↦ λ is. refl
          | false ↦ λ is. sym (alone page is held)
        ]) refl

    each_takes : (all pages : List Page) → AllByRecursion (λ page. has_path all page.path ≡ true) pages → AreOf old pages →
        AllByRecursion (λ page. taking (filter (has_path all) (flat_map named bundles)) page ≡ fin.get e page.path) pages
    each_takes all [] own held = tt
    each_takes all (page ∷ pages) own held = (takes all page own.0 held.0, each_takes all pages own.1 held.1)

    has_own : (pages : List Page) → AllByRecursion (λ page. has_path pages page.path ≡ true) pages
    has_own pages = from_among pages (all_among pages)
      where
        from_among : (ps : List Page) → AllByRecursion (λ page. among page.path (paths_of pages) ≡ true) ps → AllByRecursion (λ page. has_path pages page.path ≡ true) ps
        from_among [] all = tt
        from_among (page ∷ ps) all = (sym (among_paths page.path pages) ∙ all.0, from_among ps all.1)

    -- where the entries are the old edition's, those that no bundle names stay as they are
    pub named_renewed : (pages : List Page) → AreOf old pages → fold renewed pages (due e pages (flat_map named bundles)) ≡ filter_map (λ page. fin.get e page.path) pages
    named_renewed pages held =
        renewed_all (filter (has_path pages) (flat_map named bundles)) pages
        ∙ same_maps (taking (filter (has_path pages) (flat_map named bundles))) (λ page. fin.get e page.path) pages (each_takes pages pages (has_own pages) held)

-- an entry that none of the last bundles names is the newest edition's
alone : (log : List Bundle) (from : ℕ) (page : Page) → from ≤ length log → length (drop from log) ≤ 64 → list_any (names page.path) (drop from log) ≡ false →
    fin.get (edition (take from log)) page.path ≡ Some page → fin.get (edition log) page.path ≡ Some page
alone log from page within few none held =
    let cache : Cache = record { capacity = 1; mode = Invalidate; number = from; entries = page ∷ [] } in
    let holds = (caught_up_holds log cache (record { within = within; pages = (held, tt) })).pages in
    let test : nat_lt 64 (length (drop from log)) ≡ false = not_over _ few in
    let left = rw (test, none) at holds in
    ap (λ l. fin.get (edition l) page.path) (sym (take-length log)) ∙ left.0

-- an update by changes is that of the definition
pub renewed_is : (log : List Bundle) (from : ℕ) (changes : Changes) (pages : List Page) → from ≤ length log → IsSince log from changes → AreOf (edition (take from log)) pages →
    fold renewed pages (due_by changes (edition log) pages) ≡ caught_up Update (drop from log) (edition log) pages
renewed_is log from All pages within since held = all_renewed (edition log) (log_placed log) pages
renewed_is log from (Named bundles) pages within since held =
    ap (λ l. fold renewed pages (due (edition log) pages (flat_map named l))) since.1
    ∙ named_renewed (edition log) (log_placed log) (edition (take from log)) (drop from log)
    (λ page. alone log from page within (subst (λ n. n ≤ 64) (sym (length-drop from log)) since.0)) pages held

-- what becomes of entries stands under their paths
pub due_placed : (log : List Bundle) (changes : Changes) (pages : List Page) → ArePlaced (due_by changes (edition log) pages)
due_placed log All pages = asked_placed (edition log) (log_placed log) (paths_of pages)
due_placed log (Named bundles) pages = asked_placed (edition log) (log_placed log) (filter (has_path pages) (flat_map named (map (λ r. r.value) bundles.now)))
