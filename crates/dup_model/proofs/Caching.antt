-- A cache holds its edition's pages.
use Rattle.std.proofs.Common.{◌≡◌, ℕ, zero, suc, ◌<◌, ◌≤◌, inl, inr, Bool, true, false, not, ◌||◌, cond, List, [], ◌∷◌, Option, Some, None, length, take, drop, refl, sym, ap, subst, ◌∙◌, arith, nat_lt, nat_le}
use Rattle.std.specs.Prelude.{bytes_eq}
use Rattle.std.specs.List.{fold, filter, filter_map, find, list_any, AllByRecursion, cons_option}
use Rattle.std.specs.Ordering.{eq_by_cmp}
use Rattle.std.proofs.lemmas.Bool.{true≢false, cases_Bool, ltb-true, ltb-false, leb-true}
use Rattle.std.proofs.lemmas.Option.{none-some}
use Rattle.std.proofs.lemmas.Slice.Eq.{bytes_eq-Decides}
use Rattle.std.proofs.lemmas.List.{take-append-drop}
use Rattle.std.proofs.lemmas.List.Sums.{fold-append}
use Rattle.std.proofs.Math.Seq.{take-length}
use Rattle.std.specs.Cmp.Lexicographic.{nat_list_cmp_total}
use Rattle.std.specs.FinMap as fin
use Rattle.dup_model.specs.declared.mode.Mode.TheVariants.{Invalidate, Update}
use Rattle.dup_model.specs.Answers.How.{Hit}
use Rattle.dup_model.specs.Answers.Reply.{Found, Absent, Ahead}
use Rattle.dup_model.proofs.Reached.{tie_same}
use Rattle.dup_names.specs.Words.{Path}
use Rattle.dup_model.specs.Editions.{Page, Edition, Bundle, edition, absorb, put_page, drop_path}
use Rattle.dup_names.specs.Order.{text_cmp}
use Rattle.dup_model.specs.Caches.{Cache, names, caught_up, catch_up, entry, with_first}
use Rattle.dup_model.specs.declared.mode.Mode.{Mode}
use Rattle.dup_model.specs.Serving.{HoldsPagesOf, IsTrueReply, GoodLogsPlacePages, CatchingUpHolds, AnswersAreTrue, EvictingHolds}
use Rattle.dup_model.specs.Answers.{Reply, Answer, missed, after_refresh, refreshed, answer_at, answer}

or_parts_false : (a b : Bool) → (a || b) ≡ false → (a ≡ false) × (b ≡ false)
or_parts_false true b h = absurd (true≢false h)
or_parts_false false b h = (refl, h)

-- a key that a path isn't leaves it alone
no_tie : (q p : Path) → bytes_eq p q ≡ false → eq_by_cmp text_cmp q p ≡ false
no_tie q p other = elim (cases_Bool (eq_by_cmp text_cmp q p)) [
  | inl tie ↦ absurd (true≢false (sym ((bytes_eq-Decides p q).1 (sym (tie_same q p tie))) ∙ other))
  | inr apart ↦ apart
]

no_tie_back : (q p : Path) → bytes_eq q p ≡ false → eq_by_cmp text_cmp q p ≡ false
no_tie_back q p other = elim (cases_Bool (eq_by_cmp text_cmp q p)) [
  | inl tie ↦ absurd (true≢false (sym ((bytes_eq-Decides q p).1 (tie_same q p tie)) ∙ other))
  | inr apart ↦ apart
]

puts_keep : (pages : List Page) (e : Edition) (q : Path) → list_any (λ page. bytes_eq page.path q) pages ≡ false → fin.get (fold put_page e pages) q ≡ fin.get e q
puts_keep [] e q none = refl
puts_keep (page ∷ pages) e q none =
    let parts : (bytes_eq page.path q ≡ false) × (list_any (λ page. bytes_eq page.path q) pages ≡ false) = or_parts_false _ _ none in
    puts_keep pages (put_page e page) q parts.1 ∙ fin.get-insert nat_list_cmp_total e page.path page q ∙ rw (no_tie q page.path parts.0)

drops_keep : (ps : List Path) (e : Edition) (q : Path) → list_any (bytes_eq q) ps ≡ false → fin.get (fold drop_path e ps) q ≡ fin.get e q
drops_keep [] e q none = refl
drops_keep (p ∷ ps) e q none =
    let parts : (bytes_eq q p ≡ false) × (list_any (bytes_eq q) ps ≡ false) = or_parts_false _ _ none in
    drops_keep ps (drop_path e p) q parts.1 ∙ fin.get-remove nat_list_cmp_total e p q ∙ rw (no_tie_back q p parts.0)

absorb_keeps : (b : Bundle) (e : Edition) (q : Path) → names q b ≡ false → fin.get (absorb e b) q ≡ fin.get e q
absorb_keeps b e q none =
    let parts : (list_any (λ page. bytes_eq page.path q) b.puts ≡ false) × (list_any (bytes_eq q) b.drops ≡ false) = or_parts_false _ _ none in
    drops_keep b.drops _ q parts.1 ∙ puts_keep b.puts e q parts.0

-- bundles that don't name a path leave its page
unnamed : (bundles : List Bundle) (e : Edition) (q : Path) → list_any (names q) bundles ≡ false → fin.get (fold absorb e bundles) q ≡ fin.get e q
unnamed [] e q none = refl
unnamed (b ∷ bundles) e q none =
    let parts : (names q b ≡ false) × (list_any (names q) bundles ≡ false) = or_parts_false _ _ none in
    unnamed bundles (absorb e b) q parts.1 ∙ absorb_keeps b e q parts.0

-- each entry is its path's page in e
pub AreOf : Edition → List Page → Type 0
AreOf e pages = AllByRecursion (λ page. fin.get e page.path ≡ Some page) pages

pub record IsCacheOf (log : List Bundle) (cache : Cache) : Type 0 where
  pub within : cache.number ≤ length log
  pub pages : AreOf (edition (take cache.number log)) cache.entries

module _ (e : Edition) where
  pub none_of : AreOf e []
  unfolding AreOf
  none_of = tt

  pub filter_of : (f : Page → Bool) (pages : List Page) → AreOf e pages → AreOf e (filter f pages)
  unfolding AreOf
  filter_of f [] all = tt
  filter_of f (page ∷ pages) all = by_test (f page)
      (filter_of f pages all.1)
    where
      by_test : (b : Bool) → AllByRecursion (λ page. fin.get e page.path ≡ Some page) (filter f pages) → AllByRecursion (λ page. fin.get e page.path ≡ Some page) (cond b (page ∷ filter f pages) (filter f pages))
      by_test true rest = (all.0, rest)
      by_test false rest = rest

  take_of : (n : ℕ) (pages : List Page) → AreOf e pages → AreOf e (take n pages)
  unfolding AreOf
  take_of zero pages all = tt
  take_of (suc n) [] all = tt
  take_of (suc n) (page ∷ pages) all = (all.0, take_of n pages all.1)

  cons_of : (page : Page) (pages : List Page) → fin.get e page.path ≡ Some page → AreOf e pages → AreOf e (page ∷ pages)
  unfolding AreOf
  cons_of page pages h all = (h, all)

  -- what a look through the entries finds is the edition's page
  find_of : (path : Path) (pages : List Page) (page : Page) → AreOf e pages → find (λ page. bytes_eq page.path path) pages ≡ Some page → fin.get e path ≡ Some page
  unfolding AreOf
  find_of path [] page all is = absurd (none-some page is)
  find_of path (first ∷ pages) page all is = by_test (bytes_eq first.path path) refl (λ later. find_of path pages page all.1 later) is
    where
      by_test : (b : Bool) → bytes_eq first.path path ≡ b → (find (λ page. bytes_eq page.path path) pages ≡ Some page → fin.get e path ≡ Some page) →
          cond b (Some first) (find (λ page. bytes_eq page.path path) pages) ≡ Some page → fin.get e path ≡ Some page
      by_test true same later is = ap (fin.get e) (sym ((bytes_eq-Decides first.path path).0 same)) ∙ all.0 ∙ is
      by_test false other later is = later is

  -- the edition's own pages at the entries' paths
  update_of : ((p : Path) (page : Page) → fin.get e p ≡ Some page → page.path ≡ p) → (pages : List Page) → AreOf e (filter_map (λ page. fin.get e page.path) pages)
  unfolding AreOf
  update_of placed [] = tt
  update_of placed (page ∷ pages) = with_next (fin.get e page.path) refl (update_of placed pages)
    where
      with_next : (o : Option Page) → fin.get e page.path ≡ o → AllByRecursion (λ page. fin.get e page.path ≡ Some page) (filter_map (λ page. fin.get e page.path) pages) →
          AllByRecursion (λ page. fin.get e page.path ≡ Some page) (cons_option o (filter_map (λ page. fin.get e page.path) pages))
      with_next None is rest = rest
      with_next (Some other) is rest = (ap (fin.get e) (placed page.path other is) ∙ is, rest)

  first_of : (page : Page) (cache : Cache) → fin.get e page.path ≡ Some page → AreOf e cache.entries → AreOf e (with_first page cache).entries
  first_of page cache h all = take_of cache.capacity _ (cons_of page _ h (filter_of (λ other. not (bytes_eq other.path page.path)) cache.entries all))

-- entries that no bundle names stay right
kept_of : (e : Edition) (bundles : List Bundle) (pages : List Page) → AreOf e pages → AreOf (fold absorb e bundles) (filter (λ page. not (list_any (names page.path) bundles)) pages)
unfolding AreOf
kept_of e bundles [] all = tt
kept_of e bundles (page ∷ pages) all = by_test (list_any (names page.path) bundles) refl (kept_of e bundles pages all.1)
  where
    by_test : (b : Bool) → list_any (names page.path) bundles ≡ b →
        AllByRecursion (λ page. fin.get (fold absorb e bundles) page.path ≡ Some page) (filter (λ page. not (list_any (names page.path) bundles)) pages) →
        AllByRecursion (λ page. fin.get (fold absorb e bundles) page.path ≡ Some page) (cond (not b) (page ∷ filter (λ page. not (list_any (names page.path) bundles)) pages) (filter (λ page. not (list_any (names page.path) bundles)) pages))
    by_test true named rest = rest
    by_test false none rest = (unnamed bundles e page.path none ∙ all.0, rest)

unfoldable pub Placed : Edition → Type 0
Placed e = (p : Path) (page : Page) → fin.get e p ≡ Some page → page.path ≡ p

caught_up_of : (mode : Mode) (e : Edition) (bundles : List Bundle) (last : Edition) → fold absorb e bundles ≡ last → Placed last → (pages : List Page) → AreOf e pages → AreOf last (caught_up mode bundles last pages)
unfolding Placed
caught_up_of Invalidate e bundles last is placed pages all = by_many (nat_lt 64 (length bundles))
  where
    by_many : (b : Bool) → AreOf last (cond b [] (filter (λ page. not (list_any (names page.path) bundles)) pages))
    by_many true = none_of last
    by_many false = subst (λ last. AreOf last (filter (λ page. not (list_any (names page.path) bundles)) pages)) is (kept_of e bundles pages all)
caught_up_of Update e bundles last is placed pages all = update_of last placed pages

-- what a fair reply is
unfoldable pub FairReply : List Bundle → ℕ → Path → Reply → Type 0
FairReply log pass path (Found e page how) = (pass ≤ e) × (e ≤ length log) × (fin.get (edition (take e log)) path ≡ Some page)
FairReply log pass path (Absent e) = (pass ≤ e) × (e ≤ length log) × (fin.get (edition (take e log)) path ≡ None)
FairReply log pass path (Ahead named e) = (named ≡ pass) × (e ≡ length log) × (e < pass)

module _ (log : List Bundle) (placed : (k : ℕ) → k ≤ length log → Placed (edition (take k log))) where
  pub catch_up_of : (cache : Cache) → IsCacheOf log cache → IsCacheOf log (catch_up log cache)
  catch_up_of cache is = record {
    within = omega arith;
    pages = subst (λ l. AreOf (edition l) (caught_up cache.mode (drop cache.number log) (edition log) cache.entries)) (sym (take-length log))
        (caught_up_of cache.mode (edition (take cache.number log)) (drop cache.number log) (edition log)
        (sym (fold-append absorb fin.empty (take cache.number log) (drop cache.number log)) ∙ ap edition (take-append-drop cache.number log))
        (subst (λ l. Placed (edition l)) (take-length log) (placed (length log) (omega arith))) cache.entries is.pages);
  }

  unfoldable pub IsAnswer : ℕ → Path → Answer → Type 0
  IsAnswer pass path a = IsCacheOf log a.cache × FairReply log pass path a.reply

  hit : (cache : Cache) → IsCacheOf log cache → (pass : ℕ) (path : Path) (page : Page) → pass ≤ cache.number → entry cache path ≡ Some page →
      IsAnswer pass path (record { reply = Found cache.number page Hit; cache = with_first page cache })
  unfolding IsAnswer FairReply Placed
  hit cache is pass path page reaches found =
      let at : fin.get (edition (take cache.number log)) path ≡ Some page = find_of (edition (take cache.number log)) path cache.entries page is.pages found in
      let own : page.path ≡ path = placed cache.number is.within path page at in (
        record { within = is.within; pages = first_of (edition (take cache.number log)) page cache (ap (fin.get (edition (take cache.number log))) own ∙ at) is.pages },
        (reaches, is.within, at),
      )

  miss : (cache : Cache) → IsCacheOf log cache → (pass : ℕ) (path : Path) (kept : Bool) (o : Option Page) → pass ≤ cache.number → fin.get (edition (take cache.number log)) path ≡ o → IsAnswer pass path (missed cache kept o)
  unfolding IsAnswer FairReply Placed
  miss cache is pass path kept None reaches at = (is, (reaches, is.within, at))
  miss cache is pass path true (Some page) reaches at = (
    record { within = is.within; pages = first_of (edition (take cache.number log)) page cache (ap (fin.get (edition (take cache.number log))) (placed cache.number is.within path page at) ∙ at) is.pages },
    (reaches, is.within, at),
  )
  miss cache is pass path false (Some page) reaches at = (is, (reaches, is.within, at))

  refresh : (cache : Cache) → IsCacheOf log cache → cache.number ≡ length log → (pass : ℕ) (path : Path) (kept : Bool) → IsAnswer pass path (refreshed cache (edition log) pass path kept)
  unfolding IsAnswer FairReply
  refresh cache is newest pass path kept = by_pass (nat_lt cache.number pass) refl
    where
      by_entry : pass ≤ cache.number → (o : Option Page) → entry cache path ≡ o → IsAnswer pass path (after_refresh cache (edition log) path kept o)
      by_entry reaches (Some page) found = hit cache is pass path page reaches found
      by_entry reaches None found = miss cache is pass path kept (fin.get (edition log) path) reaches
          (ap (λ l. fin.get (edition l) path) (ap (λ n. take n log) newest ∙ take-length log))

      by_pass : (b : Bool) → nat_lt cache.number pass ≡ b →
          IsAnswer pass path (cond b (record { reply = Ahead pass cache.number; cache = cache }) (after_refresh cache (edition log) path kept (entry cache path)))
      by_pass true ahead = (is, (refl, newest, ltb-true _ _ ahead))
      by_pass false reaches = by_entry (ltb-false _ _ reaches) (entry cache path) refl

  pub answer_of : (cache : Cache) → IsCacheOf log cache → (pass : ℕ) (path : Path) (kept : Bool) → IsAnswer pass path (answer cache log pass path kept)
  answer_of cache is pass path kept = by_pass (nat_le pass cache.number) refl
    where
      by_entry : pass ≤ cache.number → (o : Option Page) → entry cache path ≡ o → IsAnswer pass path (answer_at cache log pass path kept o)
      by_entry reaches (Some page) found = hit cache is pass path page reaches found
      by_entry reaches None found = refresh (catch_up log cache) (catch_up_of cache is) refl pass path kept

      by_pass : (b : Bool) → nat_le pass cache.number ≡ b → IsAnswer pass path (answer_at cache log pass path kept (cond b (entry cache path) None))
      by_pass true reaches = by_entry (leb-true _ _ reaches) (entry cache path) refl
      by_pass false behind = refresh (catch_up log cache) (catch_up_of cache is) refl pass path kept

-- the same in the words of the definitions
to_words : (log : List Bundle) (cache : Cache) → IsCacheOf log cache → HoldsPagesOf log cache
unfolding AreOf
to_words log cache is = record { within = is.within; pages = is.pages }

from_words : (log : List Bundle) (cache : Cache) → HoldsPagesOf log cache → IsCacheOf log cache
unfolding AreOf
from_words log cache is = record { within = is.within; pages = is.pages }

true_reply : (log : List Bundle) (pass : ℕ) (path : Path) (r : Reply) → FairReply log pass path r → IsTrueReply log pass path r
unfolding FairReply
true_reply log pass path (Found e page how) h = h
true_reply log pass path (Absent e) h = h
true_reply log pass path (Ahead named e) h = h

pub good_logs_place : GoodLogsPlacePages
good_logs_place site log good k h p page is = ((good.consistent k h).rendered p page is).0

pub catching_up_holds : CatchingUpHolds
unfolding Placed
catching_up_holds log cache placed is = to_words log (catch_up log cache) (catch_up_of log placed cache (from_words log cache is))

pub answers_are_true : AnswersAreTrue
unfolding Placed IsAnswer
answers_are_true log cache pass path kept placed is =
    let a : IsAnswer log placed pass path (answer cache log pass path kept) = answer_of log placed cache (from_words log cache is) pass path kept in
    (to_words log (answer cache log pass path kept).cache a.0, true_reply log pass path (answer cache log pass path kept).reply a.1)

pub evicting_holds : EvictingHolds
evicting_holds log cache path is =
    let old : IsCacheOf log cache = from_words log cache is in
    to_words log (record cache { entries = filter (λ page. not (bytes_eq page.path path)) cache.entries })
    (record { within = old.within; pages = filter_of (edition (take cache.number log)) (λ page. not (bytes_eq page.path path)) cache.entries old.pages })
