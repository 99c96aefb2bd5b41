-- What a node answers, by what its calls of cache and window gave.
use Rattle.std.proofs.Common.{◌≡◌, ℕ, ◌≤◌, nat_lt, Bool, true, false, ◌||◌, cond, List, [], ◌∷◌, length, take, Option, Some, None, refl, sym, ap, subst, ◌∙◌, arith}
use Rattle.std.specs.Prelude.{bytes_eq, option_map}
use Rattle.std.specs.List.{find}
use Rattle.std.specs.FinMap as fin
use Rattle.std.specs.declared.alloc.Global.{Global}
use Rattle.std.specs.declared.sync.Arc.{Arc}
use Rattle.std.proofs.Math.Seq.{take-length}
use Rattle.std.proofs.lemmas.Bool.{true≢false}
use Rattle.std.proofs.lemmas.Slice.Eq.{bytes_eq-Decides}
use Rattle.dup_names.specs.Words.{Path}
use Rattle.dup_model.proofs.Caching.{answers_are_true}
use Rattle.dup_model.specs.Answers as answers
use Rattle.dup_model.specs.Answers.{Answer, after_refresh, answer, answer_at, missed, refreshed}
use Rattle.dup_model.specs.Caches.{Cache, catch_up, entry}
use Rattle.dup_model.specs.Editions.{Bundle, Edition, Page, edition}
use Rattle.dup_model.specs.Serving.{HoldsPagesOf, IsTrueReply}
use Rattle.dup_cache.proofs.Holding.{caught_up_holds, paths_are_places}
use Rattle.dup_cache.specs.Entries.{has_path, touched}
use Rattle.dup_cache.specs.Holding.{AreOf}
use Rattle.dup_cache.specs.declared.how.How.{How}
use Rattle.dup_cache.specs.declared.how.How.TheVariants.{Hit}
use Rattle.dup_node.specs.Replies.{Gives, IsAnswered, hit, how_told, is_kept, ready, reply_told, was_kept}
use Rattle.dup_node.specs.declared.reply.Reply.{Reply}
use Rattle.dup_node.specs.declared.reply.Reply.TheVariants.{Found, Absent}

-- an answer is true of the log, and the cache holds the log's pages
pub fair : (log : List Bundle) (old : Cache) (pass : ℕ) (path : Path) (reply : Reply) (new : Cache) → HoldsPagesOf log old → IsAnswered old log pass path reply new →
    IsTrueReply log pass path (reply_told reply) × HoldsPagesOf log new
fair log old pass path reply new holds is =
    let a = answers_are_true log old pass path (is_kept reply) (paths_are_places log) holds in
    (subst (IsTrueReply log pass path) (sym is.0) a.1, subst (HoldsPagesOf log) (sym is.1) a.0)

pub hit_number : (cache : Cache) (o : Option Page) → (hit cache o).number ≡ cache.number
hit_number cache None = refl
hit_number cache (Some page) = refl

-- an entry that is ready is answered at once
pub hit_answered : (log : List Bundle) (old : Cache) (pass : ℕ) (path : Path) (page : Arc Page Global) (number : ℕ) (new : Cache) →
    Some page.value ≡ ready old pass path → new ≡ hit old (ready old pass path) → number ≡ new.number → IsAnswered old log pass path (Found number page Hit) new
hit_answered log old pass path page number new found new-is number-is =
    let as_answer : answer_at old log pass path true (Some page.value) ≡ answer old log pass path true = ap (answer_at old log pass path true) found in
    let count : number ≡ old.number = number-is ∙ ap (λ (c : Cache). c.number) new-is ∙ hit_number old (ready old pass path) in (
      ap (λ n. answers.Reply.Found n page.value answers.How.Hit) count ∙ ap (λ a. a.reply) as_answer,
      new-is ∙ ap (hit old) (sym found) ∙ ap (λ a. a.cache) as_answer,
    )

find_none : (path : Path) (es : List Page) → has_path es path ≡ false → find (λ page. bytes_eq page.path path) es ≡ None
find_none path [] h = refl
find_none path (page ∷ es) h = (elim (bytes_eq page.path path) as (λ b. (b || has_path es path) ≡ false → cond b (Some page) (find (λ page. bytes_eq page.path path) es) ≡ None) [
  | true ↦ λ t. absurd (true≢false t)
  | false ↦ λ t. find_none path es t
]) h

none_has : (path : Path) (es : List Page) → find (λ page. bytes_eq page.path path) es ≡ None → has_path es path ≡ false
none_has path [] h = refl
none_has path (page ∷ es) h = (elim (bytes_eq page.path path) as (λ b. cond b (Some page) (find (λ page. bytes_eq page.path path) es) ≡ None → (b || has_path es path) ≡ false) [
  | true ↦ λ t. absurd (cc)
  | false ↦ λ t. none_has path es t
]) h

-- what a look through the edition's pages finds is the edition's
find_held : (e : Edition) (path : Path) (es : List Page) (page : Page) → AreOf e es → find (λ page. bytes_eq page.path path) es ≡ Some page → fin.get e path ≡ Some page
find_held e path [] page held is = absurd (cc)
find_held e path (first ∷ es) page held is = (elim (bytes_eq first.path path) as (λ b. bytes_eq first.path path ≡ b → cond b (Some first) (find (λ page. bytes_eq page.path path) es) ≡ Some page → fin.get e path ≡ Some page) [
  | true ↦ λ t h. ap (fin.get e) (sym ((bytes_eq-Decides first.path path).0 t)) ∙ held.0 ∙ h
  | false ↦ λ t h. find_held e path es page held.1 h
]) refl is

module _ (cache : Cache) (e : Edition) (path : Path) (held : AreOf e cache.entries) where
  lacks_entry : (o : Option Page) → entry cache path ≡ o → None ≡ fin.get e path → o ≡ None
  lacks_entry None is none = refl
  lacks_entry (Some page) is none = absurd (let found : fin.get e path ≡ Some page = find_held e path cache.entries page held is in let both : None ≡ Some page = none ∙ found in cc)

  not_ahead : (pass : ℕ) (kept : Bool) → pass ≤ cache.number → after_refresh cache e path kept (entry cache path) ≡ refreshed cache e pass path kept
  not_ahead pass kept reaches =
      let test : nat_lt cache.number pass ≡ false = grind arith in
      ap (λ b. cond b (let a : Answer = record { reply = answers.Reply.Ahead pass cache.number; cache = cache } in a) (after_refresh cache e path kept (entry cache path))) (sym test)

  -- neither entry nor page
  pub absent_given : (pass number : ℕ) → number ≡ cache.number → pass ≤ number → None ≡ fin.get e path → Gives (refreshed cache e pass path true) (Absent number) cache
  absent_given pass number number-is reaches none =
      let reached : pass ≤ cache.number = subst (λ n. pass ≤ n) number-is reaches in
      let as_answer : missed cache true None ≡ refreshed cache e pass path true =
      ap (missed cache true) none
      ∙ ap (after_refresh cache e path true) (sym (lacks_entry (entry cache path) refl none))
      ∙ not_ahead pass true reached in
      (ap answers.Reply.Absent number-is ∙ ap (λ a. a.reply) as_answer, ap (λ a. a.cache) as_answer)

  -- a page, by what is said of it where the cache isn't ahead
  pub found_given : (pass number : ℕ) (reply : Reply) (new : Cache) → number ≡ cache.number → pass ≤ number → Gives (after_refresh cache e path (is_kept reply) (entry cache path)) reply new →
      Gives (refreshed cache e pass path (is_kept reply)) reply new
  found_given pass number reply new number-is reaches given = subst (λ a. Gives a reply new) (not_ahead pass (is_kept reply) (subst (λ n. pass ≤ n) number-is reaches)) given

  by_entry : (page : Arc Page Global) (number : ℕ) → number ≡ cache.number → Some page.value ≡ fin.get e path → (o : Option Page) → entry cache path ≡ o → has_path cache.entries path ≡ true →
      Gives (after_refresh cache e path true o) (Found number page Hit) (hit cache o)
  by_entry page number number-is is None none has = absurd (true≢false (sym has ∙ none_has path cache.entries none))
  by_entry page number number-is is (Some other) found has =
      let both : Some page.value ≡ Some other = is ∙ find_held e path cache.entries other held found in
      let same : page.value ≡ other = cc in
      ((λ i. answers.Reply.Found (number-is i) (same i) answers.How.Hit), refl)

  -- the page is an entry
  pub hit_given : (page : Arc Page Global) (number : ℕ) (new : Cache) → number ≡ cache.number → Some page.value ≡ fin.get e path → has_path cache.entries path ≡ true → new ≡ touched path cache →
      Gives (after_refresh cache e path true (entry cache path)) (Found number page Hit) new
  hit_given page number new number-is is has new-is =
      let given : Gives (after_refresh cache e path true (entry cache path)) (Found number page Hit) (hit cache (entry cache path)) = by_entry page number number-is is (entry cache path) refl has in
      (given.0, new-is ∙ given.1)

  -- the page is none
  pub miss_given : (page : Arc Page Global) (how : How) (number : ℕ) (then new : Cache) → number ≡ cache.number → Some page.value ≡ fin.get e path → has_path cache.entries path ≡ false → then ≡ touched path cache →
      (missed then (was_kept how) (Some page.value)).reply ≡ answers.Reply.Found then.number page.value (how_told how) → new ≡ (missed then (was_kept how) (Some page.value)).cache →
      Gives (after_refresh cache e path (was_kept how) (entry cache path)) (Found number page how) new
  miss_given page how number then new number-is is lacks then-is reply-is new-is =
      let none : entry cache path ≡ None = find_none path cache.entries lacks in
      let same : then ≡ cache = then-is ∙ ap (hit cache) none in
      let as_answer : missed then (was_kept how) (Some page.value) ≡ after_refresh cache e path (was_kept how) (entry cache path) =
      (λ i. missed (same i) (was_kept how) (is i)) ∙ ap (after_refresh cache e path (was_kept how)) (sym none) in (
        ap (λ n. answers.Reply.Found n page.value (how_told how)) (number-is ∙ sym (ap (λ (c : Cache). c.number) same)) ∙ sym reply-is ∙ ap (λ a. a.reply) as_answer,
        new-is ∙ ap (λ a. a.cache) as_answer,
      )

-- where no entry is ready, the answer of the cache that has caught up is the request's
pub served : (log : List Bundle) (old then caught new : Cache) (pass : ℕ) (path : Path) (found : Option (Arc Page Global)) (page : Option (Arc Page Global)) (reply : Reply) → HoldsPagesOf log old →
    found ≡ None → option_map (λ p. p.value) found ≡ ready old pass path → then ≡ hit old (ready old pass path) → (HoldsPagesOf log then → caught ≡ catch_up log then) →
    option_map (λ p. p.value) page ≡ fin.get (edition log) path →
    ((e : Edition) → AreOf e caught.entries → option_map (λ p. p.value) page ≡ fin.get e path → Gives (refreshed caught e pass path (is_kept reply)) reply new) →
    IsAnswered old log pass path reply new
served log old then caught new pass path found page reply holds none found-is then-is caught-is page-is gives =
    let unready : ready old pass path ≡ None = sym found-is ∙ ap (option_map (λ p. p.value)) none in
    let same : then ≡ old = then-is ∙ ap (hit old) unready in
    let caught-up : caught ≡ catch_up log old = caught-is (subst (HoldsPagesOf log) (sym same) holds) ∙ ap (catch_up log) same in
    let held : AreOf (edition (take (length log) log)) (catch_up log old).entries = (caught_up_holds log old holds).pages in
    let newest : AreOf (edition log) caught.entries = subst (λ (c : Cache). AreOf (edition log) c.entries) (sym caught-up) (subst (λ l. AreOf (edition l) (catch_up log old).entries) (take-length log) held) in
    subst (λ a. Gives a reply new)
    (ap (λ c. refreshed c (edition log) pass path (is_kept reply)) caught-up ∙ ap (answer_at old log pass path (is_kept reply)) (sym unready))
    (gives (edition log) newest page-is)
