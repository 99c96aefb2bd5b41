-- The keys of each kind rise in each version.
use Rattle.std.proofs.Common.{◌≡◌, ℕ, zero, suc, Bool, true, false, not, cond, List, [], ◌∷◌, map, length, refl, sym, ap, subst, ◌∙◌}
use Rattle.std.specs.Prelude.{slice_set, slice_get}
use Rattle.std.specs.Option.{unwrap_or}
use Rattle.std.specs.List.{fold, filter, AllByRecursion}
use Rattle.std.specs.Ordering.{ordering_reverse}
use Rattle.std.specs.declared.cmp.Ordering.{Ordering}
use Rattle.std.specs.declared.cmp.Ordering.TheVariants.{Less, Equal, Greater}
use Rattle.std.specs.Cmp.Lexicographic.{nat_list_cmp_total}
use Rattle.std.specs.FinMap as fin
use Rattle.dup_names.specs.Order.{text_cmp}
use Rattle.dup_model.specs.declared.edit.Edit.{Edit}
use Rattle.dup_model.specs.declared.edit.Edit.TheVariants.{Put, Remove, Replace}
use Rattle.dup_names.specs.Words.{Word, same}
use Rattle.dup_model.specs.Content.{Content, Entry, Table, table}
use Rattle.dup_model.specs.Names.{kind_at}
use Rattle.dup_model.specs.Commits.{Commit, put_row, put_row_at, edited, after}
use Rattle.dup_model.specs.Content.{start}
use Rattle.dup_model.specs.Tables.{IsBelow, IsRising, TablesRise, VersionsRise, VersionsHaveTables}

pub below_more : (k l : Word) (es : Table) → text_cmp k l ≡ Less → IsBelow l es → IsBelow k es
below_more k l [] h all = tt
below_more k l (e ∷ es) h all = (nat_list_cmp_total.trans k l e.0 h all.0, below_more k l es h all.1)

below_put_at : (r : Ordering) (k : Word) (new e : Entry) (es rest : Table) → text_cmp k new.0 ≡ Less → IsBelow k (e ∷ es) → IsBelow k rest → IsBelow k (put_row_at r new e es rest)
below_put_at Less k new e es rest h all more = (h, all)
below_put_at Equal k new e es rest h all more = (h, all.1)
below_put_at Greater k new e es rest h all more = (all.0, more)

below_put : (k : Word) (new : Entry) (es : Table) → text_cmp k new.0 ≡ Less → IsBelow k es → IsBelow k (put_row new es)
below_put k new [] h all = (h, tt)
below_put k new (e ∷ es) h all = below_put_at (text_cmp new.0 e.0) k new e es (put_row new es) h all (below_put k new es h all.1)

pub equal_is : (a b : Word) → text_cmp a b ≡ Equal → a ≡ b
equal_is a b is = fin.slice_cmp-IsAntisymmetric fin.nat_cmp-IsAntisymmetric a b is

rising_put_at : (r : Ordering) (new e : Entry) (es rest : Table) → text_cmp new.0 e.0 ≡ r → IsRising (e ∷ es) → IsRising rest → (text_cmp e.0 new.0 ≡ Less → IsBelow e.0 rest) → IsRising (put_row_at r new e es rest)
rising_put_at Less new e es rest is h more below = ((is, below_more new.0 e.0 es is h.0), h)
rising_put_at Equal new e es rest is h more below = (subst (λ k. IsBelow k es) (sym (equal_is new.0 e.0 is)) h.0, h.1)
rising_put_at Greater new e es rest is h more below = (below (nat_list_cmp_total.antisymm e.0 new.0 ∙ ap ordering_reverse is), more)

pub rising_put : (new : Entry) (es : Table) → IsRising es → IsRising (put_row new es)
rising_put new [] h = (tt, tt)
rising_put new (e ∷ es) h = rising_put_at (text_cmp new.0 e.0) new e es (put_row new es) refl h (rising_put new es h.1) (λ less. below_put e.0 new es less h.0)

below_filter : (f : Entry → Bool) (k : Word) (es : Table) → IsBelow k es → IsBelow k (filter f es)
below_filter f k [] all = tt
below_filter f k (e ∷ es) all = by_test (f e) (below_filter f k es all.1)
  where
    by_test : (b : Bool) → IsBelow k (filter f es) → IsBelow k (cond b (e ∷ filter f es) (filter f es))
    by_test true rest = (all.0, rest)
    by_test false rest = rest

pub rising_filter : (f : Entry → Bool) (es : Table) → IsRising es → IsRising (filter f es)
rising_filter f [] h = tt
rising_filter f (e ∷ es) h = by_test (f e) (below_filter f e.0 es h.0) (rising_filter f es h.1)
  where
    by_test : (b : Bool) → IsBelow e.0 (filter f es) → IsRising (filter f es) → IsRising (cond b (e ∷ filter f es) (filter f es))
    by_test true below rest = (below, rest)
    by_test false below rest = rest

pub rising_at : (tables : List Table) (k : ℕ) → AllByRecursion IsRising tables → IsRising (unwrap_or (slice_get tables k) [])
rising_at [] k all = tt
rising_at (t ∷ ts) zero all = all.0
rising_at (t ∷ ts) (suc k) all = rising_at ts k all.1

pub rising_set : (tables : List Table) (k : ℕ) (t : Table) → AllByRecursion IsRising tables → IsRising t → AllByRecursion IsRising (slice_set tables k t)
rising_set [] k t all h = tt
rising_set (x ∷ xs) zero t all h = (h, all.1)
rising_set (x ∷ xs) (suc k) t all h = (all.0, rising_set xs k t all.1 h)

edited_rises : (c : Content) (e : Edit) → TablesRise c → TablesRise (edited c e)
edited_rises c (Put name key fields) all = rising_set c.tables (kind_at c.frame name) _ all (rising_put _ (table c (kind_at c.frame name)) (rising_at c.tables (kind_at c.frame name) all))
edited_rises c (Remove name key) all =
    rising_set c.tables (kind_at c.frame name) _ all (rising_filter (λ e. not (same e.0 key)) (table c (kind_at c.frame name)) (rising_at c.tables (kind_at c.frame name) all))
edited_rises c (Replace name body) all = all

after_rises : (c : Content) (es : Commit) → TablesRise c → TablesRise (after c es)
after_rises c [] all = all
after_rises c (e ∷ es) all = after_rises (edited c e) es (edited_rises c e all)

fold_rises : (commits : List Commit) (c : Content) → TablesRise c → TablesRise (fold after c commits)
fold_rises [] c all = all
fold_rises (commit ∷ commits) c all = fold_rises commits (after c commit) (after_rises c commit all)

start_rises : {K : Type 0} (kinds : List K) → AllByRecursion IsRising (map (λ k. []) kinds)
start_rises [] = tt
start_rises (k ∷ ks) = (tt, start_rises ks)

pub versions_rise : VersionsRise
versions_rise site commits = fold_rises commits (start site) (start_rises site.kinds)

-- each kind has a table
length_set : (tables : List Table) (k : ℕ) (t : Table) → length (slice_set tables k t) ≡ length tables
length_set [] k t = refl
length_set (x ∷ xs) zero t = refl
length_set (x ∷ xs) (suc k) t = ap suc (length_set xs k t)

edited_tables : (c : Content) (e : Edit) → length (edited c e).tables ≡ length c.tables
edited_tables c (Put name key fields) = length_set c.tables (kind_at c.frame name) _
edited_tables c (Remove name key) = length_set c.tables (kind_at c.frame name) _
edited_tables c (Replace name body) = refl

after_tables : (c : Content) (es : Commit) → length (after c es).tables ≡ length c.tables
after_tables c [] = refl
after_tables c (e ∷ es) = after_tables (edited c e) es ∙ edited_tables c e

fold_tables : (commits : List Commit) (c : Content) → length (fold after c commits).tables ≡ length c.tables
fold_tables [] c = refl
fold_tables (commit ∷ commits) c = fold_tables commits (after c commit) ∙ after_tables c commit

start_tables : {K : Type 0} (kinds : List K) → length (map (λ k. let rows : Table = [] in rows) kinds) ≡ length kinds
start_tables [] = refl
start_tables (k ∷ ks) = ap suc (start_tables ks)

pub versions_have_tables : VersionsHaveTables
versions_have_tables site commits = fold_tables commits (start site) ∙ start_tables site.kinds
