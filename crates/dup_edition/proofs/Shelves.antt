-- Pages as the entries of an edition.
use Rattle.std.proofs.Common.{◌≡◌, Bool, true, false, not, cond, None, List, [], ◌∷◌, ◌++◌, map, refl, sym, ap, subst, ◌∙◌}
use Rattle.std.specs.List.{fold}
use Rattle.std.specs.Ordering.{eq_by_cmp}
use Rattle.std.specs.declared.alloc.Global.{Global}
use Rattle.std.specs.declared.cmp.Ordering.TheVariants.{Equal}
use Rattle.std.specs.declared.sync.Arc.{Arc}
use Rattle.std.specs.Cmp.{eq_by_cmp_equiv}
use Rattle.std.specs.Cmp.Lexicographic.{nat_list_cmp_total}
use Rattle.std.specs.FinMap as fin
use Rattle.std.specs.FinMap.Entries.{find, find-where_key, is_sorted, is_sorted-put, is_sorted-where_key, same_entries}
use Rattle.std.proofs.Math.Dec.{T}
use Rattle.dup_names.specs.Order.{text_cmp}
use Rattle.dup_names.specs.Words.{Path}
use Rattle.dup_model.proofs.Push.{edition_snoc}
use Rattle.dup_model.specs.Editions.{Bundle, Edition, Page, absorb, drop_path, edition, put_page}
use Rattle.dup_edition.specs.ByPath.{by_path, drop_in, put_in, IsByPath}

abbrev pub entry : Arc Page Global → Path × Page
entry page = (page.value.path, page.value)

pub same_path : (p q : Path) → text_cmp p q ≡ Equal → p ≡ q
same_path = fin.slice_cmp-IsAntisymmetric fin.nat_cmp-IsAntisymmetric

pub to_T : (b : Bool) → b ≡ true → T b
to_T b h = subst T (sym h) tt

from_T : (b : Bool) → T b → b ≡ true
from_T true h = refl
from_T false h = absurd h

pub put_keeps_order : (old new : List (Arc Page Global)) (page : Page) → IsByPath old → by_path new ≡ put_in (by_path old) page → IsByPath new
put_keeps_order old new page order is =
    from_T _ (subst (λ es. T (is_sorted text_cmp es)) (sym is) (is_sorted-put text_cmp nat_list_cmp_total page.path page (by_path old) (to_T _ order)))

pub drop_keeps_order : (old new : List (Arc Page Global)) (path : Path) → IsByPath old → by_path new ≡ drop_in (by_path old) path → IsByPath new
drop_keeps_order old new path order is =
    from_T _ (subst (λ es. T (is_sorted text_cmp es)) (sym is) (is_sorted-where_key text_cmp (λ p. not (eq_by_cmp text_cmp path p)) (by_path old) (to_T _ order)))

-- the entries of an edition are in order
pub IsByPath-entries : (pages : List (Arc Page Global)) (e : Edition) → by_path pages ≡ fin.entries e → IsByPath pages
IsByPath-entries pages e is = from_T _ (subst (λ es. T (is_sorted text_cmp es)) (sym is) (fin.entries_sorted e))

turned : {A : Type 0} (b : Bool) (x y : A) → cond (not b) x y ≡ cond b y x
turned true x y = refl
turned false x y = refl

put_in-entries : (e : Edition) (page : Page) → put_in (fin.entries e) page ≡ fin.entries (put_page e page)
put_in-entries e page = sym (fin.entries-insert nat_list_cmp_total e page.path page)

drop_in-entries : (e : Edition) (path : Path) → drop_in (fin.entries e) path ≡ fin.entries (drop_path e path)
drop_in-entries e path = same_entries text_cmp nat_list_cmp_total same_path _ _
    (is_sorted-where_key text_cmp (λ p. not (eq_by_cmp text_cmp path p)) (fin.entries e) (fin.entries_sorted e)) (fin.entries_sorted (drop_path e path))
    (λ q. find-where_key text_cmp (λ p. not (eq_by_cmp text_cmp path p)) q (λ p tie. ap (λ r. not (eq_by_cmp text_cmp path r)) (sym (same_path q p tie))) (fin.entries e)
    ∙ turned (eq_by_cmp text_cmp path q) _ _
    ∙ ap (λ b. cond b None (find text_cmp q (fin.entries e))) ((eq_by_cmp_equiv nat_list_cmp_total).symm path q)
    ∙ ap (cond (eq_by_cmp text_cmp q path) None) (sym (fin.get-entries e q))
    ∙ sym (fin.get-remove nat_list_cmp_total e path q)
    ∙ fin.get-entries (drop_path e path) q)

puts-entries : (pages : List Page) (e : Edition) → fold put_in (fin.entries e) pages ≡ fin.entries (fold put_page e pages)
puts-entries [] e = refl
puts-entries (page ∷ pages) e = ap (λ es. fold put_in es pages) (put_in-entries e page) ∙ puts-entries pages (put_page e page)

drops-entries : (paths : List Path) (e : Edition) → fold drop_in (fin.entries e) paths ≡ fin.entries (fold drop_path e paths)
drops-entries [] e = refl
drops-entries (path ∷ paths) e = ap (λ es. fold drop_in es paths) (drop_in-entries e path) ∙ drops-entries paths (drop_path e path)

-- a record done to the entries of an edition
pub absorbed : (e : Edition) (b : Bundle) → fold drop_in (fold put_in (fin.entries e) b.puts) b.drops ≡ fin.entries (absorb e b)
absorbed e b = ap (λ es. fold drop_in es b.drops) (puts-entries b.puts e) ∙ drops-entries b.drops (fold put_page e b.puts)

no_entries : fin.entries (fin.empty {X = Page} {R = text_cmp}) ≡ []
no_entries = same_entries text_cmp nat_list_cmp_total same_path _ _ (fin.entries_sorted (fin.empty {X = Page} {R = text_cmp})) tt (λ q. sym (fin.get-entries fin.empty q) ∙ fin.get-empty text_cmp q)

pub nothing_shown : (pages : List (Arc Page Global)) {R : Type 0} (value : R → Bundle) (records : List R) → pages ≡ [] → records ≡ [] → by_path pages ≡ fin.entries (edition (map value records))
nothing_shown pages value records none empty = ap by_path none ∙ sym no_entries ∙ ap (λ l. fin.entries (edition (map value l))) (sym empty)

values_by_path : (pages : List (Arc Page Global)) → map (λ (page : Page). (page.path, page)) (map (λ p. p.value) pages) ≡ by_path pages
values_by_path [] = refl
values_by_path (p ∷ pages) = ap (λ l. (p.value.path, p.value) ∷ l) (values_by_path pages)

-- what is behind the owners is all that counts
pub by_path_alike : (xs ys : List (Arc Page Global)) → map (λ p. p.value) xs ≡ map (λ p. p.value) ys → by_path xs ≡ by_path ys
by_path_alike xs ys same = sym (values_by_path xs) ∙ ap (map (λ (page : Page). (page.path, page))) same ∙ values_by_path ys

-- where the pages are those of a log, and a record's puts and then its drops are done to them, they are those of the log with the record
pub pages_absorbed : (log : List Bundle) (b : Bundle) (before put after : List (Arc Page Global)) (puts : List Page) (drops : List Path) →
    by_path before ≡ fin.entries (edition log) → puts ≡ b.puts → drops ≡ b.drops → by_path put ≡ fold put_in (by_path before) puts → by_path after ≡ fold drop_in (by_path put) drops →
    by_path after ≡ fin.entries (edition (log ++ b ∷ []))
pages_absorbed log b before put after puts drops kept puts_are drops_are put_is after_is =
    after_is ∙ rw (put_is, kept, puts_are, drops_are, edition_snoc log b) (absorbed (edition log) b)
