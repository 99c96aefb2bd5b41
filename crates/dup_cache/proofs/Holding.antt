-- Each page of a log stands under its own path, and what a cache holds stays true of the log.
use Rattle.std.proofs.Common.{◌≡◌, true, false, cond, List, [], ◌∷◌, ◌++◌, Some, None, take, sym, ap, subst, ◌∙◌, refl, arith, length-append}
use Rattle.std.proofs.lemmas.List.{take-append-le}
use Rattle.std.specs.List.{fold}
use Rattle.std.specs.Ordering.{eq_by_cmp}
use Rattle.std.specs.Cmp.Lexicographic.{nat_list_cmp_total}
use Rattle.std.specs.FinMap as fin
use Rattle.dup_names.specs.Order.{text_cmp}
use Rattle.dup_names.specs.Words.{Path}
use Rattle.dup_model.proofs.Caching.{catching_up_holds}
use Rattle.dup_model.proofs.Reached.{tie_same}
use Rattle.dup_model.specs.Caches.{Cache}
use Rattle.dup_model.specs.Editions.{Bundle, Edition, Page, absorb, drop_path, edition, put_page}
use Rattle.dup_model.specs.Serving.{HoldsPagesOf}
use Rattle.dup_cache.specs.Holding.{AreOf, CaughtUpHolds, GrowingHolds, PathsArePlaces}

-- each page stands under its own path
abbrev pub Placed : Edition → Type 0
Placed e = (p : Path) (page : Page) → fin.get e p ≡ Some page → page.path ≡ p

put_placed : (page : Page) (e : Edition) → Placed e → Placed (put_page e page)
put_placed page e placed p other is = (elim (eq_by_cmp text_cmp p page.path) as (λ b. eq_by_cmp text_cmp p page.path ≡ b → cond b (Some page) (fin.get e p) ≡ Some other → other.path ≡ p) [
  | true ↦ λ tie h. let same : page ≡ other = cc in ap (λ (q : Page). q.path) (sym same) ∙ sym (tie_same p page.path tie)
  | false ↦ λ tie h. placed p other h
]) refl (sym (fin.get-insert nat_list_cmp_total e page.path page p) ∙ is)

drop_placed : (path : Path) (e : Edition) → Placed e → Placed (drop_path e path)
drop_placed path e placed p other is = (elim (eq_by_cmp text_cmp p path) as (λ b. cond b None (fin.get e p) ≡ Some other → other.path ≡ p) [
  | true ↦ λ h. absurd (cc)
  | false ↦ λ h. placed p other h
]) (sym (fin.get-remove nat_list_cmp_total e path p) ∙ is)

puts_placed : (pages : List Page) (e : Edition) → Placed e → Placed (fold put_page e pages)
puts_placed [] e placed = placed
puts_placed (page ∷ pages) e placed = puts_placed pages (put_page e page) (put_placed page e placed)

drops_placed : (paths : List Path) (e : Edition) → Placed e → Placed (fold drop_path e paths)
drops_placed [] e placed = placed
drops_placed (path ∷ paths) e placed = drops_placed paths (drop_path e path) (drop_placed path e placed)

absorbed_placed : (log : List Bundle) (e : Edition) → Placed e → Placed (fold absorb e log)
absorbed_placed [] e placed = placed
absorbed_placed (b ∷ log) e placed = absorbed_placed log (absorb e b) (drops_placed b.drops _ (puts_placed b.puts e placed))

pub log_placed : (log : List Bundle) → Placed (edition log)
log_placed log = absorbed_placed log fin.empty (λ p page is. absurd (let none : fin.get (fin.empty {X = Page} {R = text_cmp}) p ≡ None = fin.get-empty text_cmp p in cc))

pub paths_are_places : PathsArePlaces
paths_are_places log k h p page is = log_placed (take k log) p page is

grown : (first rest : List Bundle) (cache : Cache) → HoldsPagesOf first cache → HoldsPagesOf (first ++ rest) cache
grown first rest cache is = record {
  within = omega (arith, is.within, length-append first rest);
  pages = subst (λ l. AreOf (edition l) cache.entries) (sym (take-append-le cache.number first rest is.within)) is.pages;
}

pub growing_holds : GrowingHolds
growing_holds log first cache begins is = subst (λ l. HoldsPagesOf l cache) begins.1 (grown first begins.0 cache is)

pub caught_up_holds : CaughtUpHolds
caught_up_holds log cache is = catching_up_holds log cache (paths_are_places log) is
