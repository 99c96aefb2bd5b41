-- What is noted, path by path and bundle by bundle.
use Rattle.std.proofs.Common.{◌≡◌, ℕ, ◌<◌, ◌+◌, Bool, true, false, cond, List, [], ◌∷◌, ◌++◌, map, filter, length, drop, get_or, refl, sym, ap, ◌∙◌, add-one, append_assoc}
use Rattle.std.proofs.Math.Seq.{drop-cons}
use Rattle.std.proofs.lemmas.List.{map-append}
use Rattle.std.specs.List.{flat_map}
use Rattle.std.specs.declared.alloc.Global.{Global}
use Rattle.std.specs.declared.sync.Arc.{Arc}
use Rattle.dup_names.specs.Words.{Path}
use Rattle.dup_model.specs.Editions.{Bundle, Edition, Page}
use Rattle.dup_cache.specs.Entries.{has_path}
use Rattle.dup_cache.specs.Renewing.{Renewed, asked, due, named}

filter_append : {X : Type 0} (f : X → Bool) (xs ys : List X) → filter f (xs ++ ys) ≡ filter f xs ++ filter f ys
filter_append f [] ys = refl
filter_append f (x ∷ xs) ys = elim (f x) as (λ b. cond b (x ∷ filter f (xs ++ ys)) (filter f (xs ++ ys)) ≡ cond b (x ∷ filter f xs) (filter f xs) ++ filter f ys) [
  | true ↦ ap (λ l. x ∷ l) (filter_append f xs ys)
  | false ↦ filter_append f xs ys
]

pub due_append : (e : Edition) (pages : List Page) (xs ys : List Path) → due e pages (xs ++ ys) ≡ due e pages xs ++ due e pages ys
due_append e pages xs ys = ap (asked e) (filter_append (has_path pages) xs ys) ∙ map-append _ (filter (has_path pages) xs) (filter (has_path pages) ys)

-- the next element of a list
pub next_of : {X : Type 0} (xs : List X) (i : ℕ) (x : X) → i < length xs → x ≡ get_or xs i x → drop i xs ≡ x ∷ drop (i + 1) xs
next_of xs i x within is = drop-cons xs i x within ∙ (λ j. sym is j ∷ drop (sym (add-one i) j) xs)

paths_as : (puts : List (Arc Page Global)) (pages : List Page) → map (λ p. p.value) puts ≡ pages → map (λ p. p.value.path) puts ≡ map (λ page. page.path) pages
paths_as puts pages is = twice puts ∙ ap (map (λ page. page.path)) is
  where
    twice : (ps : List (Arc Page Global)) → map (λ p. p.value.path) ps ≡ map (λ (page : Page). page.path) (map (λ p. p.value) ps)
    twice [] = refl
    twice (p ∷ ps) = ap (λ l. p.value.path ∷ l) (twice ps)

-- one bundle is noted, puts before drops
pub named_noted : (e : Edition) (pages : List Page) (was then now : List Renewed) (puts : List (Arc Page Global)) (drops : List Path) (b : Bundle) (rest : List Bundle) →
    then ≡ was ++ due e pages (map (λ p. p.value.path) puts) → now ≡ then ++ due e pages drops → map (λ p. p.value) puts ≡ b.puts → drops ≡ b.drops →
    now ++ due e pages (flat_map named rest) ≡ was ++ due e pages (flat_map named (b ∷ rest))
named_noted e pages was then now puts drops b rest then-is now-is puts-are drops-are =
    ap (λ l. l ++ due e pages (flat_map named rest)) (now-is ∙ (λ i. then-is i ++ due e pages (drops-are i)) ∙ append_assoc was _ _ ∙ ap (λ l. was ++ l) (ap (λ l. due e pages l ++ due e pages b.drops) (paths_as puts b.puts puts-are) ∙ sym (due_append e pages (map (λ page. page.path) b.puts) b.drops)))
    ∙ append_assoc was _ _
    ∙ ap (λ l. was ++ l) (sym (due_append e pages (named b) (flat_map named rest)))
