-- Words read as names, one after another.
use Rattle.std.proofs.Common.{◌≡◌, ℕ, ◌+◌, ◌<◌, List, [], ◌∷◌, ◌++◌, length, take, drop, get_or, refl, ap, sym, ◌∙◌, Bor}
use Rattle.std.specs.Prelude.{Bool, true, false, Some, None, if◌then◌else◌}
use Rattle.std.specs.List.{list_all}
use Rattle.std.proofs.lemmas.List.{map-append, take_more, drop_more}
use Rattle.dup_names.specs.Words.{Word}
use Rattle.dup_names.specs.Grammar.{is_name}
use Rattle.dup_site.specs.SeenWords.{seen}

named : (b : Bool) (w n : Word) → (if b then Some w else None) ≡ Some n → (b ≡ true) × (w ≡ n)
named true w n h = (refl, cc)
named false w n h = cc

pub read_more : (ws : List (Bor (List ℕ))) (i : ℕ) (d : Bor (List ℕ)) (names more : List Word) (n : Word) (all : Bool) → i < length ws →
    names ≡ seen (take i ws) → (if is_name (get_or ws i d).now then Some (get_or ws i d).now else None) ≡ Some n → more ≡ names ++ n ∷ [] →
    list_all is_name (seen (drop i ws)) ≡ all → (more ≡ seen (take (i + 1) ws)) × (list_all is_name (seen (drop (i + 1) ws)) ≡ all)
read_more ws i d names more n all within kept read pushed rest =
    let w = get_or ws i d in
    let is = named (is_name w.now) w.now n read in
    let front : seen (take (i + 1) ws) ≡ seen (take i ws) ++ w.now ∷ [] =
    ap seen (take_more ws i d within) ∙ map-append (λ (x : Bor (List ℕ)). x.now) (take i ws) (w ∷ []) in
    let step : list_all is_name (seen (drop i ws)) ≡ list_all is_name (seen (drop (i + 1) ws)) =
    ap (λ ys. list_all is_name (seen ys)) (drop_more ws i d within) ∙ rw is.0 refl in
    (pushed ∙ rw (kept, ← is.1) (sym front), sym step ∙ rest)
