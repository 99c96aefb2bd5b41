-- Bundles over the lists of what an edition and a target have.
use Rattle.std.proofs.Common.{◌≡◌, ℕ, zero, List, [], ◌∷◌, ◌++◌, Option, map, length, refl, sym, ap, ◌∙◌, arith}
use Rattle.std.specs.List.{filter, filter_map}
use Rattle.std.specs.Option.{option_map, is_none}
use Rattle.std.specs.FinMap as fin
use Rattle.std.specs.Cmp.Lexicographic.{nat_list_cmp_total}
use Rattle.dup_names.specs.Order.{text_cmp}
use Rattle.dup_names.specs.Words.{Path}
use Rattle.dup_names.specs.declared.value.Look.{Look}
use Rattle.dup_model.specs.Commits.{Commit}
use Rattle.dup_model.specs.Content.{Content}
use Rattle.dup_model.specs.Looks.{look}
use Rattle.dup_model.specs.Pages.{Target, pages, target}
use Rattle.dup_model.specs.Needs.{Looks, needs, changed}
use Rattle.dup_model.specs.Editions.{Page, Edition, Bundle, looks, edition, bundle_of}
use Rattle.dup_model.specs.Bundles.{bundle, bundle_from, paths_of}

no_length : {A : Type 0} (es : List A) → length es ≡ 0 → es ≡ []
no_length [] e = refl
no_length (x ∷ es) e = absurd (omega (arith, e))

pub entries_empty : (X : Type 0) → fin.entries (fin.empty {X = X} {R = text_cmp}) ≡ []
entries_empty X = no_length (fin.entries (fin.empty {X = X} {R = text_cmp})) (sym (fin.len-entries (fin.empty {X = X} {R = text_cmp})) ∙ fin.len-empty text_cmp X)

-- entries put one before the other
abbrev pub put_all : {X : Type 0} → List (Path × X) → List (Path × X)
put_all [] = []
put_all (e ∷ es) = fin.put text_cmp e.0 e.1 (put_all es)

pub entries_of : {X : Type 0} (es : List (Path × X)) → fin.entries (fin.from_entries {R = text_cmp} es) ≡ put_all es
entries_of {X} [] = entries_empty X
entries_of (e ∷ es) = fin.entries-insert nat_list_cmp_total (fin.from_entries es) e.0 e.1 ∙ ap (fin.put text_cmp e.0 e.1) (entries_of es)

abbrev pub listed_target : Content → List (Path × Look)
listed_target c = put_all (map (λ p. (p.0, look c p.1)) (pages c))

pub entries_target : (c : Content) → fin.entries (target c) ≡ listed_target c
entries_target c = entries_of (map (λ p. (p.0, look c p.1)) (pages c))

abbrev listed_looks : List (Path × Page) → Looks
listed_looks es p = option_map (λ page. page.look) (fin.find text_cmp p es)

abbrev listed_targets : List (Path × Look) → Looks
listed_targets ts p = fin.find text_cmp p ts

abbrev listed_paths : List (Path × Page) → List (Path × Look) → List Path
listed_paths es ts = map (λ e. e.0) (put_all (map (λ p. (p, zero)) (map (λ e. e.0) es ++ map (λ e. e.0) ts)))

abbrev pub listed_bundle : List (Path × Page) → List (Path × Look) → Option (List Path)
listed_bundle es ts =
    bundle_from (needs (listed_looks es) (listed_targets ts)) (filter (changed (listed_looks es) (listed_targets ts)) (listed_paths es ts))

abbrev pub listed_bundle_of : List (Path × Look) → ℕ → List Commit → List Path → Bundle
listed_bundle_of ts version commits paths = record {
  version = version;
  commits = commits;
  puts = filter_map (λ p. option_map (λ look. let page : Page = record { path = p; version = version; look = look } in page) (fin.find text_cmp p ts)) paths;
  drops = filter (λ p. is_none (fin.find text_cmp p ts)) paths;
}

module _ (t : Target) (ts : List (Path × Look)) (t_is : fin.entries t ≡ ts) where
  target_gets : (p : Path) → fin.get t p ≡ fin.find text_cmp p ts
  target_gets p = fin.get-entries t p ∙ ap (fin.find text_cmp p) t_is

  pub bundle_of_listed : (version : ℕ) (commits : List Commit) (paths : List Path) → bundle_of t version commits paths ≡ listed_bundle_of ts version commits paths
  bundle_of_listed version commits paths i = record {
    version = version;
    commits = commits;
    puts = filter_map (λ p. option_map (λ look. let page : Page = record { path = p; version = version; look = look } in page) (target_gets p i)) paths;
    drops = filter (λ p. is_none (target_gets p i)) paths;
  }

  module _ (e : Edition) (es : List (Path × Page)) (e_is : fin.entries e ≡ es) where
    edition_looks : (p : Path) → looks e p ≡ listed_looks es p
    edition_looks p = ap (option_map (λ page. page.look)) (fin.get-entries e p ∙ ap (fin.find text_cmp p) e_is)

    all_paths : paths_of e t ≡ listed_paths es ts
    all_paths =
        ap (map (λ x. x.0)) (entries_of (map (λ p. (p, zero)) (fin.keys e ++ fin.keys t)))
        ∙ (λ i. listed_paths (e_is i) (t_is i))

    pub bundle_listed : bundle e t ≡ listed_bundle es ts
    bundle_listed i =
        bundle_from (needs (λ p. edition_looks p i) (λ p. target_gets p i))
        (filter (changed (λ p. edition_looks p i) (λ p. target_gets p i)) (all_paths i))

-- the entries of an edition behind a bundle that puts one page
pub entries_with : (log : List Bundle) (b listed : Bundle) (path : Path) (page : Page) (es : List (Path × Page)) →
    b ≡ listed → edition (log ++ listed ∷ []) ≡ fin.insert (edition log) path page → fin.entries (edition log) ≡ es →
    fin.entries (edition (log ++ b ∷ [])) ≡ fin.put text_cmp path page es
entries_with log b listed path page es is puts before =
    ap (λ c. fin.entries (edition (log ++ c ∷ []))) is
    ∙ ap fin.entries puts
    ∙ fin.entries-insert nat_list_cmp_total (edition log) path page
    ∙ ap (fin.put text_cmp path page) before
