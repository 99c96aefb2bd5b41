-- The worked example of medals, computed.
use Rattle.std.proofs.Common.{◌≡◌, List, [], ◌∷◌, refl, ap, ◌∙◌}
use Rattle.std.specs.Prelude.{codes}
use Rattle.std.specs.FinMap as fin
use Rattle.dup_names.specs.Words.{Path}
use Rattle.dup_names.specs.declared.value.Look.{Look}
use Rattle.dup_model.specs.Versions.{content}
use Rattle.dup_model.specs.Editions.{Page, edition}
use Rattle.dup_transcript.specs.MedalRows.{medal_site, home_path, athlete_path, home_look, athlete_look, first, second, first_target, second_target, home_bundle, athlete_bundle, shared_bundle, SharedFragmentRow}
use Rattle.dup_model.proofs.Computed.{entries_target, listed_target, entries_empty, bundle_listed, bundle_of_listed, listed_bundle_of, entries_with}
use Rattle.dup_model.proofs.Equations.{marks-Say, marks-Field, marks-Each, marks-Embed}

abbrev Looked : Type 0
Looked = List (Path × Look)

abbrev first_list : Looked
first_list = (home_path, home_look (codes "[1]")) ∷ ((athlete_path, athlete_look (codes "[1]") (codes "Ann[1]")) ∷ [])

first_looks : listed_target (content medal_site (first ∷ [])) ≡ first_list
first_looks = simp (marks-Say, marks-Field, marks-Each, marks-Embed) refl

first_is : fin.entries first_target ≡ first_list
first_is = entries_target (content medal_site (first ∷ [])) ∙ first_looks

abbrev second_list : Looked
second_list = (home_path, home_look (codes "[2]")) ∷ ((athlete_path, athlete_look (codes "[2]") (codes "Anna[2]")) ∷ [])

second_looks : listed_target (content medal_site (first ∷ (second ∷ []))) ≡ second_list
second_looks = simp (marks-Say, marks-Field, marks-Each, marks-Embed) refl

second_is : fin.entries second_target ≡ second_list
second_is = entries_target (content medal_site (first ∷ (second ∷ []))) ∙ second_looks

home_is : home_bundle ≡ listed_bundle_of first_list 1 (first ∷ []) (home_path ∷ [])
home_is = bundle_of_listed first_target first_list first_is 1 (first ∷ []) (home_path ∷ [])

athlete_is : athlete_bundle ≡ listed_bundle_of first_list 1 [] (athlete_path ∷ [])
athlete_is = bundle_of_listed first_target first_list first_is 1 [] (athlete_path ∷ [])

shared_is : shared_bundle ≡ listed_bundle_of second_list 2 (second ∷ []) (home_path ∷ (athlete_path ∷ []))
shared_is = bundle_of_listed second_target second_list second_is 2 (second ∷ []) (home_path ∷ (athlete_path ∷ []))

abbrev home_entry : Page
home_entry = record { path = home_path; version = 1; look = home_look (codes "[1]") }

abbrev athlete_entry : Page
athlete_entry = record { path = athlete_path; version = 1; look = athlete_look (codes "[1]") (codes "Ann[1]") }

one_entry : fin.entries (edition (home_bundle ∷ [])) ≡ (home_path, home_entry) ∷ []
one_entry = entries_with [] home_bundle (listed_bundle_of first_list 1 (first ∷ []) (home_path ∷ [])) home_path home_entry [] home_is refl (entries_empty Page)

abbrev two_list : List (Path × Page)
two_list = (home_path, home_entry) ∷ ((athlete_path, athlete_entry) ∷ [])

two_entries : fin.entries (edition (home_bundle ∷ (athlete_bundle ∷ []))) ≡ two_list
two_entries =
    entries_with (home_bundle ∷ []) athlete_bundle (listed_bundle_of first_list 1 [] (athlete_path ∷ [])) athlete_path athlete_entry ((home_path, home_entry) ∷ []) athlete_is refl one_entry

pub shared_fragment : SharedFragmentRow
shared_fragment = record {
  first = bundle_listed first_target first_list first_is fin.empty [] (entries_empty Page);
  second = bundle_listed first_target first_list first_is (edition (home_bundle ∷ [])) ((home_path, home_entry) ∷ []) one_entry;
  together = bundle_listed second_target second_list second_is (edition (home_bundle ∷ (athlete_bundle ∷ []))) two_list two_entries;
  puts = ap (λ b. b.puts) shared_is;
}
