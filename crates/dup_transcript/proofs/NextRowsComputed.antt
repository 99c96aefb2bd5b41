-- The worked example of linked events, computed.
use Rattle.std.proofs.Common.{◌≡◌, List, [], ◌∷◌, refl, ap, ◌∙◌}
use Rattle.std.specs.Prelude.{codes}
use Rattle.std.specs.FinMap as fin
use Rattle.dup_names.specs.Words.{Path}
use Rattle.dup_names.specs.declared.value.Look.{Look}
use Rattle.dup_model.specs.Versions.{content}
use Rattle.dup_model.specs.Editions.{Page, edition}
use Rattle.dup_transcript.specs.NextRows.{chain, page_one, page_two, target_of, look_of, one_first, then_two, one_alone, LinkNeedsPageRow, both, one_goes, linked_page, linking_page, last_bundle, LinkerChangesRow, vanishing}
use Rattle.dup_model.proofs.Computed.{entries_target, listed_target, entries_empty, bundle_listed, bundle_of_listed, listed_bundle_of, entries_with}
use Rattle.dup_model.proofs.Equations.{marks-Say, marks-Field, marks-Link-via}

abbrev Looked : Type 0
Looked = List (Path × Look)

abbrev look_one : Look
look_one = look_of (codes "e1") (codes "Anext") []

first_looks : listed_target (content chain (one_first ∷ [])) ≡ (page_one, look_one) ∷ []
first_looks = simp (marks-Say, marks-Field, marks-Link-via) refl

first_target : fin.entries (target_of (one_first ∷ [])) ≡ (page_one, look_one) ∷ []
first_target = entries_target (content chain (one_first ∷ [])) ∙ first_looks

abbrev second_list : Looked
second_list = (page_one, look_of (codes "e1") (codes "A<a href=\"/event/e2\">next</a>") (page_two ∷ [])) ∷ ((page_two, look_of (codes "e2") (codes "Bnext") []) ∷ [])

second_looks : listed_target (content chain (one_first ∷ (then_two ∷ []))) ≡ second_list
second_looks = simp (marks-Say, marks-Field, marks-Link-via) refl

second_target : fin.entries (target_of (one_first ∷ (then_two ∷ []))) ≡ second_list
second_target = entries_target (content chain (one_first ∷ (then_two ∷ []))) ∙ second_looks

abbrev one_page : Page
one_page = record { path = page_one; version = 1; look = look_one }

one_alone_is : one_alone ≡ listed_bundle_of ((page_one, look_one) ∷ []) 1 (one_first ∷ []) (page_one ∷ [])
one_alone_is = bundle_of_listed (target_of (one_first ∷ [])) ((page_one, look_one) ∷ []) first_target 1 (one_first ∷ []) (page_one ∷ [])

first_edition : fin.entries (edition (one_alone ∷ [])) ≡ (page_one, one_page) ∷ []
first_edition = entries_with [] one_alone (listed_bundle_of ((page_one, look_one) ∷ []) 1 (one_first ∷ []) (page_one ∷ [])) page_one one_page [] one_alone_is refl (entries_empty Page)

pub link_needs_page : LinkNeedsPageRow
link_needs_page = record {
  first = bundle_listed (target_of (one_first ∷ [])) ((page_one, look_one) ∷ []) first_target fin.empty [] (entries_empty Page);
  first_puts = ap (λ b. b.puts) one_alone_is;
  second = bundle_listed (target_of (one_first ∷ (then_two ∷ []))) second_list second_target (edition (one_alone ∷ [])) ((page_one, one_page) ∷ []) first_edition;
}

-- the linked page, and the page that links to it
abbrev linked_look : Look
linked_look = look_of (codes "e1") (codes "Anext") []

abbrev linking_look : Look
linking_look = look_of (codes "e2") (codes "B<a href=\"/event/e1\">next</a>") (page_one ∷ [])

abbrev both_list : Looked
both_list = (page_one, linked_look) ∷ ((page_two, linking_look) ∷ [])

both_looks : listed_target (content chain (both ∷ [])) ≡ both_list
both_looks = simp (marks-Say, marks-Field, marks-Link-via) refl

both_target : fin.entries (target_of (both ∷ [])) ≡ both_list
both_target = entries_target (content chain (both ∷ [])) ∙ both_looks

abbrev left_list : Looked
left_list = (page_two, look_of (codes "e2") (codes "Bnext") []) ∷ []

left_looks : listed_target (content chain (both ∷ (one_goes ∷ []))) ≡ left_list
left_looks = simp (marks-Say, marks-Field, marks-Link-via) refl

left_target : fin.entries (target_of (both ∷ (one_goes ∷ []))) ≡ left_list
left_target = entries_target (content chain (both ∷ (one_goes ∷ []))) ∙ left_looks

linked_is : linked_page ≡ listed_bundle_of both_list 1 (both ∷ []) (page_one ∷ [])
linked_is = bundle_of_listed (target_of (both ∷ [])) both_list both_target 1 (both ∷ []) (page_one ∷ [])

linking_is : linking_page ≡ listed_bundle_of both_list 1 [] (page_two ∷ [])
linking_is = bundle_of_listed (target_of (both ∷ [])) both_list both_target 1 [] (page_two ∷ [])

last_is : last_bundle ≡ listed_bundle_of left_list 2 (one_goes ∷ []) (page_two ∷ [])
last_is = bundle_of_listed (target_of (both ∷ (one_goes ∷ []))) left_list left_target 2 (one_goes ∷ []) (page_two ∷ [])

abbrev linked_entry : Page
linked_entry = record { path = page_one; version = 1; look = linked_look }

abbrev linking_entry : Page
linking_entry = record { path = page_two; version = 1; look = linking_look }

one_entry : fin.entries (edition (linked_page ∷ [])) ≡ (page_one, linked_entry) ∷ []
one_entry = entries_with [] linked_page (listed_bundle_of both_list 1 (both ∷ []) (page_one ∷ [])) page_one linked_entry [] linked_is refl (entries_empty Page)

abbrev two_list : List (Path × Page)
two_list = (page_one, linked_entry) ∷ ((page_two, linking_entry) ∷ [])

two_entries : fin.entries (edition (linked_page ∷ (linking_page ∷ []))) ≡ two_list
two_entries =
    entries_with (linked_page ∷ []) linking_page (listed_bundle_of both_list 1 [] (page_two ∷ [])) page_two linking_entry ((page_one, linked_entry) ∷ []) linking_is refl one_entry

abbrev left_entry : Page
left_entry = record { path = page_two; version = 2; look = look_of (codes "e2") (codes "Bnext") [] }

abbrev left_two : List (Path × Page)
left_two = (page_one, linked_entry) ∷ ((page_two, left_entry) ∷ [])

left_entries : fin.entries (edition (linked_page ∷ (linking_page ∷ (last_bundle ∷ [])))) ≡ left_two
left_entries =
    entries_with (linked_page ∷ (linking_page ∷ [])) last_bundle (listed_bundle_of left_list 2 (one_goes ∷ []) (page_two ∷ [])) page_two left_entry two_list last_is refl two_entries

vanishing_is : vanishing ≡ listed_bundle_of left_list 2 [] (page_one ∷ [])
vanishing_is = bundle_of_listed (target_of (both ∷ (one_goes ∷ []))) left_list left_target 2 [] (page_one ∷ [])

pub linker_changes : LinkerChangesRow
linker_changes = record {
  first = bundle_listed (target_of (both ∷ [])) both_list both_target fin.empty [] (entries_empty Page);
  second = bundle_listed (target_of (both ∷ [])) both_list both_target (edition (linked_page ∷ [])) ((page_one, linked_entry) ∷ []) one_entry;
  second_puts = ap (λ b. b.puts) linking_is;
  rest = bundle_listed (target_of (both ∷ [])) both_list both_target (edition (linked_page ∷ (linking_page ∷ []))) two_list two_entries;
  before = bundle_listed (target_of (both ∷ (one_goes ∷ []))) left_list left_target (edition (linked_page ∷ (linking_page ∷ []))) two_list two_entries;
  puts = ap (λ b. b.puts) last_is;
  drops = ap (λ b. b.drops) last_is;
  last = bundle_listed (target_of (both ∷ (one_goes ∷ []))) left_list left_target (edition (linked_page ∷ (linking_page ∷ (last_bundle ∷ [])))) left_two left_entries;
  last_puts = ap (λ b. b.puts) vanishing_is;
  last_drops = ap (λ b. b.drops) vanishing_is;
}
