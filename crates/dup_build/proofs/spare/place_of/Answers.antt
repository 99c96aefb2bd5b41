use Rattle.std.proofs.Common.{rules}
use Rattle.std.proofs.lemmas.Fn.{always_returns_same}
use Rattle.std.specs.Cmp.Lexicographic.{nat_list_cmp_total}
use Rattle.std.specs.FinMap as fin
use Rattle.dup_names.specs.Order.{text_cmp}
use Rattle.dup_edition.proofs.Places.{gap_found, place_found}
use Rattle.dup_build.proofs.spare.place_of.Goals as goal

pub returns-clause-found : goal.returns-clause-found
returns-clause-found c = place_found text_cmp nat_list_cmp_total (fin.slice_cmp-IsAntisymmetric fin.nat_cmp-IsAntisymmetric) (λ page. (page.0, page.1.value)) _ _ _ c.binary_search_by.ensures.bound
    (c.binary_search_by.ensures.position (λ page. text_cmp page.0 c.args.path.now) (always_returns_same _ _ _ (λ a r f called. search rules)))

pub returns-clause-absent : goal.returns-clause-absent
returns-clause-absent c = gap_found text_cmp nat_list_cmp_total (fin.slice_cmp-IsAntisymmetric fin.nat_cmp-IsAntisymmetric) (λ page. (page.0, page.1.value)) _ _ _ c.requires c.binary_search_by.ensures.bound
    (c.binary_search_by.ensures.position (λ page. text_cmp page.0 c.args.path.now) (always_returns_same _ _ _ (λ a r f called. search rules)))
