use Rattle.std.proofs.Common.{◌≡◌, [], ◌∷◌, Some, sym, ap, ◌∙◌}
use Rattle.std.specs.FinMap as fin
use Rattle.std.specs.Cmp.Lexicographic.{nat_list_cmp_total}
use Rattle.dup_names.specs.Order.{text_cmp}
use Rattle.dup_names.specs.declared.value.Look.{Look}
use Rattle.dup_names.specs.Objects.{same_obj}
use Rattle.dup_edition.proofs.Places.{absent_gap, found_at}
use Rattle.dup_build.specs.Spare.{is_of_one}
use Rattle.dup_build.specs.Targets.{looks_by_path}
use Rattle.dup_build.proofs.Renewing.{is_shown, shown_there, unshown, unshared}
use Rattle.dup_build.proofs.spare.page_of.Goals as goal

pub returns-in-Err : goal.returns-in-Err
returns-in-Err c =
    unshown c.args.site.now (looks_by_path c.args.pages.now) c.requires.own c.args.obj.now c.in_ok-path.path (sym c.in_ok-path.ensures.value)
    (ap (is_of_one (c.args.obj.now ∷ [])) (absent_gap text_cmp nat_list_cmp_total (fin.slice_cmp-IsAntisymmetric fin.nat_cmp-IsAntisymmetric) unshared c.in_ok-path.path c.args.pages.now c.in-Err.field-0 c.requires.rising c.in-Err.ensures.absent))

pub returns-then-eq : goal.returns-then-eq
returns-then-eq c =
    let there : fin.find text_cmp c.in_ok-path.path (looks_by_path c.args.pages.now) ≡ Some c.index-pages-at.result.1.value =
    found_at text_cmp nat_list_cmp_total (fin.slice_cmp-IsAntisymmetric fin.nat_cmp-IsAntisymmetric) unshared c.in_ok-path.path c.args.pages.now c.in-Ok.at c.index-pages-at.result c.requires.rising c.in-Ok.ensures.found
    ∙ ap (λ p. Some p.1.value) (sym c.index-pages-at.is) in
    shown_there c.args.site.now (looks_by_path c.args.pages.now) c.requires.own c.args.obj.now c.in_ok-path.path (sym c.in_ok-path.ensures.value)
    (is_shown c.args.obj.now (looks_by_path c.args.pages.now) c.in_ok-path.path c.index-pages-at.result.1.value there
    ∙ ap (λ p. same_obj (unshared p).1.obj c.args.obj.now) c.index-pages-at.is ∙ ap (λ (l : Look). same_obj l.obj c.args.obj.now) (sym c.deref.ensures) ∙ sym c.eq.ensures ∙ c.if-eq.true)

pub returns-else-eq : goal.returns-else-eq
returns-else-eq c =
    let there : fin.find text_cmp c.in_ok-path.path (looks_by_path c.args.pages.now) ≡ Some c.index-pages-at.result.1.value =
    found_at text_cmp nat_list_cmp_total (fin.slice_cmp-IsAntisymmetric fin.nat_cmp-IsAntisymmetric) unshared c.in_ok-path.path c.args.pages.now c.in-Ok.at c.index-pages-at.result c.requires.rising c.in-Ok.ensures.found
    ∙ ap (λ p. Some p.1.value) (sym c.index-pages-at.is) in
    unshown c.args.site.now (looks_by_path c.args.pages.now) c.requires.own c.args.obj.now c.in_ok-path.path (sym c.in_ok-path.ensures.value)
    (is_shown c.args.obj.now (looks_by_path c.args.pages.now) c.in_ok-path.path c.index-pages-at.result.1.value there
    ∙ ap (λ p. same_obj (unshared p).1.obj c.args.obj.now) c.index-pages-at.is ∙ ap (λ (l : Look). same_obj l.obj c.args.obj.now) (sym c.deref.ensures) ∙ sym c.eq.ensures ∙ c.if-eq.false)
