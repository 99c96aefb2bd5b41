use Rattle.std.proofs.Common.{get_or, Some, sym, ap, ◌∙◌, refl}
use Rattle.std.specs.FinMap as fin
use Rattle.std.specs.Cmp.Lexicographic.{nat_list_cmp_total}
use Rattle.dup_names.specs.Objects.{is_in}
use Rattle.dup_names.specs.Order.{text_cmp}
use Rattle.dup_model.specs.Looks.{look}
use Rattle.dup_edition.proofs.Places.{absent_gap, found_at}
use Rattle.dup_build.specs.Targets.{looks_by_path}
use Rattle.dup_build.proofs.Renewing.{at_is, gap_renews, over_renews, over_rises, unshared}
use Rattle.dup_build.proofs.spare.renew_one.Goals as goal

pub look-requires : goal.look-requires
look-requires c =
    ap (λ l. is_in c.args.stock.now.looked l.obj) c.deref.ensures
    ∙ ap (λ p. is_in c.args.stock.now.looked (unshared p).1.obj) (sym c.index-pages-at.is)
    ∙ c.requires.looked c.args.path.now c.index-pages-at.result.1.value
    (found_at text_cmp nat_list_cmp_total (fin.slice_cmp-IsAntisymmetric fin.nat_cmp-IsAntisymmetric) unshared c.args.path.now c.args.pages.now c.in-Ok.at c.index-pages-at.result c.requires.rising c.in-Ok.ensures.found
    ∙ ap (λ p. Some p.1.value) (sym c.index-pages-at.is))

pub returns-in_ok-look-in-Ok-clause-rising : goal.returns-in_ok-look-in-Ok-clause-rising
returns-in_ok-look-in-Ok-clause-rising c =
    over_rises c.args.stock.now.content c.args.pages.now _ c.in-Ok.at c.args.path.now c.index-pages-at.result ((get_or c.args.pages.now c.in-Ok.at c.index-pages-at-in-Ok.result).0, c.in_ok-look-in-Ok.look) c.requires.rising c.in-Ok.ensures.found
    (at_is c.args.pages.now c.in-Ok.at c.index-pages-at-in-Ok.result c.args.path.now c.in-Ok.ensures.found)
    (c.in_ok-look-in-Ok.ensures ∙ ap (λ l. look c.args.stock.now.content l.obj) c.deref.ensures) refl

pub returns-in_ok-look-in-Ok-clause-renewed : goal.returns-in_ok-look-in-Ok-clause-renewed
returns-in_ok-look-in-Ok-clause-renewed c =
    over_renews c.args.stock.now.content c.args.pages.now _ c.in-Ok.at c.args.path.now c.index-pages-at.result ((get_or c.args.pages.now c.in-Ok.at c.index-pages-at-in-Ok.result).0, c.in_ok-look-in-Ok.look) c.requires.rising c.in-Ok.ensures.found
    (at_is c.args.pages.now c.in-Ok.at c.index-pages-at-in-Ok.result c.args.path.now c.in-Ok.ensures.found)
    (c.in_ok-look-in-Ok.ensures ∙ ap (λ l. look c.args.stock.now.content l.obj) c.deref.ensures) refl

pub returns-in-Err-clause-renewed : goal.returns-in-Err-clause-renewed
returns-in-Err-clause-renewed c =
    gap_renews c.args.stock.now.content (looks_by_path c.args.pages.now) c.args.path.now
    (absent_gap text_cmp nat_list_cmp_total (fin.slice_cmp-IsAntisymmetric fin.nat_cmp-IsAntisymmetric) unshared c.args.path.now c.args.pages.now c.in-Err.field-0 c.requires.rising c.in-Err.ensures.absent)
