use Rattle.std.proofs.Math.Seq.{take-append_seam}
use Rattle.std.proofs.Common.{◌≡◌, ◌++◌, List, drop, length, take, sym, ap, subst, ◌∙◌}
use Rattle.dup_names.specs.Words.{Path}
use Rattle.dup_template.specs.Good.{IsGood}
use Rattle.dup_model.specs.Content.{IsOf}
use Rattle.dup_build.specs.Spare.{AreRenewed, HaveOwnPaths, ShowLooked}
use Rattle.dup_build.specs.Targets.{looks_by_path}
use Rattle.dup_build.proofs.Renewing.{listed_looked, listed_own, spare_serves, told_touched}
use Rattle.dup_build.proofs.spare.turn_spare.Goals as goal

pub paths_of-requires-clause-own : goal.paths_of-requires-clause-own
paths_of-requires-clause-own c =
    let good : IsGood c.site-site.result.now.value = subst IsGood (c.parts.ensures.value ∙ c.deref.ensures) c.parts.ensures.good in
    let of : IsOf c.site-site.result.now.value c.args.stock.now.content = subst (IsOf c.site-site.result.now.value) c.content.ensures.value c.site-site.ensures in
    subst (λ site. HaveOwnPaths site (looks_by_path c.args.last.now)) (sym c.deref-2.ensures)
    (listed_own c.args.stock.now.content (looks_by_path c.args.last.now) c.requires.listed c.site-site.result.now.value good of)

pub renew-requires-clause-looked : goal.renew-requires-clause-looked
renew-requires-clause-looked c =
    subst (λ pages. ShowLooked c.args.stock.now.looked (looks_by_path pages)) (sym c.deref_mut.ensures.value)
    (listed_looked c.args.stock.now.content (looks_by_path c.args.spare.pages.items) (c.requires.spare.shown ∙ c.requires.listed) c.args.stock.now.done c.args.stock.now.looked c.content.ensures.earlier c.requires.joined)

pub returns-clause-touched : goal.returns-clause-touched
returns-clause-touched c = told_touched c.args.stock.now.content (looks_by_path c.args.last.now) c.requires.listed c.args.once.now c.in_ok-touched.touched.items c.in_ok-touched.ensures.shown

pub returns-clause-pages : goal.returns-clause-pages
returns-clause-pages c =
    let seam : c.args.spare.pages.len ≡ length c.renew.new.pages = sym (c.renew.auto.pages ∙ c.deref_mut.ensures.len) in
    let back : take c.args.spare.pages.len (c.renew.new.pages ++ drop (length c.renew.new.pages) c.args.spare.pages.items) ≡ c.renew.new.pages =
    ap (λ n. take n (c.renew.new.pages ++ drop (length c.renew.new.pages) c.args.spare.pages.items)) seam ∙ take-append_seam c.renew.new.pages (drop (length c.renew.new.pages) c.args.spare.pages.items) in
    ap looks_by_path back
    ∙ spare_serves c.args.stock.now.content (looks_by_path c.args.last.now) c.requires.listed c.args.once.now c.args.stock.now.looked c.requires.shown
    (listed_looked c.args.stock.now.content (looks_by_path c.args.last.now) c.requires.listed c.args.stock.now.done c.args.stock.now.looked c.content.ensures.earlier c.requires.joined)
    (looks_by_path c.args.spare.pages.items) (looks_by_path c.renew.new.pages) c.args.spare.behind.items c.in_ok-touched.touched.items c.requires.spare.shown c.requires.spare.elsewhere c.in_ok-touched.ensures.shown
    c.in_ok-renew.ensures.rising
    (subst (λ paths. AreRenewed c.args.stock.now.content paths (looks_by_path c.args.spare.pages.items) (looks_by_path c.renew.new.pages))
    (c.deref-4.ensures.value ∙ c.in_ok-extend_from_slice.ensures.items ∙ ap (λ (l : List Path). c.args.spare.behind.items ++ l) c.deref-3.ensures.value)
    (subst (λ old. AreRenewed c.args.stock.now.content c.deref-4.result.now (looks_by_path old) (looks_by_path c.renew.new.pages)) c.deref_mut.ensures.value c.in_ok-renew.ensures.renewed))
