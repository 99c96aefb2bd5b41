use Rattle.std.proofs.Common.{◌≡◌, Bool, true, cond, List, [], Some, None, sym, ap, subst, ◌∙◌}
use Rattle.std.specs.List.{All}
use Rattle.std.specs.List.Sorted.{IsStrictlySortedBy}
use Rattle.dup_names.specs.Words.{Path}
use Rattle.dup_model.specs.Pages.{page_looks}
use Rattle.dup_names.specs.Order.{text_cmp}
use Rattle.std.specs.FinMap.Entries.{is_sorted}
use Rattle.dup_names.specs.Objects.{is_in}
use Rattle.dup_model.specs.Touched.{without}
use Rattle.dup_build.specs.Build.{work_in}
use Rattle.dup_build.specs.Paths.{AreTouched, IsCurrent, SameElsewhere, looks_in}
use Rattle.dup_build.specs.Targets.{looks_by_path, pages_in}
use Rattle.dup_build.proofs.Showing.{current_elsewhere}
use Rattle.dup_build.proofs.Rising.{page_looks_rise}
use Rattle.dup_build.specs.Built.{Built, once_by, unjoined_by}
use Rattle.dup_build.proofs.Builds.{open_from}
use Rattle.dup_model.specs.Found.{found}
use Rattle.dup_build.proofs.build.Build.closing_now.Goals as goal

pub turn-requires-clause-joined : goal.turn-requires-clause-joined
turn-requires-clause-joined c =
    let open_is : c.self.inside.is_open ≡ true = open_from c.self.inside.is_open (work_in c.self.inside) c.args.self.now.works.work (ap (λ (b : Built). b.works.work) c.self.view_is) c.requires.busy in
    ap (λ (o : Bool). unjoined_by c.self.inside.stock.content (cond o (Some (work_in c.self.inside)) None)) (sym open_is)
    ∙ ap (λ (b : Built). unjoined_by b.works.content b.works.work) c.self.view_is ∙ c.requires.joined

pub turn-requires-clause-rising : goal.turn-requires-clause-rising
turn-requires-clause-rising c = ap (is_sorted text_cmp) c.pages_of-last.ensures ∙ c.self.invariant.rising

pub turn-requires-clause-shown : goal.turn-requires-clause-shown
turn-requires-clause-shown c =
    let open_is : c.self.inside.is_open ≡ true = open_from c.self.inside.is_open (work_in c.self.inside) c.args.self.now.works.work (ap (λ (b : Built). b.works.work) c.self.view_is) c.requires.busy in
    subst (λ pages. All (IsCurrent c.self.inside.stock.content c.self.inside.stock.looked c.self.inside.once) (looks_in pages)) (sym c.pages_of-last.ensures)
    (subst (λ (o : Bool). All (IsCurrent c.self.inside.stock.content c.self.inside.stock.looked (cond o c.self.inside.once [])) (looks_in (pages_in c.self.inside.target))) open_is c.self.invariant.shown)

pub returns-clause-closing : goal.returns-clause-closing
returns-clause-closing c =
    let open_is : c.self.inside.is_open ≡ true = open_from c.self.inside.is_open (work_in c.self.inside) c.args.self.now.works.work (ap (λ (b : Built). b.works.work) c.self.view_is) c.requires.busy in
    let work_is : c.args.self.now.works.work ≡ Some (work_in c.self.inside) = ap (λ (b : Built). b.works.work) (sym c.self.view_is) ∙ ap (λ (o : Bool). cond o (Some (work_in c.self.inside)) None) open_is in
    let looks : looks_by_path c.of.result ≡ page_looks c.self.inside.stock.content = ap looks_by_path c.of.ensures ∙ c.in_ok-turned.ensures.pages in
    let touched : AreTouched c.self.inside.once (pages_in c.self.inside.target) (page_looks c.self.inside.stock.content) c.in_ok-turned.turned.touched.items =
    subst (λ pages. AreTouched c.self.inside.once pages (page_looks c.self.inside.stock.content) c.in_ok-turned.turned.touched.items) c.pages_of-last.ensures c.in_ok-turned.ensures.touched in
    record {
      busy = c.requires.busy;
      calm = c.requires.calm;
      joined = c.requires.joined;
      version = ap (λ (b : Built). b.works.version) c.self.view_is;
      looks = looks ∙ ap (λ (b : Built). page_looks b.works.content) c.self.view_is;
      rising = ap (is_sorted text_cmp) looks ∙ page_looks_rise c.self.inside.stock.content;
      touched =
          subst (λ (ps : List Path). AreTouched (once_by c.args.self.now.works.work) c.args.self.now.pages (looks_by_path c.of.result) ps) (sym c.of-2.ensures)
          (subst (λ os. AreTouched os c.args.self.now.pages (looks_by_path c.of.result) c.in_ok-turned.turned.touched.items) (sym (ap once_by work_is))
          (subst (λ pages. AreTouched c.self.inside.once c.args.self.now.pages pages c.in_ok-turned.turned.touched.items) (sym looks)
          (subst (λ pages. AreTouched c.self.inside.once pages (page_looks c.self.inside.stock.content) c.in_ok-turned.turned.touched.items) (ap (λ (b : Built). b.pages) c.self.view_is) touched)));
      order = subst (IsStrictlySortedBy text_cmp) (sym c.of-2.ensures) c.in_ok-turned.ensures.order;
      elsewhere =
          let joined : without (is_in c.self.inside.stock.looked) (found c.self.inside.stock.content c.self.inside.stock.done) ≡ [] =
          ap (λ (o : Bool). unjoined_by c.self.inside.stock.content (cond o (Some (work_in c.self.inside)) None)) (sym open_is)
          ∙ ap (λ (b : Built). unjoined_by b.works.content b.works.work) c.self.view_is ∙ c.requires.joined in
          let shown : All (IsCurrent c.self.inside.stock.content c.self.inside.stock.looked c.self.inside.once) (looks_in (pages_in c.self.inside.target)) =
          subst (λ (o : Bool). All (IsCurrent c.self.inside.stock.content c.self.inside.stock.looked (cond o c.self.inside.once [])) (looks_in (pages_in c.self.inside.target))) open_is c.self.invariant.shown in
          subst (λ (ps : List Path). SameElsewhere ps c.args.self.now.pages (looks_by_path c.of.result)) (sym c.of-2.ensures)
          (subst (λ pages. SameElsewhere c.in_ok-turned.turned.touched.items pages (looks_by_path c.of.result)) (ap (λ (b : Built). b.pages) c.self.view_is)
          (subst (λ pages. SameElsewhere c.in_ok-turned.turned.touched.items (pages_in c.self.inside.target) pages) (sym looks)
          (current_elsewhere c.self.inside.stock.content c.content.ensures.earlier c.self.inside.stock.done c.self.inside.stock.looked joined c.self.inside.once (pages_in c.self.inside.target)
          c.in_ok-turned.turned.touched.items shown touched)));
    }
