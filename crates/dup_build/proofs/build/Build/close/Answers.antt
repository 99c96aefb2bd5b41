use Rattle.std.specs.Prelude.{IfSome}
use Rattle.dup_names.specs.Words.{Path}
use Rattle.std.proofs.Common.{◌≡◌, ◌++◌, List, Bool, true, cond, [], Some, None, length, sym, ap, subst, ◌∙◌}
use Rattle.std.specs.List.{All}
use Rattle.dup_model.specs.Pages.{live, page_looks}
use Rattle.dup_names.specs.Order.{text_cmp}
use Rattle.std.specs.FinMap.Entries.{is_sorted}
use Rattle.dup_names.specs.Objects.{is_in}
use Rattle.dup_model.specs.Touched.{without}
use Rattle.dup_machine.specs.World.{Ended}
use Rattle.dup_machine.specs.Builds.{Build, finished_in}
use Rattle.dup_model.specs.Found.{waiting}
use Rattle.dup_machine.specs.Works.{unjoined}
use Rattle.dup_build.specs.Build.{IsBuild, work_in, works_in}
use Rattle.dup_build.specs.Paths.{IsCurrent, SameElsewhere, looks_in}
use Rattle.dup_build.specs.Spare.{AreTurned}
use Rattle.dup_build.specs.Targets.{looks_by_path, looks_of, pages_in}
use Rattle.dup_build.proofs.Renewing.{turned_closed}
use Rattle.dup_build.proofs.Showing.{target_current}
use Rattle.dup_build.proofs.Rising.{page_looks_rise}
use Rattle.dup_build.specs.Built.{Built, closed, waiting_by, unjoined_by, finished}
use Rattle.dup_build.proofs.Builds.{open_from, finished_open}
use Rattle.std.proofs.Common.{inl, inr}
use Rattle.std.proofs.lemmas.Bool.{true≢false, cases_Bool}
use Rattle.dup_names.specs.declared.object.Obj.{Obj}
use Rattle.dup_model.specs.Found.{found}
use Rattle.dup_model.proofs.Finds.{found_is_live, done_unless_waiting}
use Rattle.dup_walk.specs.OverReads.{HasReads}
use Rattle.dup_build.specs.Stocked.{Stocked}
use Rattle.dup_build.proofs.Graphs.{reads_left}
use Rattle.dup_build.proofs.build.Build.close.Goals as goal

pub forget-requires-clause-calm : goal.forget-requires-clause-calm
forget-requires-clause-calm c =
    let open_is : c.self.inside.is_open ≡ true = open_from c.self.inside.is_open (work_in c.self.inside) c.args.self.now.works.work (ap (λ (b : Built). b.works.work) c.self.view_is) c.requires.busy in
    ap (λ (o : Bool). waiting_by c.self.inside.stock.content (cond o (Some (work_in c.self.inside)) None)) (sym open_is)
    ∙ ap (λ (b : Built). waiting_by b.works.content b.works.work) c.self.view_is ∙ c.requires.calm

pub invariant_of-self : goal.invariant_of-self
invariant_of-self c = subst (λ (s : Stocked). IsBuild (record c.self.inside { stock = s })) (sym c.in_err-gone.ensures.err) c.self.invariant

pub forget-requires-clause-reads : goal.forget-requires-clause-reads
forget-requires-clause-reads c = c.self.invariant.reads

pub forget-requires-clause-joined : goal.forget-requires-clause-joined
forget-requires-clause-joined c =
    let open_is : c.self.inside.is_open ≡ true = open_from c.self.inside.is_open (work_in c.self.inside) c.args.self.now.works.work (ap (λ (b : Built). b.works.work) c.self.view_is) c.requires.busy in
    ap (λ (o : Bool). unjoined_by c.self.inside.stock.content (cond o (Some (work_in c.self.inside)) None)) (sym open_is)
    ∙ ap (λ (b : Built). unjoined_by b.works.content b.works.work) c.self.view_is ∙ c.requires.joined

pub returns-clause-told : goal.returns-clause-told
returns-clause-told c =
    let open_is : c.self.inside.is_open ≡ true = open_from c.self.inside.is_open (work_in c.self.inside) c.args.self.now.works.work (ap (λ (b : Built). b.works.work) c.self.view_is) c.requires.busy in
    let work_is : c.args.self.now.works.work ≡ Some (work_in c.self.inside) = ap (λ (b : Built). b.works.work) (sym c.self.view_is) ∙ ap (λ (o : Bool). cond o (Some (work_in c.self.inside)) None) open_is in
    let calm : waiting c.args.self.now.works.content c.self.inside.stock.done ≡ [] = ap (waiting_by c.args.self.now.works.content) (sym work_is) ∙ c.requires.calm in
    let joined : unjoined c.args.self.now.works.content (work_in c.self.inside) ≡ [] = ap (unjoined_by c.args.self.now.works.content) (sym work_is) ∙ c.requires.joined in
    let whole : finished c.args.self.now.works ≡ finished_in (work_in c.self.inside) [] [] c.args.self.now.works =
    finished_open c.args.self.now.works (work_in c.self.inside) work_is ∙ (λ i. finished_in (work_in c.self.inside) (calm i) (joined i) c.args.self.now.works) in
    let kept : c.kept-kept.result ≡ length (without (is_in c.self.inside.once) (live c.args.self.now.works.content)) =
    c.kept-kept.ensures ∙ (λ i. length (without (is_in ((c.deref-2.ensures.value ∙ c.in_ok-once.ensures) i)) (c.in_ok-gone.ensures.ok i).done))
    ∙ ap (λ (b : Built). length (without (is_in c.self.inside.once) (live b.works.content))) c.self.view_is in
    (λ i. Ended.Report (record { version = c.self.inside.version; expanded = c.self.inside.expanded; joined = c.self.inside.joined; kept = kept i }))
    ∙ sym (ap (λ (x : Ended × Build). x.0) whole)

pub returns-clause-build : goal.returns-clause-build
returns-clause-build c =
    let open_is : c.self.inside.is_open ≡ true = open_from c.self.inside.is_open (work_in c.self.inside) c.args.self.now.works.work (ap (λ (b : Built). b.works.work) c.self.view_is) c.requires.busy in
    let work_is : c.args.self.now.works.work ≡ Some (work_in c.self.inside) = ap (λ (b : Built). b.works.work) (sym c.self.view_is) ∙ ap (λ (o : Bool). cond o (Some (work_in c.self.inside)) None) open_is in
    let calm : waiting c.args.self.now.works.content c.self.inside.stock.done ≡ [] = ap (waiting_by c.args.self.now.works.content) (sym work_is) ∙ c.requires.calm in
    let joined : unjoined c.args.self.now.works.content (work_in c.self.inside) ≡ [] = ap (unjoined_by c.args.self.now.works.content) (sym work_is) ∙ c.requires.joined in
    let whole : finished c.args.self.now.works ≡ finished_in (work_in c.self.inside) [] [] c.args.self.now.works =
    finished_open c.args.self.now.works (work_in c.self.inside) work_is ∙ (λ i. finished_in (work_in c.self.inside) (calm i) (joined i) c.args.self.now.works) in
    let version : c.args.closing.target.version ≡ c.self.inside.version = c.requires.version ∙ ap (λ (b : Built). b.works.version) (sym c.self.view_is) in
    let looks : looks_of c.args.closing.target ≡ page_looks c.self.inside.stock.content = c.requires.looks ∙ ap (λ (b : Built). page_looks b.works.content) (sym c.self.view_is) in
    (λ i. record {
      works = record (works_in c.self.inside) { content = (c.in_ok-gone.ensures.ok i).content; target = Some (version i); work = None };
      pages = looks i;
    })
    ∙ ap (λ (b : Built). let v : Built = record { works = record b.works { target = Some c.self.inside.version; work = None }; pages = page_looks b.works.content } in v) c.self.view_is
    ∙ sym (ap (λ (x : Ended × Build). closed x c.args.self.now) whole)

pub invariant_of-self-2 : goal.invariant_of-self-2
invariant_of-self-2 c =
    let looks : looks_of c.args.closing.target ≡ page_looks c.self.inside.stock.content = c.requires.looks ∙ ap (λ (b : Built). page_looks b.works.content) (sym c.self.view_is) in
    let open_is : c.self.inside.is_open ≡ true = open_from c.self.inside.is_open (work_in c.self.inside) c.args.self.now.works.work (ap (λ (b : Built). b.works.work) c.self.view_is) c.requires.busy in
    let work_is : c.args.self.now.works.work ≡ Some (work_in c.self.inside) = ap (λ (b : Built). b.works.work) (sym c.self.view_is) ∙ ap (λ (o : Bool). cond o (Some (work_in c.self.inside)) None) open_is in
    let calm : waiting c.self.inside.stock.content c.self.inside.stock.done ≡ [] =
    ap (λ (b : Built). waiting b.works.content c.self.inside.stock.done) c.self.view_is ∙ ap (waiting_by c.args.self.now.works.content) (sym work_is) ∙ c.requires.calm in
    let all : (o : Obj) → is_in (found c.self.inside.stock.content c.self.inside.stock.done) o ≡ true → is_in c.self.inside.stock.done o ≡ true =
    done_unless_waiting c.self.inside.stock.content c.self.inside.stock.done calm in
    let lives : found c.self.inside.stock.content c.self.inside.stock.done ≡ live c.self.inside.stock.content = found_is_live c.self.inside.stock.content c.self.inside.stock.done all in
    let ok = c.in_ok-gone.ensures.ok in
    record {
      is_done = ap (λ (s : Stocked). s.done) ok ∙ sym (ap (λ (s : Stocked). live s.content) ok);
      is_looked = ap (λ (s : Stocked). s.looked) ok ∙ sym (ap (λ (s : Stocked). live s.content) ok);
      planned = tt;
      turned = subst (λ (s : Stocked). AreTurned true s.content (looks_of c.args.closing.target) c.spare_of.result) (sym ok)
          (turned_closed c.self.inside.stock.content c.self.inside.same_pages (pages_in c.self.inside.target) (looks_of c.args.closing.target) c.args.closing.touched c.extend_from_slice.new.self.items c.self.inside.spare c.spare_of.result
          c.self.invariant.turned c.self.invariant.rising looks
          (subst (λ pages. SameElsewhere c.args.closing.touched pages (looks_of c.args.closing.target)) (sym (ap (λ (b : Built). b.pages) c.self.view_is)) c.requires.elsewhere)
          (c.in_ok-extend_from_slice.ensures.items ∙ ap (λ (l : List Path). l ++ c.items.result.now) c.new-behind.ensures.items ∙ c.items.ensures) c.spare_of.ensures.same
          (subst (λ last. IfSome c.spare_of.result (λ s. looks_by_path s.pages.items ≡ pages_in last)) c.take-last.ensures.value c.spare_of.ensures.pages) c.spare_of.ensures.behind);
      rising = ap (is_sorted text_cmp) looks ∙ page_looks_rise c.self.inside.stock.content;
      shown = subst (λ (s : Stocked). All (IsCurrent s.content s.looked []) (looks_in (looks_of c.args.closing.target))) (sym ok)
          (subst (λ pages. All (IsCurrent c.self.inside.stock.content (live c.self.inside.stock.content) []) (looks_in pages)) (sym looks)
          (target_current c.self.inside.stock.content (live c.self.inside.stock.content) []));
      reads = subst (λ (s : Stocked). HasReads s.content s.done c.drop_all.new.graph) (sym ok)
          (reads_left c.self.inside.stock.content c.self.inside.stock.done (live c.self.inside.stock.content) c.self.inside.graph c.drop_all.new.graph
          (λ o h. all o (ap (λ l. is_in l o) lives ∙ h))
          (λ o h. c.drop_all.ensures o (ap (λ l. is_in l o) c.deref.ensures.value ∙ (elim (cases_Bool (is_in c.in_ok-gone.gone.items o)) [
            | inr out ↦ out
            | inl gone ↦ absurd (true≢false (sym (ap (λ l. is_in l o) lives ∙ h) ∙ c.in_ok-gone.ensures.gone o gone))
          ])))
          c.self.invariant.reads);
    }
