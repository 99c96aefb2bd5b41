use Rattle.std.proofs.Common.{◌≡◌, ◌⊎◌, inl, inr, ◌++◌, List, [], drop, map, refl, sym, ap, ◌∙◌, subst, arith}
use Rattle.std.specs.declared.alloc.Global.{Global}
use Rattle.std.specs.declared.sync.Arc.{Arc}
use Rattle.dup_names.specs.Words.{Path}
use Rattle.dup_names.specs.declared.object.Obj.{Obj}
use Rattle.dup_names.specs.declared.value.Look.{Look}
use Rattle.dup_model.specs.Looks.{look}
use Rattle.dup_model.specs.Pages.{page_looks}
use Rattle.dup_build.specs.Paths.{AreTouched, looks_shown}
use Rattle.dup_build.specs.Targets.{looks_by_path}
use Rattle.dup_build.proofs.Pages.{no_more, no_rest, paths_by_path, paths_shown, rest_of, step_both, step_new, step_old, turned_all, turned_push}
use Rattle.dup_build.proofs.Ordered.{Rise, rise_paths}
use Rattle.dup_build.proofs.Rising.{page_looks_rise}
use Rattle.dup_build.proofs.Showing.{current_at}
use Rattle.dup_build.proofs.Touching.{Walked, told_all, rise_all}
use Rattle.dup_build.proofs.turning.turn_pages.Goals.{then-loop-last_at-test+else-at-pages, else-loop-last_at-test}
use Rattle.dup_build.proofs.turning.turn_pages.Goals as goal

pub loop-last_at-init : goal.loop-last_at-init
loop-last_at-init c = record {
  in_last = omega arith;
  in_new = omega arith;
  made = ap looks_by_path c.in_ok-with_capacity.ensures.items;
  so_far =
      let last : List (Path × Look) = looks_by_path c.args.last.now in
      let shown : looks_shown c.args.stock.now.content c.pages-pages.result.now ≡ page_looks c.args.stock.now.content = ap (looks_shown c.args.stock.now.content) c.pages-pages.ensures.pages in
      subst (λ ps. Walked c.args.once.now ps last (page_looks c.args.stock.now.content) last (looks_shown c.args.stock.now.content c.pages-pages.result.now)) (sym c.new.ensures.items)
      (subst (λ new. Walked c.args.once.now [] last (page_looks c.args.stock.now.content) last new) (sym shown)
      (record {
        told = λ p. refl;
        old_rises = c.requires.rising;
        new_rises = page_looks_rise c.args.stock.now.content;
        old_after = rise_paths last c.requires.rising;
        new_after = rise_paths (page_looks c.args.stock.now.content) (page_looks_rise c.args.stock.now.content);
      }));
}

pub loop-last_at-preserved-in-Less : goal.loop-last_at-preserved-in-Less
loop-last_at-preserved-in-Less c = record {
  in_last = omega arith;
  in_new = omega arith;
  made = c.loop-last_at.invariant.made;
  so_far = step_old (λ (p : Path × Obj). (p.0, look c.args.stock.now.content p.1)) c.args.once.now c.loop-last_at.turned.touched.items (looks_by_path c.args.last.now) (page_looks c.args.stock.now.content) c.args.last.now c.pages-pages.result.now c.loop-last_at.last_at c.loop-last_at.at
      c.index-last-last_at.result c.index-pages-at.result c.loop-last_at-test.true c.index-last-last_at.is c.if-at-pages.true c.index-pages-at.is c.loop-last_at.invariant.so_far
      c.push.new.self.items c.in_ok-push-in-Less.ensures.items (sym c.in-Less.ensures);
}

pub loop-last_at-preserved-in-Greater : goal.loop-last_at-preserved-in-Greater
loop-last_at-preserved-in-Greater c = record {
  in_last = omega arith;
  in_new = omega arith;
  made = turned_push c.args.stock.now.content (looks_by_path c.loop-last_at.turned.pages.items) (looks_by_path c.add_touched.new.turned.pages.items) c.pages-pages.result.now c.loop-last_at.at c.index-pages-at.result
      c.in_ok-add_touched-in-Greater.ensures.pages c.loop-last_at.invariant.made c.if-at-pages.true c.index-pages-at.is;
  so_far = step_new (λ (p : Path × Obj). (p.0, look c.args.stock.now.content p.1)) c.args.once.now c.loop-last_at.turned.touched.items (looks_by_path c.args.last.now) (page_looks c.args.stock.now.content) c.args.last.now c.pages-pages.result.now c.loop-last_at.last_at c.loop-last_at.at
      c.index-last-last_at.result c.index-pages-at.result c.loop-last_at-test.true c.index-last-last_at.is c.if-at-pages.true c.index-pages-at.is c.loop-last_at.invariant.so_far
      c.add_touched.new.turned.touched.items c.in_ok-add_touched-in-Greater.ensures.touched (sym c.in-Greater.ensures);
}

pub turn_page-requires-clause-current : goal.turn_page-requires-clause-current
turn_page-requires-clause-current c =
    current_at c.args.stock.now.content c.args.stock.now.looked c.args.once.now c.args.last.now c.loop-last_at.last_at c.index-last-last_at.result c.loop-last_at-test.true c.index-last-last_at.is c.requires.shown

pub loop-last_at-preserved : goal.loop-last_at-preserved
loop-last_at-preserved c = record {
  in_last = omega arith;
  in_new = omega arith;
  made = turned_push c.args.stock.now.content (looks_by_path c.loop-last_at.turned.pages.items) (looks_by_path c.turn_page.new.turned.pages.items) c.pages-pages.result.now c.loop-last_at.at c.index-pages-at.result
      c.in_ok-turn_page-in-Equal.ensures.pages c.loop-last_at.invariant.made c.if-at-pages.true c.index-pages-at.is;
  so_far = step_both (λ (p : Path × Obj). (p.0, look c.args.stock.now.content p.1)) c.args.once.now c.loop-last_at.turned.touched.items (looks_by_path c.args.last.now) (page_looks c.args.stock.now.content) c.args.last.now c.pages-pages.result.now c.loop-last_at.last_at c.loop-last_at.at
      c.index-last-last_at.result c.index-pages-at.result c.loop-last_at-test.true c.index-last-last_at.is c.if-at-pages.true c.index-pages-at.is c.loop-last_at.invariant.so_far
      c.turn_page.new.turned.touched.items c.in_ok-turn_page-in-Equal.ensures.touched (sym c.in-Equal.ensures);
}

pub returns-clause-pages : goal.returns-clause-pages
returns-clause-pages c =
    c.in_ok-add_new.ensures.pages
    ∙ (λ i. c.loop-last_at.invariant.made i ++ looks_shown c.args.stock.now.content (rest_of c.pages-pages.result.now c.loop-last_at.at i))
    ∙ turned_all c.args.stock.now.content c.pages-pages.result.now c.loop-last_at.at
    ∙ ap (looks_shown c.args.stock.now.content) c.pages-pages.ensures.pages

pub returns-clause-touched : goal.returns-clause-touched
returns-clause-touched c =
    let old : List (Path × Arc Look Global) = drop c.loop-last_at.last_at c.args.last.now in
    let new : List (Path × Obj) = drop c.loop-last_at.at c.pages-pages.result.now in
    let shown : List (Path × Look) = looks_shown c.args.stock.now.content new in
    let all : c.add_new.new.turned.touched.items ≡ (c.loop-last_at.turned.touched.items ++ map (λ (e : Path × Look). e.0) (looks_by_path old)) ++ map (λ (e : Path × Look). e.0) shown =
    c.in_ok-add_new.ensures.touched
    ∙ ap (λ l. c.add_paths.new.paths.items ++ map (λ (e : Path × Obj). e.0) l) (rest_of c.pages-pages.result.now c.loop-last_at.at)
    ∙ ap (λ l. l ++ map (λ (e : Path × Obj). e.0) new)
    (c.in_ok-add_paths.ensures ∙ ap (λ l. c.loop-last_at.turned.touched.items ++ map (λ (e : Path × Arc Look Global). e.0) l) (rest_of c.args.last.now c.loop-last_at.last_at))
    ∙ sym (λ i. (c.loop-last_at.turned.touched.items ++ paths_by_path old i) ++ paths_shown c.args.stock.now.content new i) in
    let ends : (looks_by_path old ≡ []) ⊎ (shown ≡ []) = elim c.loop-last_at-test.branch [
      | then-loop-last_at-test+else-at-pages w ↦ inr (ap (looks_shown c.args.stock.now.content) (no_more c.pages-pages.result.now c.loop-last_at.at w.if-at-pages.false))
      | else-loop-last_at-test w ↦ inl (no_rest c.args.last.now c.loop-last_at.last_at w.loop-last_at-test.false)
    ] in
    subst (λ ps. AreTouched c.args.once.now (looks_by_path c.args.last.now) (page_looks c.args.stock.now.content) ps) (sym all)
    (told_all c.args.once.now c.loop-last_at.turned.touched.items (looks_by_path c.args.last.now) (page_looks c.args.stock.now.content) (looks_by_path old) shown ends c.loop-last_at.invariant.so_far.told)

pub returns-clause-order : goal.returns-clause-order
returns-clause-order c =
    let old : List (Path × Arc Look Global) = drop c.loop-last_at.last_at c.args.last.now in
    let new : List (Path × Obj) = drop c.loop-last_at.at c.pages-pages.result.now in
    let shown : List (Path × Look) = looks_shown c.args.stock.now.content new in
    let all : c.add_new.new.turned.touched.items ≡ (c.loop-last_at.turned.touched.items ++ map (λ (e : Path × Look). e.0) (looks_by_path old)) ++ map (λ (e : Path × Look). e.0) shown =
    c.in_ok-add_new.ensures.touched
    ∙ ap (λ l. c.add_paths.new.paths.items ++ map (λ (e : Path × Obj). e.0) l) (rest_of c.pages-pages.result.now c.loop-last_at.at)
    ∙ ap (λ l. l ++ map (λ (e : Path × Obj). e.0) new)
    (c.in_ok-add_paths.ensures ∙ ap (λ l. c.loop-last_at.turned.touched.items ++ map (λ (e : Path × Arc Look Global). e.0) l) (rest_of c.args.last.now c.loop-last_at.last_at))
    ∙ sym (λ i. (c.loop-last_at.turned.touched.items ++ paths_by_path old i) ++ paths_shown c.args.stock.now.content new i) in
    let ends : (looks_by_path old ≡ []) ⊎ (shown ≡ []) = elim c.loop-last_at-test.branch [
      | then-loop-last_at-test+else-at-pages w ↦ inr (ap (looks_shown c.args.stock.now.content) (no_more c.pages-pages.result.now c.loop-last_at.at w.if-at-pages.false))
      | else-loop-last_at-test w ↦ inl (no_rest c.args.last.now c.loop-last_at.last_at w.loop-last_at-test.false)
    ] in
    subst Rise (sym all) (rise_all c.loop-last_at.turned.touched.items (looks_by_path old) shown ends c.loop-last_at.invariant.so_far.old_after c.loop-last_at.invariant.so_far.new_after)
