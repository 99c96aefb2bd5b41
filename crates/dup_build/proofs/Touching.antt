-- Two lists of pages, walked side by side: which paths are touched.
use Rattle.std.proofs.Common.{◌≡◌, inl, inr, ◌⊎◌, Bool, true, false, not, cond, ◌||◌, ◌&&◌, List, [], ◌∷◌, ◌++◌, map, Option, Some, None, refl, sym, ap, subst, ◌∙◌}
use Rattle.std.specs.Prelude.{is_some}
use Rattle.std.specs.FinMap as fin
use Rattle.std.specs.FinMap.Entries.{below_all, is_some-find, is_sorted}
use Rattle.std.specs.Ordering.{eq_by_cmp, is_eq, is_lt, ordering_reverse}
use Rattle.std.specs.Cmp.Lexicographic.{nat_list_cmp_total}
use Rattle.std.specs.declared.cmp.Ordering.{Ordering}
use Rattle.std.specs.declared.cmp.Ordering.TheVariants.{Less, Equal, Greater}
use Rattle.std.proofs.lemmas.List.Folds.{list_any-append}
use Rattle.std.proofs.lemmas.Bool.{true≢false}
use Rattle.std.proofs.lemmas.Option.{none-some}
use Rattle.dup_names.specs.Order.{text_cmp}
use Rattle.dup_names.specs.declared.object.Obj.{Obj}
use Rattle.dup_names.specs.declared.value.Look.{Look}
use Rattle.dup_names.specs.Objects.{is_in, same_obj}
use Rattle.dup_names.specs.Words.{Path}
use Rattle.dup_model.specs.Editions.{has}
use Rattle.dup_build.specs.Paths.{is_touched, AreTouched}
use Rattle.dup_build.proofs.Rising.{below_after, both, parts}
use Rattle.dup_build.proofs.Ordered.{Rise, paths_in, push_on, rise_between, rise_if}

abbrev at : Path → List (Path × Look) → Option Look
at p pages = fin.find text_cmp p pages

pub or_true : (a : Bool) → (a || true) ≡ true
or_true true = refl
or_true false = refl

pub or_none : (a : Bool) → (a || false) ≡ a
or_none true = refl
or_none false = refl

tied : (r : Ordering) → is_eq r ≡ true → r ≡ Equal
tied Less h = absurd (true≢false (sym h))
tied Equal h = refl
tied Greater h = absurd (true≢false (sym h))

lt_apart : (r : Ordering) → is_lt r ≡ true → is_eq r ≡ false
lt_apart Less h = refl
lt_apart Equal h = absurd (true≢false (sym h))
lt_apart Greater h = absurd (true≢false (sym h))

pub same_path : (p q : Path) → eq_by_cmp text_cmp p q ≡ true → p ≡ q
same_path p q h = fin.slice_cmp-IsAntisymmetric fin.nat_cmp-IsAntisymmetric p q (tied (text_cmp p q) h)

-- no page stands at a path that is below all
none_below : (k : Path) (es : List (Path × Look)) → below_all text_cmp k es ≡ true → at k es ≡ None
none_below k [] h = refl
none_below k (e ∷ es) h =
    let here : (is_lt (text_cmp k e.0) ≡ true) × (below_all text_cmp k es ≡ true) = parts (is_lt (text_cmp k e.0)) (below_all text_cmp k es) h in
    ap (λ b. cond b (Some e.1) (at k es)) (lt_apart (text_cmp k e.0) here.0) ∙ none_below k es here.1

none_at : (k p : Path) (es : List (Path × Look)) → below_all text_cmp k es ≡ true → eq_by_cmp text_cmp p k ≡ true → at p es ≡ None
none_at k p es below h = ap (λ q. at q es) (same_path p k h) ∙ none_below k es below

-- one more path
pub has_more : (paths : List Path) (q p : Path) → has (paths ++ q ∷ []) p ≡ (has paths p || eq_by_cmp text_cmp p q)
has_more paths q p = list_any-append (eq_by_cmp text_cmp p) paths (q ∷ []) ∙ ap (λ b. has paths p || b) (or_none (eq_by_cmp text_cmp p q))

module _ (once : List Obj) where
  -- the paths so far, and those that are touched in what is left of two lists, are those that are touched
  abbrev pub Told : List Path → List (Path × Look) → List (Path × Look) → List (Path × Look) → List (Path × Look) → Type 0
  Told paths olds news old new = (p : Path) → (has paths p || is_touched once (at p old) (at p new)) ≡ is_touched once (at p olds) (at p news)

  -- whether two pages show one object that isn't one of these
  abbrev pub keeps : Look → Look → Bool
  keeps l m = same_obj l.obj m.obj && not (is_in once m.obj)

  gone : (l : Look) (o : Option Look) → o ≡ None → is_touched once (Some l) o ≡ true
  gone l o is = ap (is_touched once (Some l)) is

  new_one : (m : Look) (o : Option Look) → o ≡ None → is_touched once o (Some m) ≡ true
  new_one m o is = ap (λ o. is_touched once o (Some m)) is

  neither : (o q : Option Look) → o ≡ None → q ≡ None → is_touched once o q ≡ false
  neither o q o_is q_is = λ i. is_touched once (o_is i) (q_is i)

  module _ (paths : List Path) (olds news : List (Path × Look)) where
    -- a page that is gone
    pub past_old : (d : Path × Look) (old new : List (Path × Look)) → below_all text_cmp d.0 new ≡ true → Told paths olds news (d ∷ old) new → Told (paths ++ d.0 ∷ []) olds news old new
    past_old d old new below before p = ap (λ b. b || is_touched once (at p old) (at p new)) (has_more paths d.0 p) ∙ by_path (eq_by_cmp text_cmp p d.0) refl (before p)
      where
        by_path : (b : Bool) → eq_by_cmp text_cmp p d.0 ≡ b → (has paths p || is_touched once (cond b (Some d.1) (at p old)) (at p new)) ≡ is_touched once (at p olds) (at p news) →
            ((has paths p || b) || is_touched once (at p old) (at p new)) ≡ is_touched once (at p olds) (at p news)
        by_path true here is = ap (λ b. b || is_touched once (at p old) (at p new)) (or_true (has paths p)) ∙ sym (or_true (has paths p)) ∙ ap (λ b. has paths p || b) (sym (gone d.1 (at p new) (none_at d.0 p new below here))) ∙ is
        by_path false there is = ap (λ b. b || is_touched once (at p old) (at p new)) (or_none (has paths p)) ∙ is

    -- a page that is new
    pub past_new : (e : Path × Look) (old new : List (Path × Look)) → below_all text_cmp e.0 old ≡ true → Told paths olds news old (e ∷ new) → Told (paths ++ e.0 ∷ []) olds news old new
    past_new e old new below before p = ap (λ b. b || is_touched once (at p old) (at p new)) (has_more paths e.0 p) ∙ by_path (eq_by_cmp text_cmp p e.0) refl (before p)
      where
        by_path : (b : Bool) → eq_by_cmp text_cmp p e.0 ≡ b → (has paths p || is_touched once (at p old) (cond b (Some e.1) (at p new))) ≡ is_touched once (at p olds) (at p news) →
            ((has paths p || b) || is_touched once (at p old) (at p new)) ≡ is_touched once (at p olds) (at p news)
        by_path true here is = ap (λ b. b || is_touched once (at p old) (at p new)) (or_true (has paths p)) ∙ sym (or_true (has paths p)) ∙ ap (λ b. has paths p || b) (sym (new_one e.1 (at p old) (none_at e.0 p old below here))) ∙ is
        by_path false there is = ap (λ b. b || is_touched once (at p old) (at p new)) (or_none (has paths p)) ∙ is

    -- two pages at one path
    pub past_both : (d e : Path × Look) (old new : List (Path × Look)) → d.0 ≡ e.0 → below_all text_cmp d.0 old ≡ true → below_all text_cmp e.0 new ≡ true → Told paths olds news (d ∷ old) (e ∷ new) →
        Told (cond (keeps d.1 e.1) paths (paths ++ d.0 ∷ [])) olds news old new
    past_both d e old new one below_old below_new before p = by_look (keeps d.1 e.1) refl (eq_by_cmp text_cmp p d.0) refl
      where
        was : (has paths p || is_touched once (cond (eq_by_cmp text_cmp p d.0) (Some d.1) (at p old)) (cond (eq_by_cmp text_cmp p d.0) (Some e.1) (at p new))) ≡ is_touched once (at p olds) (at p news)
        was = ap (λ b. has paths p || is_touched once (cond (eq_by_cmp text_cmp p d.0) (Some d.1) (at p old)) (cond b (Some e.1) (at p new))) (ap (eq_by_cmp text_cmp p) one) ∙ before p

        none : eq_by_cmp text_cmp p d.0 ≡ true → is_touched once (at p old) (at p new) ≡ false
        none here = neither (at p old) (at p new) (none_at d.0 p old below_old here) (none_at e.0 p new below_new (ap (eq_by_cmp text_cmp p) (sym one) ∙ here))

        by_look : (k : Bool) → keeps d.1 e.1 ≡ k → (b : Bool) → eq_by_cmp text_cmp p d.0 ≡ b →
            (has (cond k paths (paths ++ d.0 ∷ [])) p || is_touched once (at p old) (at p new)) ≡ is_touched once (at p olds) (at p news)
        by_look true kept true here =
            ap (λ b. has paths p || b) (none here ∙ ap not (sym kept)) ∙ ap (λ b. has paths p || is_touched once (cond b (Some d.1) (at p old)) (cond b (Some e.1) (at p new))) (sym here) ∙ was
        by_look true kept false there = ap (λ b. has paths p || is_touched once (cond b (Some d.1) (at p old)) (cond b (Some e.1) (at p new))) (sym there) ∙ was
        by_look false isnt true here =
            ap (λ b. b || is_touched once (at p old) (at p new)) (has_more paths d.0 p ∙ ap (λ b. has paths p || b) here ∙ or_true (has paths p))
            ∙ sym (or_true (has paths p)) ∙ ap (λ b. has paths p || b) (ap not (sym isnt)) ∙ ap (λ b. has paths p || is_touched once (cond b (Some d.1) (at p old)) (cond b (Some e.1) (at p new))) (sym here) ∙ was
        by_look false isnt false there =
            ap (λ b. b || is_touched once (at p old) (at p new)) (has_more paths d.0 p ∙ ap (λ b. has paths p || b) there ∙ or_none (has paths p))
            ∙ ap (λ b. has paths p || is_touched once (cond b (Some d.1) (at p old)) (cond b (Some e.1) (at p new))) (sym there) ∙ was

    -- nothing is left of one of the lists, and what is left of the other is told
    pub told_all : (old new : List (Path × Look)) → (old ≡ []) ⊎ (new ≡ []) → Told paths olds news old new → AreTouched once olds news ((paths ++ map (λ e. e.0) old) ++ map (λ e. e.0) new)
    told_all old new ends before p =
        list_any-append (eq_by_cmp text_cmp p) (paths ++ map (λ e. e.0) old) (map (λ e. e.0) new)
        ∙ ap (λ b. b || has (map (λ e. e.0) new) p) (list_any-append (eq_by_cmp text_cmp p) paths (map (λ e. e.0) old))
        ∙ sym (λ i. (has paths p || is_some-find text_cmp p old i) || is_some-find text_cmp p new i)
        ∙ or_assoc (has paths p) (is_some (at p old)) (is_some (at p new))
        ∙ ap (λ b. has paths p || b) (by_end ends) ∙ before p
      where
        or_assoc : (a b c : Bool) → ((a || b) || c) ≡ (a || (b || c))
        or_assoc true b c = refl
        or_assoc false b c = refl

        no_old : (o q : Option Look) → o ≡ None → (is_some o || is_some q) ≡ is_touched once o q
        no_old None None is = refl
        no_old None (Some m) is = refl
        no_old (Some l) q is = absurd (none-some l (sym is))

        no_new : (o q : Option Look) → q ≡ None → (is_some o || is_some q) ≡ is_touched once o q
        no_new None None is = refl
        no_new (Some l) None is = refl
        no_new o (Some m) is = absurd (none-some m (sym is))

        by_end : (old ≡ []) ⊎ (new ≡ []) → (is_some (at p old) || is_some (at p new)) ≡ is_touched once (at p old) (at p new)
        by_end (inl none) = no_old (at p old) (at p new) (ap (at p) none)
        by_end (inr none) = no_new (at p old) (at p new) (ap (at p) none)

behind : (ps : List Path) → ps ++ [] ≡ ps
behind [] = refl
behind (p ∷ ps) = ap (λ l. p ∷ l) (behind ps)

-- what is left of one list, where nothing is left of the other, rises behind the paths
pub rise_all : (paths : List Path) (old new : List (Path × Look)) → (old ≡ []) ⊎ (new ≡ []) → Rise (paths ++ paths_in old) → Rise (paths ++ paths_in new) → Rise ((paths ++ paths_in old) ++ paths_in new)
rise_all paths old new (inl none) before after =
    subst (λ l. Rise ((paths ++ paths_in l) ++ paths_in new)) (sym none) (subst (λ l. Rise (l ++ paths_in new)) (sym (behind paths)) after)
rise_all paths old new (inr none) before after = subst (λ l. Rise ((paths ++ paths_in old) ++ paths_in l)) (sym none) (subst Rise (sym (behind (paths ++ paths_in old))) before)

-- how far a walk over two lists of pages has come
pub record Walked (once : List Obj) (paths : List Path) (olds news old new : List (Path × Look)) : Type 0 where
  pub told : Told once paths olds news old new
  pub old_rises : is_sorted text_cmp old ≡ true
  pub new_rises : is_sorted text_cmp new ≡ true
  pub old_after : Rise (paths ++ paths_in old)
  pub new_after : Rise (paths ++ paths_in new)

module _ (once : List Obj) (paths : List Path) (olds news : List (Path × Look)) (d e : Path × Look) (old new : List (Path × Look)) (w : Walked once paths olds news (d ∷ old) (e ∷ new)) where
  of_old : (below_all text_cmp d.0 old ≡ true) × (is_sorted text_cmp old ≡ true)
  of_old = parts (below_all text_cmp d.0 old) (is_sorted text_cmp old) w.old_rises

  of_new : (below_all text_cmp e.0 new ≡ true) × (is_sorted text_cmp new ≡ true)
  of_new = parts (below_all text_cmp e.0 new) (is_sorted text_cmp new) w.new_rises

  pub passed_old : text_cmp d.0 e.0 ≡ Less → Walked once (paths ++ d.0 ∷ []) olds news old (e ∷ new)
  passed_old less = record {
    told = past_old once paths olds news d old (e ∷ new) (both (is_lt (text_cmp d.0 e.0)) (below_all text_cmp d.0 new) (ap is_lt less) (below_after d.0 e.0 less new of_new.0)) w.told;
    old_rises = of_old.1;
    new_rises = w.new_rises;
    old_after = subst Rise (sym (push_on paths d.0 (paths_in old))) w.old_after;
    new_after = subst Rise (sym (push_on paths d.0 (paths_in (e ∷ new)))) (rise_between paths d.0 e.0 (paths_in old) (paths_in new) less w.old_after w.new_after);
  }

  pub passed_new : text_cmp d.0 e.0 ≡ Greater → Walked once (paths ++ e.0 ∷ []) olds news (d ∷ old) new
  passed_new greater =
      let less : text_cmp e.0 d.0 ≡ Less = nat_list_cmp_total.antisymm e.0 d.0 ∙ ap ordering_reverse greater in
      record {
        told = past_new once paths olds news e (d ∷ old) new (both (is_lt (text_cmp e.0 d.0)) (below_all text_cmp e.0 old) (ap is_lt less) (below_after e.0 d.0 less old of_old.0)) w.told;
        old_rises = w.old_rises;
        new_rises = of_new.1;
        old_after = subst Rise (sym (push_on paths e.0 (paths_in (d ∷ old)))) (rise_between paths e.0 d.0 (paths_in new) (paths_in old) less w.new_after w.old_after);
        new_after = subst Rise (sym (push_on paths e.0 (paths_in new))) w.new_after;
      }

  pub passed_both : text_cmp d.0 e.0 ≡ Equal → Walked once (cond (keeps once d.1 e.1) paths (paths ++ d.0 ∷ [])) olds news old new
  passed_both equal = record {
    told = past_both once paths olds news d e old new (fin.slice_cmp-IsAntisymmetric fin.nat_cmp-IsAntisymmetric d.0 e.0 equal) of_old.0 of_new.0 w.told;
    old_rises = of_old.1;
    new_rises = of_new.1;
    old_after = rise_if (keeps once d.1 e.1) paths d.0 (paths_in old) w.old_after;
    new_after = rise_if (keeps once d.1 e.1) paths d.0 (paths_in new)
        (subst (λ p. Rise (paths ++ p ∷ paths_in new)) (sym (fin.slice_cmp-IsAntisymmetric fin.nat_cmp-IsAntisymmetric d.0 e.0 equal)) w.new_after);
  }
