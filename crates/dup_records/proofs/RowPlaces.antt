-- Rows whose keys rise, cut before a key.
use Rattle.std.proofs.Common.{◌≡◌, Bool, true, false, not, cond, [], ◌∷◌, ◌++◌, drop, refl, sym, ap, ◌∙◌}
use Rattle.std.specs.Prelude.{Some, None, is_some, slice_get}
use Rattle.std.specs.List.{find, filter}
use Rattle.std.specs.Ordering.{is_lt, ordering_reverse}
use Rattle.std.specs.declared.cmp.Ordering.{Ordering}
use Rattle.std.specs.declared.cmp.Ordering.TheVariants.{Less, Equal, Greater}
use Rattle.std.specs.Cmp.Lexicographic.{nat_list_cmp_total}
use Rattle.std.proofs.lemmas.Bool.{true≢false}
use Rattle.std.proofs.lemmas.Slice.Eq.{bytes_eq-Decides}
use Rattle.dup_names.specs.Order.{text_cmp}
use Rattle.dup_names.specs.Words.{Word, same}
use Rattle.dup_model.specs.Content.{Entry, Table}
use Rattle.dup_model.specs.Commits.{put_row, put_row_at}
use Rattle.dup_model.specs.Tables.{IsBelow, IsRising}
use Rattle.dup_model.proofs.Tables.{equal_is}
use Rattle.dup_chunks.specs.Cut.{front, back, Falls, Rises}
use Rattle.dup_chunks.proofs.Sorted.{pick, found, rises_falls, taken_out}

pub same_is : (a b : Word) → same a b ≡ true → a ≡ b
same_is a b h = (bytes_eq-Decides a b).0 h

pub is_same : (a b : Word) → a ≡ b → same a b ≡ true
is_same a b e = (bytes_eq-Decides a b).1 e

pub as_rises : (rows : Table) → IsRising rows → Rises (λ e. e.0) text_cmp rows
as_rises [] h = tt
as_rises (e ∷ es) h = (h.0, as_rises es h.1)

-- a search before a key
pub falls : (key : Word) (rows : Table) → IsRising rows → Falls (λ e. is_lt (text_cmp e.0 key)) rows
falls key rows h = rises_falls (λ e. e.0) text_cmp nat_list_cmp_total same same_is is_same equal_is key rows (as_rises rows h)

pub first_is : (key : Word) (rows : Table) → IsRising rows → find (λ e. same e.0 key) rows ≡ pick (λ e. same e.0 key) (slice_get (back (λ e. is_lt (text_cmp e.0 key)) rows) 0)
first_is key rows h = found (λ e. e.0) text_cmp nat_list_cmp_total same same_is is_same equal_is key rows (as_rises rows h)

pub row_out : (key : Word) (rows : Table) → IsRising rows → is_some (find (λ e. same e.0 key) rows) ≡ true
    → filter (λ e. not (same e.0 key)) rows ≡ front (λ e. is_lt (text_cmp e.0 key)) rows ++ drop 1 (back (λ e. is_lt (text_cmp e.0 key)) rows)
row_out key rows h there = taken_out (λ e. e.0) text_cmp nat_list_cmp_total same same_is is_same equal_is key rows (as_rises rows h) there

pub stays : (key : Word) (rows : Table) → is_some (find (λ e. same e.0 key) rows) ≡ false → filter (λ e. not (same e.0 key)) rows ≡ rows
stays key [] absent = refl
stays key (e ∷ es) absent = by_test (same e.0 key) refl (stays key es)
  where
    by_test : (b : Bool) → same e.0 key ≡ b → (is_some (find (λ e. same e.0 key) es) ≡ false → filter (λ e. not (same e.0 key)) es ≡ es)
        → cond (not (same e.0 key)) (e ∷ filter (λ e. not (same e.0 key)) es) (filter (λ e. not (same e.0 key)) es) ≡ e ∷ es
    by_test true is more = absurd (true≢false (ap (λ b. is_some (cond b (Some e) (find (λ e. same e.0 key) es))) (sym is) ∙ absent))
    by_test false is more =
        ap (λ b. cond (not b) (e ∷ filter (λ e. not (same e.0 key)) es) (filter (λ e. not (same e.0 key)) es)) is
        ∙ ap (λ l. e ∷ l) (more (ap (λ b. is_some (cond b (Some e) (find (λ e. same e.0 key) es))) (sym is) ∙ absent))

reversed : (a b : Word) (r : Ordering) → text_cmp b a ≡ r → text_cmp a b ≡ ordering_reverse r
reversed a b r is = nat_list_cmp_total.antisymm a b ∙ ap ordering_reverse is

apart : (a b : Word) → text_cmp a b ≡ Less → same a b ≡ false
apart a b less = by_test (same a b) refl
  where
    by_test : (t : Bool) → same a b ≡ t → same a b ≡ false
    by_test false is = is
    by_test true is =
        let one : text_cmp a a ≡ Less = ap (text_cmp a) (same_is a b is) ∙ less in
        absurd (let back : Less ≡ Greater = sym one ∙ reversed a a Less one in cc)

apart_back : (a b : Word) → text_cmp b a ≡ Less → same a b ≡ false
apart_back a b less = by_test (same a b) refl
  where
    by_test : (t : Bool) → same a b ≡ t → same a b ≡ false
    by_test false is = is
    by_test true is =
        let one : text_cmp b b ≡ Less = ap (text_cmp b) (sym (same_is a b is)) ∙ less in
        absurd (let back : Less ≡ Greater = sym one ∙ reversed b b Less one in cc)

absent_above : (key : Word) (es : Table) → IsBelow key es → find (λ e. same e.0 key) es ≡ None
absent_above key [] all = refl
absent_above key (e ∷ es) all = ap (λ b. cond b (Some e) (find (λ e. same e.0 key) es)) (apart_back e.0 key all.0) ∙ absent_above key es all.1

above_more : (k l : Word) (es : Table) → text_cmp k l ≡ Less → IsBelow l es → IsBelow k es
above_more k l [] h all = tt
above_more k l (e ∷ es) h all = (nat_list_cmp_total.trans k l e.0 h all.0, above_more k l es h all.1)

-- a row put, where its key has a row, and where it has none
pub put_over : (new : Entry) (rows : Table) → IsRising rows → is_some (find (λ e. same e.0 new.0) rows) ≡ true
    → put_row new rows ≡ front (λ e. is_lt (text_cmp e.0 new.0)) rows ++ new ∷ drop 1 (back (λ e. is_lt (text_cmp e.0 new.0)) rows)
put_over new [] h there = absurd (true≢false (sym there))
put_over new (e ∷ es) h there = by_cmp (text_cmp e.0 new.0) refl (put_over new es h.1)
  where
    by_cmp : (r : Ordering) → text_cmp e.0 new.0 ≡ r
        → (is_some (find (λ e. same e.0 new.0) es) ≡ true → put_row new es ≡ front (λ e. is_lt (text_cmp e.0 new.0)) es ++ new ∷ drop 1 (back (λ e. is_lt (text_cmp e.0 new.0)) es))
        → put_row new (e ∷ es) ≡ front (λ e. is_lt (text_cmp e.0 new.0)) (e ∷ es) ++ new ∷ drop 1 (back (λ e. is_lt (text_cmp e.0 new.0)) (e ∷ es))
    by_cmp Less is more =
        ap (λ r. put_row_at r new e es (put_row new es)) (reversed new.0 e.0 Less is)
        ∙ ap (λ l. e ∷ l) (more (ap (λ b. is_some (cond b (Some e) (find (λ e. same e.0 new.0) es))) (sym (apart e.0 new.0 is)) ∙ there))
        ∙ ap (λ b. cond b (e ∷ front (λ e. is_lt (text_cmp e.0 new.0)) es) [] ++ new ∷ drop 1 (cond b (back (λ e. is_lt (text_cmp e.0 new.0)) es) (e ∷ es))) (sym (ap is_lt is))
    by_cmp Equal is more =
        ap (λ r. put_row_at r new e es (put_row new es)) (reversed new.0 e.0 Equal is)
        ∙ ap (λ b. cond b (e ∷ front (λ e. is_lt (text_cmp e.0 new.0)) es) [] ++ new ∷ drop 1 (cond b (back (λ e. is_lt (text_cmp e.0 new.0)) es) (e ∷ es))) (sym (ap is_lt is))
    by_cmp Greater is more =
        let less : text_cmp new.0 e.0 ≡ Less = reversed new.0 e.0 Greater is in
        absurd (true≢false (sym there ∙ ap (λ b. is_some (cond b (Some e) (find (λ e. same e.0 new.0) es))) (apart_back e.0 new.0 less)
        ∙ ap is_some (absent_above new.0 es (above_more new.0 e.0 es less h.0))))

pub put_in : (new : Entry) (rows : Table) → IsRising rows → is_some (find (λ e. same e.0 new.0) rows) ≡ false
    → put_row new rows ≡ front (λ e. is_lt (text_cmp e.0 new.0)) rows ++ new ∷ back (λ e. is_lt (text_cmp e.0 new.0)) rows
put_in new [] h absent = refl
put_in new (e ∷ es) h absent = by_cmp (text_cmp e.0 new.0) refl (put_in new es h.1)
  where
    by_cmp : (r : Ordering) → text_cmp e.0 new.0 ≡ r
        → (is_some (find (λ e. same e.0 new.0) es) ≡ false → put_row new es ≡ front (λ e. is_lt (text_cmp e.0 new.0)) es ++ new ∷ back (λ e. is_lt (text_cmp e.0 new.0)) es)
        → put_row new (e ∷ es) ≡ front (λ e. is_lt (text_cmp e.0 new.0)) (e ∷ es) ++ new ∷ back (λ e. is_lt (text_cmp e.0 new.0)) (e ∷ es)
    by_cmp Less is more =
        ap (λ r. put_row_at r new e es (put_row new es)) (reversed new.0 e.0 Less is)
        ∙ ap (λ l. e ∷ l) (more (ap (λ b. is_some (cond b (Some e) (find (λ e. same e.0 new.0) es))) (sym (apart e.0 new.0 is)) ∙ absent))
        ∙ ap (λ b. cond b (e ∷ front (λ e. is_lt (text_cmp e.0 new.0)) es) [] ++ new ∷ cond b (back (λ e. is_lt (text_cmp e.0 new.0)) es) (e ∷ es)) (sym (ap is_lt is))
    by_cmp Equal is more =
        absurd (true≢false (ap (λ b. is_some (cond b (Some e) (find (λ e. same e.0 new.0) es))) (sym (is_same e.0 new.0 (equal_is e.0 new.0 is))) ∙ absent))
    by_cmp Greater is more =
        ap (λ r. put_row_at r new e es (put_row new es)) (reversed new.0 e.0 Greater is)
        ∙ ap (λ b. cond b (e ∷ front (λ e. is_lt (text_cmp e.0 new.0)) es) [] ++ new ∷ cond b (back (λ e. is_lt (text_cmp e.0 new.0)) es) (e ∷ es)) (sym (ap is_lt is))
