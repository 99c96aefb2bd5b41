-- The elements of an array, one after another.
use Rattle.std.proofs.Common.{◌≡◌, ℕ, zero, suc, subst, ◌+◌, ◌<◌, List, [], ◌∷◌, ◌++◌, length, drop, get_or, refl, ap, ◌∙◌, sym, arith, append_assoc}
use Rattle.std.specs.Prelude.{Bool, false, nat_eq, Option, Some, None, Result, Ok, Err, ◌≤◌, ◌==◌}
use Rattle.std.specs.Result.{IsErr, IsErrAnd}
use Rattle.std.proofs.lemmas.Bool.{false_from_ne_true, eqb-true, lt-ltb, le-ltb}
use Rattle.std.proofs.lemmas.List.{drop_more}
use Rattle.dup_model.specs.Commits.{Commit}
use Rattle.dup_model.specs.declared.edit.Edit.{Edit}
use Rattle.serde_json.specs.View.{view, items_view}
use Rattle.serde_json.specs.declared.value.Value.{Value}
use Rattle.dup_names.specs.declared.limits.TheConstants.{MAX_CHANGES}
use Rattle.dup_model.specs.declared.feed_refusal.FeedRefusal.{FeedRefusal}
use Rattle.dup_model.specs.declared.feed_refusal.FeedRefusal.TheVariants.{Shape, TooMany}
use Rattle.dup_feed.specs.Feed.{Said, put_first, each_by, each_from, change_of, count_items, array_says, Refuses, Reads}

-- what was read, before what the others say
abbrev pub after_these : Commit → Said → Said
after_these made (Ok es) = Ok (made ++ es)
after_these made (Err f) = Err f

pub count_elements : (vs : List Value) → count_items (items_view vs) ≡ length vs
count_elements [] = refl
count_elements (v ∷ vs) = let rest = count_elements vs in omega arith

after-by : (made : Commit) (e : Edit) (rest all : Said) → after_these made (put_first e rest) ≡ all → after_these (made ++ e ∷ []) rest ≡ all
after-by made e (Ok es) all is = ap Ok (append_assoc made (e ∷ []) es) ∙ is
after-by made e (Err f) all is = is

each_at : (vs : List Value) (i : ℕ) (d : Value) → i < length vs →
    each_from (i + 1) (items_view (drop i vs)) ≡ each_by (i + 1) (change_of (view (get_or vs i d))) (each_from (i + 1 + 1) (items_view (drop (i + 1) vs)))
each_at vs i d within = ap (λ xs. each_from (i + 1) (items_view xs)) (drop_more vs i d within)

-- one change more was read
pub each_more : (vs : List Value) (i : ℕ) (d : Value) (made more : Commit) (e : Edit) (all : Said) → i < length vs →
    change_of (view (get_or vs i d)) ≡ Some e → more ≡ made ++ e ∷ [] → after_these made (each_from (i + 1) (items_view (drop i vs))) ≡ all →
    after_these more (each_from (i + 1 + 1) (items_view (drop (i + 1) vs))) ≡ all
each_more vs i d made more e all within read pushed is =
    let step : after_these made (each_by (i + 1) (change_of (view (get_or vs i d))) (each_from (i + 1 + 1) (items_view (drop (i + 1) vs)))) ≡ all =
    ap (after_these made) (sym (each_at vs i d within)) ∙ is in
    rw pushed (after-by made e (each_from (i + 1 + 1) (items_view (drop (i + 1) vs))) all (rw read at step))

-- one that isn't a change
pub each_bad : (vs : List Value) (i : ℕ) (d : Value) (made : Commit) (all : Said) → i < length vs →
    change_of (view (get_or vs i d)) ≡ None → after_these made (each_from (i + 1) (items_view (drop i vs))) ≡ all → all ≡ Err (Shape (i + 1))
each_bad vs i d made all within read is =
    let step : after_these made (each_by (i + 1) (change_of (view (get_or vs i d))) (each_from (i + 1 + 1) (items_view (drop (i + 1) vs)))) ≡ all =
    ap (after_these made) (sym (each_at vs i d within)) ∙ is in
    sym (rw read at step)

length-by : (i : ℕ) (x : Option Edit) (rest : Said) (es : Commit) (n : ℕ) → ((fs : Commit) → rest ≡ Ok fs → length fs ≡ n) → each_by i x rest ≡ Ok es → length es ≡ suc n
length-by i (Some e) (Ok fs) es n more is = let same : e ∷ fs ≡ es = cc in ap length (sym same) ∙ ap suc (more fs refl)
length-by i (Some e) (Err f) es n more is = cc
length-by i None rest es n more is = cc

-- as many changes as elements
pub each_length : (vs : List Value) (i : ℕ) (es : Commit) → each_from i (items_view vs) ≡ Ok es → length es ≡ length vs
each_length [] i es is = let same : [] ≡ es = cc in ap length (sym same)
each_length (v ∷ vs) i es is = length-by i (change_of (view v)) (each_from (i + 1) (items_view vs)) es (length vs) (λ fs. each_length vs (i + 1) fs) is

pub says_many : (vs : List Value) → MAX_CHANGES < length vs → array_says (Some (items_view vs)) ≡ Err (TooMany (length vs))
says_many vs many =
    let some : nat_eq (length vs) 0 ≡ false = false_from_ne_true (nat_eq (length vs) 0) (λ e. absurd (let z : length vs ≡ 0 = eqb-true (length vs) 0 e in omega arith)) in
    rw (count_elements vs, some, lt-ltb MAX_CHANGES (length vs) many) refl

pub says_each : (vs : List Value) → 0 < length vs → length vs ≤ MAX_CHANGES → array_says (Some (items_view vs)) ≡ each_from 1 (items_view vs)
says_each vs some few =
    let full : nat_eq (length vs) 0 ≡ false = false_from_ne_true (nat_eq (length vs) 0) (λ e. absurd (let z : length vs ≡ 0 = eqb-true (length vs) 0 e in omega arith)) in
    rw (count_elements vs, full, le-ltb MAX_CHANGES (length vs) few) refl

pub some_length : (n : ℕ) (b : Bool) → b ≡ (n == 0) → b ≡ false → 0 < n
some_length zero b is not = cc
some_length (suc n) b is not = omega arith

-- an error that is handed on
pub hands_on : (r : Result Commit FeedRefusal) (f : FeedRefusal) (said here : Said) → IsErr r → IsErrAnd r (λ e. e ≡ f) → Refuses f here → said ≡ here → Reads r said
hands_on (Ok commit) f said here err is refuses same = cc
hands_on (Err e) f said here err is refuses same =
    subst (λ (x : FeedRefusal). Refuses x said) (sym is) (subst (λ (x : Said). Refuses f x) (sym same) refuses)
