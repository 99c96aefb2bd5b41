-- Places in chunks.
use Rattle.std.proofs.Common.{◌≡◌, ℕ, zero, suc, ◌+◌, ◌-◌, ◌≤◌, ◌<◌, ◌^◌, Bool, true, false, cond, List, [], ◌∷◌, ◌++◌, length, take, drop, get_or, refl, sym, ap, subst, ◌∙◌, arith}
use Rattle.std.specs.Prelude.{Option, Some, None}
use Rattle.std.specs.Option.{option_to_list}
use Rattle.std.specs.List.{AllByRecursion, flat_map}
use Rattle.std.proofs.lemmas.List.{take-append-drop, append_assoc, append-nil, length-append, length-take-le, length-drop, take_more, take_all, drop_all}
use Rattle.std.proofs.lemmas.List.Concat.{flat_map-append}
use Rattle.std.proofs.lemmas.Bool.{true≢false}
use Rattle.std.proofs.lemmas.List.Folds.{length-flat_map-take}
use Rattle.dup_chunks.specs.Cut.{front, back, Falls, first_passes}
use Rattle.dup_chunks.specs.Chunks.{AreChunks, items_at, IsPlace}
use Rattle.dup_chunks.proofs.Cuts.{falls_left, falls_right, all_fail, all_right, front_over, back_over, front_before, back_before, front_none, back_all, front_is, back_is, front_within}

-- an edit makes a chunk longer by one item at most
pub edited_few : {X : Type 0} (xs : List X) (at skip : ℕ) (item : Option X) → at ≤ length xs → length xs ≤ 64 → length (take at xs ++ option_to_list item ++ drop skip (drop at xs)) ≤ 65
edited_few xs at skip item within few =
    let one : length (option_to_list item) ≤ 1 = at_most_one item in
    omega (arith, length-append (take at xs ++ option_to_list item) (drop skip (drop at xs)), length-append (take at xs) (option_to_list item), length-take-le at xs within, length-drop skip (drop at xs), length-drop at xs)
  where
    at_most_one : {X : Type 0} (o : Option X) → length (option_to_list o) ≤ 1
    at_most_one None = omega arith
    at_most_one (Some x) = omega arith

module _ {C X : Type 0} (items : C → List X) where
  pub items_within : (cs : List C) (n : ℕ) (c : C) → n < length cs → c ≡ get_or cs n c → items c ≡ items_at items cs n
  items_within [] n c within is = absurd (omega arith)
  items_within (d ∷ cs) zero c within is = ap items is
  items_within (d ∷ cs) (suc n) c within is = items_within cs n c (omega arith) is

  pub items_past : (cs : List C) (n : ℕ) → length cs ≤ n → let none : List X = [] in none ≡ items_at items cs n
  items_past [] n past = refl
  items_past (c ∷ cs) zero past = absurd (omega arith)
  items_past (c ∷ cs) (suc n) past = items_past cs n (omega arith)

  pub at_most : (cs : List C) (n : ℕ) → AreChunks items cs → length (items_at items cs n) ≤ 64
  at_most [] n are = omega arith
  at_most (c ∷ cs) zero are = are.0.1
  at_most (c ∷ cs) (suc n) are = at_most cs n are.1

  at_least : (cs : List C) (n : ℕ) → AreChunks items cs → n < length cs → 1 ≤ length (items_at items cs n)
  at_least [] n are within = absurd (omega arith)
  at_least (c ∷ cs) zero are within = are.0.0
  at_least (c ∷ cs) (suc n) are within = at_least cs n are.1 (omega arith)

  pub are_take : (n : ℕ) (cs : List C) → AreChunks items cs → AreChunks items (take n cs)
  are_take zero cs are = tt
  are_take (suc n) [] are = tt
  are_take (suc n) (c ∷ cs) are = (are.0, are_take n cs are.1)

  pub are_drop : (n : ℕ) (cs : List C) → AreChunks items cs → AreChunks items (drop n cs)
  are_drop zero cs are = are
  are_drop (suc n) [] are = tt
  are_drop (suc n) (c ∷ cs) are = are_drop n cs are.1

  pub are_push : (cs : List C) (c : C) → AreChunks items cs → 1 ≤ length (items c) → length (items c) ≤ 64 → AreChunks items (cs ++ c ∷ [])
  are_push [] c are low high = ((low, high), tt)
  are_push (d ∷ cs) c are low high = (are.0, are_push cs c are.1 low high)

  pub as_many : (cs : List C) → AreChunks items cs → length cs ≤ length (flat_map items cs)
  as_many [] are = omega arith
  as_many (c ∷ cs) are = let rest = as_many cs are.1 in let low = are.0.0 in let long = length-append (items c) (flat_map items cs) in omega (arith, rest, low, long)

  -- a loop that shares chunks
  pub flat_more : (old : List X) (cs : List C) (i : ℕ) (c a : C) (made pushed : List C) → i < length cs → c ≡ get_or cs i c → items a ≡ items c → pushed ≡ made ++ a ∷ []
      → flat_map items made ≡ old ++ flat_map items (take i cs) → flat_map items pushed ≡ old ++ flat_map items (take (i + 1) cs)
  flat_more old cs i c a made pushed within is same push so_far =
      ap (flat_map items) push ∙ flat_map-append items made (a ∷ [])
      ∙ ap (λ l. flat_map items made ++ l) (append-nil (items a) ∙ same) ∙ ap (λ l. l ++ items c) so_far ∙ append_assoc old (flat_map items (take i cs)) (items c)
      ∙ ap (λ l. old ++ l) (ap (λ l. flat_map items (take i cs) ++ l) (sym (append-nil (items c))) ∙ sym (flat_map-append items (take i cs) (c ∷ []))
      ∙ ap (λ d. flat_map items (take i cs ++ d ∷ [])) is ∙ ap (flat_map items) (sym (take_more cs i c within)))

  pub are_more : (cs : List C) (i : ℕ) (c a : C) (made pushed : List C) → AreChunks items cs → i < length cs → c ≡ get_or cs i c → items a ≡ items c → pushed ≡ made ++ a ∷ []
      → AreChunks items made → AreChunks items pushed
  are_more cs i c a made pushed are within is same push so_far =
      let here : items c ≡ items_at items cs i = items_within cs i c within is in
      let low : 1 ≤ length (items a) = subst (λ l. 1 ≤ length l) (sym (same ∙ here)) (at_least cs i are within) in
      let high : length (items a) ≤ 64 = subst (λ l. length l ≤ 64) (sym (same ∙ here)) (at_most cs i are) in
      subst (AreChunks items) (sym push) (are_push made a so_far low high)

  -- what is in the first chunks, and in the next
  pub reached : (cs : List C) (i : ℕ) (c : C) → i < length cs → c ≡ get_or cs i c → length (flat_map items (take i cs)) + length (items c) ≤ length (flat_map items cs)
  reached cs i c within is = let h = length-flat_map-take items cs i c within in subst (λ d. length (flat_map items (take i cs)) + length (items d) ≤ length (flat_map items cs)) (sym is) h

  -- a chunk put behind others
  pub flat_push : (made pushed : List C) (a : C) (xs : List X) → pushed ≡ made ++ a ∷ [] → items a ≡ xs → flat_map items pushed ≡ flat_map items made ++ xs
  flat_push made pushed a xs push same = ap (flat_map items) push ∙ flat_map-append items made (a ∷ []) ∙ ap (λ l. flat_map items made ++ l) (append-nil (items a) ∙ same)

  module _ (p : X → Bool) where
    q : C → Bool
    q c = first_passes p (items c)

    firsts_fail : (cs : List C) → AreChunks items cs → AllByRecursion (λ y. p y ≡ false) (flat_map items cs) → AllByRecursion (λ c. first_passes p (items c) ≡ false) cs
    firsts_fail [] are all = tt
    firsts_fail (c ∷ cs) are all = (here (items c) are.0.0 all, firsts_fail cs are.1 (all_right (λ y. p y ≡ false) (items c) (flat_map items cs) all))
      where
        here : (l : List X) → 1 ≤ length l → AllByRecursion (λ y. p y ≡ false) (l ++ flat_map items cs) → first_passes p l ≡ false
        here [] some all = refl
        here (x ∷ xs) some all = all.0

    -- the first items of the chunks fall too
    pub falls_firsts : (cs : List C) → AreChunks items cs → Falls p (flat_map items cs) → Falls (λ c. first_passes p (items c)) cs
    falls_firsts [] are falls = tt
    falls_firsts (c ∷ cs) are falls = (
      λ e. firsts_fail cs are.1 (all_right (λ y. p y ≡ false) (items c) (flat_map items cs) (all_fail p (items c ++ flat_map items cs) falls (here (items c) are.0.0 e))),
      falls_firsts cs are.1 (falls_right p (items c) (flat_map items cs) falls),
    )
      where
        here : (l : List X) → 1 ≤ length l → first_passes p l ≡ false → first_passes p (l ++ flat_map items cs) ≡ false
        here [] some e = absurd (omega arith)
        here (x ∷ xs) some e = e

    first_of_two : (l rest : List X) → 1 ≤ length l → first_passes p (l ++ rest) ≡ first_passes p l
    first_of_two [] rest some = absurd (omega arith)
    first_of_two (x ∷ xs) rest some = refl

    -- no chunk's first item passes
    pub none_pass : (cs : List C) → AreChunks items cs → Falls p (flat_map items cs) → length (front (λ c. first_passes p (items c)) cs) ≡ 0 → AllByRecursion (λ y. p y ≡ false) (flat_map items cs)
    none_pass [] are falls none = tt
    none_pass (c ∷ cs) are falls none =
        all_fail p (items c ++ flat_map items cs) falls (first_of_two (items c) (flat_map items cs) are.0.0 ∙ by_test (first_passes p (items c)) none)
      where
        by_test : (b : Bool) → length (cond b (c ∷ front (λ c. first_passes p (items c)) cs) []) ≡ 0 → b ≡ false
        by_test true none = absurd (omega arith)
        by_test false none = refl

    some_pass : (cs : List C) (k : ℕ) → AreChunks items cs → length (front (λ c. first_passes p (items c)) cs) ≡ suc k → first_passes p (flat_map items cs) ≡ true
    some_pass [] k are some = absurd (omega arith)
    some_pass (c ∷ cs) k are some = first_of_two (items c) (flat_map items cs) are.0.0 ∙ by_test (first_passes p (items c)) some
      where
        by_test : (b : Bool) → length (cond b (c ∷ front (λ c. first_passes p (items c)) cs) []) ≡ suc k → b ≡ true
        by_test true some = refl
        by_test false some = absurd (omega arith)

    -- the cut is in the last chunk whose first item passes
    pub record Within (cs : List C) (k : ℕ) : Type 0 where
      pub before : front p (flat_map items cs) ≡ flat_map items (take k cs) ++ front p (items_at items cs k)
      pub behind : back p (flat_map items cs) ≡ back p (items_at items cs k) ++ flat_map items (drop (suc k) cs)
      pub there : k < length cs

    pub within : (cs : List C) (k : ℕ) → AreChunks items cs → Falls p (flat_map items cs) → length (front (λ c. first_passes p (items c)) cs) ≡ suc k → Within cs k
    within [] k are falls some = absurd (omega arith)
    within (c ∷ cs) zero are falls some =
        let none : length (front (λ c. first_passes p (items c)) cs) ≡ 0 = one_less (first_passes p (items c)) zero some in
        let all = none_pass cs are.1 (falls_right p (items c) (flat_map items cs) falls) none in
        record { before = front_before p (items c) (flat_map items cs) all; behind = back_before p (items c) (flat_map items cs) all; there = omega arith }
      where
        one_less : (b : Bool) (k : ℕ) → length (cond b (c ∷ front (λ c. first_passes p (items c)) cs) []) ≡ suc k → length (front (λ c. first_passes p (items c)) cs) ≡ k
        one_less true k some = omega arith
        one_less false k some = absurd (omega arith)
    within (c ∷ cs) (suc k) are falls some =
        let more : length (front (λ c. first_passes p (items c)) cs) ≡ suc k = one_less (first_passes p (items c)) (suc k) some in
        let rest = within cs k are.1 (falls_right p (items c) (flat_map items cs) falls) more in
        let passes = some_pass cs k are.1 more in
        let there : k < length cs = rest.there in
        record {
          before = front_over p (items c) (flat_map items cs) falls passes ∙ ap (λ l. items c ++ l) rest.before ∙ sym (append_assoc (items c) (flat_map items (take k cs)) (front p (items_at items cs k)));
          behind = back_over p (items c) (flat_map items cs) falls passes ∙ rest.behind;
          there = omega arith;
        }
      where
        one_less : (b : Bool) (k : ℕ) → length (cond b (c ∷ front (λ c. first_passes p (items c)) cs) []) ≡ suc k → length (front (λ c. first_passes p (items c)) cs) ≡ k
        one_less true k some = omega arith
        one_less false k some = absurd (omega arith)

    -- a chunk falls as all chunks do
    pub falls_at : (cs : List C) (n : ℕ) → Falls p (flat_map items cs) → Falls p (items_at items cs n)
    falls_at [] n falls = tt
    falls_at (c ∷ cs) zero falls = falls_left p (items c) (flat_map items cs) falls
    falls_at (c ∷ cs) (suc n) falls = falls_at cs n (falls_right p (items c) (flat_map items cs) falls)

    split_items : (cs : List C) (n : ℕ) → flat_map items (drop n cs) ≡ items_at items cs n ++ flat_map items (drop (suc n) cs)
    split_items [] zero = refl
    split_items [] (suc n) = refl
    split_items (c ∷ cs) zero = refl
    split_items (c ∷ cs) (suc n) = split_items cs n

    take_items : (cs : List C) (n : ℕ) → flat_map items (take (suc n) cs) ≡ flat_map items (take n cs) ++ items_at items cs n
    take_items [] zero = refl
    take_items [] (suc n) = refl
    take_items (c ∷ cs) zero = append-nil (items c)
    take_items (c ∷ cs) (suc n) = ap (λ l. items c ++ l) (take_items cs n) ∙ sym (append_assoc (items c) (flat_map items (take n cs)) (items_at items cs n))

    first_last : (cs : List C) → AreChunks items cs → 0 ≡ length (items_at items cs 0) → flat_map items (drop 1 cs) ≡ []
    first_last [] are is = refl
    first_last (c ∷ cs) are is = let low = are.0.0 in absurd (omega (arith, low, is))

    pub place_none : (cs : List C) → AreChunks items cs → Falls p (flat_map items cs) → length (front (λ c. first_passes p (items c)) cs) ≡ 0 → IsPlace items p cs 0 0
    place_none cs are falls none =
        let all = none_pass cs are falls none in
        record {
          before = front_none p (flat_map items cs) all;
          behind = back_all p (flat_map items cs) all ∙ split_items cs 0;
          there = omega arith;
          within = omega arith;
          last = first_last cs are;
        }

    pub place_next : (cs : List C) (k at : ℕ) → AreChunks items cs → Within cs k → at ≡ length (front p (items_at items cs k)) → at ≡ length (items_at items cs k) → suc k < length cs → IsPlace items p cs (suc k) 0
    place_next cs k at are w found end more =
        let here = items_at items cs k in
        let whole : front p here ≡ here = front_is p here ∙ ap (λ n. take n here) (sym found) ∙ take_all at here (omega arith) in
        let empty : back p here ≡ [] = back_is p here ∙ ap (λ n. drop n here) (sym found) ∙ drop_all at here (omega arith) in
        let low = at_least cs (suc k) are more in
        record {
          before = w.before ∙ ap (λ l. flat_map items (take k cs) ++ l) whole ∙ sym (take_items cs k) ∙ sym (append-nil (flat_map items (take (suc k) cs)));
          behind = w.behind ∙ ap (λ l. l ++ flat_map items (drop (suc k) cs)) empty ∙ split_items cs (suc k);
          there = omega arith;
          within = omega arith;
          last = λ e. absurd (omega (arith, e, low));
        }

    pub place_here : (cs : List C) (k at : ℕ) → Within cs k → at ≡ length (front p (items_at items cs k)) → (at ≡ length (items_at items cs k) → length cs ≤ suc k) → IsPlace items p cs k at
    place_here cs k at w found last =
        let here = items_at items cs k in
        let there : k < length cs = w.there in
        let small = front_within p here in
        record {
          before = w.before ∙ ap (λ l. flat_map items (take k cs) ++ l) (front_is p here ∙ ap (λ n. take n here) (sym found));
          behind = w.behind ∙ ap (λ l. l ++ flat_map items (drop (suc k) cs)) (back_is p here ∙ ap (λ n. drop n here) (sym found));
          there = omega arith;
          within = omega (arith, small, found);
          last = λ e. ap (flat_map items) (drop_all (suc k) cs (last e));
        }
