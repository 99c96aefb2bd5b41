-- A walk along needs: what it has seen, and what is due.
use Rattle.std.proofs.Common.{◌≡◌, ◌+◌, ◌*◌, ◌-◌, ◌<◌, ◌≤◌, Bool, true, false, not, ◌||◌, ◌&&◌, List, [], ◌∷◌, ◌++◌, length, inl, inr, refl, sym, ap, subst, ◌∙◌, arith}
use Rattle.std.specs.List.{filter}
use Rattle.std.specs.Ordering.{eq_by_cmp}
use Rattle.std.specs.Cmp.{eq_by_cmp_equiv}
use Rattle.std.specs.Cmp.Lexicographic.{nat_list_cmp_total}
use Rattle.std.proofs.lemmas.Bool.{true≢false, cases_Bool, and_parts, and_from, or_cases, or_left}
use Rattle.std.proofs.lemmas.List.{length-append}
use Rattle.std.proofs.lemmas.List.Folds.{list_any-append}
use Rattle.std.proofs.lemmas.List.Kept.{IsStrictlySortedBy-filter}
use Rattle.std.proofs.lemmas.Map.Keys.{IsDistinct-from_sorted}
use Rattle.std.proofs.lemmas.Map.Made.{length-le_from_is_member}
use Rattle.std.proofs.lemmas.Slice.Eq.{bytes_eq-Decides}
use Rattle.dup_names.specs.Order.{text_cmp}
use Rattle.dup_names.specs.Words.{Path}
use Rattle.dup_model.specs.Bundles.{reached}
use Rattle.dup_model.specs.Editions.{has}
use Rattle.dup_model.proofs.Reached.{has_filter, or_right, reached_itself, reached_needed, through, tie_itself, tie_same}
use Rattle.dup_bundle.proofs.Paths.{IsInOrder, same_members, shorter}

module _ (need : Path → Path → Bool) (ps : List Path) where
  -- what is reached is in each set that is closed among the paths
  pub in_closed : (s : Path → Bool) → ((p q : Path) → s p ≡ true → has ps q ≡ true → need p q ≡ true → s q ≡ true) →
      (rs : List Path) → ((r : Path) → has rs r ≡ true → has ps r ≡ true) → (p q : Path) → s p ≡ true → has ps q ≡ true → reached need rs p q ≡ true → s q ≡ true
  in_closed s closed [] within p q has_p inside h = elim (or_cases _ _ h) [
    | inl same ↦ subst (λ r. s r ≡ true) ((bytes_eq-Decides p q).0 same) has_p
    | inr needed ↦ closed p q has_p inside needed
  ]
  in_closed s closed (r ∷ rs) within p q has_p inside h = elim (or_cases _ _ h) [
    | inl direct ↦ in_closed s closed rs (λ x later. within x (or_right _ _ later)) p q has_p inside direct
    | inr both ↦
        let has_r : s r ≡ true = in_closed s closed rs (λ x later. within x (or_right _ _ later)) p r has_p (within r (or_left _ _ (tie_itself r))) (and_parts _ _ both).0 in
        in_closed s closed rs (λ x later. within x (or_right _ _ later)) r q has_r inside (and_parts _ _ both).1
  ]

  -- all that was seen is reached, and what the seen paths need is seen but where they are due
  pub record IsWalk (start : Path) (seen due : List Path) : Type 0 where
    pub sound : (q : Path) → has seen q ≡ true → (has ps q && reached need ps start q) ≡ true
    pub begins : has seen start ≡ true
    pub waits : (q : Path) → has due q ≡ true → has seen q ≡ true
    pub closed : (p q : Path) → has seen p ≡ true → has due p ≡ false → has ps q ≡ true → need p q ≡ true → has seen q ≡ true
    pub order : IsInOrder seen

  same_tests : (a b : Bool) → (a ≡ true → b ≡ true) → (b ≡ true → a ≡ true) → a ≡ b
  same_tests true b to from = sym (to refl)
  same_tests false true to from = from refl
  same_tests false false to from = refl

  module _ (start : Path) where
    -- once nothing is due
    pub walked : (seen : List Path) → IsInOrder ps → IsWalk start seen [] → seen ≡ filter (reached need ps start) ps
    walked seen order w = same_members seen (filter (reached need ps start) ps) w.order (IsStrictlySortedBy-filter text_cmp (reached need ps start) ps order) (λ q.
        same_tests (has seen q) (has ps q && reached need ps start q) (w.sound q)
        (λ h. in_closed (has seen) (λ p q seen_p inside needed. w.closed p q seen_p refl inside needed) ps (λ r inside. inside) start q w.begins (and_parts _ _ h).0 (and_parts _ _ h).1)
        ∙ sym (has_filter (reached need ps start) ps q))

    -- at the start
    pub begun : has ps start ≡ true → (seen due : List Path) → ((q : Path) → has seen q ≡ has (start ∷ []) q) → due ≡ start ∷ [] → IsInOrder seen → IsWalk start seen due
    begun inside seen due seen_is due_is order = record {
      sound = λ q h. rw (tie_same q start (one q (sym (seen_is q) ∙ h))) (and_from _ _ inside (reached_itself need ps start));
      begins = seen_is start ∙ or_left _ _ (tie_itself start);
      waits = λ q h. seen_is q ∙ ap (λ l. has l q) (sym due_is) ∙ h;
      closed = λ p q h none. absurd (true≢false (sym h ∙ seen_is p ∙ ap (λ l. has l p) (sym due_is) ∙ none));
      order = order;
    }
      where
        one : (q : Path) → has (start ∷ []) q ≡ true → eq_by_cmp text_cmp q start ≡ true
        one q h = elim (or_cases _ _ h) [ inl tie ↦ tie | inr none ↦ absurd (true≢false (sym none)) ]

    -- no more is seen than there is
    pub few : (seen due : List Path) → IsWalk start seen due → length seen ≤ length ps
    few seen due w = length-le_from_is_member (eq_by_cmp_equiv nat_list_cmp_total) seen ps (IsDistinct-from_sorted text_cmp seen w.order) (λ q h. (and_parts _ _ (w.sound q h)).0)

    -- once as many are seen as there are
    pub all_seen : (seen due : List Path) → IsInOrder ps → IsWalk start seen due → length seen ≡ length ps → seen ≡ filter (reached need ps start) ps
    all_seen seen due order w full = same_members seen (filter (reached need ps start) ps) w.order (IsStrictlySortedBy-filter text_cmp (reached need ps start) ps order) (λ q.
        same_tests (has seen q) (has ps q && reached need ps start q) (w.sound q) (λ h. inside q (and_parts _ _ h).0 (has seen q) refl)
        ∙ sym (has_filter (reached need ps start) ps q))
      where
        inside : (q : Path) → has ps q ≡ true → (b : Bool) → has seen q ≡ b → has seen q ≡ true
        inside q there true is = is
        inside q there false is = absurd (omega (arith, full, few_others, fewer_others))
          where
            apart : (x : Path) → has seen x ≡ true → (b : Bool) → eq_by_cmp text_cmp x q ≡ b → not b ≡ true
            apart x h true tie = absurd (true≢false (sym h ∙ ap (has seen) (tie_same x q tie) ∙ is))
            apart x h false tie = refl

            few_others : length seen ≤ length (filter (λ x. not (eq_by_cmp text_cmp x q)) ps)
            few_others = length-le_from_is_member (eq_by_cmp_equiv nat_list_cmp_total) seen (filter (λ x. not (eq_by_cmp text_cmp x q)) ps) (IsDistinct-from_sorted text_cmp seen w.order)
                (λ x h. has_filter (λ x. not (eq_by_cmp text_cmp x q)) ps x ∙ and_from _ _ (and_parts _ _ (w.sound x h)).0 (apart x h (eq_by_cmp text_cmp x q) refl))

            fewer_others : length (filter (λ x. not (eq_by_cmp text_cmp x q)) ps) < length ps
            fewer_others = shorter (λ x. not (eq_by_cmp text_cmp x q)) ps q there (ap not (tie_itself q))

    -- one path that was due, and what it needs
    module _ (path : Path) (seen due : List Path) (seen' due' : List Path)
        (adds : (q : Path) → has seen' q ≡ (has seen q || has ps q && need path q))
        (dues : (q : Path) → has due' q ≡ (has due q || has seen' q && not (has seen q))) where
      pub longer : IsInOrder seen → length seen ≤ length seen'
      longer order = length-le_from_is_member (eq_by_cmp_equiv nat_list_cmp_total) seen seen' (IsDistinct-from_sorted text_cmp seen order) (λ q h. adds q ∙ or_left _ _ h)

      no_left : (a b : Bool) → (a || b) ≡ false → a ≡ false
      no_left true b h = h
      no_left false b h = refl

      no_new : (a b : Bool) → b ≡ true → (b && not a) ≡ false → a ≡ true
      no_new true b h none = refl
      no_new false true h none = absurd (true≢false none)
      no_new false false h none = h

      neither : (a b : Bool) → a ≡ false → b ≡ false → (a || (b || false)) ≡ false
      neither true b h k = h
      neither false true h k = k
      neither false false h k = refl

      no_right : (a b : Bool) → (a || b) ≡ false → b ≡ false
      no_right true b h = absurd (true≢false h)
      no_right false b h = h

      pub stepped : (before : List Path) → before ≡ due ++ path ∷ [] → IsInOrder seen' → IsWalk start seen before → IsWalk start seen' due'
      stepped before popped order w = record {
        sound = λ q h. sound_at q (sym (adds q) ∙ h);
        begins = adds start ∙ or_left _ _ w.begins;
        waits = λ q h. waits_at q (sym (dues q) ∙ h);
        closed = λ p q h none inside needed. closed_at p q (sym (dues p) ∙ none) h inside needed;
        order = order;
      }
        where
          was_due : (q : Path) → has before q ≡ (has due q || has (path ∷ []) q)
          was_due q = ap (λ l. has l q) popped ∙ list_any-append (eq_by_cmp text_cmp q) due (path ∷ [])

          waits_at : (q : Path) → (has due q || has seen' q && not (has seen q)) ≡ true → has seen' q ≡ true
          waits_at q h = elim (or_cases (has due q) (has seen' q && not (has seen q)) h) [
            | inl old ↦ adds q ∙ or_left (has seen q) (has ps q && need path q) (w.waits q (was_due q ∙ or_left (has due q) (has (path ∷ []) q) old))
            | inr new ↦ (and_parts (has seen' q) (not (has seen q)) new).0
          ]

          path_is : (has ps path && reached need ps start path) ≡ true
          path_is = w.sound path (w.waits path (was_due path ∙ or_right _ _ (or_left _ _ (tie_itself path))))

          sound_at : (q : Path) → (has seen q || has ps q && need path q) ≡ true → (has ps q && reached need ps start q) ≡ true
          sound_at q h = elim (or_cases _ _ h) [
            | inl old ↦ w.sound q old
            | inr new ↦ and_from _ _ (and_parts _ _ new).0 (through need ps path start q (and_parts _ _ path_is).0 (and_parts _ _ path_is).1 (reached_needed need ps path q (and_parts _ _ new).1))
          ]

          closed_at : (p q : Path) → (has due p || has seen' p && not (has seen p)) ≡ false → has seen' p ≡ true → has ps q ≡ true → need p q ≡ true → has seen' q ≡ true
          closed_at p q none h inside needed = elim (cases_Bool (eq_by_cmp text_cmp p path)) [
            | inl tie ↦ adds q ∙ or_right _ _ (and_from _ _ inside (subst (λ p. need p q ≡ true) (tie_same p path tie) needed))
            | inr apart ↦ adds q ∙ or_left _ _ (w.closed p q (no_new (has seen p) (has seen' p) h (no_right _ _ none)) (was_due p ∙ neither (has due p) (eq_by_cmp text_cmp p path) (no_left _ _ none) apart) inside needed)
          ]

      pub smaller : (before : List Path) → before ≡ due ++ path ∷ [] → IsWalk start seen before → IsWalk start seen' due' → length due' + length seen ≡ length due + length seen' →
          2 * (length ps - length seen') + length due' < 2 * (length ps - length seen) + length before
      smaller before popped w next count = omega (arith, longer w.order, few seen' due' next, ap length popped, length-append due (path ∷ []))
