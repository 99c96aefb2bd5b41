-- How many of the objects that an object embeds have no look, as a work goes on.
use Rattle.std.proofs.Common.{◌≡◌, ℕ, ◌+◌, ◌-◌, ◌<◌, zero, suc, get_or, take, Bool, true, false, not, cond, ◌||◌, ◌&&◌, List, [], ◌∷◌, ◌++◌, Option, Some, None, length, refl, sym, ap, subst, ◌∙◌, arith}
use Rattle.std.specs.Prelude.{nat_eq}
use Rattle.std.specs.List.{flat_map, fold, list_all}
use Rattle.std.specs.Option.{unwrap_or}
use Rattle.std.proofs.Math.Dec.{eqb-suc-zero}
use Rattle.std.proofs.lemmas.Bool.{true≢false, or_left}
use Rattle.dup_names.specs.Order.{obj_cmp}
use Rattle.dup_names.specs.Words.{in_order}
use Rattle.dup_names.specs.declared.object.Obj.{Obj}
use Rattle.dup_names.specs.Objects.{is_in, same_obj}
use Rattle.dup_names.proofs.ObjectOrder.{obj_itself, obj_same}
use Rattle.dup_model.specs.Content.{Content}
use Rattle.dup_model.specs.Marks.{marks}
use Rattle.dup_model.specs.Skeletons.{embeds, hole_of}
use Rattle.dup_model.specs.Touched.{without}
use Rattle.dup_model.proofs.Earlier.{in_ordered}
use Rattle.dup_model.proofs.Objects.{IsOnce, filter_same, once_in_order, one_less}
use Rattle.dup_model.proofs.Reached.{or_right}
use Rattle.dup_machine.proofs.Closing.{without_parts}
use Rattle.dup_machine.proofs.InOrder.{in_both}
use Rattle.dup_graph.specs.Graph.{Nodes, has_child, no_node, parents}
use Rattle.dup_graph.proofs.Readers.{in_where}
use Rattle.dup_walk.specs.OverReads.{HasReads}
use Rattle.dup_sets.specs.Entries.{at, objs}
use Rattle.dup_sets.proofs.Sets.{item_in, taken_more}
use Rattle.dup_build.specs.declared.node.Node.{Node}
use Rattle.dup_build.specs.Missing.{AreCounts, less}
use Rattle.dup_build.specs.Nodes.{IsNode, below, children_of}
use Rattle.dup_build.proofs.Stocking.{children_opened}

-- what isn't among these objects leaves none of them out
none_less : (os : List Obj) (s : Obj → Bool) (o : Obj) → is_in os o ≡ false → without (λ x. same_obj x o || s x) os ≡ without s os
none_less os s o out = filter_same (λ x. not (same_obj x o || s x)) (λ x. not (s x)) os (λ x inside. by_tie x inside (same_obj x o) refl)
  where
    by_tie : (x : Obj) → is_in os x ≡ true → (b : Bool) → same_obj x o ≡ b → not (b || s x) ≡ not (s x)
    by_tie x inside true one = absurd (true≢false (sym inside ∙ ap (is_in os) (obj_same x o one) ∙ out))
    by_tie x inside false apart = refl

-- a level is taken off, one object after the other
counted_off : (kids : List Obj) → IsOnce kids → (level : List Obj) → IsOnce level → (s : Obj → Bool) → ((x : Obj) → is_in level x ≡ true → s x ≡ false) →
    fold (λ n o. cond (is_in kids o) (n - 1) n) (length (without s kids)) level ≡ length (without (λ x. is_in level x || s x) kids)
counted_off kids once [] h s free = refl
counted_off kids once (o ∷ level) h s free =
    ap (λ n. fold (λ n o. cond (is_in kids o) (n - 1) n) n level) (first (is_in kids o) refl)
    ∙ counted_off kids once level h.1 (λ x. same_obj x o || s x) (λ x inside. apart x inside (same_obj x o) refl)
    ∙ ap length (filter_same (λ x. not (is_in level x || (same_obj x o || s x))) (λ x. not ((same_obj x o || is_in level x) || s x)) kids (λ x inside. ap not (turned (is_in level x) (same_obj x o) (s x))))
  where
    first : (b : Bool) → is_in kids o ≡ b → cond b (length (without s kids) - 1) (length (without s kids)) ≡ length (without (λ x. same_obj x o || s x) kids)
    first true inside =
        let one : suc (length (without (λ x. same_obj x o || s x) kids)) ≡ length (without s kids) = one_less kids once s o inside (free o (or_left (same_obj o o) (is_in level o) (obj_itself o))) in
        omega (arith, one)
    first false out = ap length (sym (none_less kids s o out))

    apart : (x : Obj) → is_in level x ≡ true → (b : Bool) → same_obj x o ≡ b → (b || s x) ≡ false
    apart x inside true one = absurd (true≢false (sym inside ∙ ap (is_in level) (obj_same x o one) ∙ h.0))
    apart x inside false other = free x (or_right (same_obj x o) (is_in level x) inside)

    turned : (a b c : Bool) → (a || (b || c)) ≡ ((b || a) || c)
    turned true true c = refl
    turned true false c = refl
    turned false true c = refl
    turned false false c = refl

some_counted : (test : Obj → Bool) (m : ℕ) (level : List Obj) → fold (λ n o. cond (test o) (less n) n) (Some m) level ≡ Some (fold (λ n o. cond (test o) (n - 1) n) m level)
some_counted test m [] = refl
some_counted test m (o ∷ level) = by_test (test o) (λ k. some_counted test k level)
  where
    by_test : (b : Bool) → ((k : ℕ) → fold (λ n o. cond (test o) (less n) n) (Some k) level ≡ Some (fold (λ n o. cond (test o) (n - 1) n) k level)) → fold (λ n o. cond (test o) (less n) n) (cond b (less (Some m)) (Some m)) level ≡ Some (fold (λ n o. cond (test o) (n - 1) n) (cond b (m - 1) m) level)
    by_test true rest = rest (m - 1)
    by_test false rest = rest m

-- once a level is joined
pub joined_counts : (c : Content) (nodes : List (Obj × Node)) (looked more among left level : List Obj) (g : Nodes) (missing after : List (Obj × ℕ)) →
    ((x : Obj) (n : Node) → at nodes x ≡ Some n → IsNode c x n) → HasReads c (objs nodes) g → AreCounts nodes looked among missing →
    more ≡ in_order obj_cmp (level ++ looked) → left ≡ without (is_in level) among → IsOnce level → ((x : Obj) → is_in level x ≡ true → is_in looked x ≡ false) →
    ((x : Obj) → at after x ≡ fold (λ n o. cond (is_in (parents g o) x) (less n) n) (at missing x) level) → AreCounts nodes more left after
joined_counts c nodes looked more among left level g missing after are has counts more_is left_is once free each x inside done =
    each x
    ∙ ap (λ m. fold (λ n o. cond (is_in (parents g o) x) (less n) n) m level) (counts x (without_parts (is_in level) among x (ap (λ l. is_in l x) (sym left_is) ∙ inside)).0 done)
    ∙ some_counted (λ o. is_in (parents g o) x) (length (without (is_in looked) kids)) level
    ∙ ap Some ((λ i. fold (λ n o. cond (embedded o i) (n - 1) n) (length (without (is_in looked) kids)) level)
    ∙ counted_off kids once_kids level once (is_in looked) free
    ∙ ap length (filter_same (λ y. not (is_in level y || is_in looked y)) (λ y. not (is_in more y)) kids (λ y here. ap not (sym (in_both level looked y) ∙ ap (λ l. is_in l y) (sym more_is)))))
  where
    kids : List Obj
    kids = children_of (at nodes x)

    kids_are : kids ≡ embeds c x
    kids_are = children_opened c nodes are x ∙ ap (λ b. cond b (embeds c x) []) done

    once_kids : IsOnce kids
    once_kids = subst IsOnce (sym kids_are) (once_in_order (flat_map hole_of (marks c x)))

    embedded : (o : Obj) → is_in (parents g o) x ≡ is_in kids o
    embedded o = in_where (has_child o) refl g x ∙ ap (λ n. is_in (unwrap_or n no_node).children o) (has x done) ∙ ap (λ l. is_in l o) (sym kids_are)

-- once one more object is done, and more are found by it
pub kept_counts : (nodes more : List (Obj × Node)) (looked among fresh wider : List Obj) (o : Obj) (n : Node) (missing after : List (Obj × ℕ)) → AreCounts nodes looked among missing →
    ((q : Obj) → at more q ≡ cond (same_obj q o) (Some n) (at nodes q)) → objs more ≡ in_order obj_cmp (o ∷ objs nodes) → wider ≡ in_order obj_cmp (fresh ++ among) →
    at after o ≡ Some (length (without (is_in looked) n.children)) →
    ((q : Obj) → is_in fresh q ≡ true → same_obj q o ≡ false → at after q ≡ Some (length (without (is_in looked) (children_of (at nodes q))))) →
    ((q : Obj) → is_in fresh q ≡ false → same_obj q o ≡ false → at after q ≡ at missing q) → AreCounts more looked wider after
kept_counts nodes more looked among fresh wider o n missing after counts more_at more_objs wider_is new found others q inside done = by_tie (same_obj q o) refl
  where
    with_children : (m : Option Node) → at more q ≡ m → at after q ≡ Some (length (without (is_in looked) (children_of m))) → at after q ≡ Some (length (without (is_in looked) (children_of (at more q))))
    with_children m is h = h ∙ ap (λ m. Some (length (without (is_in looked) (children_of m)))) (sym is)

    by_tie : (b : Bool) → same_obj q o ≡ b → at after q ≡ Some (length (without (is_in looked) (children_of (at more q))))
    by_tie true one = with_children (Some n) (more_at q ∙ ap (λ b. cond b (Some n) (at nodes q)) one) (ap (at after) (obj_same q o one) ∙ new)
    by_tie false apart = with_children (at nodes q) (more_at q ∙ ap (λ b. cond b (Some n) (at nodes q)) apart) (by_found (is_in fresh q) refl)
      where
        by_found : (b : Bool) → is_in fresh q ≡ b → at after q ≡ Some (length (without (is_in looked) (children_of (at nodes q))))
        by_found true here = found q here apart
        by_found false out =
            others q out apart
            ∙ counts q (ap (λ b. b || is_in among q) (sym out) ∙ sym (in_both fresh among q) ∙ ap (λ l. is_in l q) (sym wider_is) ∙ inside)
            (ap (λ b. b || is_in (objs nodes) q) (sym apart) ∙ sym (in_ordered (o ∷ objs nodes) q) ∙ ap (λ l. is_in l q) (sym more_objs) ∙ done)

-- where others alone are counted
pub other_counts : (nodes : List (Obj × Node)) (looked among fresh : List Obj) (o : Obj) (missing after : List (Obj × ℕ)) → AreCounts nodes looked among missing → is_in (objs nodes) o ≡ false →
    ((q : Obj) → is_in fresh q ≡ true → is_in among q ≡ false) → ((q : Obj) → is_in fresh q ≡ false → same_obj q o ≡ false → at after q ≡ at missing q) → AreCounts nodes looked among after
other_counts nodes looked among fresh o missing after counts out apart others q inside done = others q (by_found (is_in fresh q) refl) (by_tie (same_obj q o) refl) ∙ counts q inside done
  where
    by_found : (b : Bool) → is_in fresh q ≡ b → b ≡ false
    by_found true here = absurd (true≢false (sym inside ∙ apart q here))
    by_found false there = refl

    by_tie : (b : Bool) → same_obj q o ≡ b → b ≡ false
    by_tie true one = absurd (true≢false (sym done ∙ ap (is_in (objs nodes)) (obj_same q o one) ∙ out))
    by_tie false other = refl

-- where the nodes are read the same
pub same_counts : (nodes same : List (Obj × Node)) (looked among : List Obj) (missing : List (Obj × ℕ)) → ((q : Obj) → at same q ≡ at nodes q) → objs same ≡ objs nodes → AreCounts nodes looked among missing →
    AreCounts same looked among missing
same_counts nodes same looked among missing same_at same_objs counts q inside done =
    counts q inside (ap (λ l. is_in l q) (sym same_objs) ∙ done) ∙ ap (λ m. Some (length (without (is_in looked) (children_of m)))) (sym (same_at q))

-- on the way to the next content
pub moved_counts : (nodes fewer : List (Obj × Node)) (looked left among dropped : List Obj) (missing : List (Obj × ℕ)) → ((q : Obj) → at fewer q ≡ cond (is_in dropped q) None (at nodes q)) → left ≡ looked →
    ((x : Obj) → is_in among x ≡ true → at missing x ≡ Some (length (without (is_in looked) (below nodes dropped x)))) → AreCounts fewer left among missing
moved_counts nodes fewer looked left among dropped missing fewer_at left_is each x inside done =
    each x inside ∙ (λ i. Some (length (without (is_in (sym left_is i)) (by_drop (is_in dropped x) i)))) ∙ ap (λ m. Some (length (without (is_in left) (children_of m)))) (sym (fewer_at x))
  where
    by_drop : (b : Bool) → cond b [] (children_of (at nodes x)) ≡ children_of (cond b None (at nodes x))
    by_drop true = refl
    by_drop false = refl

-- nothing is missing just where all have looks
pub none_missing : (s : Obj → Bool) (os : List Obj) → nat_eq (length (without s os)) 0 ≡ list_all s os
none_missing s [] = refl
none_missing s (o ∷ os) = by_test (s o) (none_missing s os)
  where
    by_test : (b : Bool) → nat_eq (length (without s os)) 0 ≡ list_all s os → nat_eq (length (cond (not b) (o ∷ without s os) (without s os))) 0 ≡ (b && list_all s os)
    by_test true more = more
    by_test false more = eqb-suc-zero (length (without s os))

or_none : (b : Bool) → (b || false) ≡ b
or_none true = refl
or_none false = refl

or_true : (b : Bool) → (b || true) ≡ true
or_true true = refl
or_true false = refl

-- what stands behind others isn't one of them
not_before : (xs : List Obj) → IsOnce xs → (i : ℕ) (o : Obj) → i < length xs → o ≡ get_or xs i o → is_in (take i xs) o ≡ false
not_before [] h i o below is = absurd (omega (arith, below))
not_before (x ∷ xs) h zero o below is = refl
not_before (x ∷ xs) h (suc i) o below is =
    (λ j. apart (same_obj o x) refl j || not_before xs h.1 i o (omega (arith, below)) is j)
  where
    apart : (b : Bool) → same_obj o x ≡ b → b ≡ false
    apart true one = absurd (true≢false (sym (item_in xs i o (omega (arith, below)) is) ∙ ap (is_in xs) (obj_same o x one) ∙ h.0))
    apart false other = refl

-- a walk over objects comes to the next one
module _ (xs : List Obj) (i : ℕ) (o : Obj) (below : i < length xs) (is : o ≡ get_or xs i o) where
  pub counted_more : (many : Obj → ℕ) (old new : List (Obj × ℕ)) → ((x : Obj) → is_in (take i xs) x ≡ true → at old x ≡ Some (many x)) →
      ((x : Obj) → at new x ≡ cond (same_obj x o) (Some (many o)) (at old x)) → (x : Obj) → is_in (take (i + 1) xs) x ≡ true → at new x ≡ Some (many x)
  counted_more many old new before put x h = put x ∙ by_tie (same_obj x o) refl (sym (taken_more xs i o below is x) ∙ h)
    where
      by_tie : (b : Bool) → same_obj x o ≡ b → (is_in (take i xs) x || b) ≡ true → cond b (Some (many o)) (at old x) ≡ Some (many x)
      by_tie true one h = ap (λ y. Some (many y)) (sym (obj_same x o one))
      by_tie false apart h = before x (sym (or_none (is_in (take i xs) x)) ∙ h)

  pub others_more : (n : ℕ) (start old new : List (Obj × ℕ)) → ((x : Obj) → is_in xs x ≡ false → at old x ≡ at start x) →
      ((x : Obj) → at new x ≡ cond (same_obj x o) (Some n) (at old x)) → (x : Obj) → is_in xs x ≡ false → at new x ≡ at start x
  others_more n start old new before put x out = put x ∙ by_tie (same_obj x o) refl
    where
      by_tie : (b : Bool) → same_obj x o ≡ b → cond b (Some n) (at old x) ≡ at start x
      by_tie true one = absurd (true≢false (sym (ap (is_in xs) (obj_same x o one) ∙ item_in xs i o below is) ∙ out))
      by_tie false apart = before x out

  pub lowered_more : IsOnce xs → (start old new : List (Obj × ℕ)) → ((x : Obj) → at old x ≡ cond (is_in (take i xs) x) (less (at start x)) (at start x)) →
      ((x : Obj) → at new x ≡ cond (same_obj x o) (less (at old x)) (at old x)) → (x : Obj) → at new x ≡ cond (is_in (take (i + 1) xs) x) (less (at start x)) (at start x)
  lowered_more once start old new before lower x = lower x ∙ by_tie (same_obj x o) refl ∙ ap (λ b. cond b (less (at start x)) (at start x)) (sym (taken_more xs i o below is x))
    where
      by_tie : (b : Bool) → same_obj x o ≡ b → cond b (less (at old x)) (at old x) ≡ cond (is_in (take i xs) x || b) (less (at start x)) (at start x)
      by_tie true one =
          ap less (before x ∙ ap (λ b. cond b (less (at start x)) (at start x)) (ap (is_in (take i xs)) (obj_same x o one) ∙ not_before xs once i o below is))
          ∙ ap (λ b. cond b (less (at start x)) (at start x)) (sym (or_true (is_in (take i xs) x)))
      by_tie false apart = before x ∙ ap (λ b. cond b (less (at start x)) (at start x)) (sym (or_none (is_in (take i xs) x)))
