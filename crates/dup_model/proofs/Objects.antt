-- Objects in order stand once each, and how many are left when some are taken.
use Rattle.std.proofs.Common.{◌≡◌, suc, ◌+◌, ◌⊎◌, inl, inr, Bool, true, false, not, cond, ◌||◌, ◌&&◌, List, [], ◌∷◌, length, refl, sym, ap, ◌∙◌, arith}
use Rattle.std.specs.List.{filter}
use Rattle.std.specs.declared.cmp.Ordering.TheVariants.{Less}
use Rattle.std.proofs.lemmas.Bool.{true≢false, cases_Bool, or_cases, or_left}
use Rattle.dup_names.specs.Order.{obj_cmp}
use Rattle.dup_names.specs.declared.object.Obj.{Obj}
use Rattle.dup_names.specs.Words.{in_order}
use Rattle.dup_names.specs.Objects.{same_obj, is_in}
use Rattle.dup_model.specs.Touched.{without}
use Rattle.dup_names.proofs.ObjectOrder.{obj_itself, obj_same, obj_tied, obj_total}
use Rattle.dup_model.proofs.Reached.{or_right}
use Rattle.dup_model.proofs.Canonical.{Below, Rises, rises_in_order, not_both}

-- no object stands twice
abbrev pub IsOnce : List Obj → Type 0
IsOnce [] = Unit {0}
IsOnce (o ∷ os) = (is_in os o ≡ false) × IsOnce os

no_in_below : (o : Obj) (os : List Obj) → Below obj_cmp obj_total obj_tied o os → is_in os o ≡ false
no_in_below o [] all = refl
no_in_below o (x ∷ xs) all = elim (cases_Bool (same_obj o x)) [
  | inl tied ↦
      let less : obj_cmp o o ≡ Less = ap (obj_cmp o) (obj_same o x tied) ∙ all.0 in
      absurd (not_both obj_cmp obj_total obj_tied o o less less)
  | inr apart ↦ rw apart (no_in_below o xs all.1)
]

once_rises : (os : List Obj) → Rises obj_cmp obj_total obj_tied os → IsOnce os
once_rises [] h = tt
once_rises (o ∷ os) h = (no_in_below o os h.0, once_rises os h.1)

pub once_in_order : (os : List Obj) → IsOnce (in_order obj_cmp os)
once_in_order os = once_rises (in_order obj_cmp os) (rises_in_order obj_cmp obj_total obj_tied os)

-- objects that pass a test

and_false : (b : Bool) → (b && false) ≡ false
and_false true = refl
and_false false = refl

in_filter_at : (f : Obj → Bool) (o x : Obj) (kept : List Obj) (more : Bool) → is_in kept x ≡ (more && f x) → (tie : Bool) → same_obj x o ≡ tie → (b : Bool) → f o ≡ b →
    is_in (cond b (o ∷ kept) kept) x ≡ ((tie || more) && f x)
in_filter_at f o x kept more rest true is true keeps = rw (is, obj_same x o is, keeps) refl
in_filter_at f o x kept more rest true is false keeps = rest ∙ rw (obj_same x o is, keeps) (and_false more)
in_filter_at f o x kept more rest false is true keeps = rw is rest
in_filter_at f o x kept more rest false is false keeps = rest

pub in_filter : (f : Obj → Bool) (os : List Obj) (x : Obj) → is_in (filter f os) x ≡ (is_in os x && f x)
in_filter f [] x = refl
in_filter f (o ∷ os) x = in_filter_at f o x (filter f os) (is_in os x) (in_filter f os x) (same_obj x o) refl (f o) refl

pub once_filter : (f : Obj → Bool) (os : List Obj) → IsOnce os → IsOnce (filter f os)
once_filter f [] h = tt
once_filter f (o ∷ os) h = by_test (f o) (in_filter f os o ∙ ap (λ b. b && f o) h.0) (once_filter f os h.1)
  where
    by_test : (b : Bool) → is_in (filter f os) o ≡ false → IsOnce (filter f os) → IsOnce (cond b (o ∷ filter f os) (filter f os))
    by_test true none rest = (none, rest)
    by_test false none rest = rest

pub filter_same : (f g : Obj → Bool) (os : List Obj) → ((x : Obj) → is_in os x ≡ true → f x ≡ g x) → filter f os ≡ filter g os
filter_same f g [] same = refl
filter_same f g (o ∷ os) same =
    ap (λ b. cond b (o ∷ filter f os) (filter f os)) (same o (or_left _ _ (obj_itself o)))
    ∙ ap (λ rest. cond (g o) (o ∷ rest) rest) (filter_same f g os (λ x inside. same x (or_right _ _ inside)))

apart_from : (o : Obj) (os : List Obj) (x : Obj) → is_in os o ≡ false → is_in os x ≡ true → same_obj x o ≡ false
apart_from o os x none inside = elim (cases_Bool (same_obj x o)) [
  | inl tied ↦ absurd (true≢false (sym inside ∙ ap (is_in os) (obj_same x o tied) ∙ none))
  | inr apart ↦ apart
]

-- one more object is taken from those that are left
pub one_less : (os : List Obj) → IsOnce os → (s : Obj → Bool) (o : Obj) → is_in os o ≡ true → s o ≡ false →
    suc (length (without (λ x. same_obj x o || s x) os)) ≡ length (without s os)
one_less [] h s o inside free = absurd (true≢false (sym inside))
one_less (x ∷ xs) h s o inside free = by_tie (same_obj o x) refl (or_cases _ _ inside) (λ later. one_less xs h.1 s o later free)
  where
    by_kept : (b : Bool) → suc (length (filter (λ y. not (same_obj y o || s y)) xs)) ≡ length (filter (λ y. not (s y)) xs) →
        suc (length (cond (not b) (x ∷ filter (λ y. not (same_obj y o || s y)) xs) (filter (λ y. not (same_obj y o || s y)) xs))) ≡ length (cond (not b) (x ∷ filter (λ y. not (s y)) xs) (filter (λ y. not (s y)) xs))
    by_kept true later = later
    by_kept false later = ap suc later

    by_tie : (b : Bool) → same_obj o x ≡ b → (same_obj o x ≡ true) ⊎ (is_in xs o ≡ true) → (is_in xs o ≡ true → suc (length (without (λ x. same_obj x o || s x) xs)) ≡ length (without s xs)) →
        suc (length (without (λ x. same_obj x o || s x) (x ∷ xs))) ≡ length (without s (x ∷ xs))
    by_tie true tied which later =
        let one : o ≡ x = obj_same o x tied in
        let left : filter (λ y. not (same_obj y o || s y)) xs ≡ filter (λ y. not (s y)) xs =
        filter_same (λ y. not (same_obj y o || s y)) (λ y. not (s y)) xs (λ y inside. ap (λ b. not (b || s y)) (apart_from o xs y (ap (is_in xs) one ∙ h.0) inside)) in
        ap (λ b. suc (length (cond (not (b || s x)) (x ∷ filter (λ y. not (same_obj y o || s y)) xs) (filter (λ y. not (same_obj y o || s y)) xs)))) (ap (same_obj x) one ∙ obj_itself x)
        ∙ ap (λ l. suc (length l)) left
        ∙ sym (ap (λ b. length (cond (not b) (x ∷ filter (λ y. not (s y)) xs) (filter (λ y. not (s y)) xs))) (ap s (sym one) ∙ free))
    by_tie false apart (inl tied) later = absurd (true≢false (sym tied ∙ apart))
    by_tie false apart (inr inside) later =
        let other : same_obj x o ≡ false = elim (cases_Bool (same_obj x o)) [ inl tied ↦ absurd (true≢false (sym (ap (λ y. same_obj y x) (sym (obj_same x o tied)) ∙ obj_itself x) ∙ apart)) | inr is ↦ is ] in
        ap (λ b. suc (length (cond (not (b || s x)) (x ∷ filter (λ y. not (same_obj y o || s y)) xs) (filter (λ y. not (same_obj y o || s y)) xs)))) other
        ∙ by_kept (s x) (later inside)

-- several are taken
pub some_less : (os : List Obj) → IsOnce os → (taken : List Obj) → IsOnce taken → (s : Obj → Bool) → ((x : Obj) → is_in taken x ≡ true → (is_in os x ≡ true) × (s x ≡ false)) →
    length (without (λ x. is_in taken x || s x) os) + length taken ≡ length (without s os)
some_less os h [] k s free = omega arith
some_less os h (t ∷ taken) k s free =
    let first : (is_in os t ≡ true) × (s t ≡ false) = free t (or_left _ _ (obj_itself t)) in
    let rest : length (without (λ x. is_in taken x || s x) os) + length taken ≡ length (without s os) = some_less os h taken k.1 s (λ x inside. free x (or_right _ _ inside)) in
    let one : suc (length (without (λ x. same_obj x t || (is_in taken x || s x)) os)) ≡ length (without (λ x. is_in taken x || s x) os) =
    one_less os h (λ x. is_in taken x || s x) t first.0 (ap (λ b. b || s t) k.0 ∙ first.1) in
    let turned : without (λ x. (same_obj x t || is_in taken x) || s x) os ≡ without (λ x. same_obj x t || (is_in taken x || s x)) os =
    filter_same _ _ os (λ x inside. ap not (or_assoc (same_obj x t) (is_in taken x) (s x))) in
    omega (arith, rest, one, ap length turned)
  where
    or_assoc : (a b c : Bool) → ((a || b) || c) ≡ (a || (b || c))
    or_assoc true b c = refl
    or_assoc false b c = refl
