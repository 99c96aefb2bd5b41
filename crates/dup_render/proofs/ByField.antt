-- The order of rows by a field is total, and tells different rows apart.
use Rattle.std.proofs.Common.{◌≡◌, ℕ, length, sym, subst, ◌∙◌, true}
use Rattle.std.specs.Cmp.{IsTotalOrder, nat_cmp_total, Equal-is, eq_by_cmp_equiv, both_ways}
use Rattle.std.specs.Cmp.Lexicographic.{nat_list_cmp_total, nat_list_eq_equiv, texts_ties}
use Rattle.std.specs.FinMap as fin
use Rattle.std.specs.Ordering.{eq_by_cmp, nat_cmp, ordering_then}
use Rattle.std.specs.declared.cmp.Ordering.TheVariants.{Equal}
use Rattle.std.proofs.lemmas.Cmp.{then_total, on_total}
use Rattle.dup_names.specs.Order.{text_cmp}
use Rattle.dup_names.specs.Words.{Word, same}
use Rattle.dup_model.specs.Content.{Content, text}
use Rattle.dup_model.specs.Here.{by_field}
use Rattle.dup_names.proofs.ObjectOrder.{then_equal}

word_tied : (a b : Word) → text_cmp a b ≡ Equal → a ≡ b
word_tied a b is = fin.slice_cmp-IsAntisymmetric fin.nat_cmp-IsAntisymmetric a b is

module _ (c : Content) (kind field : ℕ) where
  abbrev field_text : Word → Word
  field_text key = text c kind key field

  pub by_field_total : IsTotalOrder (by_field c kind field)
  by_field_total =
      then_total (on_total (λ p. length (field_text p)) nat_cmp_total) (then_total (on_total field_text nat_list_cmp_total) nat_list_cmp_total)

  pub by_field_tied : (p q : Word) → by_field c kind field p q ≡ Equal → p ≡ q
  by_field_tied p q is =
      let a = field_text p in
      let b = field_text q in
      word_tied p q (then_equal (text_cmp a b) (text_cmp p q) (then_equal (nat_cmp (length a) (length b)) (ordering_then (text_cmp a b) (text_cmp p q)) is).1).1

  pub by_field_ties : (p q : Word) → same p q ≡ eq_by_cmp (by_field c kind field) p q
  by_field_ties p q = both_ways _ _
      (λ h. subst (λ r. eq_by_cmp (by_field c kind field) p r ≡ true) (word_tied p q ((Equal-is (text_cmp p q)).0 (sym (texts_ties p q) ∙ h))) ((eq_by_cmp_equiv by_field_total).refl p))
      (λ h. subst (λ r. same p r ≡ true) (by_field_tied p q ((Equal-is (by_field c kind field p q)).0 h)) (nat_list_eq_equiv.refl p))
