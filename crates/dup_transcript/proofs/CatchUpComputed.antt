-- The worked example of catching up, computed.
use Rattle.std.proofs.Common.{◌≡◌, ℕ, zero, suc, Bool, true, false, cond, [], ◌∷◌, Some, refl, ap, ◌∙◌}
use Rattle.std.specs.Prelude.{replicate}
use Rattle.std.specs.List.{fold, filter_map}
use Rattle.std.specs.Ordering.{eq_by_cmp}
use Rattle.std.specs.FinMap as fin
use Rattle.std.specs.Cmp.Lexicographic.{nat_list_cmp_total}
use Rattle.dup_names.specs.Order.{text_cmp}
use Rattle.dup_names.specs.Words.{Path}
use Rattle.dup_model.specs.Editions.{Edition, absorb, edition}
use Rattle.dup_model.specs.declared.mode.Mode.TheVariants.{Update}
use Rattle.dup_transcript.specs.CatchUpRows.{old_one, two, new_one, put_of, log_of, cache_of, CatchUpRow}

twice : {A : Type 0} (b : Bool) (x y : A) → cond b x (cond b x y) ≡ cond b x y
twice true x y = refl
twice false x y = refl

-- one page put again and again
put_again : (n : ℕ) (e : Edition) (q : Path) →
    fin.get (fold absorb e (replicate (suc n) (put_of new_one))) q ≡ cond (eq_by_cmp text_cmp q new_one.path) (Some new_one) (fin.get e q)
put_again zero e q = fin.get-insert nat_list_cmp_total e new_one.path new_one q
put_again (suc n) e q =
    put_again n (fin.insert e new_one.path new_one) q
    ∙ ap (cond (eq_by_cmp text_cmp q new_one.path) (Some new_one)) (fin.get-insert nat_list_cmp_total e new_one.path new_one q)
    ∙ twice (eq_by_cmp text_cmp q new_one.path) (Some new_one) (fin.get e q)

abbrev front : Edition
front = edition (put_of old_one ∷ (put_of two ∷ []))

two_in_front : fin.get front two.path ≡ Some two
two_in_front = fin.get-insert nat_list_cmp_total (edition (put_of old_one ∷ [])) two.path two two.path

module _ (n : ℕ) where
  one_at : fin.get (edition (log_of (suc n))) old_one.path ≡ Some new_one
  one_at = put_again n front old_one.path

  two_at : fin.get (edition (log_of (suc n))) two.path ≡ Some two
  two_at = put_again n front two.path ∙ two_in_front

  updated : filter_map (λ page. fin.get (edition (log_of (suc n))) page.path) (two ∷ (old_one ∷ [])) ≡ two ∷ (new_one ∷ [])
  updated = rw (two_at, one_at) refl

pub catch_up_row : CatchUpRow
catch_up_row = record {
  invalidate_64 = refl;
  invalidate_65 = refl;
  update_64 = ap (cache_of Update 66) (updated 63);
  update_65 = ap (cache_of Update 67) (updated 64);
}
