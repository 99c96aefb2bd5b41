-- What holds of a number holds of a least one.
use Rattle.std.proofs.Common.{◌≡◌, ℕ, zero, suc, ◌<◌, Bool, true, false, refl, arith}

pub least : (p : ℕ → Bool) (n : ℕ) → p n ≡ true → (m : ℕ) × (p m ≡ true) × ((i : ℕ) → i < m → p i ≡ false)
least p zero h = (0, h, λ i less. absurd (omega (arith, less)))
least p (suc n) h = by_first (p 0) refl (least (λ i. p (suc i)) n h)
  where
    by_first : (b : Bool) → p 0 ≡ b → (m : ℕ) × (p (suc m) ≡ true) × ((i : ℕ) → i < m → p (suc i) ≡ false) → (m : ℕ) × (p m ≡ true) × ((i : ℕ) → i < m → p i ≡ false)
    by_first true is later = (0, is, λ i less. absurd (omega (arith, less)))
    by_first false isnt later = (suc later.0, later.1, below)
      where
        below : (i : ℕ) → i < suc later.0 → p i ≡ false
        below zero less = isnt
        below (suc i) less = later.2 i (omega (arith, less))
