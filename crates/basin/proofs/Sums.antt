-- Sums over a range.
use Rattle.std.proofs.Common.{◌≡◌, ℕ, zero, suc, ◌<◌, refl, ap, ◌∙◌, inl, inr, arith}
use Rattle.std.proofs.lemmas.Bool.{cases_eq}
use Rattle.basin.specs.Sums.{sum_below}

pub sum_below_none : (n : ℕ) (f : ℕ → ℕ) → ((i : ℕ) → i < n → f i ≡ 0) → sum_below n f ≡ 0
sum_below_none zero f h = refl
sum_below_none (suc n) f h = omega (arith, sum_below_none n f (λ i b. h i (omega arith)), h n (omega arith))

pub sum_below_zero : (n : ℕ) (f : ℕ → ℕ) → sum_below n f ≡ 0 → (i : ℕ) → i < n → f i ≡ 0
sum_below_zero zero f h i a = absurd (omega arith)
sum_below_zero (suc n) f h i a =
    elim (cases_eq i n) [
      | inl e ↦ ap f e ∙ omega arith
      | inr e ↦ sum_below_zero n f (omega arith) i (omega arith)
    ]

pub sum_below_found : (n : ℕ) (f : ℕ → ℕ) → 0 < sum_below n f → (i : ℕ) × (i < n) × (0 < f i)
sum_below_found zero f h = absurd (omega arith)
sum_below_found (suc n) f h =
    elim (cases_eq (f n) 0) [
      | inl e ↦ let r = sum_below_found n f (omega arith) in (r.0, omega (arith, r.1), r.2)
      | inr e ↦ (n, omega arith, omega arith)
    ]
