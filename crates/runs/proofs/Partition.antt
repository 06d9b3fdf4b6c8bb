-- The sum over a block is that over its four quarters.
use Rattle.std.proofs.Common.{◌≡◌, ℕ, ◌+◌, ◌*◌, ap, ◌∙◌, arith}
use Rattle.basin.specs.Blocks.{patch}
use Rattle.basin.specs.Sums.{sum_below}
use Rattle.basin.proofs.Flat.{sum_below_cong, sum_below_add}
use Rattle.runs.proofs.Sums.{sum_below_pointwise}

pub halved : (s : ℕ) (g : ℕ → ℕ) (X : ℕ) → sum_below (s * 2) (λ i. g (X * (s * 2) + i))
    ≡ sum_below s (λ i. g (X * 2 * s + i)) + sum_below s (λ i. g ((X * 2 + 1) * s + i))
halved s g X =
    let two : s * 2 ≡ s + s = omega arith in
    ap (λ n. sum_below n (λ i. g (X * (s * 2) + i))) two
    ∙ omega (
      arith,
      sum_below_add s s (λ i. g (X * (s * 2) + i)),
      sum_below_cong s (λ i. g (X * (s * 2) + i)) (λ i. g (X * 2 * s + i)) (λ i b. ap g (omega arith)),
      sum_below_cong s (λ i. g (X * (s * 2) + (s + i))) (λ i. g ((X * 2 + 1) * s + i)) (λ i b. ap g (omega arith)),
    )

pub patch_quarters : (s : ℕ) (f : ℕ → ℕ → ℕ) (X Y : ℕ)
    → patch (s * 2) f X Y ≡ patch s f (X * 2) (Y * 2) + patch s f (X * 2 + 1) (Y * 2) + (patch s f (X * 2) (Y * 2 + 1) + patch s f (X * 2 + 1) (Y * 2 + 1))
patch_quarters s f X Y =
    sum_below_cong (s * 2) _ (λ j. row (Y * (s * 2) + j)) (λ j b. halved s (λ x. f x (Y * (s * 2) + j)) X)
    ∙ halved s row Y
    ∙ omega (
      arith,
      sum_below_pointwise s (λ j. sum_below s (λ i. f (X * 2 * s + i) (Y * 2 * s + j))) (λ j. sum_below s (λ i. f ((X * 2 + 1) * s + i) (Y * 2 * s + j))),
      sum_below_pointwise s (λ j. sum_below s (λ i. f (X * 2 * s + i) ((Y * 2 + 1) * s + j)))
          (λ j. sum_below s (λ i. f ((X * 2 + 1) * s + i) ((Y * 2 + 1) * s + j))),
    )
  where
    row : ℕ → ℕ
    row y = sum_below s (λ i. f (X * 2 * s + i) y) + sum_below s (λ i. f ((X * 2 + 1) * s + i) y)
