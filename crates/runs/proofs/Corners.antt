-- A sum over corners of leaves is a sum over leaves.
use Rattle.std.proofs.Common.{◌≡◌, ℕ, ◌+◌, ◌-◌, ◌*◌, ◌%◌, ◌^◌, ◌<◌, ◌≤◌, Bool, true, false, cond, ◌&&◌, eqb, sym, refl, ap, ◌∙◌, arith}
use lib.Arith.{digits_mod}
use Rattle.basin.specs.Sums.{sum_below, grid, only}
use Rattle.basin.specs.Totals.{is_corner}
use Rattle.basin.specs.Views.{View, size}
use Rattle.basin.proofs.Flat.{sum_below_cong, sum_below_rows}
use Rattle.basin.proofs.Sizes.{side_pos, side_times}
use Rattle.basin.proofs.Sums.{sum_below_none}
use Rattle.runs.specs.Homes.{tree, sort}
use Rattle.runs.specs.Overs.{at}
use Rattle.runs.specs.Trees.{is_whole, leaves}
use Rattle.runs.proofs.Sums.{sum_below_at, sum_below_swap, grid_cong}

multiples : (m s : ℕ) (g : ℕ → ℕ) → 0 < s → sum_below (m * s) (λ x. at 0 (x % s) (g x)) ≡ sum_below m (λ X. g (X * s))
multiples m s g h =
    sum_below_rows s m (λ x. at 0 (x % s) (g x))
    ∙ sum_below_cong m _ _ (λ X a.
    sum_below_cong s (λ i. at 0 ((X * s + i) % s) (g (X * s + i))) (λ i. at 0 i (g (X * s + i))) (λ i b. ap (λ r. at 0 r (g (X * s + i))) (digits_mod X b))
    ∙ sum_below_at s 0 (λ i. g (X * s + i)) h
    ∙ ap g (omega arith))

grid_multiples : (m s : ℕ) (g : ℕ → ℕ → ℕ) → 0 < s → grid (m * s) (λ x y. at 0 (y % s) (at 0 (x % s) (g x y))) ≡ grid m (λ X Y. g (X * s) (Y * s))
grid_multiples m s g h =
    sum_below_cong (m * s) _ (λ y. at 0 (y % s) (sum_below (m * s) (λ x. at 0 (x % s) (g x y)))) (λ y b. across (eqb (y % s) 0) y)
    ∙ multiples m s (λ y. sum_below (m * s) (λ x. at 0 (x % s) (g x y))) h
    ∙ sum_below_cong m _ _ (λ Y b. multiples m s (λ x. g x (Y * s)) h)
  where
    across : (z : Bool) (y : ℕ) → sum_below (m * s) (λ x. cond z (at 0 (x % s) (g x y)) 0) ≡ cond z (sum_below (m * s) (λ x. at 0 (x % s) (g x y))) 0
    across true y = refl
    across false y = sum_below_none (m * s) _ (λ i b. refl)

-- the corner of a block, by its two coordinates
pub corner_is : (a b n : ℕ) → only (eqb a 0 && eqb b 0) n ≡ at 0 b (at 0 a n)
corner_is a b n = grind arith

pub corners : (v : View) → ((x y : ℕ) → x < size v → y < size v → v.level x y ≤ v.L) → (g : ℕ → ℕ → ℕ)
    → grid (size v) (λ x y. only (is_corner v x y) (g x y)) ≡ leaves (tree v) (λ c. g (c.X * 2 ^ (v.L - c.k)) (c.Y * 2 ^ (v.L - c.k)))
unfolding leaves
corners v shallow g =
    grid_cong (size v) _ (λ x y. sum_below (v.L + 1) (λ k. at (v.level x y) k (at 0 (y % 2 ^ (v.L - k)) (at 0 (x % 2 ^ (v.L - k)) (g x y)))))
    (λ x y a b. corner_is (x % 2 ^ (v.L - v.level x y)) (y % 2 ^ (v.L - v.level x y)) (g x y)
    ∙ sym (sum_below_at (v.L + 1) (v.level x y) (λ k. at 0 (y % 2 ^ (v.L - k)) (at 0 (x % 2 ^ (v.L - k)) (g x y))) (omega (arith, shallow x y a b))))
    ∙ sum_below_cong (size v) _ _ (λ y b. sum_below_swap (size v) (v.L + 1)
    (λ x k. at (v.level x y) k (at 0 (y % 2 ^ (v.L - k)) (at 0 (x % 2 ^ (v.L - k)) (g x y)))))
    ∙ sum_below_swap (size v) (v.L + 1) (λ y k. sum_below (size v) (λ x. at (v.level x y) k (at 0 (y % 2 ^ (v.L - k)) (at 0 (x % 2 ^ (v.L - k)) (g x y)))))
    ∙ sum_below_cong (v.L + 1) _ _ (λ k h. at_level k (omega arith))
  where
    at_level : (k : ℕ) → k ≤ v.L
        → grid (size v) (λ x y. at (v.level x y) k (at 0 (y % 2 ^ (v.L - k)) (at 0 (x % 2 ^ (v.L - k)) (g x y))))
        ≡ grid (2 ^ k) (λ X Y. only (is_whole (sort (v.level (X * 2 ^ (v.L - k)) (Y * 2 ^ (v.L - k))) k)) (g (X * 2 ^ (v.L - k)) (Y * 2 ^ (v.L - k))))
    at_level k h =
        grid_cong (size v) _ (λ x y. at 0 (y % 2 ^ (v.L - k)) (at 0 (x % 2 ^ (v.L - k)) (only (is_whole (sort (v.level x y) k)) (g x y))))
        (λ x y a b. reorder (v.level x y) k (y % 2 ^ (v.L - k)) (x % 2 ^ (v.L - k)) (g x y))
        ∙ ap (λ n. grid n (λ x y. at 0 (y % 2 ^ (v.L - k)) (at 0 (x % 2 ^ (v.L - k)) (only (is_whole (sort (v.level x y) k)) (g x y)))))
        (side_times v.L k h)
        ∙ grid_multiples (2 ^ k) (2 ^ (v.L - k)) (λ x y. only (is_whole (sort (v.level x y) k)) (g x y)) (side_pos (v.L - k))
      where
        reorder : (m k a b x : ℕ) → at m k (at 0 a (at 0 b x)) ≡ at 0 a (at 0 b (only (is_whole (sort m k)) x))
        reorder m k a b x = grind arith
