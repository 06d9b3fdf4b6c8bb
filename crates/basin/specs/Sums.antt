-- Sums over a range and over a square grid.
use Rattle.std.specs.Prelude.{ℕ, zero, suc, ◌+◌, Bool, cond}

-- the sum of f over 0 .. n - 1
abbrev pub sum_below : ℕ → (ℕ → ℕ) → ℕ
sum_below zero f = 0
sum_below (suc n) f = sum_below n f + f n

-- over a grid of n by n
abbrev pub grid : ℕ → (ℕ → ℕ → ℕ) → ℕ
grid n f = sum_below n (λ y. sum_below n (λ x. f x y))

-- v under a condition, else 0
abbrev pub only : Bool → ℕ → ℕ
only b v = cond b v 0
