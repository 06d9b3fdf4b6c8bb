-- Sums over all blocks of a basin.
use Rattle.std.specs.Prelude.{ℕ, ◌+◌, ◌^◌, ◌==◌}
use Rattle.basin.specs.Blocks.{Block, block}
use Rattle.basin.specs.Sums.{sum_below, grid, only}

-- v where i is a, and 0 elsewhere
abbrev pub at : ℕ → ℕ → ℕ → ℕ
at a i v = only (i == a) v

-- the sum of f over all blocks of the levels 0 .. L
abbrev pub over : ℕ → (Block → ℕ) → ℕ
over L f = sum_below (L + 1) (λ k. grid (2 ^ k) (λ X Y. f (block k X Y)))

-- v where c is a, and 0 elsewhere
abbrev pub here : Block → Block → ℕ → ℕ
here a c v = at a.k c.k (at a.Y c.Y (at a.X c.X v))
