-- Blocks of squares: the cells of the quadtree.
use Rattle.std.specs.Prelude.{ℕ, ◌+◌, ◌-◌, ◌*◌, ◌^◌, ◌<◌, ◌≤◌}
use Rattle.basin.specs.Sums.{grid}

-- a cell's address: the block of level k that is the X-th eastward and the Y-th northward of its level
pub record Block : Type 0 where
  pub k : ℕ
  pub X : ℕ
  pub Y : ℕ

abbrev pub block : ℕ → ℕ → ℕ → Block
block k X Y = record { k = k; X = X; Y = Y }

-- a block of a basin of L levels
pub record Within (L : ℕ) (c : Block) : Type 0 where
  pub deep : c.k ≤ L
  pub east : c.X < 2 ^ c.k
  pub north : c.Y < 2 ^ c.k

-- the sum of f over the squares of the X-th by Y-th block of side s
abbrev pub patch : ℕ → (ℕ → ℕ → ℕ) → ℕ → ℕ → ℕ
patch s f X Y = grid s (λ i j. f (X * s + i) (Y * s + j))

-- the sum of f over the squares of a block of a basin of L levels
abbrev pub block_sum : ℕ → (ℕ → ℕ → ℕ) → Block → ℕ
block_sum L f c = patch (2 ^ (L - c.k)) f c.X c.Y
