-- Squares whose levels fit those beside them.
use Rattle.std.specs.Prelude.{ℕ, ◌+◌, ◌-◌, ◌<◌, ◌≤◌}

-- levels at most one apart
abbrev pub Close : ℕ → ℕ → Type 0
Close a b = (a ≤ b + 1) × (b ≤ a + 1)

-- a square's level is close to those of its neighbours to the east and the north, where a table of n by n has them
pub record FitsBeside (n : ℕ) (level : ℕ → ℕ → ℕ) (x y : ℕ) : Type 0 where
  pub east : x + 1 < n → Close (level x y) (level (x + 1) y)
  pub north : y + 1 < n → Close (level x y) (level x (y + 1))
  pub north_east : x + 1 < n → y + 1 < n → Close (level x y) (level (x + 1) (y + 1))
  pub north_west : 0 < x → y + 1 < n → Close (level x y) (level (x - 1) (y + 1))

-- each square of row y, and of each of the first rows
abbrev pub RowFits : ℕ → (ℕ → ℕ → ℕ) → ℕ → Type 0
RowFits n level y = (x : ℕ) → x < n → FitsBeside n level x y

abbrev pub RowsFit : ℕ → (ℕ → ℕ → ℕ) → ℕ → Type 0
RowsFit n level rows = (y : ℕ) → y < rows → RowFits n level y
