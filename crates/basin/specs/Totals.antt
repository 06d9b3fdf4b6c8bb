-- All the water of a basin.
use Rattle.std.specs.Prelude.{ℕ, ◌+◌, ◌%◌, Bool, ◌&&◌, ◌==◌}
use Rattle.basin.specs.Basins.{Basin, view}
use Rattle.basin.specs.Squares.{water}
use Rattle.basin.specs.Sums.{grid, only}
use Rattle.basin.specs.Views.{View, size, side_of}

-- the square is the south-west corner of a block of side s
abbrev pub corner_of : (s x y : ℕ) → Bool
corner_of s x y = x % s == 0 && y % s == 0

-- the square is the south-west corner of its leaf
abbrev pub is_corner : View → ℕ → ℕ → Bool
is_corner v x y = corner_of (side_of v (v.level x y)) x y

-- the water of all leaves, each counted at its corner
abbrev pub all_water : View → ℕ
all_water v = grid (size v) (λ x y. only (is_corner v x y) (water v x y))

-- the water of all leaves and the loose account
abbrev pub total : Basin → ℕ
total b = all_water (view b) + b.head.loose
