-- Squares that say the same as their block, and valid squares.
use Rattle.std.specs.Prelude.{◌≡◌, ℕ, ◌+◌, ◌*◌, ◌/◌, ◌<◌, false, List, slice_index, slice_index_or}
use Rattle.basin.specs.declared.leaf.Leaf.{Leaf}
use Rattle.basin.specs.Basins.{Basin, side, view}
use Rattle.basin.specs.Flaws.{flaw_at}
use Rattle.basin.specs.Records.{dry}
use Rattle.basin.specs.Views.{side_of}

-- two squares, by their places in the tables, have the same level and the same record
abbrev pub Alike : List ℕ → List Leaf → ℕ → ℕ → Type 0
Alike levels leaves i j = (slice_index levels j ≡ slice_index levels i) × (slice_index_or leaves j dry ≡ slice_index_or leaves i dry)

-- a square of a block of side s is like the block's south-west corner, and like its neighbours east and north that lie in the block
pub record FitsBlock (n s : ℕ) (levels : List ℕ) (leaves : List Leaf) (x y : ℕ) : Type 0 where
  pub corner : Alike levels leaves (y * n + x) (y / s * s * n + x / s * s)
  pub east : x + 1 < n → x / s ≡ (x + 1) / s → Alike levels leaves (y * n + x) (y * n + (x + 1))
  pub north : y + 1 < n → y / s ≡ (y + 1) / s → Alike levels leaves (y * n + x) ((y + 1) * n + x)

-- a square's own numbers are in their ranges, and it fits the block of its level
pub record SquareValid (b : Basin) (x y : ℕ) : Type 0 where
  pub own : flaw_at (view b) x y ≡ false
  pub block : FitsBlock (side b.head) (side_of (view b) ((view b).level x y)) b.tables.levels b.tables.leaves x y

-- each square of row y, and of each of the first rows
abbrev pub RowValid : Basin → ℕ → Type 0
RowValid b y = (x : ℕ) → x < side b.head → SquareValid b x y

abbrev pub RowsValid : Basin → ℕ → Type 0
RowsValid b rows = (y : ℕ) → y < rows → RowValid b y
