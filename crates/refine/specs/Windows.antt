-- The levels of a window's squares, and the windows of blocks.
use Rattle.std.specs.Prelude.{◌≡◌, ℕ, ◌+◌, ◌-◌, ◌*◌, ◌/◌, ◌≤◌, min, List}
use Rattle.basin.specs.declared.window.Window.{Window}
use Rattle.basin.specs.Tables.{entry}
use Rattle.basin.specs.Views.{View, size, side_of}
use Rattle.basin.specs.Windows.{Seen}

-- the levels of the window's squares are from low to high
abbrev pub Between : ℕ → List ℕ → Window → (low high : ℕ) → Type 0
Between n levels w low high = (x y : ℕ) → Seen w x y → (low ≤ entry n 0 levels x y) × (entry n 0 levels x y ≤ high)

-- the window of the block of level k at (x, y), and that of the block with the squares that touch it
pub record BlockWindow (v : View) (k x y : ℕ) (w : Window) : Type 0 where
  pub west : w.west ≡ x / side_of v k * side_of v k
  pub east : w.east ≡ x / side_of v k * side_of v k + side_of v k
  pub south : w.south ≡ y / side_of v k * side_of v k
  pub north : w.north ≡ y / side_of v k * side_of v k + side_of v k

pub record RingWindow (v : View) (k x y : ℕ) (w : Window) : Type 0 where
  pub west : w.west ≡ x / side_of v k * side_of v k - 1
  pub east : w.east ≡ min (size v) (x / side_of v k * side_of v k + side_of v k + 1)
  pub south : w.south ≡ y / side_of v k * side_of v k - 1
  pub north : w.north ≡ min (size v) (y / side_of v k * side_of v k + side_of v k + 1)
