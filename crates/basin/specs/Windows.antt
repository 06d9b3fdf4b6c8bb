-- The squares of windows.
use Rattle.std.specs.Prelude.{ℕ, ◌+◌, ◌-◌, ◌<◌, ◌≤◌, min}
use Rattle.basin.specs.declared.window.Window.{Window}

-- the window has the square (x, y)
pub record Seen (w : Window) (x y : ℕ) : Type 0 where
  pub west : w.west ≤ x
  pub east : x < w.east
  pub south : w.south ≤ y
  pub north : y < w.north

-- all squares of a basin of n by n
abbrev pub whole_of : ℕ → Window
whole_of n = record { west = 0; east = n; south = 0; north = n }

-- a window with the squares that touch it, in a basin of n by n
abbrev pub ring_at : ℕ → Window → Window
ring_at n w = record { west = w.west - 1; east = min n (w.east + 1); south = w.south - 1; north = min n (w.north + 1) }
