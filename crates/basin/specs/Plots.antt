-- Plots, their windows and their quarters.
use Rattle.std.specs.Prelude.{◌≡◌, ◌+◌, ◌*◌, ◌/◌, ◌≤◌, ℕ, List}
use Rattle.basin.specs.declared.plot.Plot.{Plot}
use Rattle.basin.specs.declared.quarters.Quarters.{Quarters}
use Rattle.basin.specs.declared.window.Window.{Window}
use Rattle.basin.specs.Sums.{grid}
use Rattle.basin.specs.Tables.{entry}

-- blocks of this side cover a basin of n by n
abbrev pub Covered : (side n : ℕ) → Type 0
Covered side n = (1 ≤ side) × ((count : ℕ) × (count * side ≡ n))

-- the squares of a plot
abbrev pub window_of : Plot → Window
window_of p = record { west = p.west; east = p.west + p.side; south = p.south; north = p.south + p.side }

-- the plot of these numbers
pub record Spans (n west south side : ℕ) (p : Plot) : Type 0 where
  pub n_is : p.n ≡ n
  pub west_is : p.west ≡ west
  pub south_is : p.south ≡ south
  pub side_is : p.side ≡ side

-- the quarters of a plot
pub record Quartered (p : Plot) (q : Quarters Plot) : Type 0 where
  pub sw : Spans p.n p.west p.south (p.side / 2) q.sw
  pub se : Spans p.n (p.west + p.side / 2) p.south (p.side / 2) q.se
  pub nw : Spans p.n p.west (p.south + p.side / 2) (p.side / 2) q.nw
  pub ne : Spans p.n (p.west + p.side / 2) (p.south + p.side / 2) (p.side / 2) q.ne

-- the sum of a plot's beds
abbrev pub ground : Plot → List ℕ → ℕ
ground p beds = grid p.side (λ i j. entry p.n 0 beds (p.west + i) (p.south + j))
