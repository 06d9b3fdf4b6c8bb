-- A survey as the basin that it is, and the blocks on its tables.
use Rattle.std.specs.Prelude.{◌≡◌, ℕ, ◌*◌, ◌/◌, Ok, Err, Result, MatchResult}
use Rattle.basin.specs.declared.plot.Plot.{Plot}
use Rattle.basin.specs.declared.refusal.Refusal.{Refusal}
use Rattle.basin.specs.declared.square.Square.{Square}
use Rattle.basin.specs.Basins.{Basin, basin_of, side, view}
use Rattle.basin.specs.Flaws.{validity}
use Rattle.basin.specs.Plots.{Spans}
use Rattle.basin.specs.Views.{side_of}
use Rattle.tables.specs.declared.survey.Survey.{Survey}

-- the basin that a survey shows
abbrev pub surveyed : Survey → Basin
surveyed s = basin_of s.head s.levels.now s.beds.now s.leaves.now

-- a survey of the basin where it is valid, and its flaw where it is not
abbrev pub Surveys : Basin → Result Survey Refusal → Type 0
Surveys b r = MatchResult r (λ s. (surveyed s ≡ b) × (Ok tt ≡ validity b)) (λ e. Err e ≡ validity b)

-- a square of the basin's grid
abbrev pub On : Basin → Square → Type 0
On b q = q.n ≡ side b.head

-- the block of level k at (x, y)
abbrev pub BlockAt : Basin → (k x y : ℕ) → Plot → Type 0
BlockAt b k x y p = let s = side_of (view b) k in Spans (side b.head) (x / s * s) (y / s * s) s p
