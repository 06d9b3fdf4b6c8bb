-- One leaf in the place of four, on the tables.
use Rattle.std.specs.Prelude.{ℕ, ◌+◌, ◌*◌, List}
use Rattle.basin.specs.declared.leaf.Leaf.{Leaf}
use Rattle.basin.specs.declared.plot.Plot.{Plot}
use Rattle.basin.specs.Fills.{square}
use Rattle.basin.specs.Finish.{finish}

-- the tables with one leaf of this level on the plot
abbrev pub levels_joined : Plot → ℕ → List ℕ → List ℕ
levels_joined s level levels = square s.side s.n s.side (s.south * s.n + s.west) level levels

abbrev pub leaves_joined : Plot → Leaf → List Leaf → List Leaf
leaves_joined s l leaves =
    square s.side s.n s.side (s.south * s.n + s.west) (finish (s.side * s.side) l.water l.east l.north) leaves
