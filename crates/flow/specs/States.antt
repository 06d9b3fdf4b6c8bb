-- Sides as rules see them.
use Rattle.std.specs.Prelude.{ℕ, ℤ}
use Rattle.runs.specs.Rules.{State}
use Rattle.flow.specs.declared.side.Side.{Side}

abbrev pub state : ℕ → ℤ → ℤ → State
state h u v = record { h = h; u = u; v = v }

-- the three numbers of a side
abbrev pub state_of : Side → State
state_of s = state s.h s.u s.v
