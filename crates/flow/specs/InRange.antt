-- A side's numbers are in range, and so is its pressure.
use Rattle.std.specs.Prelude.{ℕ, ◌≤◌}
use Rattle.std.proofs.Common.{mul-le-mul, arith}
use Rattle.runs.specs.Rules.{Fine, pressure}
use Rattle.flow.specs.declared.side.Side.{Side}
use Rattle.flow.specs.States.{state_of}

pub fine_of : (s : Side) → Fine (state_of s)
fine_of s = let r = s.in_range in record { deep = r.0; slow_u = r.1; slow_v = r.2; dry = r.3 }

pub pressure_within : (h : ℕ) → h ≤ 30000 → pressure h ≤ 4414500000000
pressure_within h deep = omega (arith, mul-le-mul deep deep)
