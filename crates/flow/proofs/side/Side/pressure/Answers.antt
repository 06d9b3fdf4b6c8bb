-- A side is at most 30,000 deep.
use Rattle.std.proofs.Common.{refl}
use Rattle.flow.specs.InRange.{pressure_within}
use Rattle.flow.proofs.side.Side.pressure.Goals as goal

pub returns : goal.returns
returns c = record { value = refl; most = pressure_within c.args.self.h c.args.self.in_range.0 }
