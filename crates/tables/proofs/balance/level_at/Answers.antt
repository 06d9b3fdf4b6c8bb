-- A square's place is below the table's length.
use Rattle.std.proofs.Common.{arith}
use Rattle.std.proofs.lemmas.Nat.{mul-add-lt}
use Rattle.tables.proofs.balance.level_at.Goals as goal

pub bounds-levels-y : goal.bounds-levels-y
bounds-levels-y c = omega (arith, mul-add-lt c.args.y c.args.n c.args.x c.args.n c.requires.up c.requires.across)
