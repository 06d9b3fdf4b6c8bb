-- The table is balanced where each square fits, and is not where one does not.
use Rattle.std.proofs.Common.{rules}
use Rattle.basin.specs.Tables.{entry}
use Rattle.basin.proofs.Windows.{decided_by_rows}
use Rattle.tables.specs.Beside.{FitsBeside}
use Rattle.tables.proofs.Beside.{balance_decided}
use Rattle.tables.proofs.balance.is_balanced.Goals as goal

pub returns : goal.returns
returns c =
    let level = entry c.args.n 0 c.args.levels.now in
    balance_decided c.args.n level c.passes.result
    (decided_by_rows c.args.n (FitsBeside c.args.n level) c.passes.result c.whole.result c.whole.ensures c.passes.ensures
    (λ x y a b p. search rules) (λ x y a b p. search rules))
