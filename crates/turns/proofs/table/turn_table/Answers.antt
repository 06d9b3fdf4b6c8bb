-- In the end all entries are written.
use Rattle.std.proofs.Common.{arith}
use Rattle.turns.proofs.Tables.{known, written_all, table_stays, table_turns_compose}
use Rattle.turns.proofs.table.turn_table.Goals as goal

pub returns-clause-turned : goal.returns-clause-turned
returns-clause-turned g c =
    written_all g.T.Turns.act _ _ _ _ _ (known c.args.turn) (omega arith) (omega arith) c.loop-i.invariant

pub returns-clause-none : goal.returns-clause-none
returns-clause-none g c = table_stays g.T.Turns.act g.met.T.Turns.none

pub returns-clause-twice : goal.returns-clause-twice
returns-clause-twice g c = table_turns_compose g.T.Turns.act g.met.T.Turns.twice
