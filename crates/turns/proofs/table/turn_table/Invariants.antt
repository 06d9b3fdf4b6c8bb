-- The entries written so far.
use Rattle.turns.specs.Eight.{number_of}
use Rattle.turns.proofs.Tables.{Written}
use Rattle.turns.proofs.table.turn_table.Given as goal

abbrev pub invariant-loop-i : goal.invariant-loop-i
invariant-loop-i g l = Written g.T.Turns.act l.n (number_of l.turn) l.from l.to l.i
