use Rattle.std.proofs.Common.{◌≡◌}
use Rattle.basin.specs.Fills.{row, square}
use Rattle.basin.proofs.fill.fill_block.Given as goal

abbrev pub invariant-loop-j : goal.invariant-loop-j
invariant-loop-j g l = l.table ≡ square l.j l.stride l.side l.corner l.value l.initial.table

abbrev pub invariant-loop-entry : goal.invariant-loop-entry
invariant-loop-entry g l = l.entry-items ≡ row l.entry-index 0 l.value l.initial.entry-items
