-- The calls so far have been performed.
use Rattle.std.proofs.Common.{length}
use Rattle.basin.specs.Basins.{basin_of}
use Rattle.lists.proofs.Served.{Next}
use Rattle.lists.proofs.replay.replay.Given as goal

abbrev pub invariant-loop-entry : goal.invariant-loop-entry
invariant-loop-entry g l =
    Next g.R.FlowRule.meaning (length l.initial.work) l.entry-index l.initial.entries l.entries
    (basin_of l.initial.head l.initial.levels l.beds l.initial.leaves) (basin_of l.head l.levels l.beds l.leaves) l.initial.work l.work
