-- The water of the entries passed so far is counted.
use Rattle.std.proofs.Common.{◌≡◌, ◌*◌, ◌^◌, ◌≤◌}
use Rattle.tables.specs.Surveys.{surveyed}
use Rattle.basin.specs.Sums.{sum_below}
use Rattle.looks.proofs.Counted.{counted_at}
use Rattle.looks.proofs.total.all_water.Given as goal

abbrev pub invariant-loop-i : goal.invariant-loop-i
invariant-loop-i l = (l.sum ≡ sum_below l.i (counted_at (surveyed l.survey))) × (l.sum ≤ l.i * 2 ^ 32)
