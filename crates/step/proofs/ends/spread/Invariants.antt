-- The squares so far have their leaves' new records.
use Rattle.std.proofs.Common.{◌≡◌, ℕ, ◌<◌, get_or}
use Rattle.basin.specs.Records.{dry}
use Rattle.step.specs.Ends.{finished_in}
use Rattle.step.proofs.ends.spread.Given as goal

abbrev pub invariant-loop-i : goal.invariant-loop-i
invariant-loop-i l = (k : ℕ) → k < l.i → get_or l.leaves k dry ≡ finished_in l.head.levels l.levels l.work k
