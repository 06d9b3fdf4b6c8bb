-- No leaf's entry held too much so far.
use Rattle.std.proofs.Common.{◌≡◌, ℕ, ◌<◌, false}
use Rattle.step.specs.Ends.{overfull_in}
use Rattle.step.proofs.ends.overfull.Given as goal

abbrev pub invariant-loop-i : goal.invariant-loop-i
invariant-loop-i l = (k : ℕ) → k < l.i → overfull_in l.head.levels l.levels l.work k ≡ false
