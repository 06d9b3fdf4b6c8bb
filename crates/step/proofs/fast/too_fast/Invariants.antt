-- No leaf was fast so far.
use Rattle.std.proofs.Common.{◌≡◌, ℕ, ◌<◌, false}
use Rattle.step.specs.Speeds.{fast_in}
use Rattle.step.proofs.fast.too_fast.Given as goal

abbrev pub invariant-loop-i : goal.invariant-loop-i
invariant-loop-i l = (k : ℕ) → k < l.i → fast_in l.head.levels l.head.width l.levels l.leaves l.time k ≡ false
