-- The rows passed so far pass the test.
use Rattle.std.proofs.Common.{ℕ, true, ◌<◌, ◌≤◌}
use Rattle.basin.proofs.window.Window.passes.Given as goal

abbrev pub invariant-loop-y : goal.invariant-loop-y
invariant-loop-y g l = (y : ℕ) → y < l.y → l.fn.self.south ≤ y → (x : ℕ) → l.fn.self.west ≤ x → x < l.fn.self.east → goal.F-post g l.test x y true
