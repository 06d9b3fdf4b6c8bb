-- The squares passed so far pass the test.
use Rattle.std.proofs.Common.{ℕ, true, ◌<◌, ◌≤◌}
use Rattle.basin.proofs.window.Window.row_passes.Given as goal

abbrev pub invariant-loop-x : goal.invariant-loop-x
invariant-loop-x g l = (x : ℕ) → x < l.x → l.fn.self.west ≤ x → goal.F-post g l.test x l.y true
