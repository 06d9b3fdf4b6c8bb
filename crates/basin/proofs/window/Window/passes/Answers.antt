-- One more row passes.
use Rattle.std.proofs.Common.{below_more}
use Rattle.basin.proofs.window.Window.passes.Goals as goal

pub loop-y-preserved : goal.loop-y-preserved
loop-y-preserved g c = below_more _ _ c.loop-y.invariant (λ _. c.if-not-row_passes.ensures)
