-- One more square passes.
use Rattle.std.proofs.Common.{arith, below_more}
use Rattle.basin.proofs.window.Window.row_passes.Goals as goal

pub loop-x-init : goal.loop-x-init
loop-x-init g c x h k = absurd (omega arith)

pub loop-x-preserved : goal.loop-x-preserved
loop-x-preserved g c = below_more _ _ c.loop-x.invariant (λ _. c.if-not-test.ensures)

pub returns : goal.returns
returns g c x h k = c.loop-x.invariant x (omega arith) h
