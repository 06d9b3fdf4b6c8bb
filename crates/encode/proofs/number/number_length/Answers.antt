-- Each turn counts one group, and the last group is counted from the start.
use Rattle.std.proofs.Common.{arith}
use Rattle.encode.proofs.Groups.{left_fewer, left_last}
use Rattle.encode.proofs.number.number_length.Goals as goal

pub loop-rest-preserved : goal.loop-rest-preserved
loop-rest-preserved c = left_fewer _ _ _ _ c.loop-rest-test.true c.loop-rest.invariant

pub returns : goal.returns
returns c =
    let e = left_last _ _ _ _ c.loop-rest-test.false c.loop-rest.invariant in
    record { value = omega arith; most = omega (arith, c.loop-rest.invariant.few) }
