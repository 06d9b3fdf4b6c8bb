-- Each turn writes one bed.
use Rattle.std.proofs.Common.{arith}
use Rattle.encode.proofs.Bedding.{bytes_cut, bytes_more, bytes_none}
use Rattle.encode.proofs.Puts.{then, first, second}
use Rattle.encode.proofs.beds.put_beds.Goals as goal

pub loop-bed-init : goal.loop-bed-init
loop-bed-init c = bytes_none c.args.writer.now

pub number-requires-clause-room : goal.number-requires-clause-room
number-requires-clause-room c =
    rw c.from.ensures (first _ (second (rw (bytes_cut c.args.beds.now c.loop-bed.bed-index (omega arith)) at c.requires) c.loop-bed.invariant))

pub loop-bed-preserved : goal.loop-bed-preserved
loop-bed-preserved c =
    rw (bytes_more c.args.beds.now c.loop-bed.bed-index (omega arith)) (then c.loop-bed.invariant (rw c.from.ensures at c.number.ensures))
