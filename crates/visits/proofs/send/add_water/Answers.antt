-- The entry is that of the leaf's corner.
use Rattle.std.proofs.Common.{get_or, set, ap}
use Rattle.basin.specs.Records.{dry}
use Rattle.visits.specs.Visits.{added, with_more}
use Rattle.visits.proofs.send.add_water.Goals as goal

pub returns : goal.returns
unfolding added
returns c = ap (λ i. set c.args.work.now i (with_more (get_or c.args.work.now i dry) c.args.amount)) c.corner-i.ensures.value
