use Rattle.std.proofs.Common.{arith}
use Rattle.std.proofs.lemmas.Nat.{one_shl}
use Rattle.basin.proofs.Sizes.{side_pos, side_small}
use Rattle.basin.proofs.size.side.Goals as goal

pub returns : goal.returns
returns c =
    let e = one_shl c.args.height 64 (omega arith) in
    record { value = e; least = rw e (side_pos c.args.height); most = rw e (side_small c.args.height (omega arith)) }
