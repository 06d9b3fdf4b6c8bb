use Rattle.std.proofs.Common.{refl, arith}
use Rattle.basin.proofs.Sizes.{area_small}
use Rattle.basin.proofs.head.Head.squares.Goals as goal

pub returns : goal.returns
returns c =
    let e = c.side-n.ensures.value in
    record { value = rw e refl; most = area_small c.args.self.now.levels _ (omega arith) e }
