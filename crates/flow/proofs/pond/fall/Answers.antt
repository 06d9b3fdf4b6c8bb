-- The product by the root is below the cap.
use Rattle.std.proofs.Common.{◌*◌, ap, arith}
use Rattle.flow.specs.PondLaws.{fall_capped}
use Rattle.flow.proofs.pond.fall.Goals as goal

pub returns : goal.returns
returns c =
    let e = ap (λ n. c.args.high * n) c.root.ensures in
    record { value = e; small = omega (arith, e, fall_capped c.args.high c.args.low c.requires.deep) }
