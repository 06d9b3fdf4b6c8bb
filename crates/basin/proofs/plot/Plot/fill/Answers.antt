-- The plot's last row ends in the table.
use Rattle.std.proofs.Common.{mul-le-mul_right, add-mul, arith}
use Rattle.basin.proofs.plot.Plot.fill.Goals as goal

pub fill_block-requires : goal.fill_block-requires
fill_block-requires g c =
    let p = c.args.self in
    omega (arith, mul-le-mul_right p.n p.inside.2, add-mul p.south p.side p.n)
