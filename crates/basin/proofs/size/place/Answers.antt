use Rattle.std.proofs.Common.{◌≤◌, refl, mul-le-mul, arith}
use lib.Arith.{digits_lt}
use Rattle.basin.proofs.size.place.Goals as goal

pub overflow_mul-result : goal.overflow_mul-result
overflow_mul-result c =
    let up : c.args.y ≤ 64 = omega arith in
    omega (arith, mul-le-mul up c.requires.small)

pub overflow_add-result : goal.overflow_add-result
overflow_add-result c =
    let up : c.args.y ≤ 64 = omega arith in
    omega (arith, mul-le-mul up c.requires.small)

pub returns : goal.returns
returns c = record { value = refl; within = digits_lt c.requires.north c.requires.east }
