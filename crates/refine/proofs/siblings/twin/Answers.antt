use Rattle.std.proofs.Common.{◌/◌, ◌≤◌, mul-le-mul_right, one-mul, div-add-mod', arith}
use Rattle.refine.proofs.siblings.twin.Goals as goal

-- an odd block is not the first
pub overflow_sub-result : goal.overflow_sub-result
overflow_sub-result c =
    let x = c.args.x in
    let s = c.args.side in
    let one : 1 ≤ c.args.x / c.args.side = omega arith in
    omega (arith, mul-le-mul_right s one, one-mul s, div-add-mod' x s)
