-- The product fits.
use Rattle.std.proofs.Common.{◌*◌, ◌≤◌, mul-le-mul, arith, rules}
use Rattle.step.proofs.fast.is_fast.Goals as goal

pub overflow_mul-result-2 : goal.overflow_mul-result-2
overflow_mul-result-2 c =
    let f : 4 * c.fastest.result ≤ 17179909184 = omega (arith, c.fastest.ensures.most) in
    let m = mul-le-mul f c.requires.time in
    search rules
