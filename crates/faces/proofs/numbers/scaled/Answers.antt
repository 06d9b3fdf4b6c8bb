-- Product, divisor and quotient fit 64 bits.
use Rattle.std.proofs.Common.{ℕ, ◌*◌, ◌^◌, ◌<◌, ◌≤◌, ℤ, pos, ◌*ℤ◌, nat_abs, refl, mul-le-mul, arith, w64, SFits}
use lib.Signed.{quot_z}
use Rattle.std.proofs.lemmas.Int.{to_z-of_z, to_z_pos}
use Rattle.flow.specs.Whole.{mul_within, quot_within, fits}
use Rattle.faces.proofs.Scaled.{scaled_small}
use Rattle.faces.proofs.numbers.scaled.Goals as goal

-- the largest amount, on the longest face in the longest step
product_within : (z : ℤ) (e T : ℕ) → nat_abs z ≤ 30000000000000 → e ≤ 64 → T ≤ 2000 → nat_abs (z *ℤ pos (e * T)) ≤ 3840000000000000000
product_within z e T small short brief = mul_within z (pos (e * T)) 30000000000000 128000 small (mul-le-mul short brief)

pub overflow_mul-result-2 : goal.overflow_mul-result-2
overflow_mul-result-2 c =
    let z = c.args.amount in
    let e = c.args.length in
    let T = c.args.pace.time in
    let fz : SFits w64 z = c.ranges.amount in
    let et : e * T ≤ 128000 = mul-le-mul c.requires.length c.args.pace.in_range.1 in
    let fe : e * T < 2 ^ 63 = omega arith in
    let k = product_within z e T c.requires.amount c.requires.length c.args.pace.in_range.1 in
    simp (to_z-of_z, to_z_pos) (fits (z *ℤ pos (e * T)) (omega (arith, k)))

pub nonzero_div-result : goal.nonzero_div-result
nonzero_div-result c =
    let z = c.args.amount in
    let e = c.args.length in
    let T = c.args.pace.time in
    let d = c.args.pace.width in
    let wide = c.args.pace.in_range.2 in
    let narrow = c.args.pace.in_range.3 in
    let fz : SFits w64 z = c.ranges.amount in
    let et : e * T ≤ 128000 = mul-le-mul c.requires.length c.args.pace.in_range.1 in
    let fe : e * T < 2 ^ 63 = omega arith in
    let fd : d < 2 ^ 63 = omega (arith, narrow) in
    let fD : 1000000 * d < 2 ^ 63 = omega (arith, narrow) in
    let k = product_within z e T c.requires.amount c.requires.length c.args.pace.in_range.1 in
    let f = fits (z *ℤ pos (e * T)) (omega (arith, k)) in
    let q = quot_within (z *ℤ pos (e * T)) (pos (1000000 * d)) 3840000000000000000 k in
    simp (to_z-of_z, to_z_pos) (omega (arith, wide), fits (quot_z (z *ℤ pos (e * T)) (pos (1000000 * d))) (omega (arith, q)))

pub returns : goal.returns
returns c =
    let z = c.args.amount in
    let e = c.args.length in
    let T = c.args.pace.time in
    let d = c.args.pace.width in
    let wide = c.args.pace.in_range.2 in
    let narrow = c.args.pace.in_range.3 in
    let fz : SFits w64 z = c.ranges.amount in
    let et : e * T ≤ 128000 = mul-le-mul c.requires.length c.args.pace.in_range.1 in
    let fe : e * T < 2 ^ 63 = omega arith in
    let fd : d < 2 ^ 63 = omega (arith, narrow) in
    let fD : 1000000 * d < 2 ^ 63 = omega (arith, narrow) in
    let k = product_within z e T c.requires.amount c.requires.length c.args.pace.in_range.1 in
    let f = fits (z *ℤ pos (e * T)) (omega (arith, k)) in
    let q = quot_within (z *ℤ pos (e * T)) (pos (1000000 * d)) 3840000000000000000 k in
    let fq = fits (quot_z (z *ℤ pos (e * T)) (pos (1000000 * d))) (omega (arith, q)) in
    let s = scaled_small z e T d c.requires.length c.args.pace.in_range.1 wide in
    simp (to_z-of_z, to_z_pos) (record { value = refl; small = s })
