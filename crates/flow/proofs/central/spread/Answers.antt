-- The product of both speeds, the difference and their product fit 64 bits.
use Rattle.std.proofs.Common.{◌≤◌, ◌-ℤ◌, ◌*ℤ◌, nat_abs, arith, w64, SFits}
use Rattle.std.proofs.lemmas.Int.{to_z-of_z}
use Rattle.flow.specs.Centrals.{spread}
use Rattle.flow.specs.Whole.{abs_sub, mul_within, fits}
use Rattle.flow.proofs.central.spread.Goals as goal

module _ (c : goal.Start) where
  speeds_within : nat_abs (c.args.a *ℤ c.args.b) ≤ 739840000
  speeds_within = mul_within c.args.a c.args.b 27200 27200 c.requires.a c.requires.b

  speeds_fit : SFits w64 (c.args.a *ℤ c.args.b)
  speeds_fit = fits (c.args.a *ℤ c.args.b) (omega (arith, speeds_within))

  difference_within : nat_abs (c.args.u2 -ℤ c.args.u1) ≤ 600000000
  difference_within = omega (arith, abs_sub c.args.u2 c.args.u1, c.requires.one, c.requires.two)

  difference_fits : SFits w64 (c.args.u2 -ℤ c.args.u1)
  difference_fits = fits (c.args.u2 -ℤ c.args.u1) (omega (arith, difference_within))

  product_within : nat_abs (c.args.a *ℤ c.args.b *ℤ (c.args.u2 -ℤ c.args.u1)) ≤ 450000000000000000
  product_within =
      omega (arith, mul_within (c.args.a *ℤ c.args.b) (c.args.u2 -ℤ c.args.u1) 739840000 600000000 speeds_within difference_within)

  product_fits : SFits w64 (c.args.a *ℤ c.args.b *ℤ (c.args.u2 -ℤ c.args.u1))
  product_fits = fits (c.args.a *ℤ c.args.b *ℤ (c.args.u2 -ℤ c.args.u1)) (omega (arith, product_within))

pub overflow_mul-result-2 : goal.overflow_mul-result-2
overflow_mul-result-2 c =
    let fa = c.ranges.a in
    let fb = c.ranges.b in
    let f1 = c.ranges.u1 in
    let f2 = c.ranges.u2 in
    let one = speeds_fit c in
    let two = difference_fits c in
    simp to_z-of_z (product_fits c)

pub returns : goal.returns
unfolding spread
returns c =
    let fa = c.ranges.a in
    let fb = c.ranges.b in
    let f1 = c.ranges.u1 in
    let f2 = c.ranges.u2 in
    let one = speeds_fit c in
    let two = difference_fits c in
    let both = product_fits c in
    record { value = simp to_z-of_z; small = simp to_z-of_z (product_within c) }
