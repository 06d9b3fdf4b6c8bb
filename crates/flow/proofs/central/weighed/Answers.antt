-- Both products and their difference fit 64 bits.
use Rattle.std.proofs.Common.{◌≤◌, ◌-ℤ◌, ◌*ℤ◌, nat_abs, arith, w64, SFits}
use Rattle.std.proofs.lemmas.Int.{to_z-of_z}
use Rattle.flow.specs.Centrals.{weighed}
use Rattle.flow.specs.Whole.{abs_sub, mul_within, fits, product_fits}
use Rattle.flow.proofs.central.weighed.Goals as goal

module _ (c : goal.Start) where
  one_fits : SFits w64 (c.args.a *ℤ c.args.f1)
  one_fits = product_fits c.args.a c.args.f1 27200 7414500000000 c.requires.a c.requires.one (omega arith)

  two_fits : SFits w64 (c.args.b *ℤ c.args.f2)
  two_fits = product_fits c.args.b c.args.f2 27200 7414500000000 c.requires.b c.requires.two (omega arith)

  difference_within : nat_abs (c.args.a *ℤ c.args.f1 -ℤ c.args.b *ℤ c.args.f2) ≤ 410000000000000000
  difference_within =
      let one = mul_within c.args.a c.args.f1 27200 7414500000000 c.requires.a c.requires.one in
      let two = mul_within c.args.b c.args.f2 27200 7414500000000 c.requires.b c.requires.two in
      omega (arith, one, two, abs_sub (c.args.a *ℤ c.args.f1) (c.args.b *ℤ c.args.f2))

  difference_fits : SFits w64 (c.args.a *ℤ c.args.f1 -ℤ c.args.b *ℤ c.args.f2)
  difference_fits = fits (c.args.a *ℤ c.args.f1 -ℤ c.args.b *ℤ c.args.f2) (omega (arith, difference_within))

pub overflow_mul-result : goal.overflow_mul-result
overflow_mul-result c =
    let fa = c.ranges.a in
    let f1 = c.ranges.f1 in
    simp to_z-of_z (one_fits c)

pub overflow_mul-result-2 : goal.overflow_mul-result-2
overflow_mul-result-2 c =
    let fb = c.ranges.b in
    let f2 = c.ranges.f2 in
    simp to_z-of_z (two_fits c)

pub overflow_sub-result : goal.overflow_sub-result
overflow_sub-result c =
    let fa = c.ranges.a in
    let fb = c.ranges.b in
    let f1 = c.ranges.f1 in
    let f2 = c.ranges.f2 in
    let one = one_fits c in
    let two = two_fits c in
    simp to_z-of_z (difference_fits c)

pub returns : goal.returns
unfolding weighed
returns c =
    let fa = c.ranges.a in
    let fb = c.ranges.b in
    let f1 = c.ranges.f1 in
    let f2 = c.ranges.f2 in
    let one = one_fits c in
    let two = two_fits c in
    let both = difference_fits c in
    record { value = simp to_z-of_z; small = simp to_z-of_z (difference_within c) }
