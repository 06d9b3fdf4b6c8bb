-- Where the speeds are equal 0 is answered; else the divisor is not 0, and dividend and quotient fit 64 bits.
use Rattle.std.proofs.Common.{◌≡◌, ◌<◌, ◌≤◌, true, false, ℤ, pos, negsuc, ◌+ℤ◌, ◌-ℤ◌, nat_abs, refl, arith, w64, SFits, of_z}
use lib.Signed.{quot_z}
use Rattle.std.proofs.lemmas.Int.{ints, to_z-of_z}
use Rattle.std.proofs.lemmas.Bool.{eq-eqb, ne_eqb}
use Rattle.flow.specs.Centrals.{weighed, spread, divisor, same, blend}
use Rattle.flow.specs.Whole.{abs_add, abs_sub, quot_within, fits, same_bits}
use Rattle.flow.proofs.central.blend.Goals as goal

nonzero : (z : ℤ) → (nat_abs z ≡ 0 → ⊥) → nat_abs z ≤ 54400 → 0 < of_z w64 z
nonzero (pos n) h l = omega arith
nonzero (negsuc n) h l = omega arith

module _ (c : goal.After-spread) where
  weighed_fits : SFits w64 c.weighed.result
  weighed_fits = record { sfits = c.weighed.type_inv }

  spread_fits : SFits w64 c.spread.result
  spread_fits = record { sfits = c.spread.type_inv }

  dividend_within : nat_abs (c.weighed.result +ℤ c.spread.result) ≤ 860000000000000000
  dividend_within = omega (arith, abs_add c.weighed.result c.spread.result, c.weighed.ensures.small, c.spread.ensures.small)

  dividend_fits : SFits w64 (c.weighed.result +ℤ c.spread.result)
  dividend_fits = fits (c.weighed.result +ℤ c.spread.result) (omega (arith, dividend_within))

  divisor_within : nat_abs (divisor c.args.a c.args.b) ≤ 54400
  divisor_within = omega (arith, abs_sub c.args.a c.args.b, c.requires.a, c.requires.b)

  divisor_fits : SFits w64 (divisor c.args.a c.args.b)
  divisor_fits = fits (divisor c.args.a c.args.b) (omega (arith, divisor_within))

  speeds_differ : nat_abs (divisor c.args.a c.args.b) ≡ 0 → ⊥
  speeds_differ e = let s : c.args.a ≡ c.args.b = omega (arith, ints) in c.if-a-b.false (rw s refl)

  quotient_fits : SFits w64 (quot_z (c.weighed.result +ℤ c.spread.result) (divisor c.args.a c.args.b))
  quotient_fits =
      fits (quot_z (c.weighed.result +ℤ c.spread.result) (divisor c.args.a c.args.b))
      (omega (arith, quot_within (c.weighed.result +ℤ c.spread.result) (divisor c.args.a c.args.b) 860000000000000000 dividend_within))

pub nonzero_div-result : goal.nonzero_div-result
nonzero_div-result c =
    let fa = c.ranges.a in
    let fb = c.ranges.b in
    let fw = weighed_fits c in
    let fs = spread_fits c in
    let n = dividend_fits c in
    let d = divisor_fits c in
    simp to_z-of_z (nonzero (divisor c.args.a c.args.b) (speeds_differ c) (divisor_within c), quotient_fits c)

pub returns-then-a-b : goal.returns-then-a-b
unfolding blend
returns-then-a-b c =
    let s : c.args.a ≡ c.args.b = same_bits c.args.a c.args.b c.ranges.a c.ranges.b c.if-a-b.true in
    let t : same c.args.a c.args.b ≡ true = eq-eqb (nat_abs (c.args.a -ℤ c.args.b)) 0 (omega (arith, ints)) in
    rw t refl

pub returns-else-a-b : goal.returns-else-a-b
unfolding blend
returns-else-a-b c =
    let fa = c.ranges.a in
    let fb = c.ranges.b in
    let f1 = c.ranges.f1 in
    let f2 = c.ranges.f2 in
    let u1 = c.ranges.u1 in
    let u2 = c.ranges.u2 in
    let fw = weighed_fits c in
    let fs = spread_fits c in
    let n = dividend_fits c in
    let d = divisor_fits c in
    let q = quotient_fits c in
    let w : c.weighed.result ≡ weighed c.args.a c.args.b c.args.f1 c.args.f2 = simp to_z-of_z at c.weighed.ensures.value in
    let s : c.spread.result ≡ spread c.args.a c.args.b c.args.u1 c.args.u2 = simp to_z-of_z at c.spread.ensures.value in
    let t : same c.args.a c.args.b ≡ false = ne_eqb (nat_abs (c.args.a -ℤ c.args.b)) 0 (speeds_differ c) in
    simp (to_z-of_z, t) (λ i. quot_z (w i +ℤ s i) (divisor c.args.a c.args.b))
