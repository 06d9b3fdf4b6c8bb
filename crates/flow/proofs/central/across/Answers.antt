-- The sum fits 64 bits.
use Rattle.std.proofs.Common.{◌≡◌, ℕ, ◌≤◌, ℤ, pos, ◌+ℤ◌, nat_abs, arith, w64, SFits, to_z, of_z, rules}
use Rattle.std.proofs.lemmas.Int.{ints, to_z-of_z}
use Rattle.runs.specs.Rules.{pressure}
use Rattle.flow.specs.Centrals.{momentum}
use Rattle.flow.specs.States.{state_of}
use Rattle.flow.specs.CentralLaws.{across_within}
use Rattle.flow.specs.InRange.{fine_of}
use Rattle.flow.proofs.central.across.Goals as goal

-- a sum that went to its bits and back
sum_back : (a x : ℤ) (n m : ℕ) → nat_abs a ≤ 3000000000000 → n ≤ 4414500000000 → a ≡ x → n ≡ m
    → to_z w64 (of_z w64 (to_z w64 (of_z w64 a) +ℤ to_z w64 n)) ≡ x +ℤ pos m
sum_back a x n m p q e d = omega (arith, ints)

pub returns : goal.returns
returns c =
    let side = c.args.side in
    let fu : SFits w64 side.u = search rules in
    let e : c.momentum.result ≡ momentum (state_of side) side.u = simp to_z-of_z at c.momentum.ensures.value in
    let p = c.pressure.ensures in
    let sum = sum_back c.momentum.result _ c.pressure.result (pressure side.h) c.momentum.ensures.small p.most e p.value in
    record { value = sum; small = rw sum (across_within (state_of side) (fine_of side)) }
