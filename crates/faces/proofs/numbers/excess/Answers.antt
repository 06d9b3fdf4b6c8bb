-- The difference fits 64 bits.
use Rattle.std.proofs.Common.{◌≡◌, ℕ, ◌≤◌, ℤ, pos, ◌-ℤ◌, nat_abs, arith, w64, to_z, of_z}
use Rattle.std.proofs.lemmas.Int.{ints}
use Rattle.runs.specs.Rules.{pressure}
use Rattle.flow.specs.InRange.{pressure_within}
use Rattle.flow.specs.Whole.{abs_sub}
use Rattle.faces.proofs.numbers.excess.Goals as goal

-- a difference that went to its bits and back
difference_back : (x : ℤ) (n m : ℕ) → nat_abs x ≤ 25000000000000 → n ≤ 4414500000000 → n ≡ m
    → to_z w64 (of_z w64 (to_z w64 (of_z w64 x) -ℤ to_z w64 n)) ≡ x -ℤ pos m
difference_back x n m k l e = omega (arith, ints)

difference_within : (x : ℤ) (n : ℕ) → nat_abs x ≤ 25000000000000 → n ≤ 4414500000000 → nat_abs (x -ℤ pos n) ≤ 30000000000000
difference_within x n k l = omega (arith, abs_sub x (pos n))

pub returns : goal.returns
returns c =
    let h = c.args.side.h in
    let p = c.pressure.ensures in
    let e = difference_back c.args.push c.pressure.result (pressure h) c.requires p.most p.value in
    record { value = e; small = rw e (difference_within c.args.push (pressure h) c.requires (pressure_within h c.args.side.in_range.0)) }
