-- No sum on the way leaves the range of the type.
use Rattle.std.proofs.Common.{◌+ℤ◌, arith, w64, SFits}
use Rattle.std.proofs.lemmas.Int.{ints, to_z-of_z}
use Rattle.borders.proofs.Adding.{sum_fits}
use Rattle.borders.proofs.drain.gathered.Goals as goal

pub overflow_add-result-4 : goal.overflow_add-result-4
overflow_add-result-4 c =
    let x = c.args.discharge in
    let a = c.args.a in
    let b = c.args.b in
    let y = c.args.c in
    let d = c.args.d in
    let fx : SFits w64 x = c.ranges.discharge in
    let fa : SFits w64 a = c.ranges.a in
    let fb : SFits w64 b = c.ranges.b in
    let fy : SFits w64 y = c.ranges.c in
    let fd : SFits w64 d = c.ranges.d in
    let f1 : SFits w64 (a +ℤ b) = omega (arith, ints) in
    let f2 : SFits w64 (x +ℤ (a +ℤ b)) = omega (arith, ints) in
    let f3 : SFits w64 (y +ℤ d) = omega (arith, ints) in
    let f4 : SFits w64 (x +ℤ (a +ℤ b) +ℤ (y +ℤ d)) = sum_fits x a b y d (omega arith) (omega arith) (omega arith) (omega arith) (omega arith) in
    simp to_z-of_z f4

pub returns : goal.returns
returns c =
    let x = c.args.discharge in
    let a = c.args.a in
    let b = c.args.b in
    let y = c.args.c in
    let d = c.args.d in
    let fx : SFits w64 x = c.ranges.discharge in
    let fa : SFits w64 a = c.ranges.a in
    let fb : SFits w64 b = c.ranges.b in
    let fy : SFits w64 y = c.ranges.c in
    let fd : SFits w64 d = c.ranges.d in
    let f1 : SFits w64 (a +ℤ b) = omega (arith, ints) in
    let f2 : SFits w64 (x +ℤ (a +ℤ b)) = omega (arith, ints) in
    let f3 : SFits w64 (y +ℤ d) = omega (arith, ints) in
    let f4 : SFits w64 (x +ℤ (a +ℤ b) +ℤ (y +ℤ d)) = sum_fits x a b y d (omega arith) (omega arith) (omega arith) (omega arith) (omega arith) in
    simp to_z-of_z
