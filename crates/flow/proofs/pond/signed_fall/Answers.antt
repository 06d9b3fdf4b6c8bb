-- The larger depth is the one that it falls from.
use Rattle.std.proofs.Common.{◌≡◌, pos, ◌-ℤ◌, neg_ℤ, arith, w64, to_z, of_z}
use Rattle.std.proofs.lemmas.Int.{ints}
use Rattle.flow.specs.Ponds.{fall, pond_flow}
use Rattle.flow.proofs.pond.signed_fall.Goals as goal

pub returns-then-h1-h2 : goal.returns-then-h1-h2
unfolding pond_flow
returns-then-h1-h2 c =
    let e : to_z w64 (of_z w64 (pos 0 -ℤ to_z w64 c.fall.result)) ≡ neg_ℤ (pos (fall c.args.h2 c.args.h1)) = omega (arith, ints) in
    let l = c.if-h1-h2.true in
    grind arith

pub returns-else-h1-h2 : goal.returns-else-h1-h2
unfolding pond_flow
returns-else-h1-h2 c =
    let e : to_z w64 c.fall-else-h1-h2.result ≡ pos (fall c.args.h1 c.args.h2) = omega (arith, ints) in
    let l = c.if-h1-h2.false in
    grind arith
