-- The product fits 64 bits.
use Rattle.std.proofs.Common.{◌≡◌, arith, w64, SFits, rules}
use Rattle.std.proofs.lemmas.Int.{to_z-of_z}
use Rattle.flow.specs.Centrals.{carried}
use Rattle.flow.specs.States.{state_of}
use Rattle.flow.specs.CentralLaws.{momentum_within}
use Rattle.flow.specs.InRange.{fine_of}
use Rattle.flow.specs.Whole.{product_fits, product_back}
use Rattle.flow.proofs.central.momentum.Goals as goal

pub overflow_mul-result : goal.overflow_mul-result
overflow_mul-result c =
    let fr : SFits w64 c.carried.result = record { sfits = c.carried.type_inv } in
    let fs = c.ranges.speed in
    simp to_z-of_z (product_fits c.carried.result c.args.speed 300000000 10000 c.carried.ensures.small c.requires (omega arith))

pub returns : goal.returns
returns c =
    let side = c.args.side in
    let fu : SFits w64 side.u = search rules in
    let fr : SFits w64 c.carried.result = record { sfits = c.carried.type_inv } in
    let e : c.carried.result ≡ carried side.h side.u = simp to_z-of_z at c.carried.ensures.value in
    let run = product_back c.carried.result c.args.speed _ 300000000 10000 fr c.ranges.speed c.carried.ensures.small c.requires (omega arith) e in
    record { value = run; small = rw run (momentum_within (state_of side) c.args.speed (fine_of side) c.requires) }
