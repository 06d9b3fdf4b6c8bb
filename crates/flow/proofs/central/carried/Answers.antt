-- The product fits 64 bits.
use Rattle.std.proofs.Common.{◌^◌, ◌<◌, ◌≤◌, pos, ◌*ℤ◌, nat_abs, arith, w64, SFits}
use Rattle.std.proofs.lemmas.Int.{to_z-of_z, to_z_pos}
use Rattle.flow.specs.CentralLaws.{carried_within}
use Rattle.flow.specs.Whole.{fits}
use Rattle.flow.proofs.central.carried.Goals as goal

pub returns : goal.returns
returns c =
    let h = c.args.h in
    let speed = c.args.speed in
    let fs : SFits w64 speed = c.ranges.speed in
    let fh : h < 2 ^ 63 = omega (arith, c.requires.deep) in
    let k : nat_abs (pos h *ℤ speed) ≤ 300000000 = carried_within h speed c.requires.deep c.requires.slow in
    let f : SFits w64 (pos h *ℤ speed) = fits (pos h *ℤ speed) (omega arith) in
    record { value = simp (to_z-of_z, to_z_pos); small = simp (to_z-of_z, to_z_pos) k }
