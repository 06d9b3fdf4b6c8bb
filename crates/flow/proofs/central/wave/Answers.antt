-- The root fits, and is at most 17,200.
use Rattle.std.proofs.Common.{◌≡◌, ◌*◌, ◌^◌, ◌<◌, ◌≤◌, pos, ap, arith}
use Rattle.std.proofs.lemmas.Int.{to_z_pos}
use Rattle.runs.specs.Roots.{square_root}
use Rattle.flow.specs.Centrals.{wave}
use Rattle.flow.specs.CentralLaws.{wave_within}
use Rattle.flow.proofs.central.wave.Goals as goal

pub returns : goal.returns
unfolding wave
returns c =
    let e : c.root.result ≡ square_root (9810 * c.args.h) = c.root.ensures in
    let k : square_root (9810 * c.args.h) ≤ 17200 = wave_within c.args.h c.requires in
    let f : c.root.result < 2 ^ 63 = omega arith in
    record { value = simp to_z_pos (ap pos e); small = simp to_z_pos (omega arith) }
