-- The order in which the smallest is looked for does not matter.
use Rattle.std.proofs.Common.{◌≡◌, ◌≤◌, ℤ, pos, ◌-ℤ◌, nat_abs, ◌∙◌, arith, w64, SFits, to_z, of_z}
use Rattle.std.specs.Int.{int_min}
use Rattle.std.proofs.lemmas.Int.{ints, clamps, to_z-of_z}
use Rattle.flow.specs.Centrals.{wave, behind}
use Rattle.flow.specs.States.{state_of}
use Rattle.flow.specs.CentralLaws.{behind_within}
use Rattle.flow.specs.InRange.{fine_of}
use Rattle.flow.proofs.central.behind.Goals as goal

-- a sum that went to its bits and back, of a speed and a wave
speed : (u w x : ℤ) → nat_abs u ≤ 10000 → nat_abs w ≤ 17200 → w ≡ x
    → to_z w64 (of_z w64 (to_z w64 (of_z w64 u) -ℤ to_z w64 (of_z w64 w))) ≡ u -ℤ x
speed u w x p q e = omega (arith, ints)

smallest : (x y m r : ℤ) → SFits w64 m → SFits w64 r → m ≡ int_min x y → r ≡ int_min (to_z w64 (of_z w64 m)) (pos 0)
    → to_z w64 (of_z w64 r) ≡ int_min (pos 0) (int_min x y)
smallest x y m r fm fr e d = let g = rw (to_z-of_z w64 m fm) at d in to_z-of_z w64 r fr ∙ omega (arith, ints, clamps)

pub returns : goal.returns
unfolding behind
returns c =
    let one = c.args.one in
    let two = c.args.two in
    let x = speed one.u c.wave.result (wave one.h) one.in_range.1 c.wave.ensures.small c.wave.ensures.value in
    let y = speed two.u c.wave-2.result (wave two.h) two.in_range.1 c.wave-2.ensures.small c.wave-2.ensures.value in
    let m : c.min-fastest.result ≡ int_min (one.u -ℤ wave one.h) (two.u -ℤ wave two.h) = rw (x, y) at c.min-fastest.ensures.value in
    let fm : SFits w64 c.min-fastest.result = record { sfits = c.min-fastest.type_inv } in
    let fr : SFits w64 c.min.result = record { sfits = c.min.type_inv } in
    let e : to_z w64 (of_z w64 c.min.result) ≡ behind (state_of one) (state_of two) =
    smallest (one.u -ℤ wave one.h) (two.u -ℤ wave two.h) c.min-fastest.result c.min.result fm fr m c.min.ensures.value in
    let k = behind_within (state_of one) (state_of two) (fine_of one) (fine_of two) in
    record { value = e; backward = rw e k.0; small = rw e k.1 }
