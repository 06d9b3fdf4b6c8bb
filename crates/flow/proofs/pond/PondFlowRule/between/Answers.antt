-- The flow is what falls, and the push is the mean of both pressures.
use Rattle.std.proofs.Common.{◌+◌, ◌/◌, pos, refl, ◌∙◌, arith, w64}
use Rattle.std.proofs.lemmas.Int.{to_z_pos}
use Rattle.flow.specs.Whole.{back}
use Rattle.flow.proofs.pond.PondFlowRule.between.Goals as goal

pub returns : goal.returns
returns c =
    let p = c.pressure.ensures in
    let q = c.pressure-2.ensures in
    let mean = (c.pressure.result + c.pressure-2.result) / 2 in
    record {
      flow = back _ _ (record { sfits = c.signed_fall.type_inv }) c.signed_fall.ensures;
      push = to_z_pos w64 mean (omega (arith, p.most, q.most)) ∙ (λ i. pos ((p.value i + q.value i) / 2));
      drift = refl;
    }
