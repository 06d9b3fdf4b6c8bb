-- Each call answers its part of the definition.
use Rattle.std.proofs.Common.{◌≡◌, ℤ, arith, w64, SFits, rules}
use Rattle.std.proofs.lemmas.Int.{to_z-of_z, to_z_pos}
use Rattle.flow.specs.Centrals.{blend, carried, momentum}
use Rattle.flow.specs.States.{state_of}
use Rattle.flow.specs.Whole.{back}
use Rattle.flow.proofs.central.CentralFlowRule.between.Goals as goal

blend_same : (r a b f g v w a' b' f' g' v' w' : ℤ) → r ≡ blend a b f g v w
    → a ≡ a' → b ≡ b' → f ≡ f' → g ≡ g' → v ≡ v' → w ≡ w' → r ≡ blend a' b' f' g' v' w'
blend_same r a b f g v w a' b' f' g' v' w' e p q s t x y = cc

pub returns : goal.returns
returns c =
    let one = c.args.one in
    let two = c.args.two in
    let u₁ : SFits w64 one.u = search rules in
    let u₂ : SFits w64 two.u = search rules in
    let v₁ : SFits w64 one.v = search rules in
    let v₂ : SFits w64 two.v = search rules in
    let h₁ = to_z_pos w64 one.h (omega (arith, one.in_range.0)) in
    let h₂ = to_z_pos w64 two.h (omega (arith, two.in_range.0)) in
    let a = back _ _ (record { sfits = c.ahead-a.type_inv }) c.ahead-a.ensures.value in
    let b = back _ _ (record { sfits = c.behind-b.type_inv }) c.behind-b.ensures.value in
    let e₁ : c.carried-run1.result ≡ carried one.h one.u = simp to_z-of_z at c.carried-run1.ensures.value in
    let e₂ : c.carried-run2.result ≡ carried two.h two.u = simp to_z-of_z at c.carried-run2.ensures.value in
    let e₃ : c.carried-slide1.result ≡ carried one.h one.v = simp to_z-of_z at c.carried-slide1.ensures.value in
    let e₄ : c.carried-slide2.result ≡ carried two.h two.v = simp to_z-of_z at c.carried-slide2.ensures.value in
    let run₁ = back _ _ (record { sfits = c.carried-run1.type_inv }) e₁ in
    let run₂ = back _ _ (record { sfits = c.carried-run2.type_inv }) e₂ in
    let slide₁ = back _ _ (record { sfits = c.carried-slide1.type_inv }) e₃ in
    let slide₂ = back _ _ (record { sfits = c.carried-slide2.type_inv }) e₄ in
    let across₁ = back _ _ (record { sfits = c.across.type_inv }) c.across.ensures.value in
    let across₂ = back _ _ (record { sfits = c.across-2.type_inv }) c.across-2.ensures.value in
    let m₁ : c.momentum.result ≡ momentum (state_of one) one.v = simp to_z-of_z at c.momentum.ensures.value in
    let m₂ : c.momentum-2.result ≡ momentum (state_of two) two.v = simp to_z-of_z at c.momentum-2.ensures.value in
    let along₁ = back _ _ (record { sfits = c.momentum.type_inv }) m₁ in
    let along₂ = back _ _ (record { sfits = c.momentum-2.type_inv }) m₂ in
    record {
      flow = back _ _ (record { sfits = c.blend.type_inv }) (blend_same _ _ _ _ _ _ _ _ _ _ _ _ _ c.blend.ensures a b run₁ run₂ h₁ h₂);
      push = back _ _ (record { sfits = c.blend-2.type_inv }) (blend_same _ _ _ _ _ _ _ _ _ _ _ _ _ c.blend-2.ensures a b across₁ across₂ run₁ run₂);
      drift = back _ _ (record { sfits = c.blend-3.type_inv }) (blend_same _ _ _ _ _ _ _ _ _ _ _ _ _ c.blend-3.ensures a b along₁ along₂ slide₁ slide₂);
    }
