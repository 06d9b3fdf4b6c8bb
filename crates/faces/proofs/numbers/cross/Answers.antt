-- Each number is the scaled answer of the rule, and no larger than the caps allow.
use Rattle.std.proofs.Common.{◌≡◌, ℕ, ◌*◌, ◌≤◌, ℤ, pos, ◌-ℤ◌, nat_abs, refl, ap, ◌∙◌, arith, w64, SFits, to_z, of_z, rules}
use Rattle.std.proofs.lemmas.Int.{to_z-of_z}
use Rattle.runs.specs.Rules.{pressure}
use Rattle.runs.specs.Step.{scaled}
use Rattle.flow.specs.Whole.{back}
use Rattle.faces.proofs.numbers.cross.Goals as goal

-- what is left of the bound of an amount x once it is scaled to r
scaled_within : (r x y : ℤ) (m : ℕ) → SFits w64 r → x ≡ y → nat_abs r * 125 ≤ nat_abs x * 16 → nat_abs y * 16 ≤ m * 125 → nat_abs (to_z w64 (of_z w64 r)) ≤ m
scaled_within r x y m f e h k = let n = ap nat_abs e in let b = ap nat_abs (to_z-of_z w64 r f) in omega arith

pub returns : goal.returns
returns g c =
    let to = λ (z : ℤ). scaled c.args.pace.width c.args.pace.time z c.args.length in
    let a = c.capped-flux.ensures in
    let push = c.capped-flux.result.push in
    let ff : SFits w64 c.capped-flux.result.flow = search rules in
    let fp : SFits w64 push = search rules in
    let fd : SFits w64 c.capped-flux.result.drift = search rules in
    let f1 : SFits w64 c.excess.result = record { sfits = c.excess.type_inv } in
    let f2 : SFits w64 c.excess-2.result = record { sfits = c.excess-2.type_inv } in
    let d1 = back _ _ f1 (c.excess.ensures.value ∙ ap (λ (z : ℤ). z -ℤ pos (pressure c.args.one.h)) (back _ _ fp a.push)) in
    let d2 = back _ _ f2 (c.excess-2.ensures.value ∙ ap (λ (z : ℤ). z -ℤ pos (pressure c.args.two.h)) (back _ _ fp a.push)) in
    let t1 : SFits w64 c.scaled.result = record { sfits = c.scaled.type_inv } in
    let t2 : SFits w64 c.scaled-2.result = record { sfits = c.scaled-2.type_inv } in
    let t3 : SFits w64 c.scaled-3.result = record { sfits = c.scaled-3.type_inv } in
    let t4 : SFits w64 c.scaled-4.result = record { sfits = c.scaled-4.type_inv } in
    record {
      wish = back _ _ t1 (c.scaled.ensures.value ∙ ap to (back _ _ ff a.flow));
      fall = back _ _ t2 (c.scaled-2.ensures.value ∙ ap to d1);
      rise = back _ _ t3 (c.scaled-3.ensures.value ∙ ap to d2);
      drift = back _ _ t4 (c.scaled-4.ensures.value ∙ ap to (back _ _ fd a.drift));
      small = record {
        wish_small = scaled_within _ _ _ 153600000 t1 (back _ _ ff refl) c.scaled.ensures.small (omega (arith, a.flow_cap));
        fall_small = scaled_within _ _ _ 3840000000000 t2 (back _ _ f1 refl) c.scaled-2.ensures.small (omega (arith, c.excess.ensures.small));
        rise_small = scaled_within _ _ _ 3840000000000 t3 (back _ _ f2 refl) c.scaled-3.ensures.small (omega (arith, c.excess-2.ensures.small));
        drift_small = scaled_within _ _ _ 3840000000000 t4 (back _ _ fd refl) c.scaled-4.ensures.small (omega (arith, a.drift_cap));
      };
    }
