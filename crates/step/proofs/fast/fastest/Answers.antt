-- Depths and speeds are those of a record in range.
use Rattle.std.proofs.Common.{◌≡◌, ◌*◌, ◌/◌, ◌≤◌, max, nat_abs, refl, ap, ◌∙◌, arith, w64, SFits, rules}
use Rattle.flow.specs.Whole.{back}
use Rattle.step.proofs.Paces.{depth_most, speeds_most}
use Rattle.step.proofs.fast.fastest.Goals as goal

pub overflow_mul-depth-2 : goal.overflow_mul-depth-2
overflow_mul-depth-2 c = let h = depth_most (c.args.side * c.args.side) c.args.leaf c.requires.range in search rules

pub returns : goal.returns
returns c =
    let l = c.args.leaf in
    let fe : SFits w64 l.east = search rules in
    let fn : SFits w64 l.north = search rules in
    let e = c.unsigned_abs.ensures.value ∙ ap nat_abs (back _ _ fe refl) in
    let n = c.unsigned_abs-2.ensures.value ∙ ap nat_abs (back _ _ fn refl) in
    let s : c.max-speed.result ≡ max (nat_abs l.east / l.water) (nat_abs l.north / l.water) =
    c.max-speed.ensures ∙ ap (λ a. max (a / l.water) (c.unsigned_abs-2.result / l.water)) e ∙ ap (λ a. max (nat_abs l.east / l.water) (a / l.water)) n in
    let most = speeds_most (c.args.side * c.args.side) l c.requires.range in
    let high : max (nat_abs l.east / l.water) (nat_abs l.north / l.water) ≤ 10000 = omega (arith, most.0, most.1) in
    record { value = omega (arith, s, c.root.ensures); most = omega (arith, s, high, c.root.type_inv) }
