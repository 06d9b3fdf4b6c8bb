-- One square more has its leaf's new record.
use Rattle.std.proofs.Common.{◌<◌, ◌≢◌, length, refl, ◌∙◌, arith, get_or-set_other, get_or-set_same, w64, SFits, rules, below_more}
use Rattle.basin.specs.Records.{dry}
use Rattle.flow.specs.Whole.{back}
use Rattle.step.proofs.Finishing.{finished_told}
use Rattle.step.proofs.ends.spread.Goals as goal

pub loop-i-preserved : goal.loop-i-preserved
loop-i-preserved c =
    let l = c.entry_of-water.result in
    let fe : SFits w64 l.east = search rules in
    let fn : SFits w64 l.north = search rules in
    let inside : c.loop-i.i < length c.loop-i.leaves = omega (arith, c.requires.leaves, c.requires.shaped.full_levels, c.loop-i.auto.leaves) in
    let told = finished_told c.args.head.levels c.args.levels.now c.args.work.now c.loop-i.i _ l c.finish.result _ _ c.side-s.ensures.value c.entry_of-water.ensures
    c.finish.ensures (back _ _ fe refl) (back _ _ fn refl) in
    below_more _ _
    (λ k h. let ne : k ≢ c.loop-i.i = omega arith in get_or-set_other c.loop-i.leaves c.loop-i.i k _ dry ne ∙ c.loop-i.invariant k h)
    (get_or-set_same c.loop-i.leaves c.loop-i.i _ dry inside ∙ told)
