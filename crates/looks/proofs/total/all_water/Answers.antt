-- One more entry is counted, and all entries together are the whole water.
use Rattle.std.proofs.Common.{◌^◌, refl, ◌∙◌, arith}
use Rattle.tables.specs.Surveys.{surveyed}
use Rattle.basin.proofs.Sizes.{area_small}
use Rattle.looks.proofs.Counted.{corner_more, other_more, all_counted, deep_at}
use Rattle.looks.proofs.total.all_water.Goals as goal
use Rattle.looks.proofs.total.all_water.Goals.{then-is_corner, else-is_corner}

pub overflow_sub-survey : goal.overflow_sub-survey
overflow_sub-survey c = deep_at _ c.args.survey.now.valid c.loop-i.i (omega arith)

pub loop-i-preserved : goal.loop-i-preserved
loop-i-preserved c =
    let b = surveyed c.args.survey.now in
    let n = c.side-n.ensures.value in
    let s = c.side-s.ensures.value in
    elim c.if-is_corner.branch [
      | then-is_corner w ↦ (w.sum-is ∙ corner_more b _ _ _ n s _ w.if-is_corner.ensures c.loop-i.invariant.0, omega arith)
      | else-is_corner w ↦ (w.sum-is ∙ other_more b _ _ _ n s _ w.if-is_corner.ensures c.loop-i.invariant.0, omega arith)
    ]

pub returns : goal.returns
returns c =
    let b = surveyed c.args.survey.now in
    let small = area_small c.args.survey.now.head.levels (2 ^ c.args.survey.now.head.levels) c.args.survey.now.valid.head.levels refl in
    record { value = all_counted b _ _ (omega (arith, c.args.survey.now.valid.full.leaves)) c.loop-i.invariant.0; most = omega (arith, c.args.survey.now.valid.full.leaves) }
