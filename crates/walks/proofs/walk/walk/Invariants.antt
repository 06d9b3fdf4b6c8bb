-- The work table is that of the visits so far, and the sum is over the leaves visited.
use Rattle.std.proofs.Common.{◌≡◌, ◌*◌, ◌^◌, ◌≤◌, length}
use Rattle.basin.specs.Basins.{view}
use Rattle.tables.specs.Surveys.{surveyed}
use Rattle.runs.specs.Homes.{tree}
use Rattle.runs.specs.Step.{out_of}
use Rattle.walks.specs.Walks.{leaf_sum, Walked}
use Rattle.walks.proofs.walk.walk.Given as goal

abbrev pub invariant-loop-i : goal.invariant-loop-i
invariant-loop-i g l =
    (length l.work ≡ 2 ^ l.motion.survey.head.levels * 2 ^ l.motion.survey.head.levels)
    × Walked (g.R.FlowRule.meaning l.motion.rule.now) l.motion.pace.time (surveyed l.motion.survey) l.i l.work
    × (l.moved ≡ leaf_sum l.motion.survey.head.levels l.motion.survey.levels.now (out_of (g.R.FlowRule.meaning l.motion.rule.now) l.motion.pace.time (tree (view (surveyed l.motion.survey)))) l.i)
    × (l.moved ≤ l.i * 4294967295)
