-- The levels are between where each square's is.
use Rattle.std.proofs.Common.{rules, ◌≤◌}
use Rattle.basin.specs.Tables.{entry}
use Rattle.basin.proofs.Windows.{decided_by_squares}
use Rattle.refine.proofs.window.all_between.Goals as goal

pub returns : goal.returns
returns c =
    let level = entry c.args.n 0 c.args.levels.now in
    decided_by_squares c.args.window (λ x y. (c.args.low ≤ level x y) × (level x y ≤ c.args.high)) c.passes.result c.passes.ensures
    (λ x y s p. search rules) (λ x y s p. search rules)
