-- A window stays dry where each of its squares does.
use Rattle.std.proofs.Common.{rules}
use Rattle.basin.specs.Basins.{view}
use Rattle.basin.proofs.Windows.{decided_by_squares}
use Rattle.tables.specs.Surveys.{surveyed}
use Rattle.refine.specs.Floods.{DrySquare}
use Rattle.refine.proofs.flood.stays_dry.Goals as goal

pub returns : goal.returns
returns c =
    decided_by_squares c.args.window (DrySquare (view (surveyed c.args.survey.now)) c.args.level) c.passes.result c.passes.ensures
    (λ x y s p. search rules) (λ x y s p. search rules)
