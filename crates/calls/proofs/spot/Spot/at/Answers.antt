-- The spot granted is that of the square.
use Rattle.calls.proofs.Placing.{placing_off, located}
use Rattle.tables.specs.Surveys.{surveyed}
use Rattle.calls.proofs.spot.Spot.at.Goals as goal

pub returns-in_default : goal.returns-in_default
returns-in_default c = placing_off (surveyed c.args.survey.now) _ _ c.args.survey.now.valid c.in_default.ensures

pub returns : goal.returns
returns c =
    located (surveyed c.args.survey.now) _ _ _ _ _ _ c.args.survey.now.valid c.in-Some.ensures c.level-level.ensures.value c.leaf.ensures c.block.ensures
