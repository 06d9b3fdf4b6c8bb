-- A refusal is carried on, and the spot granted is that of the basin's square.
use Rattle.std.proofs.lemmas.Result.{err_from_is_err_and}
use Rattle.basin.specs.Basins.{basin_of}
use Rattle.calls.proofs.Placing.{placing_refused}
use Rattle.calls.proofs.spot.locate.Goals as goal

pub returns-in_err-survey : goal.returns-in_err-survey
returns-in_err-survey c =
    let p = err_from_is_err_and c.from_residual.result c.from_residual.ensures.1 in
    rw (p.1, p.2) (placing_refused (basin_of c.args.head c.args.levels.now c.args.beds.now c.args.leaves.now) _ _ _ c.in_err-survey.ensures)

pub returns : goal.returns
returns c = rw (← c.in_ok-survey.ensures.0) c.at.ensures
