-- A refusal is carried on, and what is granted is the whole water.
use Rattle.std.proofs.Common.{◌+◌, Ok, ap, ◌∙◌}
use Rattle.std.proofs.lemmas.Result.{err_from_is_err_and}
use Rattle.basin.specs.Basins.{basin_of, view}
use Rattle.basin.specs.Totals.{all_water}
use Rattle.looks.proofs.Answered.{total_refused, total_granted}
use Rattle.looks.proofs.total.total.Goals as goal

pub returns-in_err-survey : goal.returns-in_err-survey
returns-in_err-survey c =
    let p = err_from_is_err_and c.from_residual.result c.from_residual.ensures.1 in
    rw (p.1, p.2) (total_refused (basin_of c.args.head c.args.levels.now c.args.beds.now c.args.leaves.now) _ c.in_err-survey.ensures)

pub returns : goal.returns
returns c =
    ap (λ sum. Ok (sum + c.args.head.loose)) c.all_water.ensures.value
    ∙ ap (λ b. Ok (all_water (view b) + c.args.head.loose)) c.in_ok-survey.ensures.0
    ∙ total_granted _ c.in_ok-survey.ensures.1
