-- A refusal is carried on, and what is granted is what there is at the square.
use Rattle.std.proofs.Common.{◌^◌, ◌<◌, w64, SFits, rules, arith}
use Rattle.std.proofs.lemmas.Result.{err_from_is_err_and}
use Rattle.std.proofs.lemmas.Int.{to_z-of_z}
use Rattle.basin.specs.Basins.{basin_of}
use Rattle.looks.proofs.Answered.{look_refused, look_granted, seen_is}
use Rattle.looks.proofs.square.look.Goals as goal

pub returns-in_err-survey : goal.returns-in_err-survey
returns-in_err-survey c =
    let p = err_from_is_err_and c.from_residual.result c.from_residual.ensures.1 in
    rw (p.1, p.2) (look_refused (basin_of c.args.head c.args.levels.now c.args.beds.now c.args.leaves.now) _ _ _ c.in_err-survey.ensures)

pub returns : goal.returns
returns c =
    let leaf = c.leaf-water.result in
    let east : SFits w64 leaf.east = search rules in
    let north : SFits w64 leaf.north = search rules in
    let at = c.in-Some.ensures in
    let across : c.args.x < 2 ^ c.args.head.levels = omega (arith, at.x_is, at.n_is, c.in-Some.square.inside.1) in
    let up : c.args.y < 2 ^ c.args.head.levels = omega (arith, at.y_is, at.n_is, c.in-Some.square.inside.2) in
    look_granted _ _ _ _ c.in_ok-survey.ensures.1 across up
    (seen_is c.in_ok-survey.survey (basin_of c.args.head c.args.levels.now c.args.beds.now c.args.leaves.now) _ _ _ _ _ _ _ _
    c.in_ok-survey.ensures.0 at c.level.ensures.value c.leaf-water.ensures c.surface_at.ensures
    (to_z-of_z w64 leaf.east east) (to_z-of_z w64 leaf.north north))
