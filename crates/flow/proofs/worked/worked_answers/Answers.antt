-- The definitions compute.
use Rattle.std.proofs.Common.{refl}
use Rattle.runs.specs.Roots.{raised, root_by, square_root}
use Rattle.flow.specs.Centrals.{wave, ahead, behind, weighed, spread, blend}
use Rattle.flow.specs.Ponds as ponds
use Rattle.flow.proofs.worked.worked_answers.Goals as goal

pub returns : goal.returns
unfolding raised root_by square_root wave ahead behind weighed spread blend ponds.pond_flow
returns c = record {
  fall_flow = refl;
  fall_push = refl;
  fall_drift = refl;
  pond_flow = refl;
  pond_push = refl;
  drop_flow = refl;
  drop_push = refl;
  even_flow = refl;
  even_push = refl;
  even_drift = refl;
}
