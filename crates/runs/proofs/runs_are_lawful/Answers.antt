-- The theorem over lists of calls, and the laws of refusals, walls and roots.
use Rattle.runs.proofs.runs_are_lawful.Goals as goal
use Rattle.basin.specs.Basins.{view}
use Rattle.runs.proofs.Faces.{crossed_is_moved}
use Rattle.runs.proofs.Joint.{all_runs_well}
use Rattle.runs.proofs.Limits.{walls_hold}
use Rattle.runs.proofs.Refusing.{refuses_lowest, refusal_keeps, refuses_flaws}
use Rattle.runs.proofs.Rooted.{roots}

pub returns : goal.returns
returns c =
    record {
      runs = all_runs_well;
      lowest = refuses_lowest;
      kept = refusal_keeps;
      flaws = refuses_flaws;
      walls = walls_hold;
      roots = roots;
      faces = λ b valid R T. crossed_is_moved (view b) valid.squares.quadtree R T;
    }
