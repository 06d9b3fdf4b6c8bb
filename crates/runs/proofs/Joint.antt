-- All that holds of every run.
use Rattle.std.proofs.Common.{ℕ, ◌/◌, ◌%◌, ◌≤◌, List, [], ◌∷◌, map}
use Rattle.std.specs.List.{AllByRecursion}
use Rattle.basin.specs.Basins.{Basin, view}
use Rattle.basin.specs.Blocks.{Block}
use Rattle.runs.specs.Calls.{run}
use Rattle.runs.specs.Homes.{tree}
use Rattle.runs.specs.Rules.{Rule}
use Rattle.runs.specs.Runs.{AllRunsWell}
use Rattle.runs.specs.Step.{out_of}
use Rattle.runs.proofs.Basins.{stays_valid, keeps_all_water, gives_what_it_has}
use Rattle.runs.proofs.StandRuns.{stands_still, stands_once}
use Rattle.runs.proofs.TurnRuns.{turns_with}

every : (P : Basin → Type 0) → ((b : Basin) → P b) → (bs : List Basin) → AllByRecursion P bs
every P f [] = tt
every P f (b ∷ bs) = (f b, every P f bs)

pub all_runs_well : AllRunsWell
all_runs_well b r cs l =
    record {
      valid = stays_valid b r cs l;
      water = keeps_all_water b r cs l;
      gives =
          every (λ a. (R : Rule) (T : ℕ) (c : Block) → out_of R T (tree (view a)) c ≤ ((tree (view a)).leaf c).water)
          (λ a R T c. gives_what_it_has (view a) R T c) (b ∷ map (λ r. r.1) (run cs b));
      still = λ st n. stands_still b r st cs l n;
      still_from = stands_once b r cs l;
      turns = λ t h. turns_with b r cs l (t / 4) (t % 4);
    }
