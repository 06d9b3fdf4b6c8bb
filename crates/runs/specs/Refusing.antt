-- What holds of refusals, on any head and tables.
use Rattle.std.specs.Prelude.{◌≡◌, ℕ, ◌≤◌, true, ◌⊎◌}
use Rattle.std.specs.List.{AllByRecursion}
use Rattle.basin.specs.declared.refusal.Refusal.{Refusal}
use Rattle.basin.specs.declared.refusal.Refusal.TheVariants.{TableLength, NotABasin}
use Rattle.basin.specs.Basins.{Basin, ValidBasin}
use Rattle.basin.specs.Refusals.{number_of}
use Rattle.runs.specs.Calls.{Call, Reply, granted, refused, all_tests, perform}

-- the reply is a refusal with a number of at most n
abbrev pub RefusedBy : Reply → ℕ → Type 0
RefusedBy (granted a) n = ⊥
RefusedBy (refused r) n = number_of r ≤ n

-- whichever test strikes, the call is refused, and by no higher number
abbrev pub RefusesLowest : Type 0
RefusesLowest = (c : Call) (b : Basin) → AllByRecursion (λ t. t.strikes ≡ true → RefusedBy (perform c b).0 (number_of t.refusal)) (all_tests c b)

-- a refused call leaves head and tables as they were
abbrev pub RefusalKeeps : Type 0
RefusalKeeps = (c : Call) (b : Basin) (r : Refusal) → (perform c b).0 ≡ refused r → (perform c b).1 ≡ b

-- head and tables that are no valid basin are refused
abbrev pub RefusesFlaws : Type 0
RefusesFlaws = (c : Call) (b : Basin) → (ValidBasin b → ⊥) → ((perform c b).0 ≡ refused TableLength) ⊎ ((perform c b).0 ≡ refused NotABasin)
