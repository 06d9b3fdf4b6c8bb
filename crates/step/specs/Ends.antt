-- What becomes of the work table at the end of a step.
use Rattle.std.specs.Prelude.{◌≡◌, ℕ, ◌-◌, ◌*◌, ◌^◌, Bool, cond, not, List, length, replicate, nat_lt, slice_index}
use Rattle.basin.specs.declared.leaf.Leaf.{Leaf}
use Rattle.basin.specs.declared.refusal.Refusal.TheVariants.{OutOfRange}
use Rattle.basin.specs.Finish.{finish}
use Rattle.basin.specs.Records.{dry, may_hold}
use Rattle.basin.specs.Refusals.{number_of}
use Rattle.runs.specs.Calls.{Reply, granted, refused}
use Rattle.blocks.specs.Places.{Shallow, home_at}
use Rattle.visits.specs.Visits.{held}

-- a table of levels and a work table of a basin of L levels
pub record Shaped (L : ℕ) (levels : List ℕ) (work : List Leaf) : Type 0 where
  pub full_levels : length levels ≡ 2 ^ L * 2 ^ L
  pub full_work : length work ≡ 2 ^ L * 2 ^ L
  pub shallow : Shallow L levels

-- the area of the leaf of the square of entry i
abbrev pub area_in : ℕ → List ℕ → ℕ → ℕ
area_in L levels i = 2 ^ (L - slice_index levels i) * 2 ^ (L - slice_index levels i)

-- that leaf's entry holds more than it may
abbrev pub overfull_in : ℕ → List ℕ → List Leaf → ℕ → Bool
overfull_in L levels work i = not (may_hold (area_in L levels i) (held L work (home_at L levels i)).water)

-- the record that the entry comes to
abbrev pub finished_in : ℕ → List ℕ → List Leaf → ℕ → Leaf
finished_in L levels work i =
    finish (area_in L levels i) (held L work (home_at L levels i)).water (held L work (home_at L levels i)).east (held L work (home_at L levels i)).north

-- the work table after a step: as it was where the step was refused before its time was found in range, else dry
abbrev pub work_after : Reply → List Leaf → List Leaf
work_after (granted moved) work = replicate (length work) dry
work_after (refused r) work = cond (nat_lt (number_of OutOfRange) (number_of r)) (replicate (length work) dry) work
