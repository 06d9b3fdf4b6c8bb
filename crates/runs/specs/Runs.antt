-- What holds of every run: a list of calls on a valid basin.
use Rattle.std.specs.Prelude.{◌≡◌, ℕ, ◌+◌, ◌*◌, ◌/◌, ◌%◌, ◌<◌, ◌≤◌, true, List, [], ◌∷◌, ◌++◌, map, length, drop, pos}
use Rattle.std.specs.List.{AllByRecursion}
use Rattle.basin.specs.Basins.{Basin, side, view, ValidBasin}
use Rattle.basin.specs.Blocks.{Block}
use Rattle.basin.specs.Squares.{area, bed_sum, water, surface, edge}
use Rattle.basin.specs.Totals.{total}
use Rattle.basin.specs.Views.{View, size}
use Rattle.runs.specs.Calls.{Call, pour, draw, settle, step, split, merge, Reply, granted, refused, moved, crossed, run}
use Rattle.runs.specs.Changes.{fill}
use Rattle.runs.specs.Homes.{tree}
use Rattle.runs.specs.Rules.{Rule, Lawful}
use Rattle.runs.specs.Step.{out_of}
use Rattle.runs.specs.Turns.{turn_place, turn_basin, turned_call}

-- a step goes by a rule that keeps the laws
abbrev pub Ruled : Call → Type 0
Ruled (pour x y a) = Unit {0}
Ruled (draw x y a) = Unit {0}
Ruled (settle x y) = Unit {0}
Ruled (step T R work) = Lawful R
Ruled (split x y) = Unit {0}
Ruled (merge x y) = Unit {0}

-- ---- what was poured in and drawn out
abbrev pub poured : Call → Reply → ℕ
poured (pour x y a) (granted w) = a
poured (pour x y a) (refused i) = 0
poured (draw x y a) r = 0
poured (settle x y) r = 0
poured (step T R work) r = 0
poured (split x y) r = 0
poured (merge x y) r = 0

abbrev pub drawn : Call → Reply → ℕ
drawn (pour x y a) r = 0
drawn (draw x y a) (granted w) = a
drawn (draw x y a) (refused i) = 0
drawn (settle x y) r = 0
drawn (step T R work) r = 0
drawn (split x y) r = 0
drawn (merge x y) r = 0

-- over a list of calls and their replies
abbrev pub summed : (Call → Reply → ℕ) → List Call → List (Reply × Basin) → ℕ
summed f [] rs = 0
summed f (c ∷ cs) [] = 0
summed f (c ∷ cs) (r ∷ rs) = f c r.0 + summed f cs rs

-- the basin at the end
abbrev pub last : Basin → List (Reply × Basin) → Basin
last b [] = b
last b (r ∷ rs) = last r.1 rs

-- ---- standing water
-- no discharge, whole surface numbers, one surface across edges between wet squares, and no dry bed below a wet surface beside it
pub record Stands (v : View) : Type 0 where
  pub no_east : (x y : ℕ) → x < size v → y < size v → (v.leaf x y).east ≡ pos 0
  pub no_north : (x y : ℕ) → x < size v → y < size v → (v.leaf x y).north ≡ pos 0
  pub whole_surface : (x y : ℕ) → x < size v → y < size v → 0 < water v x y → fill v x y ≡ surface v x y * area v (v.level x y)
  pub level : (x y p q : ℕ) → x < size v → y < size v → p < size v → q < size v → edge x y p q ≡ true
      → 0 < water v x y → 0 < water v p q → surface v x y ≡ surface v p q
  pub shore : (x y p q : ℕ) → x < size v → y < size v → p < size v → q < size v → edge x y p q ≡ true
      → 0 < water v x y → water v p q ≡ 0 → surface v x y * area v (v.level p q) ≤ bed_sum v (v.level p q) p q

-- every wet square is wet and as high as it was, every dry one is dry
pub record Alike (v w : View) : Type 0 where
  pub same_size : w.L ≡ v.L
  pub wet_stays : (x y : ℕ) → x < size v → y < size v → 0 < water v x y → (0 < water w x y) × (surface w x y ≡ surface v x y)
  pub dry_stays : (x y : ℕ) → x < size v → y < size v → water v x y ≡ 0 → water w x y ≡ 0

-- only steps, splits and merges
abbrev pub CalmCall : Call → Type 0
CalmCall (pour x y a) = ⊥
CalmCall (draw x y a) = ⊥
CalmCall (settle x y) = ⊥
CalmCall (step T R work) = Unit {0}
CalmCall (split x y) = Unit {0}
CalmCall (merge x y) = Unit {0}

-- ---- one basin and one list of calls
pub record RunsWell (b : Basin) (cs : List Call) : Type 0 where
  -- every call leaves a valid basin
  pub valid : AllByRecursion (λ r. ValidBasin r.1) (run cs b)
  -- water and loose account afterwards, with what was drawn, are those before with what was poured
  pub water : total (last b (run cs b)) + summed drawn cs (run cs b) ≡ total b + summed poured cs (run cs b)
  -- in no step does a leaf give more than it held, in the basin given or in one that the calls leave
  pub gives : AllByRecursion (λ a. (R : Rule) (T : ℕ) (c : Block) → out_of R T (tree (view a)) c ≤ ((tree (view a)).leaf c).water) (b ∷ map (λ r. r.1) (run cs b))
  -- standing water stays through steps, splits and merges
  pub still : Stands (view b) → AllByRecursion CalmCall cs → AllByRecursion (λ r. Stands (view r.1) × Alike (view b) (view r.1)) (run cs b)
  -- from the moment it stands, water stays through steps, splits and merges: where the calls are some in front and some behind, and water stands
  -- in the basin that those in front leave, it stands as it did there after each of those behind
  pub still_from : (front back : List Call) → cs ≡ front ++ back → Stands (view (last b (run front b))) → AllByRecursion CalmCall back
      → AllByRecursion (λ r. Stands (view r.1) × Alike (view (last b (run front b))) (view r.1)) (drop (length front) (run cs b))
  -- turned calls on the turned basin: the same replies, and the turned basin after each call
  pub turns : (t : ℕ) → t < 8
      → run (map (turned_call (turn_place (side b.head) (t / 4) (t % 4))) cs) (turn_basin (t / 4) (t % 4) b)
      ≡ map (λ q. (q.0, turn_basin (t / 4) (t % 4) q.1)) (run cs b)

abbrev pub AllRunsWell : Type 0
AllRunsWell = (b : Basin) → ValidBasin b → (cs : List Call) → AllByRecursion Ruled cs → RunsWell b cs

-- what crosses all faces in a step is what leaves all leaves
abbrev pub CrossesWhatLeaves : Type 0
CrossesWhatLeaves = (b : Basin) → ValidBasin b → (R : Rule) (T : ℕ) → crossed R T (view b) ≡ moved R T (view b)
