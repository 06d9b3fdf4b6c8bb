-- The leaf at a square, and the refusals that every call at a square may meet.
use Rattle.std.specs.Prelude.{◌≡◌, ℕ, ◌+◌, ◌*◌, ◌<◌, ◌≤◌, cond, List, Ok, Err, Result, slice_index_or}
use Rattle.basin.specs.declared.leaf.Leaf.{Leaf}
use Rattle.basin.specs.declared.plot.Plot.{Plot}
use Rattle.basin.specs.declared.refusal.Refusal.{Refusal}
use Rattle.basin.specs.declared.refusal.Refusal.TheVariants.{OffGrid}
use Rattle.basin.specs.declared.square.Square.{Square}
use Rattle.basin.specs.Basins.{Basin, side, view, ValidBasin}
use Rattle.basin.specs.Fills.{square}
use Rattle.basin.specs.Finish.{finish}
use Rattle.basin.specs.Flaws.{validity}
use Rattle.basin.specs.Places.{IsAt}
use Rattle.basin.specs.Records.{dry}
use Rattle.looks.specs.Looks.{after}
use Rattle.runs.specs.Calls.{off}
use Rattle.tables.specs.Surveys.{BlockAt}
use Rattle.calls.specs.declared.spot.Spot.{Spot}

-- a table's length, no valid basin, a square off the grid
unfoldable pub placing : Basin → ℕ → ℕ → Result (Unit {0}) Refusal
placing b x y = after (validity b) (cond (off (view b) x y) (Err OffGrid) (Ok tt))

-- the spot of a square of a valid basin
pub record Located (b : Basin) (x y : ℕ) (s : Spot) : Type 0 where
  pub passed : placing b x y ≡ Ok tt
  pub valid : ValidBasin b
  pub east : x < side b.head
  pub north : y < side b.head
  pub square : IsAt x y (side b.head) s.square
  pub level_is : s.level ≡ (view b).level x y
  pub leaf_is : s.leaf ≡ (view b).leaf x y
  pub block : BlockAt b ((view b).level x y) x y s.plot

-- the plot is the block of level k at (x, y)
pub record Covers (b : Basin) (k x y : ℕ) (p : Plot) : Type 0 where
  pub deep : k ≤ b.head.L
  pub east : x < side b.head
  pub north : y < side b.head
  pub block : BlockAt b k x y p

-- a square's entry in the tables
abbrev pub entry_of : Square → ℕ
entry_of q = q.y * q.n + q.x

-- the leaves once this one holds so much water, with the discharges that its spot was found with
abbrev pub refilled : Spot → ℕ → List Leaf → List Leaf
refilled s water leaves =
    let p = s.plot in
    square p.side p.n p.side (p.south * p.n + p.west) (finish (p.side * p.side) water s.leaf.east s.leaf.north) leaves

-- the leaves once this one holds so much water, with the discharges that the table has
abbrev pub refilled_by_table : Spot → ℕ → List Leaf → List Leaf
refilled_by_table s water leaves =
    let p = s.plot in
    let leaf = slice_index_or leaves (entry_of s.square) dry in
    square p.side p.n p.side (p.south * p.n + p.west) (finish (p.side * p.side) water leaf.east leaf.north) leaves
