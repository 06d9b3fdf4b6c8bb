-- The basin and the surface number once a leaf has been given its water.
use Rattle.std.proofs.Common.{◌≡◌, ℕ, ◌+◌, ◌-◌, ◌*◌, ◌/◌, ◌^◌, ◌<◌, ◌≤◌, cond, not, List, length, slice_index_or, sym, refl, ap, ◌∙◌, mul-le-mul_right, add-mul, one-mul, arith}
use Rattle.basin.specs.declared.leaf.Leaf.{Leaf}
use Rattle.basin.specs.declared.plot.Plot.{Plot}
use Rattle.basin.specs.Basins.{Basin, basin, tables, side, view}
use Rattle.basin.specs.Fills.{square}
use Rattle.basin.specs.Finish.{finish}
use Rattle.basin.specs.Records.{dry, may_hold}
use Rattle.basin.specs.Squares.{same_block, area, water, bed_sum, surface}
use Rattle.basin.specs.Plots.{ground}
use Rattle.basin.specs.Tables.{table, entry}
use Rattle.basin.specs.Views.{side_of}
use Rattle.basin.proofs.Fills.{length_square, filled_entry}
use Rattle.basin.proofs.Sizes.{side_pos, side_times}
use Rattle.basin.proofs.Tabled.{tabled, table_entry}
use Rattle.basin.proofs.Tests.{to_same_block}
use Rattle.runs.specs.Calls.{full, pack}
use Rattle.runs.specs.Changes.{put}
use Rattle.runs.proofs.WaterCalls.{block_in}
use Rattle.looks.proofs.Beds.{ground_is}
use Rattle.calls.specs.declared.spot.Spot.{Spot}
use Rattle.calls.specs.Spots.{Located, Covers, entry_of, refilled, refilled_by_table}
use Rattle.calls.proofs.Placing.{located_covers}

-- the entries of a table of levels or beds are those that the squares say
pub levels_are : (b : Basin) → length b.tables.levels ≡ side b.head * side b.head → b.tables.levels ≡ table (side b.head) (view b).level
levels_are b e = sym (table_entry (side b.head) b.tables.levels 0 e)

pub beds_are : (b : Basin) → length b.tables.beds ≡ side b.head * side b.head → b.tables.beds ≡ table (side b.head) (view b).bed
beds_are b e = sym (table_entry (side b.head) b.tables.beds 0 e)

-- one value on all squares of a block
pub filled_table : {A : Type 0} (b : Basin) (k x y : ℕ) (s : Plot) → Covers b k x y s → (value d : A) (old : List A)
    → length old ≡ side b.head * side b.head
    → square s.side s.n s.side (s.south * s.n + s.west) value old
    ≡ table (side b.head) (λ p q. cond (same_block (view b) k x y p q) value (entry (side b.head) d old p q))
filled_table b k x y s l value d old all =
    let n = side b.head in
    let wide = side_of (view b) k in
    let X = x / side_of (view b) k in
    let Y = y / side_of (view b) k in
    let at = l.block in
    let new = square wide n wide (Y * wide * n + X * wide) value old in
    (λ i. square (at.side_is i) (at.n_is i) (at.side_is i) (at.south_is i * at.n_is i + at.west_is i) value old)
    ∙ tabled n new d _ (length_square wide n wide (Y * wide * n + X * wide) value old ∙ all)
    (λ p q a c. filled_entry n (2 ^ k) wide X Y (side_times b.head.L k l.deep) (side_pos _) (block_in (view b) k x l.deep l.east)
    (block_in (view b) k y l.deep l.north) value d old all p q a c)

-- a spot's plot lies in the tables
pub beds_long : (b : Basin) (x y : ℕ) (s : Spot) → Located b x y s → length b.tables.beds ≡ s.plot.n * s.plot.n
beds_long b x y s l = l.valid.full.beds ∙ sym (λ i. l.block.n_is i * l.block.n_is i)

pub leaves_long : (b : Basin) (x y : ℕ) (s : Spot) → Located b x y s → length b.tables.leaves ≡ s.plot.n * s.plot.n
leaves_long b x y s l = l.valid.full.leaves ∙ sym (λ i. l.block.n_is i * l.block.n_is i)

pub square_in : (b : Basin) (x y : ℕ) (s : Spot) → Located b x y s → entry_of s.square < s.plot.n * s.plot.n
square_in b x y s l =
    let n = side b.head in
    let row : y + 1 ≤ n = omega (arith, l.north) in
    rw (l.square.x_is, l.square.y_is, l.square.n_is, l.block.n_is) (omega (arith, mul-le-mul_right n row, add-mul y 1 n, one-mul n, l.east))

pub plot_some : (b : Basin) (x y : ℕ) (s : Spot) → Located b x y s → 1 ≤ s.plot.side
plot_some b x y s l = rw l.block.side_is (side_pos (b.head.L - (view b).level x y))

module _ (b : Basin) (x y : ℕ) (s : Spot) (l : Located b x y s) (w : ℕ) where
  abbrev k : ℕ
  k = (view b).level x y

  -- the record that the leaf gets
  abbrev pub record_at : Leaf
  record_at = finish (area (view b) k) w ((view b).leaf x y).east ((view b).leaf x y).north

  leaves_are : refilled s w b.tables.leaves ≡ table (side b.head) (put (view b) x y record_at).leaf
  leaves_are =
      let old = b.tables.leaves in
      let p = s.plot in
      (λ i. square p.side p.n p.side (p.south * p.n + p.west)
      (finish (l.block.side_is i * l.block.side_is i) w (l.leaf_is i).east (l.leaf_is i).north) old)
      ∙ filled_table b k x y p (located_covers b x y s l) record_at dry old l.valid.full.leaves

  -- in the tables in which the spot was found, its leaf is the table's record
  pub by_table_as_found : refilled_by_table s w b.tables.leaves ≡ refilled s w b.tables.leaves
  by_table_as_found =
      let old = b.tables.leaves in
      let p = s.plot in
      let found : slice_index_or old (entry_of s.square) dry ≡ s.leaf =
      (λ i. slice_index_or old (l.square.y_is i * l.square.n_is i + l.square.x_is i) dry) ∙ sym l.leaf_is in
      (λ i. square p.side p.n p.side (p.south * p.n + p.west) (finish (p.side * p.side) w (found i).east (found i).north) old)

  -- head and tables, with any loose account
  pub refilled_basin : (loose : ℕ)
      → basin (record { L = b.head.L; d = b.head.d; loose = loose }) (tables b.tables.levels b.tables.beds (refilled s w b.tables.leaves))
      ≡ pack loose (put (view b) x y record_at)
  refilled_basin loose = λ i. basin (record { L = b.head.L; d = b.head.d; loose = loose })
      (tables (levels_are b l.valid.full.levels i) (beds_are b l.valid.full.beds i) (leaves_are i))

  pub refilled_by_table_basin : (loose : ℕ)
      → basin (record { L = b.head.L; d = b.head.d; loose = loose }) (tables b.tables.levels b.tables.beds (refilled_by_table s w b.tables.leaves))
      ≡ pack loose (put (view b) x y record_at)
  refilled_by_table_basin loose =
      ap (λ leaves. basin (record { L = b.head.L; d = b.head.d; loose = loose }) (tables b.tables.levels b.tables.beds leaves)) by_table_as_found
      ∙ refilled_basin loose

  pub refilled_surface : (w + ground s.plot b.tables.beds) / (s.plot.side * s.plot.side) ≡ surface (put (view b) x y record_at) x y
  refilled_surface =
      (λ i. (w + ground_is b k x y s.plot l.block i) / (l.block.side_is i * l.block.side_is i))
      ∙ ap (λ t. ((cond t record_at ((view b).leaf x y)).water + bed_sum (view b) k x y) / area (view b) k)
      (sym (to_same_block (view b) k x y x y refl refl))

-- the square's own water, and the area of its leaf
module _ (b : Basin) (x y : ℕ) (s : Spot) (l : Located b x y s) where
  pub water_is : s.leaf.water ≡ water (view b) x y
  water_is = ap (λ l. l.water) l.leaf_is

  area_is : s.plot.side * s.plot.side ≡ area (view b) ((view b).level x y)
  area_is = λ i. l.block.side_is i * l.block.side_is i

  -- the leaf may not hold so much more
  pub full_is : (more : ℕ)
      → not (may_hold (s.plot.side * s.plot.side) (s.leaf.water + more)) ≡ full (view b) x y (water (view b) x y + more)
  full_is more = λ i. not (may_hold (area_is i) (water_is i + more))

  -- what a call has made of a leaf that it gave the water w
  module _ (w w' : ℕ) (same : w ≡ w') (leaves : List Leaf) (filled : leaves ≡ refilled s w b.tables.leaves) (loose : ℕ) where
    pub basin_made : basin (record { L = b.head.L; d = b.head.d; loose = loose }) (tables b.tables.levels b.tables.beds leaves)
        ≡ pack loose (put (view b) x y (finish (area (view b) ((view b).level x y)) w' ((view b).leaf x y).east ((view b).leaf x y).north))
    basin_made =
        ap (λ ls. basin (record { L = b.head.L; d = b.head.d; loose = loose }) (tables b.tables.levels b.tables.beds ls)) filled
        ∙ refilled_basin b x y s l w loose
        ∙ ap (λ w. pack loose (put (view b) x y (finish (area (view b) ((view b).level x y)) w ((view b).leaf x y).east ((view b).leaf x y).north))) same

    pub surface_made : (r : ℕ) → r ≡ (w + ground s.plot b.tables.beds) / (s.plot.side * s.plot.side)
        → r ≡ surface (put (view b) x y (finish (area (view b) ((view b).level x y)) w' ((view b).leaf x y).east ((view b).leaf x y).north)) x y
    surface_made r e =
        e ∙ refilled_surface b x y s l w
        ∙ ap (λ w. surface (put (view b) x y (finish (area (view b) ((view b).level x y)) w ((view b).leaf x y).east ((view b).leaf x y).north)) x y) same

  -- the same, by the discharges that the table has
  module _ (w w' : ℕ) (same : w ≡ w') (leaves : List Leaf) (filled : leaves ≡ refilled_by_table s w b.tables.leaves) (loose : ℕ) where
    pub basin_made_by_table : basin (record { L = b.head.L; d = b.head.d; loose = loose }) (tables b.tables.levels b.tables.beds leaves)
        ≡ pack loose (put (view b) x y (finish (area (view b) ((view b).level x y)) w' ((view b).leaf x y).east ((view b).leaf x y).north))
    basin_made_by_table = basin_made w w' same leaves (filled ∙ by_table_as_found b x y s l w) loose

    pub surface_made_by_table : (r : ℕ) → r ≡ (w + ground s.plot b.tables.beds) / (s.plot.side * s.plot.side)
        → r ≡ surface (put (view b) x y (finish (area (view b) ((view b).level x y)) w' ((view b).leaf x y).east ((view b).leaf x y).north)) x y
    surface_made_by_table = surface_made w w' same leaves (filled ∙ by_table_as_found b x y s l w) loose
