-- A leaf's numbers, by the tables.
use Rattle.std.specs.Prelude.{◌≡◌, ℕ, ◌+◌, ◌-◌, ◌*◌, ◌/◌, ◌^◌, ◌≤◌, List, pos, int_div, slice_index_or, unsigned_abs}
use Rattle.basin.specs.declared.leaf.Leaf.{Leaf}
use Rattle.basin.specs.Blocks.{Block, block_sum}
use Rattle.basin.specs.Records.{dry}
use Rattle.basin.specs.Tables.{entry}
use Rattle.blocks.specs.Places.{corner_entry}
use Rattle.borders.specs.declared.pool.Pool.{Pool}

-- a record with water on beds of this sum, on a block of side s
abbrev pub pool_by : ℕ → ℕ → Leaf → Pool
pool_by s beds l =
    record {
      leaf = l;
      surface = (l.water + beds) / (s * s);
      bed = beds / (s * s);
      side = s;
      eastward = int_div l.east (pos l.water);
      northward = int_div l.north (pos l.water);
    }

-- the leaf at a block of a basin of L levels
abbrev pub pool_in : ℕ → List ℕ → List Leaf → Block → Pool
pool_in L beds leaves c = pool_by (2 ^ (L - c.k)) (block_sum L (entry (2 ^ L) 0 beds) c) (slice_index_or leaves (corner_entry L c) dry)

-- what every leaf of a valid basin keeps
pub record Kept (p : Pool) : Type 0 where
  pub deep : p.surface - p.bed ≤ 30000
  pub eastward : p.eastward ≡ int_div p.leaf.east (pos p.leaf.water)
  pub northward : p.northward ≡ int_div p.leaf.north (pos p.leaf.water)
  pub slow_east : unsigned_abs p.eastward ≤ 10000
  pub slow_north : unsigned_abs p.northward ≤ 10000
  pub narrow : p.side ≤ 64
