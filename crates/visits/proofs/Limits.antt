-- The leaves of a valid basin keep their limits, and so do those beside a leaf.
use Rattle.std.proofs.Common.{◌≡◌, ℕ, ◌-◌, ◌/◌, ◌%◌, ◌^◌, ◌≤◌, get_or, nat_abs, refl, ap, mod-lt, div-lt_iff_lt-mul, mul-le-mul, div-add-mod', arith}
use Rattle.basin.specs.declared.dir.Dir.{Dir}
use Rattle.basin.specs.Basins.{Basin, view, ValidBasin}
use Rattle.basin.specs.Blocks.{Block}
use Rattle.basin.proofs.Sizes.{side_pos, side_small}
use Rattle.runs.specs.Homes.{tree}
use Rattle.runs.specs.Trees.{Tree}
use Rattle.runs.proofs.Limits.{Bounded, depth_le}
use Rattle.runs.proofs.Sides.{Leads, side_leads}
use Rattle.runs.proofs.Sounds.{sound}
use Rattle.runs.proofs.Steps.{bounded}
use Rattle.blocks.specs.declared.block.Edge.{Edge}
use Rattle.blocks.specs.declared.block.Edge.TheVariants.{Wall, One, Two}
use Rattle.blocks.specs.Places.{as_block, as_side, beside_in, LeafAt, Shallow}
use Rattle.blocks.proofs.Lying.{lies}
use Rattle.borders.specs.Borders.{LeavesOn}
use Rattle.borders.specs.Pools.{pool_in, Kept}
use Rattle.borders.proofs.Reading.{slow}

module _ (b : Basin) (ok : ValidBasin b) where
  abbrev t : Tree
  t = tree (view b)

  abbrev L : ℕ
  L = b.head.L

  abbrev LeafHere : Block → Type 0
  LeafHere c = LeafAt L b.tables.levels c

  -- every entry of the levels is a square's
  pub shallow : Shallow L b.tables.levels
  shallow i h =
      let z = side_pos L in
      let e = ap (λ k. get_or b.tables.levels k 0) (div-add-mod' i (2 ^ L)) in
      omega (arith, e, ok.squares.quadtree.shallow (i % 2 ^ L) (i / 2 ^ L) (mod-lt i z) ((div-lt_iff_lt-mul z).1 h))

  narrow : (c : Block) → 2 ^ (L - c.k) ≤ 64
  narrow c = side_small (L - c.k) (omega (arith, ok.head.levels))

  limits : (c : Block) → LeafHere c → Bounded t c
  limits c l = bounded (view b) ok.squares c l.0 l.1

  pub kept : (c : Block) → LeafHere c → Kept (pool_in L b.tables.beds b.tables.leaves c)
  kept c l =
      let m = limits c l in
      record {
        deep = depth_le t c m;
        eastward = refl;
        northward = refl;
        slow_east = slow (t.leaf c).east (t.leaf c).water m.slow_east;
        slow_north = slow (t.leaf c).north (t.leaf c).water m.slow_north;
        narrow = narrow c;
      }

  pub most_water : (c : Block) → LeafHere c → (t.leaf c).water ≤ 122880000
  most_water c l = omega (arith, (limits c l).room, mul-le-mul (narrow c) (narrow c))

  pub most_discharge : (c : Block) → LeafHere c → (nat_abs (t.leaf c).east ≤ 1228800000000) × (nat_abs (t.leaf c).north ≤ 1228800000000)
  most_discharge c l =
      let m = limits c l in
      let w = most_water c l in
      (omega (arith, m.slow_east), omega (arith, m.slow_north))

  -- what lies beside a leaf are leaves
  pub leads : (p : Dir) (c : Block) (e : Edge) → LeafHere c → as_side e ≡ beside_in L b.tables.levels p c → Leads t (as_side e)
  leads p c e l s =
      let k : Leads t (beside_in L b.tables.levels p c) = side_leads t (sound (view b) ok.squares.quadtree) p c l.0 l.1 in
      rw s k

  leaves_at : (e : Edge) → Leads t (as_side e) → LeavesOn L b.tables.beds b.tables.leaves e
  leaves_at Wall l = tt
  leaves_at (One a) l = (lies a ok.head.levels l.0, kept (as_block a) l)
  leaves_at (Two a e) l = ((lies a ok.head.levels l.0.0, kept (as_block a) l.0), (lies e ok.head.levels l.1.0, kept (as_block e) l.1))

  pub leaves_beside : (p : Dir) (c : Block) (e : Edge) → LeafHere c → as_side e ≡ beside_in L b.tables.levels p c
      → LeavesOn L b.tables.beds b.tables.leaves e
  leaves_beside p c e l s = leaves_at e (leads p c e l s)
