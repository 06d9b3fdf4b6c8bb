-- Blocks by their addresses on the table of levels.
use Rattle.std.specs.Prelude.{ℕ, ◌+◌, ◌-◌, ◌*◌, ◌/◌, ◌%◌, ◌^◌, ◌<◌, ◌≤◌, false, cond, List, ◌≡◌, get_or}
use Rattle.basin.specs.declared.dir.Dir.{Dir}
use Rattle.basin.specs.declared.dir.Dir.TheVariants.{East, North, West, South}
use Rattle.basin.specs.declared.sides.Sides.{Sides}
use Rattle.basin.specs.Blocks.{Block, block, Within}
use Rattle.runs.specs.Homes.{sort}
use Rattle.runs.specs.Trees.{Kind, whole, Side, wall, one, two, at_edge, beyond, across}
use Rattle.blocks.specs.declared.block.Block.{Block as Address}
use Rattle.blocks.specs.declared.block.Edge.{Edge}
use Rattle.blocks.specs.declared.block.Edge.TheVariants.{Wall, One, Two}

-- the block at an address
abbrev pub as_block : Address → Block
as_block a = block a.level a.x a.y

abbrev pub as_side : Edge → Side
as_side Wall = wall
as_side (One a) = one (as_block a)
as_side (Two a b) = two (as_block a) (as_block b)

-- the address of a block of a basin of L levels; no level has more than 64 blocks in a row
pub record Lies (L : ℕ) (a : Address) : Type 0 where
  pub deep : a.level ≤ L
  pub east : a.x < 2 ^ a.level
  pub north : a.y < 2 ^ a.level
  pub x_small : a.x < 64
  pub y_small : a.y < 64

-- the address of the block that lies next to this one in direction p, where the basin goes on there
pub record NextTo (L : ℕ) (p : Dir) (a n : Address) : Type 0 where
  pub inside : at_edge p (as_block a) ≡ false
  pub next_is : as_block n ≡ beyond p (as_block a)
  pub level_is : n.level ≡ a.level
  pub lies : Lies L n

-- the entry of a block's south-west square
abbrev pub corner_entry : ℕ → Block → ℕ
corner_entry L c = c.Y * 2 ^ (L - c.k) * 2 ^ L + c.X * 2 ^ (L - c.k)

-- no square is deeper than the basin
abbrev pub Shallow : ℕ → List ℕ → Type 0
Shallow L levels = (i : ℕ) → i < 2 ^ L * 2 ^ L → get_or levels i 0 ≤ L

-- what a block is, and the leaves beside it in a direction, by the table of levels
abbrev pub kind_in : ℕ → List ℕ → Block → Kind
kind_in L levels c = sort (get_or levels (corner_entry L c) 0) c.k

abbrev pub beside_in : ℕ → List ℕ → Dir → Block → Side
beside_in L levels p c = cond (at_edge p c) wall (across (kind_in L levels (beyond p c)) p (beyond p c))

-- the block is a leaf
abbrev pub LeafAt : ℕ → List ℕ → Block → Type 0
LeafAt L levels c = Within L c × (kind_in L levels c ≡ whole)

-- the four sides of a block
pub record Around (L : ℕ) (levels : List ℕ) (c : Block) (s : Sides Edge) : Type 0 where
  pub east : as_side s.east ≡ beside_in L levels East c
  pub north : as_side s.north ≡ beside_in L levels North c
  pub west : as_side s.west ≡ beside_in L levels West c
  pub south : as_side s.south ≡ beside_in L levels South c

-- the leaf of the square of entry i
abbrev pub home_at : ℕ → List ℕ → ℕ → Block
home_at L levels i = block (get_or levels i 0) (i % 2 ^ L / 2 ^ (L - get_or levels i 0)) (i / 2 ^ L / 2 ^ (L - get_or levels i 0))
