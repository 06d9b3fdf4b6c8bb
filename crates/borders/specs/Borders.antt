-- The sides of a leaf: all their faces together.
use Rattle.std.specs.Prelude.{ℕ, ◌+◌, ◌≤◌, List, unsigned_abs}
use Rattle.basin.specs.declared.sides.Sides.{Sides}
use Rattle.basin.specs.declared.dir.Dir.{Dir}
use Rattle.basin.specs.declared.dir.Dir.TheVariants.{East, North, West, South}
use Rattle.basin.specs.declared.leaf.Leaf.{Leaf}
use Rattle.basin.specs.Blocks.{Block}
use Rattle.runs.specs.Rules.{Rule}
use Rattle.runs.specs.Trees.{Side, wall, one, two, eachℤ}
use Rattle.blocks.specs.declared.block.Block.{Block as Address}
use Rattle.blocks.specs.declared.block.Edge.{Edge}
use Rattle.blocks.specs.declared.block.Edge.TheVariants.{Wall, One, Two}
use Rattle.blocks.specs.Places.{as_block, as_side, Lies}
use Rattle.borders.specs.declared.border.Border.{Border}
use Rattle.borders.specs.declared.pool.Pool.{Pool}
use Rattle.borders.specs.Pools.{pool_in, Kept}
use Rattle.borders.specs.Shares.{face_between, face_at_wall, wish_by, across_by, along_by}

-- the amount of the first face of a side, and of the second: 0 where there is none
abbrev pub at_first : Side → (Block → ℕ) → ℕ
at_first wall f = 0
at_first (one a) f = f a
at_first (two a b) f = f a

abbrev pub at_second : Side → (Block → ℕ) → ℕ
at_second wall f = 0
at_second (one a) f = 0
at_second (two a b) f = f b

-- the addresses of an edge are those of leaves
abbrev pub LeafOn : ℕ → List ℕ → List Leaf → Address → Type 0
LeafOn L beds leaves a = Lies L a × Kept (pool_in L beds leaves (as_block a))

abbrev pub LeavesOn : ℕ → List ℕ → List Leaf → Edge → Type 0
LeavesOn L beds leaves Wall = Unit {0}
LeavesOn L beds leaves (One a) = LeafOn L beds leaves a
LeavesOn L beds leaves (Two a b) = LeafOn L beds leaves a × LeafOn L beds leaves b

-- what one side does to a leaf
unfoldable pub border_of : Rule → ℕ → ℕ → ℕ → List ℕ → List Leaf → Dir → Pool → Side → Border
border_of R T d L beds leaves p near s =
    record {
      first = at_first s (λ b. wish_by R T d p (face_between p near (pool_in L beds leaves b)));
      second = at_second s (λ b. wish_by R T d p (face_between p near (pool_in L beds leaves b)));
      across = eachℤ s (across_by R T d p (face_at_wall p near)) (λ b. across_by R T d p (face_between p near (pool_in L beds leaves b)));
      along = eachℤ s (along_by R T d p (face_at_wall p near)) (λ b. along_by R T d p (face_between p near (pool_in L beds leaves b)));
    }

abbrev pub borders_of : Rule → ℕ → ℕ → ℕ → List ℕ → List Leaf → Pool → Sides Edge → Sides Border
borders_of R T d L beds leaves near s =
    record {
      east = border_of R T d L beds leaves East near (as_side s.east);
      north = border_of R T d L beds leaves North near (as_side s.north);
      west = border_of R T d L beds leaves West near (as_side s.west);
      south = border_of R T d L beds leaves South near (as_side s.south);
    }

-- how large the numbers of a side can be
pub record SmallBorder (b : Border) : Type 0 where
  pub first : b.first ≤ 153600000
  pub second : b.second ≤ 153600000
  pub across : unsigned_abs b.across ≤ 7680000000000
  pub along : unsigned_abs b.along ≤ 7680000000000

pub record SmallBorders (b : Sides Border) : Type 0 where
  pub east : SmallBorder b.east
  pub north : SmallBorder b.north
  pub west : SmallBorder b.west
  pub south : SmallBorder b.south

-- all wishes of a side, and of a leaf
abbrev pub both : Border → ℕ
both b = b.first + b.second

abbrev pub wishes_in : Sides Border → ℕ
wishes_in b = both b.east + both b.north + (both b.west + both b.south)
