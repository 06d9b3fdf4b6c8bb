-- The quadtree of a basin: its blocks, and what a leaf borders on.
use Rattle.std.specs.Prelude.{ℕ, suc, pred, ◌+◌, ◌-◌, ◌*◌, ◌/◌, ◌^◌, Bool, true, false, cond, ℤ, ◌+ℤ◌, ◌==◌}
use Rattle.basin.specs.declared.dir.Dir.{Dir}
use Rattle.basin.specs.declared.dir.Dir.TheVariants.{East, North, West, South}
use Rattle.basin.specs.declared.leaf.Leaf.{Leaf}
use Rattle.basin.specs.Blocks.{Block, block}
use Rattle.basin.specs.Sums.{only}
use Rattle.runs.specs.Overs.{over}

-- a block is part of a larger leaf, a leaf, or cut into four
pub data Kind : Type 0 where
  part : Kind
  whole : Kind
  cut : Kind

-- a basin of L levels with squares d metres wide, by its blocks
pub record Tree : Type 0 where
  pub L : ℕ
  pub d : ℕ
  pub kind : Block → Kind
  pub leaf : Block → Leaf
  pub beds : Block → ℕ

abbrev pub is_whole : Kind → Bool
is_whole part = false
is_whole whole = true
is_whole cut = false

-- a sum over all leaves
unfoldable pub leaves : Tree → (Block → ℕ) → ℕ
leaves t f = over t.L (λ c. only (is_whole (t.kind c)) (f c))

-- what lies beside a leaf in one direction: nothing, one leaf, or two
pub data Side : Type 0 where
  wall : Side
  one : Block → Side
  two : Block → Block → Side

abbrev pub opposite : Dir → Dir
opposite East = West
opposite North = South
opposite West = East
opposite South = North

-- a rule's first side is the leaf's own on faces in this direction
abbrev pub ahead : Dir → Bool
ahead East = true
ahead North = true
ahead West = false
ahead South = false

abbrev pub at_edge : Dir → Block → Bool
at_edge East c = c.X + 1 == 2 ^ c.k
at_edge North c = c.Y + 1 == 2 ^ c.k
at_edge West c = c.X == 0
at_edge South c = c.Y == 0

-- the block of the same level that lies next in a direction
abbrev pub beyond : Dir → Block → Block
beyond East c = block c.k (c.X + 1) c.Y
beyond North c = block c.k c.X (c.Y + 1)
beyond West c = block c.k (c.X - 1) c.Y
beyond South c = block c.k c.X (c.Y - 1)

abbrev pub parent : Block → Block
parent c = block (pred c.k) (c.X / 2) (c.Y / 2)

-- the two quarters of c that a neighbour sees on looking at it in this direction, the southern or the western first
abbrev pub first : Dir → Block → Block
first East c = block (suc c.k) (c.X * 2) (c.Y * 2)
first North c = block (suc c.k) (c.X * 2) (c.Y * 2)
first West c = block (suc c.k) (c.X * 2 + 1) (c.Y * 2)
first South c = block (suc c.k) (c.X * 2) (c.Y * 2 + 1)

abbrev pub second : Dir → Block → Block
second East c = block (suc c.k) (c.X * 2) (c.Y * 2 + 1)
second North c = block (suc c.k) (c.X * 2 + 1) (c.Y * 2)
second West c = block (suc c.k) (c.X * 2 + 1) (c.Y * 2 + 1)
second South c = block (suc c.k) (c.X * 2 + 1) (c.Y * 2 + 1)

-- the leaves at the block b, which lies next in direction p and is of this kind
abbrev pub across : Kind → Dir → Block → Side
across part p b = one (parent b)
across whole p b = one b
across cut p b = two (first p b) (second p b)

-- the leaves beside the leaf c in direction p
abbrev pub beside : Tree → Dir → Block → Side
beside t p c = cond (at_edge p c) wall (across (t.kind (beyond p c)) p (beyond p c))

-- a sum over a side's faces: w at a wall
abbrev pub each_by : {A : Type 0} → (A → A → A) → Side → A → (Block → A) → A
each_by plus wall w f = w
each_by plus (one a) w f = f a
each_by plus (two a b) w f = plus (f a) (f b)

abbrev pub each : Side → ℕ → (Block → ℕ) → ℕ
each s w f = each_by ◌+◌ s w f

abbrev pub eachℤ : Side → ℤ → (Block → ℤ) → ℤ
eachℤ s w f = each_by ◌+ℤ◌ s w f

-- a sum over the four sides
abbrev pub round : (Dir → ℕ) → ℕ
round f = f East + f North + (f West + f South)
