-- What the tables of a basin say, square by square, and when that is a quadtree.
use Rattle.std.specs.Prelude.{◌≡◌, ℕ, ◌+◌, ◌-◌, ◌/◌, ◌^◌, ◌<◌, ◌≤◌}
use Rattle.basin.specs.declared.leaf.Leaf.{Leaf}

-- a basin of L levels with squares d metres wide, by its squares
pub record View : Type 0 where
  pub L : ℕ
  pub d : ℕ
  pub level : ℕ → ℕ → ℕ
  pub bed : ℕ → ℕ → ℕ
  pub leaf : ℕ → ℕ → Leaf

-- the squares along a side
abbrev pub size : View → ℕ
size v = 2 ^ v.L

-- the side of a leaf of level k
abbrev pub side_of : View → ℕ → ℕ
side_of v k = 2 ^ (v.L - k)

-- the levels are those of a balanced quadtree, and the squares of a leaf say the same
pub record Quadtree (v : View) : Type 0 where
  pub shallow : (x y : ℕ) → x < size v → y < size v → v.level x y ≤ v.L
  -- the squares of one leaf
  pub uniform : (x y p q : ℕ) → x < size v → y < size v → p < size v → q < size v
      → x / side_of v (v.level x y) ≡ p / side_of v (v.level x y)
      → y / side_of v (v.level x y) ≡ q / side_of v (v.level x y)
      → (v.level p q ≡ v.level x y) × (v.leaf p q ≡ v.leaf x y)
  -- squares that share an edge or a corner
  pub balanced : (x y p q : ℕ) → x < size v → y < size v → p < size v → q < size v
      → x ≤ p + 1 → p ≤ x + 1 → y ≤ q + 1 → q ≤ y + 1 → v.level x y ≤ v.level p q + 1
