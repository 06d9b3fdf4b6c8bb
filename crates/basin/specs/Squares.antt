-- Squares and the leaves that they lie in.
use Rattle.std.specs.Prelude.{ℕ, ◌+◌, ◌-◌, ◌*◌, ◌/◌, Bool, ◌&&◌, ◌||◌, ◌==◌, nat_le, nat_lt}
use Rattle.basin.specs.Sums.{grid, only}
use Rattle.basin.specs.Blocks.{block, block_sum}
use Rattle.basin.specs.Views.{View, side_of}

-- two squares of one block of level k
abbrev pub same_block : View → ℕ → ℕ → ℕ → ℕ → ℕ → Bool
same_block v k x y p q = x / side_of v k == p / side_of v k && y / side_of v k == q / side_of v k

-- the area of a leaf of level k
abbrev pub area : View → ℕ → ℕ
area v k = side_of v k * side_of v k

-- the sum of the beds of the block of level k at a square
abbrev pub bed_sum : View → ℕ → ℕ → ℕ → ℕ
bed_sum v k x y = block_sum v.L v.bed (block k (x / side_of v k) (y / side_of v k))

-- the water of the leaf at a square
abbrev pub water : View → ℕ → ℕ → ℕ
water v x y = (v.leaf x y).water

abbrev pub wet : View → ℕ → ℕ → Bool
wet v x y = nat_lt 0 (water v x y)

-- the surface number W at a square
abbrev pub surface : View → ℕ → ℕ → ℕ
surface v x y = (water v x y + bed_sum v (v.level x y) x y) / area v (v.level x y)

-- the bed number K that a leaf of level k at a square has
abbrev pub bed_number : View → ℕ → ℕ → ℕ → ℕ
bed_number v k x y = bed_sum v k x y / area v k

-- numbers that differ by at most one, and by exactly one
abbrev pub near : ℕ → ℕ → Bool
near a b = nat_le a (b + 1) && nat_le b (a + 1)

abbrev pub next : ℕ → ℕ → Bool
next a b = a == b + 1 || b == a + 1

-- squares that share an edge or a corner, or are one
abbrev pub touch : ℕ → ℕ → ℕ → ℕ → Bool
touch x y p q = near x p && near y q

-- squares that share an edge
abbrev pub edge : ℕ → ℕ → ℕ → ℕ → Bool
edge x y p q = (x == p && next y q) || (y == q && next x p)

-- one of the squares across an edge from (x, y), on a grid of n by n
abbrev pub around : ℕ → ℕ → ℕ → (ℕ → ℕ → Bool) → Bool
around n x y P = (nat_lt (x + 1) n && P (x + 1) y) || ((nat_lt (y + 1) n && P x (y + 1)) || ((nat_lt 0 x && P (x - 1) y) || (nat_lt 0 y && P x (y - 1))))

-- some square of a grid of n by n, and some two of them
abbrev pub some_square : ℕ → (ℕ → ℕ → Bool) → Bool
some_square n P = nat_lt 0 (grid n (λ x y. only (P x y) 1))

abbrev pub some_pair : ℕ → (ℕ → ℕ → ℕ → ℕ → Bool) → Bool
some_pair n P = some_square n (λ x y. some_square n (λ p q. P x y p q))

-- two squares of a grid of n by n touch and are more than one level apart
unfoldable pub unbalanced : ℕ → (ℕ → ℕ → ℕ) → Bool
unbalanced n level = some_pair n (λ x y p q. touch x y p q && nat_lt (level p q + 1) (level x y))
