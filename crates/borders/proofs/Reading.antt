-- A leaf's numbers: its block lies in the table of beds, and its speeds are slow.
use Rattle.std.proofs.Common.{◌≡◌, ℕ, ◌+◌, ◌-◌, ◌*◌, ◌^◌, ◌≤◌, List, get_or, ℤ, pos, nat_abs, ap, ◌∙◌, arith}
use native.Mathlib.Nat.{div-le_of_le-mul}
use lib.Signed.{quot_z}
use Rattle.flow.specs.Whole.{abs_quot}
use Rattle.basin.specs.declared.leaf.Leaf.{Leaf}
use Rattle.basin.specs.Records.{dry}
use Rattle.basin.specs.Sums.{grid}
use Rattle.basin.specs.Tables.{entry}
use Rattle.basin.proofs.Sizes.{side_pos}
use Rattle.runs.proofs.Sounds.{inside}
use Rattle.blocks.specs.declared.block.Block.{Block as Address}
use Rattle.blocks.specs.Places.{Lies, as_block, corner_entry}
use Rattle.borders.specs.declared.pool.Pool.{Pool}
use Rattle.borders.specs.Pools.{pool_by, pool_in}

pub slow : (X : ℤ) (V : ℕ) → nat_abs X ≤ V * 10000 → nat_abs (quot_z X (pos V)) ≤ 10000
slow X V b = omega (arith, abs_quot X (pos V), div-le_of_le-mul V b)

-- a pool is the same with the same speeds
pub with_speeds : (p : Pool) (x y : ℤ) → x ≡ p.eastward → y ≡ p.northward
    → ◌≡◌ {A = Pool} (record { leaf = p.leaf; surface = p.surface; bed = p.bed; side = p.side; eastward = x; northward = y })
    (record { leaf = p.leaf; surface = p.surface; bed = p.bed; side = p.side; eastward = p.eastward; northward = p.northward })
with_speeds p x y e f = cc

-- the block at an address, in a basin with n squares along a side
module _ {L : ℕ} {a : Address} (l : Lies L a) (s n : ℕ) (es : s ≡ 2 ^ (L - a.level)) (en : n ≡ 2 ^ L) where
  pub room_east : a.x * s + s ≤ n
  room_east =
      let z = side_pos (L - a.level) in
      let k = inside L a.level a.x (2 ^ (L - a.level) - 1) l.deep l.east (omega arith) in
      omega (arith, ap (λ s. a.x * s) es)

  pub room_north : a.y * s + s ≤ n
  room_north =
      let z = side_pos (L - a.level) in
      let k = inside L a.level a.y (2 ^ (L - a.level) - 1) l.deep l.north (omega arith) in
      omega (arith, ap (λ s. a.y * s) es)

  pub pool_is : (beds : List ℕ) (leaves : List Leaf) (leaf : Leaf) (ground : ℕ)
      → leaf ≡ get_or leaves (corner_entry L (as_block a)) dry
      → ground ≡ grid s (λ i j. entry n 0 beds (a.x * s + i) (a.y * s + j))
      → pool_by s ground leaf ≡ pool_in L beds leaves (as_block a)
  pool_is beds leaves leaf ground el eg =
      let e : ground ≡ grid (2 ^ (L - a.level)) (λ i j. entry (2 ^ L) 0 beds (a.x * 2 ^ (L - a.level) + i) (a.y * 2 ^ (L - a.level) + j)) =
      eg ∙ ap (λ n. grid s (λ i j. entry n 0 beds (a.x * s + i) (a.y * s + j))) en
      ∙ ap (λ s. grid s (λ i j. entry (2 ^ L) 0 beds (a.x * s + i) (a.y * s + j))) es in
      ap (λ s. pool_by s ground leaf) es ∙ ap (λ g. pool_by (2 ^ (L - a.level)) g leaf) e
      ∙ ap (λ l. pool_by (2 ^ (L - a.level)) (grid (2 ^ (L - a.level)) (λ i j. entry (2 ^ L) 0 beds (a.x * 2 ^ (L - a.level) + i) (a.y * 2 ^ (L - a.level) + j))) l) el
