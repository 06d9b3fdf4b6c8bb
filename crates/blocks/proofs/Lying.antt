-- Which addresses lie in a basin, and where their blocks' corners stand in the tables.
use Prim.Native.Nat.{ℕ, ◌-◌, ◌*◌, ◌^◌, ◌<◌, ◌≤◌}
use mathlib.Core.Bool.{false}
use mathlib.Core.Path.{◌≡◌}
use native.Mathlib.Omega.{arith}
use Rattle.basin.specs.declared.dir.Dir.{Dir}
use Rattle.basin.specs.Blocks.{Block, Within}
use Rattle.basin.proofs.Sizes.{side_pos, side_small}
use Rattle.runs.specs.Trees.{at_edge, beyond, parent, first, second}
use Rattle.runs.proofs.Sides.{within_beyond, within_first, within_second, parent_within}
use Rattle.runs.proofs.Sounds.{inside}
use Rattle.blocks.specs.declared.block.Block.{Block as Address}
use Rattle.blocks.specs.Places.{Lies, NextTo, as_block}

pub within : {L : ℕ} {a : Address} → Lies L a → Within L (as_block a)
within l = record { deep = l.deep; east = l.east; north = l.north }

pub lies : {L : ℕ} (a : Address) → L ≤ 6 → Within L (as_block a) → Lies L a
lies {L} a few w =
    let deep : a.level ≤ L = w.deep in
    let east : a.x < 2 ^ a.level = w.east in
    let north : a.y < 2 ^ a.level = w.north in
    let small = side_small a.level (omega arith) in
    record { deep = deep; east = east; north = north; x_small = omega arith; y_small = omega arith }

pub lies_at : {L : ℕ} (a : Address) (c : Block) → L ≤ 6 → as_block a ≡ c → Within L c → Lies L a
lies_at {L} a c few e w = let w' : Within L (as_block a) = rw e w in lies a few w'

-- the west and the south end of a block lie in the basin
module _ {L : ℕ} {a : Address} (l : Lies L a) where
  pub corner_east : a.x * 2 ^ (L - a.level) < 2 ^ L
  corner_east = omega (arith, inside L a.level a.x 0 l.deep l.east (side_pos (L - a.level)))

  pub corner_north : a.y * 2 ^ (L - a.level) < 2 ^ L
  corner_north = omega (arith, inside L a.level a.y 0 l.deep l.north (side_pos (L - a.level)))

-- the addresses made from one that lies in a basin of few levels
module _ {L : ℕ} (a r : Address) (p : Dir) (few : L ≤ 6) (l : Lies L a) where
  pub beyond_lies : at_edge p (as_block a) ≡ false → as_block r ≡ beyond p (as_block a) → Lies L r
  beyond_lies h e = lies_at r (beyond p (as_block a)) few e (within_beyond L p (as_block a) (within l) h)

  pub next_to : at_edge p (as_block a) ≡ false → as_block r ≡ beyond p (as_block a) → r.level ≡ a.level → NextTo L p a r
  next_to h e k = record { inside = h; next_is = e; level_is = k; lies = beyond_lies h e }

  pub first_lies : a.level < L → as_block r ≡ first p (as_block a) → Lies L r
  first_lies h e = lies_at r (first p (as_block a)) few e (within_first L p (as_block a) (within l) h)

  pub second_lies : a.level < L → as_block r ≡ second p (as_block a) → Lies L r
  second_lies h e = lies_at r (second p (as_block a)) few e (within_second L p (as_block a) (within l) h)

pub parent_lies : {L : ℕ} (a r : Address) → L ≤ 6 → Lies L a → as_block r ≡ parent (as_block a) → Lies L r
parent_lies {L} a r few l e = lies_at r (parent (as_block a)) few e (parent_within L (as_block a) (within l))
