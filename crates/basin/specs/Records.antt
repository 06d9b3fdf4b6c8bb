-- The record of a leaf, and the ranges of its numbers.
use Rattle.std.specs.Prelude.{◌≡◌, ℕ, ◌*◌, Bool, true, ℤ, pos, nat_le, unsigned_abs}
use Rattle.basin.specs.declared.leaf.Leaf.{Leaf}

abbrev pub dry : Leaf
dry = record { water = 0; east = pos 0; north = pos 0 }

-- a leaf of this area may hold this much water
abbrev pub may_hold : (area water : ℕ) → Bool
may_hold area water = nat_le water (30000 * area)

-- a leaf with this much water may have the discharge q
abbrev pub may_run : (water : ℕ) → ℤ → Bool
may_run water q = nat_le (unsigned_abs q) (10000 * water)

-- the record's numbers are in their ranges on a leaf of this area
pub record InRange (area : ℕ) (l : Leaf) : Type 0 where
  pub room : may_hold area l.water ≡ true
  pub east : may_run l.water l.east ≡ true
  pub north : may_run l.water l.north ≡ true
