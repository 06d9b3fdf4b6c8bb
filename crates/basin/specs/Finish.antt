-- The record that ends a call: its discharges are clipped to what its water may carry.
use Rattle.std.specs.Prelude.{ℕ, suc, ◌*◌, min, ℤ, pos, negsuc, neg_ℤ}
use Rattle.basin.specs.declared.leaf.Leaf.{Leaf}

-- z, or m with the sign of z where z is larger
abbrev pub clipped : ℕ → ℤ → ℤ
clipped m (pos a) = pos (min a m)
clipped m (negsuc a) = neg_ℤ (pos (min (suc a) m))

-- the record of a leaf of this area that has come to hold this water and these discharges
abbrev pub finish : (area water : ℕ) → (east north : ℤ) → Leaf
finish area water east north =
    record { water = water; east = clipped (10000 * water) east; north = clipped (10000 * water) north }
