-- The ranges of a leaf's numbers as inequalities, and that a finished record keeps them.
use Rattle.std.proofs.Common.{◌≡◌, ℕ, suc, ◌*◌, ◌<◌, ◌≤◌, min, ℤ, pos, negsuc, neg_ℤ, nat_abs, ap, arith}
use Rattle.std.proofs.lemmas.Bool.{leb-true}
use Rattle.basin.specs.declared.leaf.Leaf.{Leaf}
use Rattle.basin.specs.Basins.{Valid}
use Rattle.basin.specs.Records.{InRange}
use Rattle.basin.specs.Squares.{area, water}
use Rattle.basin.specs.Views.{View, size}
use Rattle.basin.proofs.Tests.{le_leb}
use Rattle.basin.specs.Finish.{clipped, finish}
use Rattle.runs.proofs.Limits.{clip_le}

pub record Holds (area : ℕ) (l : Leaf) : Type 0 where
  pub room : l.water ≤ 30000 * area
  pub slow_east : nat_abs l.east ≤ l.water * 10000
  pub slow_north : nat_abs l.north ≤ l.water * 10000

pub to_range : (area : ℕ) (l : Leaf) → Holds area l → InRange area l
to_range area l h =
    record {
      room = le_leb l.water (30000 * area) h.room;
      east = le_leb (nat_abs l.east) (10000 * l.water) (omega (arith, h.slow_east));
      north = le_leb (nat_abs l.north) (10000 * l.water) (omega (arith, h.slow_north));
    }

pub from_range : (area : ℕ) (l : Leaf) → InRange area l → Holds area l
from_range area l r =
    record {
      room = leb-true l.water (30000 * area) r.room;
      slow_east = omega (arith, leb-true (nat_abs l.east) (10000 * l.water) r.east);
      slow_north = omega (arith, leb-true (nat_abs l.north) (10000 * l.water) r.north);
    }

-- the leaf at a square of a valid basin
module _ {v : View} (good : Valid v) (x y : ℕ) (a : x < size v) (b : y < size v) where
  pub holds_at : Holds (area v (v.level x y)) (v.leaf x y)
  holds_at = from_range (area v (v.level x y)) (v.leaf x y) (good.in_range x y a b)

  pub has_room : water v x y ≤ 30000 * area v (v.level x y)
  has_room = holds_at.room

  pub slow_eastward : nat_abs (v.leaf x y).east ≤ water v x y * 10000
  slow_eastward = holds_at.slow_east

  pub slow_northward : nat_abs (v.leaf x y).north ≤ water v x y * 10000
  slow_northward = holds_at.slow_north

-- ---- finished records
pub finish_holds : (area water : ℕ) (X Y : ℤ) → water ≤ 30000 * area → Holds area (finish area water X Y)
finish_holds area water X Y r =
    record { room = r; slow_east = omega (arith, clip_le (10000 * water) X); slow_north = omega (arith, clip_le (10000 * water) Y) }

clip_same : (m : ℕ) (z : ℤ) → nat_abs z ≤ m → clipped m z ≡ z
clip_same m (pos a) h = let e : min a m ≡ a = omega arith in ap pos e
clip_same m (negsuc a) h = let e : min (suc a) m ≡ suc a = omega arith in ap (λ n. neg_ℤ (pos n)) e

-- discharges that the water carries are left as they are
pub finish_kept : (area water : ℕ) (X Y : ℤ) → nat_abs X ≤ water * 10000 → nat_abs Y ≤ water * 10000
    → finish area water X Y ≡ record { water = water; east = X; north = Y }
finish_kept area water X Y h k =
    let east = clip_same (10000 * water) X (omega arith) in
    let north = clip_same (10000 * water) Y (omega arith) in
    λ i. record { water = water; east = east i; north = north i }

-- a record in its ranges is left as it is
pub finish_same : (area : ℕ) (l : Leaf) → Holds area l → finish area l.water l.east l.north ≡ l
finish_same area l h = finish_kept area l.water l.east l.north h.slow_east h.slow_north
