-- The numbers of a record are small enough to be written.
use Rattle.std.proofs.Common.{◌≡◌, ℕ, ◌-◌, ◌*◌, ◌^◌, ◌<◌, ◌≤◌, true, ℤ, nat_abs, refl, arith}
use Rattle.std.proofs.lemmas.Bool.{leb-true, le-leb}
use Rattle.basin.specs.declared.leaf.Leaf.{Leaf}
use Rattle.basin.specs.Basins.{Basin, side, view, ValidBasin}
use Rattle.basin.specs.Records.{may_run, InRange}
use Rattle.basin.proofs.Sizes.{area_small}
use Rattle.numbers.specs.Numbers.{coded}
use Rattle.nodes.proofs.Forms.{coded_small}

pub record Small (l : Leaf) : Type 0 where
  pub water : l.water < 2 ^ 42
  pub east : coded l.east < 2 ^ 42
  pub north : coded l.north < 2 ^ 42

small_discharge : (w : ℕ) (z : ℤ) → w ≤ 122880000 → may_run w z ≡ true → coded z < 2 ^ 42
small_discharge w z h e = omega (arith, coded_small z, leb-true (nat_abs z) (10000 * w) e)

pub small : (l : Leaf) → InRange 4096 l → Small l
small l r =
    let w : l.water ≤ 122880000 = leb-true l.water (30000 * 4096) r.room in
    record { water = omega arith; east = small_discharge l.water l.east w r.east; north = small_discharge l.water l.north w r.north }

-- what is in range on some leaf is in range on the largest
pub on_the_largest : (b : Basin) → ValidBasin b → (x y : ℕ) → x < side b.head → y < side b.head → InRange 4096 ((view b).leaf x y)
on_the_largest b valid x y e n =
    let h = b.head.L - (view b).level x y in
    let r = valid.squares.in_range x y e n in
    let area : 2 ^ h * 2 ^ h ≤ 4096 = area_small h (2 ^ h) (omega (arith, valid.head.levels)) refl in
    let w : ((view b).leaf x y).water ≤ 30000 * (2 ^ h * 2 ^ h) = leb-true _ _ r.room in
    record { room = le-leb ((view b).leaf x y).water (30000 * 4096) (omega arith); east = r.east; north = r.north }
