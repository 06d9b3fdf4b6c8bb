-- What pour, draw, settle, split and merge make of the squares.
use Rattle.std.specs.Prelude.{ℕ, suc, pred, ◌+◌, ◌-◌, ◌*◌, ◌/◌, ◌%◌, cond, pos, ◌+ℤ◌, ◌==◌, int_div}
use Rattle.basin.specs.declared.leaf.Leaf.{Leaf}
use Rattle.basin.specs.Records.{dry}
use Rattle.basin.specs.Squares.{same_block, area, bed_sum, water, wet}
use Rattle.basin.specs.Views.{View, side_of}
use Rattle.basin.specs.Finish.{finish}

-- ---- pour and draw
-- the record l stands at the squares of the leaf at (x, y)
abbrev pub put : View → ℕ → ℕ → Leaf → View
put v x y l =
    record {
      L = v.L;
      d = v.d;
      level = v.level;
      bed = v.bed;
      leaf = λ p q. cond (same_block v (v.level x y) x y p q) l (v.leaf p q);
    }

abbrev pub after_pour : View → ℕ → ℕ → ℕ → View
after_pour v x y a = put v x y (finish (area v (v.level x y)) (water v x y + a) (v.leaf x y).east (v.leaf x y).north)

abbrev pub after_draw : View → ℕ → ℕ → ℕ → View
after_draw v x y a = put v x y (finish (area v (v.level x y)) (water v x y - a) (v.leaf x y).east (v.leaf x y).north)

-- ---- split
-- water and beds of the leaf at a square
abbrev pub fill : View → ℕ → ℕ → ℕ
fill v x y = water v x y + bed_sum v (v.level x y) x y

-- what a split leaves over
abbrev pub remainder : View → ℕ → ℕ → ℕ
remainder v x y = cond (wet v x y) (fill v x y - 4 * (fill v x y / 4)) 0

-- the water of the child at (p, q) of the wet leaf at (x, y)
abbrev pub child_water : View → ℕ → ℕ → ℕ → ℕ → ℕ
child_water v x y p q = fill v x y / 4 - bed_sum v (suc (v.level x y)) p q

-- the record of that child
abbrev pub child : View → ℕ → ℕ → ℕ → ℕ → Leaf
child v x y p q =
    cond (wet v x y)
    (finish (area v (suc (v.level x y))) (child_water v x y p q) (int_div (v.leaf x y).east (pos 4)) (int_div (v.leaf x y).north (pos 4)))
    dry

abbrev pub after_split : View → ℕ → ℕ → View
after_split v x y =
    record {
      L = v.L;
      d = v.d;
      level = λ p q. cond (same_block v (v.level x y) x y p q) (suc (v.level x y)) (v.level p q);
      bed = v.bed;
      leaf = λ p q. cond (same_block v (v.level x y) x y p q) (child v x y p q) (v.leaf p q);
    }

-- ---- merge
-- the place beside x in the other half of the block of side 2 × s
abbrev pub twin : ℕ → ℕ → ℕ
twin s x = cond (x / s % 2 == 0) (x + s) (x - s)

-- two leaves' records added up
abbrev pub both : Leaf → Leaf → Leaf
both a b = record { water = a.water + b.water; east = a.east +ℤ b.east; north = a.north +ℤ b.north }

-- the records of the leaf at (x, y) and of its three siblings added up
abbrev pub four : View → ℕ → ℕ → Leaf
four v x y =
    let s : ℕ = side_of v (v.level x y) in
    both (both (v.leaf x y) (v.leaf (twin s x) y)) (both (v.leaf x (twin s y)) (v.leaf (twin s x) (twin s y)))

abbrev pub merged : View → ℕ → ℕ → Leaf
merged v x y = finish (area v (pred (v.level x y))) (four v x y).water (four v x y).east (four v x y).north

abbrev pub after_merge : View → ℕ → ℕ → View
after_merge v x y =
    record {
      L = v.L;
      d = v.d;
      level = λ p q. cond (same_block v (pred (v.level x y)) x y p q) (pred (v.level x y)) (v.level p q);
      bed = v.bed;
      leaf = λ p q. cond (same_block v (pred (v.level x y)) x y p q) (merged v x y) (v.leaf p q);
    }
