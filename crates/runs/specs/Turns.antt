-- The flips and quarter turns of a basin, of its squares and of calls.
use Rattle.std.specs.Prelude.{ℕ, zero, suc, ◌-◌, cond, ◌&&◌, neg_ℤ, nat_lt}
use Rattle.basin.specs.declared.leaf.Leaf.{Leaf}
use Rattle.basin.specs.Basins.{Basin, view}
use Rattle.basin.specs.Views.{View, size}
use Rattle.runs.specs.Calls.{Call, pour, draw, settle, step, split, merge, pack}

-- ---- squares
abbrev pub flip_leaf : Leaf → Leaf
flip_leaf l = record { water = l.water; east = neg_ℤ l.east; north = l.north }

abbrev pub transpose_leaf : Leaf → Leaf
transpose_leaf l = record { water = l.water; east = l.north; north = l.east }

abbrev pub flip_view : View → View
flip_view v =
    record {
      L = v.L;
      d = v.d;
      level = λ x y. v.level (size v - 1 - x) y;
      bed = λ x y. v.bed (size v - 1 - x) y;
      leaf = λ x y. flip_leaf (v.leaf (size v - 1 - x) y);
    }

abbrev pub transpose_view : View → View
transpose_view v =
    record {
      L = v.L;
      d = v.d;
      level = λ x y. v.level y x;
      bed = λ x y. v.bed y x;
      leaf = λ x y. transpose_leaf (v.leaf y x);
    }

-- a quarter turn takes (x, y) to (n - 1 - y, x), and the discharges (X, Y) to (-Y, X)
abbrev pub quarter_view : View → View
quarter_view v = flip_view (transpose_view v)

-- ---- places
pub record Place : Type 0 where
  pub x : ℕ
  pub y : ℕ

abbrev pub place : ℕ → ℕ → Place
place x y = record { x = x; y = y }

-- a place off the grid turns into itself
abbrev pub flip_place : ℕ → Place → Place
flip_place n p = cond (nat_lt p.x n && nat_lt p.y n) (place (n - 1 - p.x) p.y) p

abbrev pub transpose_place : ℕ → Place → Place
transpose_place n p = cond (nat_lt p.x n && nat_lt p.y n) (place p.y p.x) p

abbrev pub quarter_place : ℕ → Place → Place
quarter_place n p = cond (nat_lt p.x n && nat_lt p.y n) (place (n - 1 - p.y) p.x) p

-- ---- f flips, and then r quarter turns
abbrev pub times : {A : Type 0} → ℕ → (A → A) → A → A
times zero f a = a
times (suc n) f a = f (times n f a)

abbrev pub turn_place : ℕ → ℕ → ℕ → Place → Place
turn_place n f r p = times r (quarter_place n) (times f (flip_place n) p)

abbrev pub flip_basin : Basin → Basin
flip_basin b = pack b.head.loose (flip_view (view b))

abbrev pub transpose_basin : Basin → Basin
transpose_basin b = pack b.head.loose (transpose_view (view b))

abbrev pub quarter_basin : Basin → Basin
quarter_basin b = pack b.head.loose (quarter_view (view b))

abbrev pub turn_basin : ℕ → ℕ → Basin → Basin
turn_basin f r b = times r quarter_basin (times f flip_basin b)

-- the same call with its place moved
abbrev pub turned_call : (Place → Place) → Call → Call
turned_call g (pour x y a) = pour (g (place x y)).x (g (place x y)).y a
turned_call g (draw x y a) = draw (g (place x y)).x (g (place x y)).y a
turned_call g (settle x y) = settle (g (place x y)).x (g (place x y)).y
turned_call g (step T R work) = step T R work
turned_call g (split x y) = split (g (place x y)).x (g (place x y)).y
turned_call g (merge x y) = merge (g (place x y)).x (g (place x y)).y
