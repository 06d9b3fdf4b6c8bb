-- The lines of a sheet.
use Rattle.std.specs.Prelude.{ℕ, zero, suc, ◌+◌, ◌-◌, ◌^◌, cond, List, [], ◌∷◌, ◌++◌, nat_lt}
use Rattle.basin.specs.Squares.{surface}
use Rattle.basin.specs.Views.{View, side_of}
use Rattle.sheet.specs.declared.line.Line.{Line}

-- the line of the leaf whose south-west square is (x, y)
abbrev pub line : View → ℕ → ℕ → Line
line v x y =
    record {
      x = x;
      y = y;
      side = side_of v (v.level x y);
      surface = surface v x y;
      water = (v.leaf x y).water;
      east = (v.leaf x y).east;
      north = (v.leaf x y).north;
    }

-- the lines of the leaves of a block with this many levels below it, whose south-west square is (x, y): its own where it is a leaf, else
-- those of its quarters, south-west, south-east, north-west and north-east
unfoldable pub lines_at : View → (height x y : ℕ) → List Line
lines_at v zero x y = line v x y ∷ []
lines_at v (suc h) x y =
    cond (nat_lt (v.L - suc h) (v.level x y))
    (lines_at v h x y ++ (lines_at v h (x + 2 ^ h) y ++ (lines_at v h x (y + 2 ^ h) ++ lines_at v h (x + 2 ^ h) (y + 2 ^ h))))
    (line v x y ∷ [])
