-- What the calls that look at a basin answer.
use Rattle.std.specs.Prelude.{ℕ, cond, ◌||◌, Ok, Err, Result, nat_le}
use Rattle.basin.specs.declared.refusal.Refusal.{Refusal}
use Rattle.basin.specs.declared.refusal.Refusal.TheVariants.{OffGrid}
use Rattle.basin.specs.Basins.{Basin, view}
use Rattle.basin.specs.Flaws.{validity}
use Rattle.basin.specs.Squares.{surface, water}
use Rattle.basin.specs.Totals.{total}
use Rattle.basin.specs.Views.{View, size}
use Rattle.looks.specs.declared.look.Look.{Look}

-- a test's refusal, or else the answer
abbrev pub after : {A : Type 0} → Result (Unit {0}) Refusal → Result A Refusal → Result A Refusal
after (Ok passed) answer = answer
after (Err refusal) answer = Err refusal

-- what there is at a square
abbrev pub seen : View → ℕ → ℕ → Look
seen v x y =
    record {
      level = v.level x y;
      water = water v x y;
      surface = surface v x y;
      east = (v.leaf x y).east;
      north = (v.leaf x y).north;
    }

unfoldable pub look_of : Basin → ℕ → ℕ → Result Look Refusal
look_of b x y =
    after (validity b)
    (cond (nat_le (size (view b)) x || nat_le (size (view b)) y) (Err OffGrid)
    (Ok (seen (view b) x y)))

unfoldable pub total_of : Basin → Result ℕ Refusal
total_of b = after (validity b) (Ok (total b))
