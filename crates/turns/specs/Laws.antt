-- What holds of the eight turns, of tables and of basins.
use Rattle.std.specs.Prelude.{◌≡◌, ℕ, ◌*◌, ◌<◌, List, length}
use Rattle.basin.specs.Basins.{Basin, side, view, ValidBasin}
use Rattle.runs.specs.Turns.{Place, place}
use Rattle.turns.specs.Turns.{composite_of, turned_place, turned_leaf, TurnedTable, turned_basin}

-- ---- tables, of whatever entries turns act on
-- turn 0 changes nothing
abbrev pub TableStays : {A : Type 0} → (ℕ → A → A) → Type 0
TableStays {A} act = (n : ℕ) (xs ys : List A) → length xs ≡ n * n → TurnedTable act n 0 xs ys → ys ≡ xs

-- two turns are the one turn that they make
abbrev pub TableTurnsCompose : {A : Type 0} → (ℕ → A → A) → Type 0
TableTurnsCompose {A} act =
    (n s t : ℕ) (xs ys zs : List A) → s < 8 → t < 8 → TurnedTable act n s xs ys → TurnedTable act n t ys zs → TurnedTable act n (composite_of s t) xs zs

-- ---- basins
-- the same of basins
abbrev pub Turn0Stays : Type 0
Turn0Stays = (b : Basin) → turned_basin 0 b ≡ b

abbrev pub TurnsCompose : Type 0
TurnsCompose = (b : Basin) → ValidBasin b → (s t : ℕ) → s < 8 → t < 8 → turned_basin t (turned_basin s b) ≡ turned_basin (composite_of s t) b

-- at place p of b' stand the level and the bed of square (x, y) of b, and its record after turn t
pub record TurnedSquare (t : ℕ) (b b' : Basin) (x y : ℕ) (p : Place) : Type 0 where
  pub level : (view b').level p.x p.y ≡ (view b).level x y
  pub bed : (view b').bed p.x p.y ≡ (view b).bed x y
  pub leaf : (view b').leaf p.x p.y ≡ turned_leaf t ((view b).leaf x y)

-- so it is at the turned place of every square
abbrev pub SquaresTurn : Type 0
SquaresTurn =
    (b : Basin) → ValidBasin b → (t x y : ℕ) → x < side b.head → y < side b.head
    → TurnedSquare t b (turned_basin t b) x y (turned_place (side b.head) t (place x y))
