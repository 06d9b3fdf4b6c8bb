-- Water that stands above the ground beside it.
use Rattle.std.specs.Prelude.{◌≡◌, ℕ, ◌+◌, ◌-◌, ◌<◌, Bool, false, ◌&&◌, nat_lt, Option, MatchOption}
use Rattle.basin.specs.Squares.{wet, surface, bed_number}
use Rattle.basin.specs.Views.{View, size}
use Rattle.basin.specs.declared.square.Square.{Square}
use Rattle.basin.specs.declared.window.Window.{Window}
use Rattle.basin.specs.Windows.{Seen}

-- the square (p, q) is wet, and its surface above the bed number of a leaf of level j at (x, y)
abbrev pub flows_onto : View → (j x y p q : ℕ) → Bool
flows_onto v j x y p q = wet v p q && nat_lt (bed_number v j x y) (surface v p q)

-- the square from, where there is one, does not flow onto a leaf of level j at (x, y)
abbrev pub KeepsOff : View → (j x y : ℕ) → Option Square → Type 0
KeepsOff v j x y from = MatchOption from (Unit {0}) (λ q. flows_onto v j x y q.x q.y ≡ false)

-- no square across an edge flows onto a leaf of level j at (x, y)
pub record DrySquare (v : View) (j x y : ℕ) : Type 0 where
  pub east : x + 1 < size v → flows_onto v j x y (x + 1) y ≡ false
  pub north : y + 1 < size v → flows_onto v j x y x (y + 1) ≡ false
  pub west : 0 < x → flows_onto v j x y (x - 1) y ≡ false
  pub south : 0 < y → flows_onto v j x y x (y - 1) ≡ false

-- nor at any square of a window
abbrev pub DryWindow : View → ℕ → Window → Type 0
DryWindow v j w = (x y : ℕ) → Seen w x y → DrySquare v j x y
