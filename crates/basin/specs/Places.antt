-- Squares by their places.
use Rattle.std.specs.Prelude.{◌≡◌, ℕ, ◌+◌, ◌-◌, ◌<◌, ◌≤◌, Option, MatchOption}
use Rattle.basin.specs.declared.dir.Dir.{Dir}
use Rattle.basin.specs.declared.dir.Dir.TheVariants.{East, North, West, South}
use Rattle.basin.specs.declared.square.Square.{Square}

-- the square (x, y) of a basin of n by n
pub record IsAt (x y n : ℕ) (s : Square) : Type 0 where
  pub x_is : s.x ≡ x
  pub y_is : s.y ≡ y
  pub n_is : s.n ≡ n

-- the squares next to (x, y) in each direction, where a basin of n by n has them
abbrev pub EastOf : (x y n : ℕ) → Option Square → Type 0
EastOf x y n q = MatchOption q (n ≤ x + 1) (λ s. (x + 1 < n) × IsAt (x + 1) y n s)

abbrev pub NorthOf : (x y n : ℕ) → Option Square → Type 0
NorthOf x y n q = MatchOption q (n ≤ y + 1) (λ s. (y + 1 < n) × IsAt x (y + 1) n s)

abbrev pub WestOf : (x y n : ℕ) → Option Square → Type 0
WestOf x y n q = MatchOption q (x ≡ 0) (λ s. (0 < x) × IsAt (x - 1) y n s)

abbrev pub SouthOf : (x y n : ℕ) → Option Square → Type 0
SouthOf x y n q = MatchOption q (y ≡ 0) (λ s. (0 < y) × IsAt x (y - 1) n s)

abbrev pub NextOf : Dir → (x y n : ℕ) → Option Square → Type 0
NextOf East x y n q = EastOf x y n q
NextOf North x y n q = NorthOf x y n q
NextOf West x y n q = WestOf x y n q
NextOf South x y n q = SouthOf x y n q
