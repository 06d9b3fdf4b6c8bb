-- The calls of a run: their refusals in the order of their numbers, and what they do and answer.
use Rattle.std.specs.Prelude.{ℕ, suc, pred, ◌+◌, ◌*◌, ◌/◌, max, Bool, false, cond, not, ◌&&◌, ◌||◌, List, [], ◌∷◌, Ok, Err, Result, ◌==◌, nat_le, nat_lt, unsigned_abs}
use Rattle.basin.specs.declared.refusal.Refusal.{Refusal}
use Rattle.basin.specs.declared.refusal.Refusal.TheVariants.{TableLength, NotABasin, OffGrid, OutOfRange, NotDivisible, Unbalanced, WetDry, Overdrawn, StepTooLong, LeafFull, LooseFull}
use Rattle.basin.specs.Basins.{Basin, basin, side, view, packed}
use Rattle.basin.specs.Flaws.{misfit, no_basin}
use Rattle.basin.specs.Records.{may_hold}
use Rattle.basin.specs.Squares.{same_block, area, water, wet, surface, bed_number, touch, edge, some_square, some_pair}
use Rattle.basin.specs.Views.{View, size, side_of}
use Rattle.runs.specs.Changes.{after_pour, after_draw, remainder, child_water, after_split, after_merge}
use Rattle.runs.specs.Homes.{tree, after_step}
use Rattle.runs.specs.Roots.{root}
use Rattle.runs.specs.Rules.{Rule}
use Rattle.runs.specs.Step.{out_of, across_faces}
use Rattle.runs.specs.Trees.{leaves}

-- pour, draw, settle, split and merge at a square; a step by a rule, with a work table of so many entries
pub data Call : Type 0 where
  pour : (x y amount : ℕ) → Call
  draw : (x y amount : ℕ) → Call
  settle : (x y : ℕ) → Call
  step : (T : ℕ) → Rule → (work : ℕ) → Call
  split : (x y : ℕ) → Call
  merge : (x y : ℕ) → Call

pub data Reply : Type 0 where
  granted : ℕ → Reply
  refused : Refusal → Reply

-- a refusal, and whether it strikes
pub record Test : Type 0 where
  pub refusal : Refusal
  pub strikes : Bool

abbrev pub if : Bool → Refusal → Test
if b r = record { refusal = r; strikes = b }

-- the first refusal that strikes
abbrev pub first_of : List Test → Result (Unit {0}) Refusal
first_of [] = Ok tt
first_of (t ∷ ts) = cond t.strikes (Err t.refusal) (first_of ts)

abbrev pub outside : (low high a : ℕ) → Bool
outside low high a = not (nat_le low a && nat_le a high)

module _ (v : View) where
  -- the square is not on the grid
  abbrev pub off : ℕ → ℕ → Bool
  off x y = not (nat_lt x (size v) && nat_lt y (size v))

  -- the leaf at a square may not hold m
  abbrev pub full : ℕ → ℕ → ℕ → Bool
  full x y m = not (may_hold (area v (v.level x y)) m)

  -- the larger of the leaf's two speeds plus the speed of its waves
  abbrev pub pace : ℕ → ℕ → ℕ
  pace x y =
      max (unsigned_abs (v.leaf x y).east / water v x y) (unsigned_abs (v.leaf x y).north / water v x y)
      + root (9810 * (water v x y / area v (v.level x y)))

  -- some leaf is crossed by more than a quarter in the time T
  abbrev pub too_fast : ℕ → Bool
  too_fast T = some_square (size v) (λ x y. wet v x y && nat_lt (1000000 * v.d * side_of v (v.level x y)) (4 * pace x y * T))

  -- some square of the block of level k at (x, y) has a wet one across an edge, above the bed number of a leaf of level j
  abbrev pub would_flood : ℕ → ℕ → ℕ → ℕ → Bool
  would_flood k j x y =
      some_pair (size v) (λ a b p q. same_block v k x y a b && (edge a b p q && (wet v p q && nat_lt (bed_number v j a b) (surface v p q))))

  -- a leaf beside that at (x, y) is larger
  abbrev pub beside_coarser : ℕ → ℕ → Bool
  beside_coarser x y =
      some_pair (size v) (λ a b p q. same_block v (v.level x y) x y a b && (touch a b p q && nat_lt (v.level p q) (v.level x y)))

  -- a leaf beside the four siblings at (x, y) is smaller than they
  abbrev pub beside_finer : ℕ → ℕ → Bool
  beside_finer x y =
      some_pair (size v) (λ a b p q. same_block v (pred (v.level x y)) x y a b && (touch a b p q && nat_lt (v.level x y) (v.level p q)))

  -- some child of the wet leaf at (x, y) would be dry
  abbrev pub bare : ℕ → ℕ → Bool
  bare x y = some_square (size v) (λ a b. same_block v (v.level x y) x y a b && nat_lt (child_water v x y a b) 1)

  -- some child of the wet leaf at (x, y) may not hold its water
  abbrev pub brimming : ℕ → ℕ → Bool
  brimming x y =
      some_square (size v) (λ a b. same_block v (v.level x y) x y a b && not (may_hold (area v (suc (v.level x y))) (child_water v x y a b)))

  -- the leaf at (x, y) has not three leaves of its own level as siblings
  abbrev pub no_siblings : ℕ → ℕ → Bool
  no_siblings x y =
      some_square (size v) (λ a b. same_block v (pred (v.level x y)) x y a b && not (v.level a b == v.level x y))

  -- some of the siblings are wet and some are dry
  abbrev pub mixed : ℕ → ℕ → Bool
  mixed x y =
      some_square (size v) (λ a b. same_block v (pred (v.level x y)) x y a b && cond (wet v x y) (not (wet v a b)) (wet v a b))

-- some leaf holds more than it may
abbrev pub overfull : View → Bool
overfull v = some_square (size v) (λ x y. full v x y (water v x y))

-- the refusals of a call on a valid basin, in the order of their numbers; no leaf may hold more than 122,880,000
abbrev pub tests : ℕ → View → Call → List Test
tests loose v (pour x y a) =
    if (off v x y) OffGrid ∷ if (outside 1 122880000 a) OutOfRange ∷ if (full v x y (water v x y + a)) LeafFull ∷ []
tests loose v (draw x y a) =
    if (off v x y) OffGrid ∷ if (outside 1 122880000 a) OutOfRange ∷ if (nat_lt (water v x y) a) Overdrawn ∷ []
tests loose v (settle x y) =
    if (off v x y) OffGrid ∷ if (full v x y (water v x y + loose)) LeafFull ∷ []
tests loose v (step T R work) =
    if (outside 1 2000 T) OutOfRange ∷ if (too_fast v T) StepTooLong ∷ if (overfull (after_step R T v)) LeafFull ∷ []
tests loose v (split x y) =
    if (off v x y) OffGrid
    ∷ if (nat_le v.L (v.level x y)) NotDivisible
    ∷ if (beside_coarser v x y) Unbalanced
    ∷ if (cond (wet v x y) (bare v x y) (would_flood v (v.level x y) (suc (v.level x y)) x y)) WetDry
    ∷ if (wet v x y && brimming v x y) LeafFull
    ∷ if (nat_lt 1000000 (loose + remainder v x y)) LooseFull
    ∷ []
tests loose v (merge x y) =
    if (off v x y) OffGrid
    ∷ if (v.level x y == 0 || no_siblings v x y) NotDivisible
    ∷ if (beside_finer v x y) Unbalanced
    ∷ if (mixed v x y || (not (wet v x y) && would_flood v (pred (v.level x y)) (pred (v.level x y)) x y)) WetDry
    ∷ []

-- the work table of a step has not an entry for each square
abbrev pub short_work : Call → ℕ → Bool
short_work (pour x y a) n = false
short_work (draw x y a) n = false
short_work (settle x y) n = false
short_work (step T R work) n = not (work == n * n)
short_work (split x y) n = false
short_work (merge x y) n = false

-- the refusals of a call on any head and tables
abbrev pub all_tests : Call → Basin → List Test
all_tests c b =
    if (misfit b.head b.tables) TableLength
    ∷ if (short_work c (side b.head)) TableLength
    ∷ if (no_basin b) NotABasin
    ∷ tests b.head.loose (view b) c

unfoldable pub verdict : Call → Basin → Result (Unit {0}) Refusal
verdict c b = first_of (all_tests c b)

-- what a granted call makes of the squares and of the loose account, and what it answers
abbrev pub made : ℕ → View → Call → View
made loose v (pour x y a) = after_pour v x y a
made loose v (draw x y a) = after_draw v x y a
made loose v (settle x y) = after_pour v x y loose
made loose v (step T R work) = after_step R T v
made loose v (split x y) = after_split v x y
made loose v (merge x y) = after_merge v x y

abbrev pub kept : ℕ → View → Call → ℕ
kept loose v (pour x y a) = loose
kept loose v (draw x y a) = loose
kept loose v (settle x y) = 0
kept loose v (step T R work) = loose
kept loose v (split x y) = loose + remainder v x y
kept loose v (merge x y) = loose

-- the sum of the amounts that a step moves
abbrev pub moved : Rule → ℕ → View → ℕ
moved R T v = leaves (tree v) (λ c. out_of R T (tree v) c)

-- the sum over all faces of the sizes of the amounts that a step moves
abbrev pub crossed : Rule → ℕ → View → ℕ
crossed R T v = leaves (tree v) (λ c. across_faces R T (tree v) c)

abbrev pub answer : ℕ → View → Call → ℕ
answer loose v (pour x y a) = surface (after_pour v x y a) x y
answer loose v (draw x y a) = surface (after_draw v x y a) x y
answer loose v (settle x y) = loose
answer loose v (step T R work) = moved R T v
answer loose v (split x y) = remainder v x y
answer loose v (merge x y) = surface (after_merge v x y) x y

-- the basin of these squares and this loose account
abbrev pub pack : ℕ → View → Basin
pack loose v = basin (record { L = v.L; d = v.d; loose = loose }) (packed v)

-- the reply and the basin afterwards, after the first refusal or none
abbrev pub outcome : Result (Unit {0}) Refusal → Call → Basin → Reply × Basin
outcome (Ok t) c b =
    (granted (answer b.head.loose (view b) c), pack (kept b.head.loose (view b) c) (made b.head.loose (view b) c))
outcome (Err r) c b = (refused r, b)

abbrev pub perform : Call → Basin → Reply × Basin
perform c b = outcome (verdict c b) c b

-- the reply and the basin after each call of a list
abbrev pub run : List Call → Basin → List (Reply × Basin)
run [] b = []
run (c ∷ cs) b = perform c b ∷ run cs (perform c b).1
