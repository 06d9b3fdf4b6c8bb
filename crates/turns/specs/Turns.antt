-- The eight turns: turn 4 × f + r is f flips and then r quarter turns.
use Rattle.std.specs.Prelude.{◌≡◌, ℕ, ◌+◌, ◌-◌, ◌*◌, ◌/◌, ◌%◌, ◌^◌, ◌<◌, cond, ◌||◌, List, length, Ok, Err, Result, ◌==◌, nat_lt, unsigned_abs}
use Rattle.basin.specs.declared.head.Head.{Head}
use Rattle.basin.specs.declared.leaf.Leaf.{Leaf}
use Rattle.basin.specs.declared.refusal.Refusal.{Refusal}
use Rattle.basin.specs.declared.refusal.Refusal.TheVariants.{TableLength, OutOfRange}
use Rattle.basin.specs.Basins.{Heading, heading, Tables, Basin}
use Rattle.basin.specs.Flaws.{misfit, validity}
use Rattle.basin.specs.Tables.{entry}
use Rattle.runs.specs.Turns.{flip_leaf, transpose_leaf, Place, place, times, turn_place, turn_basin}

-- ---- two turns
-- the turn that turn s and then turn t make: two flips undo each other, and a flip reverses the quarter turns made before it
abbrev pub composite_of : (s t : ℕ) → ℕ
composite_of s t = 4 * ((s / 4 + t / 4) % 2) + (t % 4 + cond (t / 4 == 0) (s % 4) (4 - s % 4)) % 4

-- the turn that undoes turn t
abbrev pub undoing : ℕ → ℕ
undoing t = cond (nat_lt t 4) ((4 - t) % 4) t

-- ---- places and records
abbrev pub turned_place : (n t : ℕ) → Place → Place
turned_place n t p = turn_place n (t / 4) (t % 4) p

abbrev pub quarter_leaf : Leaf → Leaf
quarter_leaf l = flip_leaf (transpose_leaf l)

abbrev pub turned_leaf : ℕ → Leaf → Leaf
turned_leaf t l = times (t % 4) quarter_leaf (times (t / 4) flip_leaf l)

-- the signs of a record's discharges can be changed in 64 bits
pub record Reversible (l : Leaf) : Type 0 where
  pub east : unsigned_abs l.east < 2 ^ 63
  pub north : unsigned_abs l.north < 2 ^ 63

-- ---- tables and basins
-- the table ys is xs after turn t: at each turned place stands the entry as the turn leaves it, and every place is the turned one of some place
pub record TurnedTable {A : Type 0} (act : ℕ → A → A) (n t : ℕ) (xs ys : List A) : Type 0 where
  pub full : length ys ≡ n * n
  pub entries : (x y : ℕ) (d : A) → x < n → y < n
      → entry n d ys (turned_place n t (place x y)).x (turned_place n t (place x y)).y ≡ act t (entry n d xs x y)

abbrev pub turned_basin : ℕ → Basin → Basin
turned_basin t b = turn_basin (t / 4) (t % 4) b

-- ---- the calls
abbrev pub composed : (s t : ℕ) → Result ℕ Refusal
composed s t = cond (nat_lt 7 s || nat_lt 7 t) (Err OutOfRange) (Ok (composite_of s t))

abbrev pub turned_place_of : (n x y t : ℕ) → Result (ℕ × ℕ) Refusal
turned_place_of n x y t = cond (nat_lt 7 t) (Err OutOfRange) (Ok ((turned_place n t (place x y)).x, (turned_place n t (place x y)).y))

-- after a test: the refusal with the second tables as they were, or what is granted
abbrev pub after : Result (Unit {0}) Refusal → Tables → Result Heading Refusal × Tables → Result Heading Refusal × Tables
after (Ok passed) second granted = granted
after (Err refusal) second granted = (Err refusal, second)

-- the answer of a turn, and the second tables afterwards
unfoldable pub turn_of : Basin → (second : Tables) → ℕ → Result Heading Refusal × Tables
turn_of b second t =
    cond (misfit b.head second) (Err TableLength, second)
    (after (validity b) second
    (cond (nat_lt 7 t) (Err OutOfRange, second)
    (Ok b.head, (turned_basin t b).tables)))

-- the numbers of the head that a turn answers
abbrev pub answered : Result Head Refusal → Result Heading Refusal
answered (Ok h) = Ok (heading h)
answered (Err e) = Err e
