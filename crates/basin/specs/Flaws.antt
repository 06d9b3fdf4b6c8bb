-- Validity as a test of head and tables.
use Rattle.std.specs.Prelude.{◌≡◌, ℕ, ◌-◌, ◌*◌, ◌^◌, Bool, false, cond, not, ◌&&◌, ◌||◌, List, length, ℤ, pos, negsuc, Ok, Err, Result, ◌==◌, nat_lt}
use Rattle.basin.specs.declared.leaf.Leaf.{Leaf}
use Rattle.basin.specs.declared.refusal.Refusal.{Refusal}
use Rattle.basin.specs.declared.refusal.Refusal.TheVariants.{TableLength, NotABasin}
use Rattle.basin.specs.Basins.{Heading, Tables, Basin, side, view, ValidBasin}
use Rattle.basin.specs.Records.{may_hold, may_run}
use Rattle.basin.specs.Squares.{same_block, some_square, some_pair, unbalanced}
use Rattle.basin.specs.Views.{View, size}

-- two discharges, and two records, are the same
abbrev pub same_discharge : ℤ → ℤ → Bool
same_discharge (pos a) (pos b) = a == b
same_discharge (pos a) (negsuc b) = false
same_discharge (negsuc a) (pos b) = false
same_discharge (negsuc a) (negsuc b) = a == b

abbrev pub same_record : Leaf → Leaf → Bool
same_record l m = l.water == m.water && (same_discharge l.east m.east && same_discharge l.north m.north)

-- a number of the record is out of its range on a leaf of this area
abbrev pub bad_record : ℕ → Leaf → Bool
bad_record area l = not (may_hold area l.water) || (not (may_run l.water l.east) || not (may_run l.water l.north))

-- a number of a square is out of its range in a basin of L levels
abbrev pub bad_square : (L level bed : ℕ) → Leaf → Bool
bad_square L level bed l = nat_lt L level || (nat_lt 30000 bed || bad_record (2 ^ (L - level) * 2 ^ (L - level)) l)

abbrev pub flaw_at : View → ℕ → ℕ → Bool
flaw_at v x y = bad_square v.L (v.level x y) (v.bed x y) (v.leaf x y)

-- two squares lie in one leaf, and differ in level or record
abbrev pub flaw_between : View → ℕ → ℕ → ℕ → ℕ → Bool
flaw_between v x y p q =
    same_block v (v.level x y) x y p q && not (v.level p q == v.level x y && same_record (v.leaf p q) (v.leaf x y))

-- some square or some two squares have a flaw
unfoldable pub flawed : View → Bool
flawed v = some_square (size v) (flaw_at v) || (some_pair (size v) (flaw_between v) || unbalanced (size v) v.level)

-- a number of the head is out of its range
abbrev pub no_head : Heading → Bool
no_head h = nat_lt 6 h.L || (nat_lt h.d 1 || (nat_lt 1000 h.d || nat_lt 1000000 h.loose))

-- a table has not an entry for each square
abbrev pub unfit : {A : Type 0} → Heading → List A → Bool
unfit h xs = not (length xs == side h * side h)

unfoldable pub misfit : Heading → Tables → Bool
misfit h t = unfit h t.levels || (unfit h t.beds || unfit h t.leaves)

-- head and tables, of the right lengths, are no valid basin
unfoldable pub no_basin : Basin → Bool
no_basin b = no_head b.head || flawed (view b)

-- the first two refusals of a call on head and tables
unfoldable pub validity : Basin → Result (Unit {0}) Refusal
validity b = cond (misfit b.head b.tables) (Err TableLength) (cond (no_basin b) (Err NotABasin) (Ok tt))

-- the tests tell the valid basins
abbrev pub TellsBasins : Type 0
TellsBasins =
    ((b : Basin) → (misfit b.head b.tables ≡ false) × (no_basin b ≡ false) → ValidBasin b)
    × ((b : Basin) → ValidBasin b → (misfit b.head b.tables ≡ false) × (no_basin b ≡ false))
