-- How fast a leaf can be, and whether it is too fast, as the code tells it.
use Rattle.std.proofs.Common.{◌≡◌, ℕ, ◌-◌, ◌*◌, ◌/◌, ◌^◌, ◌+◌, ◌<◌, ◌≤◌, max, Bool, ◌&&◌, List, get_or, nat_abs, nat_lt, sym, ap, ◌∙◌, arith}
use native.Mathlib.Nat.{div-le_of_le-mul}
use Rattle.std.proofs.lemmas.Bool.{leb-true}
use Rattle.basin.specs.declared.leaf.Leaf.{Leaf}
use Rattle.basin.specs.Records.{dry, InRange}
use Rattle.basin.specs.Basins.{Basin, view, ValidBasin}
use Rattle.basin.specs.Squares.{area, wet, water, some_square}
use Rattle.basin.specs.Views.{size, side_of}
use Rattle.runs.specs.Calls.{too_fast}
use Rattle.runs.proofs.Rooted.{root_agrees}
use Rattle.runs.proofs.Symmetry.{some_square_cong}
use Rattle.step.specs.Speeds.{fast, fast_in}

pub depth_most : (area : ℕ) (l : Leaf) → InRange area l → l.water / area ≤ 30000
depth_most area l r =
    let room = leb-true l.water (30000 * area) r.room in
    let k : l.water ≤ area * 30000 = omega arith in
    div-le_of_le-mul area k

pub speeds_most : (area : ℕ) (l : Leaf) → InRange area l → (nat_abs l.east / l.water ≤ 10000) × (nat_abs l.north / l.water ≤ 10000)
speeds_most area l r =
    let e = leb-true (nat_abs l.east) (10000 * l.water) r.east in
    let n = leb-true (nat_abs l.north) (10000 * l.water) r.north in
    let e' : nat_abs l.east ≤ l.water * 10000 = omega arith in
    let n' : nat_abs l.north ≤ l.water * 10000 = omega arith in
    (div-le_of_le-mul l.water e', div-le_of_le-mul l.water n')

pub fast_told : (L d : ℕ) (levels : List ℕ) (leaves : List Leaf) (T i s : ℕ) (r : Bool) → s ≡ 2 ^ (L - get_or levels i 0) → r ≡ fast d s T (get_or leaves i dry)
    → r ≡ fast_in L d levels leaves T i
fast_told L d levels leaves T i s r e h = h ∙ ap (λ s. fast d s T (get_or leaves i dry)) e

small_depth : (n : ℕ) → n ≤ 30000 → 9810 * n < 4 ^ 15
small_depth n h = omega arith

-- a leaf in range is no deeper than the root reaches
pub fast_is : (b : Basin) → ValidBasin b → (T : ℕ)
    → too_fast (view b) T ≡ some_square (size (view b)) (λ x y. fast_in b.head.L b.head.d b.tables.levels b.tables.leaves T (y * size (view b) + x))
fast_is b ok T =
    let v = view b in
    some_square_cong (size v) _ _
    (λ x y i j. ap
    (λ r. wet v x y && nat_lt (1000000 * v.d * side_of v (v.level x y))
    (4 * (max (nat_abs (v.leaf x y).east / water v x y) (nat_abs (v.leaf x y).north / water v x y) + r) * T))
    (sym (root_agrees (9810 * (water v x y / area v (v.level x y)))
    (small_depth (water v x y / area v (v.level x y)) (depth_most (area v (v.level x y)) (v.leaf x y) (ok.squares.in_range x y i j))))))
