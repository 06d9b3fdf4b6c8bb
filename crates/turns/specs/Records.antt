-- The eight turns of a record, and that those of a valid basin can be turned.
use Rattle.std.specs.Prelude.{◌≡◌, ℕ, ◌-◌, ◌*◌, ◌/◌, ◌%◌, ◌^◌, ◌<◌, length, get_or, ℤ, pos, ◌-ℤ◌, neg_ℤ, slice_index_or, unsigned_abs, refl}
use Rattle.std.proofs.Common.{◌∙◌, ap, subst, div-add-mod', arith, to_z, of_z, rules}
use Rattle.std.proofs.Math.IntN.{neg_ℤ-neg_ℤ}
use Rattle.std.specs.Int.{w64}
use Rattle.std.proofs.lemmas.Nat.{mod_below, div_below}
use Rattle.std.proofs.lemmas.List.{get_or_default}
use Rattle.std.proofs.lemmas.Int.{ints, to_z-of_z}
use Rattle.basin.specs.declared.leaf.Leaf.{Leaf}
use Rattle.basin.specs.Basins.{Basin, side, view, ValidBasin}
use Rattle.basin.specs.Records.{dry}
use Rattle.basin.proofs.Sizes.{side_pos, area_small}
use Rattle.runs.specs.Turns.{flip_leaf}
use Rattle.runs.proofs.Limits.{abs_negate}
use Rattle.runs.proofs.Ranges.{holds_at}
use Rattle.turns.specs.declared.eight.Turn.{Turn}
use Rattle.turns.specs.Eight.{number_of, picked}
use Rattle.turns.specs.Turns.{quarter_leaf, turned_leaf, Reversible}
use Rattle.turns.specs.Composing.{Acting}

pub records_turn : Acting flip_leaf quarter_leaf
records_turn =
    record {
      flip_twice = λ l. simp neg_ℤ-neg_ℤ;
      four_quarters = λ l. simp neg_ℤ-neg_ℤ;
      flip_after = λ l. simp neg_ℤ-neg_ℤ;
    }

-- ---- signs in 64 bits
-- a number whose sign can be changed is kept in 64 bits, and so is its negative
pub kept_sign : (z : ℤ) → unsigned_abs z < 2 ^ 63 → to_z w64 (of_z w64 z) ≡ z
kept_sign z h = to_z-of_z w64 z (search rules)

pub other_sign : (z : ℤ) → unsigned_abs z < 2 ^ 63 → to_z w64 (of_z w64 (pos 0 -ℤ to_z w64 (of_z w64 z))) ≡ neg_ℤ z
other_sign z h =
    let less : pos 0 -ℤ z ≡ neg_ℤ z = omega (arith, ints) in
    let small : unsigned_abs (neg_ℤ z) < 2 ^ 63 = omega (arith, abs_negate z) in
    ap (λ w. to_z w64 (of_z w64 (pos 0 -ℤ w))) (kept_sign z h) ∙ ap (λ w. to_z w64 (of_z w64 w)) less ∙ kept_sign (neg_ℤ z) small

-- ---- the eight turns of a record
-- the discharges that a turn makes of a record's
abbrev pub discharges : Turn → Leaf → ℤ × ℤ
discharges t l = picked t l.east l.north (neg_ℤ l.east) (neg_ℤ l.north)

pub discharges_turn : (t : Turn) (l : Leaf) → record { water = l.water; east = (discharges t l).0; north = (discharges t l).1 } ≡ turned_leaf (number_of t) l
discharges_turn t l = grind (arith, neg_ℤ-neg_ℤ)

pub east_kept : (t : Turn) (l : Leaf) → Reversible l → unsigned_abs (discharges t l).0 < 2 ^ 63
east_kept t l h = grind (arith, abs_negate l.east, abs_negate l.north)

pub north_kept : (t : Turn) (l : Leaf) → Reversible l → unsigned_abs (discharges t l).1 < 2 ^ 63
north_kept t l h = grind (arith, abs_negate l.east, abs_negate l.north)

-- a record that can change its signs still can after a turn
pub reversible_turned : (t : Turn) (l : Leaf) → Reversible l → Reversible (turned_leaf (number_of t) l)
reversible_turned t l h = subst Reversible (discharges_turn t l) (record { east = east_kept t l h; north = north_kept t l h })

-- the record with two of its four discharges in 64 bits
pub record_turned : (l : Leaf) → Reversible l → (t : Turn) (r : ℤ × ℤ)
    → r ≡ picked t (to_z w64 (of_z w64 l.east)) (to_z w64 (of_z w64 l.north)) (to_z w64 (of_z w64 (pos 0 -ℤ to_z w64 (of_z w64 l.east))))
    (to_z w64 (of_z w64 (pos 0 -ℤ to_z w64 (of_z w64 l.north))))
    → record { water = l.water; east = to_z w64 (of_z w64 r.0); north = to_z w64 (of_z w64 r.1) } ≡ turned_leaf (number_of t) l
record_turned l h t r e =
    let is : r ≡ discharges t l = e ∙ (λ i. picked t (kept_sign l.east h.east i) (kept_sign l.north h.north i) (other_sign l.east h.east i) (other_sign l.north h.north i)) in
    (λ i. record { water = l.water; east = to_z w64 (of_z w64 (is i).0); north = to_z w64 (of_z w64 (is i).1) })
    ∙ (λ i. record { water = l.water; east = kept_sign (discharges t l).0 (east_kept t l h) i; north = kept_sign (discharges t l).1 (north_kept t l h) i })
    ∙ discharges_turn t l

-- ---- the records of a valid basin can change their signs
pub reversible : (b : Basin) → ValidBasin b → (i : ℕ) (d : Leaf) → i < length b.tables.leaves → Reversible (slice_index_or b.tables.leaves i d)
reversible b right i d h =
    let n = side b.head in
    let z = side_pos b.head.L in
    let below : i < n * n = omega (arith, right.full.leaves) in
    let x : i % n < n = mod_below i n z in
    let y : i / n < n = div_below i n n z below in
    let k = (view b).level (i % n) (i / n) in
    let l = (view b).leaf (i % n) (i / n) in
    let holds = holds_at right.squares (i % n) (i / n) x y in
    let small = area_small (b.head.L - k) (2 ^ (b.head.L - k)) (omega (arith, right.head.levels)) refl in
    let same : l ≡ get_or b.tables.leaves i d =
    ap (λ j. get_or b.tables.leaves j dry) (div-add-mod' i n) ∙ get_or_default b.tables.leaves i dry d h in
    subst Reversible same (record { east = omega (arith, holds.room, holds.slow_east, small); north = omega (arith, holds.room, holds.slow_north, small) })
