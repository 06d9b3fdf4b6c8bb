-- Whether a time is too long for a leaf, by the tables.
use Rattle.std.specs.Prelude.{ℕ, ◌+◌, ◌-◌, ◌*◌, ◌/◌, ◌^◌, ◌<◌, max, Bool, ◌&&◌, List, nat_lt, slice_index, slice_index_or, unsigned_abs}
use Rattle.basin.specs.declared.leaf.Leaf.{Leaf}
use Rattle.basin.specs.Records.{dry, InRange}
use Rattle.runs.specs.Roots.{square_root}

-- a leaf of side s and squares d metres wide is wet, and crossed by more than a quarter in the time T
abbrev pub fast : (d s T : ℕ) → Leaf → Bool
fast d s T l =
    nat_lt 0 l.water
    && nat_lt (1000000 * d * s) (4 * (max (unsigned_abs l.east / l.water) (unsigned_abs l.north / l.water) + square_root (9810 * (l.water / (s * s)))) * T)

-- the leaf of the square of entry i
abbrev pub fast_in : (L d : ℕ) → List ℕ → List Leaf → ℕ → ℕ → Bool
fast_in L d levels leaves T i = fast d (2 ^ (L - slice_index levels i)) T (slice_index_or leaves i dry)

-- every square's record is in range on the area of its leaf
abbrev pub AllInRange : ℕ → List ℕ → List Leaf → Type 0
AllInRange L levels leaves =
    (i : ℕ) → i < 2 ^ L * 2 ^ L → InRange (2 ^ (L - slice_index levels i) * 2 ^ (L - slice_index levels i)) (slice_index_or leaves i dry)
