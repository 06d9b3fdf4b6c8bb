-- The numbers of a file: how they are read from bytes, and how they are written.
use Rattle.std.specs.Prelude.{ℕ, zero, suc, ◌+◌, ◌-◌, ◌*◌, ◌/◌, ◌%◌, cond, ◌&&◌, List, [], ◌∷◌, length, ℤ, pos, negsuc, Ok, Err, Result, ◌==◌, nat_lt, slice_index}
use Rattle.numbers.specs.declared.fault.NumberFault.{NumberFault}
use Rattle.numbers.specs.declared.fault.NumberFault.TheVariants.{Ended, Malformed}
use Rattle.numbers.specs.Steps.{after}

-- the groups that are left to read of a number that begins at start: it may have this many more, from the byte at on; value is what
-- the groups so far come to, and unit what a one in the next group weighs
unfoldable pub groups_at : (more : ℕ) → List ℕ → (start at value unit : ℕ) → Result (ℕ × ℕ) NumberFault
groups_at zero bs start at value unit = Err (Malformed start)
groups_at (suc more) bs start at value unit =
    cond (nat_lt at (length bs))
    (cond (nat_lt (slice_index bs at) 128)
    (cond (slice_index bs at == 0 && nat_lt start at)
    (Err (Malformed start))
    (Ok (value + unit * slice_index bs at, at + 1)))
    (groups_at more bs start (at + 1) (value + unit * (slice_index bs at - 128)) (unit * 128)))
    (Err (Ended start))

-- the number that begins at a byte, and the byte after it
abbrev pub number_at : List ℕ → ℕ → Result (ℕ × ℕ) NumberFault
number_at bs at = groups_at 6 bs at at 0 1

-- the signed number that u stands for, and the number that stands for a signed one
abbrev pub signed : ℕ → ℤ
signed u = cond (u % 2 == 0) (pos (u / 2)) (negsuc (u / 2))

abbrev pub coded : ℤ → ℕ
coded (pos q) = 2 * q
coded (negsuc q) = 2 * q + 1

abbrev pub signed_at : List ℕ → ℕ → Result (ℤ × ℕ) NumberFault
signed_at bs at = after (number_at bs at) (λ u. Ok (signed u.0, u.1))

-- the bytes of a number, of at most this many groups
unfoldable pub groups : (most : ℕ) → ℕ → List ℕ
groups zero v = []
groups (suc most) v = cond (nat_lt v 128) (v ∷ []) ((v % 128 + 128) ∷ groups most (v / 128))

abbrev pub number : ℕ → List ℕ
number v = groups 6 v
