-- Tables with one value on a row or on a block of entries.
use Rattle.std.specs.Prelude.{ℕ, zero, suc, ◌+◌, ◌*◌, List, slice_set}

-- the table t with v on count entries from place p on
unfoldable pub row : {A : Type 0} → (count p : ℕ) → A → List A → List A
row zero p v t = t
row (suc count) p v t = slice_set (row count p v t) (p + count) v

-- with v on rows rows of wide entries, the lowest from place p on, where a row of the table has n entries
unfoldable pub square : {A : Type 0} → (rows n wide p : ℕ) → A → List A → List A
square zero n wide p v t = t
square (suc rows) n wide p v t = row wide (p + rows * n) v (square rows n wide p v t)
