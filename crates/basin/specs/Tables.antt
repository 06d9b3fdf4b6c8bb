-- Tables of n by n entries as lists, row by row from the south.
use Rattle.std.specs.Prelude.{ℕ, zero, suc, ◌+◌, ◌*◌, ◌/◌, ◌%◌, List, [], ◌∷◌, slice_index_or}

-- g 0, g 1 .. g (m - 1)
abbrev pub listed : {A : Type 0} → ℕ → (ℕ → A) → List A
listed zero g = []
listed (suc m) g = g 0 ∷ listed m (λ i. g (suc i))

-- the table whose entry of square (x, y) is f x y
unfoldable pub table : {A : Type 0} → ℕ → (ℕ → ℕ → A) → List A
table n f = listed (n * n) (λ i. f (i % n) (i / n))

-- the entry of square (x, y)
abbrev pub entry : {A : Type 0} → ℕ → A → List A → ℕ → ℕ → A
entry n default xs x y = slice_index_or xs (y * n + x) default
