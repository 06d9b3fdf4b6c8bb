-- Square roots of natural numbers.
use Rattle.std.specs.Prelude.{ℕ, zero, suc, ◌+◌, ◌*◌, ◌/◌, ◌^◌, ◌<◌, ◌≤◌, true, false, cond, ◌==◌, nat_le}

-- the largest number of at least r and below r + 2 ^ i whose square is at most n, where r's is
abbrev pub root_from : ℕ → ℕ → ℕ → ℕ
root_from zero n r = r
root_from (suc i) n r = elim (nat_le ((r + 2 ^ i) * (r + 2 ^ i)) n) [ true ↦ root_from i n (r + 2 ^ i) | false ↦ root_from i n r ]

-- the largest r with r × r at most n, for n below 4 ^ 15
abbrev pub root : ℕ → ℕ
root n = root_from 15 n 0

-- r is the largest number whose square is at most k
abbrev pub IsRoot : ℕ → ℕ → Type 0
IsRoot k r = (r * r ≤ k) × (k < (r + 1) * (r + 1))

-- the one of r and r + 1 that is the root of k, where the root is one of them
unfoldable pub raised : ℕ → ℕ → ℕ
raised k r = cond (nat_le ((r + 1) * (r + 1)) k) (r + 1) r

-- the root of k, one binary digit of it for every two of k, in so many rounds at most
unfoldable pub root_by : ℕ → ℕ → ℕ
root_by zero k = 0
root_by (suc rounds) k = elim (k == 0) [ true ↦ 0 | false ↦ raised k (2 * root_by rounds (k / 4)) ]

-- the root of k, for every k; each round divides k by four, so k rounds suffice
unfoldable pub square_root : ℕ → ℕ
square_root k = root_by k k

-- every number has its root
abbrev pub Roots : Type 0
Roots = (k : ℕ) → IsRoot k (square_root k)
