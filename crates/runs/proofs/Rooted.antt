-- The root of a number is the largest whose square is at most that number, and the only one.
use Rattle.std.proofs.Common.{◌≡◌, ℕ, zero, suc, ◌+◌, ◌*◌, ◌/◌, ◌^◌, ◌<◌, ◌≤◌, Bool, true, false, eqb, leb, refl, ap, mul-le-mul, pow-suc, arith}
use native.Mathlib.Decide.{dec_le}
use Rattle.std.proofs.lemmas.Bool.{eqb-true, eqb-false, leb-true, leb-false}
use Rattle.runs.specs.Roots.{root_from, root, IsRoot, raised, root_by, square_root, Roots}

raised_is : (k r : ℕ) → r * r ≤ k → k < (r + 2) * (r + 2) → IsRoot k (raised k r)
unfolding raised
raised_is k r low high = grind arith

root_by_is : (rounds k : ℕ) → k ≤ rounds → IsRoot k (root_by rounds k)
unfolding root_by
root_by_is zero k h = omega arith
root_by_is (suc rounds) k h = go (eqb k 0) refl (λ l. root_by_is rounds (k / 4) l)
  where
    go : (t : Bool) → eqb k 0 ≡ t → (k / 4 ≤ rounds → IsRoot (k / 4) (root_by rounds (k / 4)))
        → IsRoot k (elim t [ true ↦ 0 | false ↦ raised k (2 * root_by rounds (k / 4)) ])
    go true e fewer = let z : k ≡ 0 = eqb-true k 0 e in omega arith
    go false e fewer =
        let z = eqb-false k 0 e in
        let quarter = fewer (omega arith) in
        raised_is k (2 * root_by rounds (k / 4)) (omega arith) (omega arith)

pub roots : Roots
unfolding square_root
roots k = root_by_is k k (omega arith)

square_lt : (r t : ℕ) → r * r < t * t → r < t
square_lt r t h = elim (dec_le t r) [ yes p ↦ omega (arith, mul-le-mul p p) | no p ↦ omega arith ]

-- the root is the only one
pub root_unique : (k r s : ℕ) → IsRoot k r → IsRoot k s → r ≡ s
root_unique k r s p q =
    let a : r < s + 1 = square_lt r (s + 1) (omega arith) in
    let b : s < r + 1 = square_lt s (r + 1) (omega arith) in
    omega arith

-- the root of a number below the square of m + 1 is at most m
pub root_le : (k m : ℕ) → k < (m + 1) * (m + 1) → square_root k ≤ m
root_le k m h =
    let p = roots k in
    let q : square_root k < m + 1 = square_lt (square_root k) (m + 1) (omega arith) in
    omega arith

-- ---- the root of a number below 4 ^ 15
root_between : (i n r : ℕ) → r * r ≤ n → n < (r + 2 ^ i) * (r + 2 ^ i) → IsRoot n (root_from i n r)
root_between zero n r low high = (low, high)
root_between (suc i) n r low high =
    go (leb ((r + 2 ^ i) * (r + 2 ^ i)) n) refl (λ s. root_between i n (r + 2 ^ i) s up) (λ s. root_between i n r low s)
  where
    up : n < (r + 2 ^ i + 2 ^ i) * (r + 2 ^ i + 2 ^ i)
    up =
        let double : r + 2 ^ suc i ≡ r + 2 ^ i + 2 ^ i = omega (arith, pow-suc 2 i) in
        let square : (r + 2 ^ suc i) * (r + 2 ^ suc i) ≡ (r + 2 ^ i + 2 ^ i) * (r + 2 ^ i + 2 ^ i) = ap (λ m. m * m) double in
        omega arith

    go : (t : Bool) → leb ((r + 2 ^ i) * (r + 2 ^ i)) n ≡ t
        → ((r + 2 ^ i) * (r + 2 ^ i) ≤ n → IsRoot n (root_from i n (r + 2 ^ i)))
        → (n < (r + 2 ^ i) * (r + 2 ^ i) → IsRoot n (root_from i n r))
        → IsRoot n (elim t [ true ↦ root_from i n (r + 2 ^ i) | false ↦ root_from i n r ])
    go true t above below = above (leb-true _ n t)
    go false t above below = below (leb-false _ n t)

pub root_is : (n : ℕ) → n < 4 ^ 15 → (root n * root n ≤ n) × (n < (root n + 1) * (root n + 1))
root_is n h = root_between 15 n 0 (omega arith) (omega arith)

pub root_agrees : (k : ℕ) → k < 4 ^ 15 → square_root k ≡ root k
root_agrees k h = root_unique k (square_root k) (root k) (roots k) (root_is k h)
