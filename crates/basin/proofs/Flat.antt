-- The sum over the entries of a table is the sum over its squares.
use Rattle.std.proofs.Common.{◌≡◌, ℕ, zero, suc, ◌+◌, ◌*◌, ◌/◌, ◌%◌, ◌<◌, refl, ap, ◌∙◌, add-zero, add-suc, suc-mul, zero-mul, arith}
use lib.Arith.{digits_mod, digits_div}
use Rattle.basin.specs.Sums.{sum_below, grid}

pub sum_below_cong : (n : ℕ) (f g : ℕ → ℕ) → ((i : ℕ) → i < n → f i ≡ g i) → sum_below n f ≡ sum_below n g
sum_below_cong zero f g h = refl
sum_below_cong (suc n) f g h = omega (arith, sum_below_cong n f g (λ i b. h i (omega arith)), h n (omega arith))

-- a sum in two parts
pub sum_below_add : (m k : ℕ) (f : ℕ → ℕ) → sum_below (m + k) f ≡ sum_below m f + sum_below k (λ i. f (m + i))
sum_below_add m zero f = ap (λ n. sum_below n f) (add-zero m) ∙ omega arith
sum_below_add m (suc k) f = ap (λ n. sum_below n f) (add-suc m k) ∙ omega (arith, sum_below_add m k f)

-- a sum in rows of n
pub sum_below_rows : (n rows : ℕ) (f : ℕ → ℕ) → sum_below (rows * n) f ≡ sum_below rows (λ y. sum_below n (λ x. f (y * n + x)))
sum_below_rows n zero f = ap (λ m. sum_below m f) (zero-mul n)
sum_below_rows n (suc rows) f =
    ap (λ m. sum_below m f) (suc-mul rows n) ∙ sum_below_add (rows * n) n f ∙ omega (arith, sum_below_rows n rows f)

pub flat_grid : (n : ℕ) (f : ℕ → ℕ → ℕ) → sum_below (n * n) (λ i. f (i % n) (i / n)) ≡ grid n f
flat_grid n f =
    sum_below_rows n n (λ i. f (i % n) (i / n))
    ∙ sum_below_cong n _ _ (λ y b. sum_below_cong n _ _ (λ x a. ap (λ p. f p ((y * n + x) / n)) (digits_mod y a) ∙ ap (λ q. f x q) (digits_div y a)))
