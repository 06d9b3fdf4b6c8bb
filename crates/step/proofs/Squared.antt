-- Whether some square passes a test of its entry.
use Rattle.std.proofs.Common.{◌≡◌, ℕ, ◌+◌, ◌*◌, ◌/◌, ◌%◌, ◌<◌, Bool, true, false, ltb, sym, ap, ◌∙◌, mod-lt, div-lt_iff_lt-mul, div-add-mod', arith}
use lib.Arith.{digits_lt}
use Rattle.basin.specs.Squares.{some_square}
use Rattle.basin.specs.Sums.{only}
use Rattle.basin.proofs.Found.{is_none, is_some}
use Rattle.runs.proofs.Sums.{grid_cong}

pub no_entry : (n m : ℕ) (P : ℕ → Bool) → n * n ≡ m → ((i : ℕ) → i < m → P i ≡ false) → false ≡ some_square n (λ x y. P (y * n + x))
no_entry n m P e h = sym (is_none n (λ x y. P (y * n + x)) (λ x y a b. h (y * n + x) (omega (arith, digits_lt b a, e))))

pub some_entry : (n : ℕ) (P : ℕ → Bool) (i : ℕ) → 0 < n → i < n * n → P i ≡ true → true ≡ some_square n (λ x y. P (y * n + x))
some_entry n P i z h e = sym (is_some n (λ x y. P (y * n + x)) (i % n) (i / n) (mod-lt i z) ((div-lt_iff_lt-mul z).1 h) (ap P (div-add-mod' i n) ∙ e))

-- tests that say the same of every square
pub same_squares : (n : ℕ) (P Q : ℕ → ℕ → Bool) → ((x y : ℕ) → x < n → y < n → P x y ≡ Q x y) → some_square n P ≡ some_square n Q
same_squares n P Q h = ap (λ m. ltb 0 m) (grid_cong n (λ x y. only (P x y) 1) (λ x y. only (Q x y) 1) (λ x y a b. ap (λ t. only t 1) (h x y a b)))
