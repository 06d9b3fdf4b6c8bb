-- Whether some square of a grid passes a test.
use Rattle.std.proofs.Common.{◌≡◌, ℕ, ◌<◌, Bool, true, false, ltb, refl, ap, arith}
use Rattle.std.proofs.lemmas.Bool.{ltb-true, ltb-false}
use Rattle.basin.specs.Sums.{sum_below, grid, only}
use Rattle.basin.specs.Squares.{some_square, some_pair}
use Rattle.basin.proofs.Sums.{sum_below_none, sum_below_zero, sum_below_found}
use Rattle.basin.proofs.Tests.{differ}

pub none : (n : ℕ) (P : ℕ → ℕ → Bool) → some_square n P ≡ false → (x y : ℕ) → x < n → y < n → P x y ≡ false
none n P h x y a b =
    let z : grid n (λ x y. only (P x y) 1) ≡ 0 = omega (arith, ltb-false 0 (grid n (λ x y. only (P x y) 1)) h) in
    go (P x y) (sum_below_zero n (λ x. only (P x y) 1) (sum_below_zero n (λ y. sum_below n (λ x. only (P x y) 1)) z y b) x a)
  where
    go : (t : Bool) → only t 1 ≡ 0 → t ≡ false
    go true e = absurd (omega arith)
    go false e = refl

pub is_none : (n : ℕ) (P : ℕ → ℕ → Bool) → ((x y : ℕ) → x < n → y < n → P x y ≡ false) → some_square n P ≡ false
is_none n P h =
    let z : grid n (λ x y. only (P x y) 1) ≡ 0 =
    sum_below_none n (λ y. sum_below n (λ x. only (P x y) 1)) (λ y b. sum_below_none n (λ x. only (P x y) 1) (λ x a. ap (λ t. only t 1) (h x y a b))) in
    ap (λ m. ltb 0 m) z

pub is_some : (n : ℕ) (P : ℕ → ℕ → Bool) (x y : ℕ) → x < n → y < n → P x y ≡ true → some_square n P ≡ true
is_some n P x y a b h = go (some_square n P) refl
  where
    go : (t : Bool) → some_square n P ≡ t → t ≡ true
    go true e = refl
    go false e = differ (P x y) h (none n P e x y a b)

pub found : (n : ℕ) (P : ℕ → ℕ → Bool) → some_square n P ≡ true → (x : ℕ) × (y : ℕ) × (x < n) × (y < n) × (P x y ≡ true)
found n P h =
    let r = sum_below_found n (λ y. sum_below n (λ x. only (P x y) 1)) (ltb-true 0 _ h) in
    let q = sum_below_found n (λ x. only (P x r.0) 1) r.2 in
    (q.0, r.0, q.1, r.1, one (P q.0 r.0) q.2)
  where
    one : (t : Bool) → 0 < only t 1 → t ≡ true
    one true h = refl
    one false h = absurd (omega arith)

-- the same for pairs of squares
pub none_pair : (n : ℕ) (P : ℕ → ℕ → ℕ → ℕ → Bool) → some_pair n P ≡ false
    → (x y p q : ℕ) → x < n → y < n → p < n → q < n → P x y p q ≡ false
none_pair n P h x y p q a b c d = none n (P x y) (none n (λ x y. some_square n (P x y)) h x y a b) p q c d

pub is_none_pair : (n : ℕ) (P : ℕ → ℕ → ℕ → ℕ → Bool)
    → ((x y p q : ℕ) → x < n → y < n → p < n → q < n → P x y p q ≡ false) → some_pair n P ≡ false
is_none_pair n P h = is_none n (λ x y. some_square n (P x y)) (λ x y a b. is_none n (P x y) (λ p q c d. h x y p q a b c d))

pub is_some_pair : (n : ℕ) (P : ℕ → ℕ → ℕ → ℕ → Bool) (x y p q : ℕ) → x < n → y < n → p < n → q < n → P x y p q ≡ true
    → some_pair n P ≡ true
is_some_pair n P x y p q a b c d h = is_some n (λ x y. some_square n (P x y)) x y a b (is_some n (P x y) p q c d h)
