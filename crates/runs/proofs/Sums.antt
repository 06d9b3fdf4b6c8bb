-- Sums over a range and over a grid, rearranged.
use Rattle.std.proofs.Common.{◌≡◌, ℕ, zero, suc, ◌+◌, ◌-◌, ◌<◌, ◌≤◌, Bool, true, false, cond, eqb, sym, refl, ap, ◌∙◌, arith}
use Rattle.basin.specs.Sums.{sum_below, grid}
use Rattle.basin.proofs.Flat.{sum_below_cong}
use Rattle.basin.proofs.Sums.{sum_below_none}
use Rattle.runs.specs.Overs.{at}

pub sum_below_pointwise : (n : ℕ) (f g : ℕ → ℕ) → sum_below n (λ i. f i + g i) ≡ sum_below n f + sum_below n g
sum_below_pointwise zero f g = refl
sum_below_pointwise (suc n) f g = omega (arith, sum_below_pointwise n f g)

pub sum_below_swap : (m n : ℕ) (f : ℕ → ℕ → ℕ) → sum_below m (λ i. sum_below n (λ j. f i j)) ≡ sum_below n (λ j. sum_below m (λ i. f i j))
sum_below_swap zero n f = sym (sum_below_none n (λ j. 0) (λ i b. refl))
sum_below_swap (suc m) n f =
    omega (arith, sum_below_swap m n f, sum_below_pointwise n (λ j. sum_below m (λ i. f i j)) (f m))

pub sum_below_front : (n : ℕ) (f : ℕ → ℕ) → sum_below (suc n) f ≡ f 0 + sum_below n (λ i. f (suc i))
sum_below_front zero f = omega arith
sum_below_front (suc n) f = omega (arith, sum_below_front n f)

pub sum_below_reversed : (n : ℕ) (f : ℕ → ℕ) → sum_below n (λ i. f (n - 1 - i)) ≡ sum_below n f
sum_below_reversed zero f = refl
sum_below_reversed (suc n) f =
    let first : suc n - 1 - 0 ≡ n = omega arith in
    omega (
      arith,
      sum_below_front n (λ i. f (suc n - 1 - i)),
      sum_below_reversed n f,
      sum_below_cong n (λ i. f (suc n - 1 - suc i)) (λ i. f (n - 1 - i)) (λ i b. ap f (omega arith)),
      ap f first,
    )

pub sum_below_out : (n a : ℕ) (f : ℕ → ℕ) → n ≤ a → sum_below n (λ i. at a i (f i)) ≡ 0
sum_below_out n a f h = sum_below_none n _ (λ i b. grind arith)

pub sum_below_at : (n a : ℕ) (f : ℕ → ℕ) → a < n → sum_below n (λ i. at a i (f i)) ≡ f a
sum_below_at zero a f h = omega arith
sum_below_at (suc n) a f h = grind (arith, sum_below_at n a f, sum_below_out n a f)

pub grid_cong : (n : ℕ) (f g : ℕ → ℕ → ℕ) → ((x y : ℕ) → x < n → y < n → f x y ≡ g x y) → grid n f ≡ grid n g
grid_cong n f g h =
    sum_below_cong n (λ y. sum_below n (λ x. f x y)) (λ y. sum_below n (λ x. g x y))
    (λ y b. sum_below_cong n (λ x. f x y) (λ x. g x y) (λ x a. h x y a b))

pub grid_add : (n : ℕ) (f g : ℕ → ℕ → ℕ) → grid n (λ x y. f x y + g x y) ≡ grid n f + grid n g
grid_add n f g =
    sum_below_cong n _ _ (λ y b. sum_below_pointwise n (λ x. f x y) (λ x. g x y))
    ∙ sum_below_pointwise n (λ y. sum_below n (λ x. f x y)) (λ y. sum_below n (λ x. g x y))

pub grid_flip : (n : ℕ) (f : ℕ → ℕ → ℕ) → grid n (λ x y. f (n - 1 - x) y) ≡ grid n f
grid_flip n f = sum_below_cong n _ _ (λ y b. sum_below_reversed n (λ x. f x y))

pub grid_across : (n : ℕ) (f : ℕ → ℕ → ℕ) → grid n (λ x y. f y x) ≡ grid n f
grid_across n f = sum_below_swap n n f

pub grid_at : (n a b : ℕ) (f : ℕ → ℕ → ℕ) → a < n → b < n → grid n (λ x y. at b y (at a x (f x y))) ≡ f a b
grid_at n a b f h k =
    sum_below_cong n _ (λ y. at b y (sum_below n (λ x. at a x (f x y)))) (λ y l. across (eqb y b) y)
    ∙ sum_below_at n b (λ y. sum_below n (λ x. at a x (f x y))) k
    ∙ sum_below_at n a (λ x. f x b) h
  where
    across : (t : Bool) (y : ℕ) → sum_below n (λ x. cond t (at a x (f x y)) 0) ≡ cond t (sum_below n (λ x. at a x (f x y))) 0
    across true y = refl
    across false y = sum_below_none n _ (λ i b. refl)
