-- Sums over all blocks.
use Rattle.std.proofs.Common.{◌≡◌, ℕ, zero, suc, ◌+◌, ◌^◌, Bool, true, false, cond, eqb, sym, refl, ◌∙◌, arith}
use Rattle.basin.specs.Blocks.{Block, block, Within}
use Rattle.basin.specs.Sums.{sum_below, grid}
use Rattle.basin.proofs.Flat.{sum_below_cong}
use Rattle.basin.proofs.Sums.{sum_below_none}
use Rattle.runs.specs.Overs.{at, over, here}
use Rattle.runs.proofs.Sums.{sum_below_pointwise, sum_below_at, grid_cong, grid_add, grid_at}

pub over_cong : (L : ℕ) (f g : Block → ℕ) → ((c : Block) → Within L c → f c ≡ g c) → over L f ≡ over L g
over_cong L f g h =
    sum_below_cong (L + 1) _ _ (λ k a. grid_cong (2 ^ k) _ _ (λ X Y b c. h (block k X Y) (record { deep = omega arith; east = b; north = c })))

pub over_add : (L : ℕ) (f g : Block → ℕ) → over L (λ c. f c + g c) ≡ over L f + over L g
over_add L f g =
    sum_below_cong (L + 1) _ _ (λ k a. grid_add (2 ^ k) (λ X Y. f (block k X Y)) (λ X Y. g (block k X Y)))
    ∙ sum_below_pointwise (L + 1) (λ k. grid (2 ^ k) (λ X Y. f (block k X Y))) (λ k. grid (2 ^ k) (λ X Y. g (block k X Y)))

pub over_none : (L : ℕ) → over L (λ c. 0) ≡ 0
over_none L = sum_below_none (L + 1) _ (λ k a. sum_below_none (2 ^ k) _ (λ Y b. sum_below_none (2 ^ k) _ (λ X d. refl)))

-- one block of all
pub over_here : (L : ℕ) (a : Block) (f : Block → ℕ) → Within L a → over L (λ c. here a c (f c)) ≡ f a
over_here L a f w =
    sum_below_cong (L + 1) _ (λ k. at a.k k (grid (2 ^ k) (λ X Y. at a.Y Y (at a.X X (f (block k X Y)))))) (λ k b. across (eqb k a.k) k)
    ∙ sum_below_at (L + 1) a.k (λ k. grid (2 ^ k) (λ X Y. at a.Y Y (at a.X X (f (block k X Y))))) (omega arith)
    ∙ grid_at (2 ^ a.k) a.X a.Y (λ X Y. f (block a.k X Y)) w.east w.north
  where
    across : (t : Bool) (k : ℕ)
        → grid (2 ^ k) (λ X Y. cond t (at a.Y Y (at a.X X (f (block k X Y)))) 0)
        ≡ cond t (grid (2 ^ k) (λ X Y. at a.Y Y (at a.X X (f (block k X Y))))) 0
    across true k = refl
    across false k = sum_below_none (2 ^ k) _ (λ i b. sum_below_none (2 ^ k) _ (λ j d. refl))

-- a sum over blocks and one over numbers change places
sum_below_over : (n L : ℕ) (f : ℕ → Block → ℕ) → sum_below n (λ i. over L (f i)) ≡ over L (λ c. sum_below n (λ i. f i c))
sum_below_over zero L f = sym (over_none L)
sum_below_over (suc n) L f = omega (arith, sum_below_over n L f, over_add L (λ c. sum_below n (λ i. f i c)) (f n))

pub over_swap : (L M : ℕ) (f : Block → Block → ℕ) → over L (λ a. over M (λ b. f a b)) ≡ over M (λ b. over L (λ a. f a b))
over_swap L M f =
    sum_below_cong (L + 1) _ _ (λ k h. sum_below_cong (2 ^ k) _ _ (λ Y i. sum_below_over (2 ^ k) M (λ X. f (block k X Y)))
    ∙ sum_below_over (2 ^ k) M (λ Y b. sum_below (2 ^ k) (λ X. f (block k X Y) b)))
    ∙ sum_below_over (L + 1) M (λ k b. grid (2 ^ k) (λ X Y. f (block k X Y) b))
