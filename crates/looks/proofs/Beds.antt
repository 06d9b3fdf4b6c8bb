-- Sums of beds over rows and blocks, and the surface number.
use Rattle.std.proofs.Common.{◌≡◌, ℕ, zero, suc, ◌+◌, ◌-◌, ◌*◌, ◌/◌, ◌<◌, ◌≤◌, List, [], ◌∷◌, length, sum, take, drop, get_or, sym, refl, ap, ◌∙◌, add_assoc, mul-le-mul_right, add-mul, one-mul, add-one, arith}
use Rattle.std.proofs.lemmas.List.{take_more, length-drop, get_or-drop}
use Rattle.std.proofs.lemmas.List.Elements.{All-from_get_or}
use Rattle.std.proofs.lemmas.List.Sums.{fold-append, sum_by-le}
use Rattle.basin.specs.declared.plot.Plot.{Plot}
use Rattle.basin.specs.Basins.{Basin, view}
use Rattle.basin.specs.Plots.{ground}
use Rattle.basin.specs.Squares.{area, water, bed_sum, surface}
use Rattle.basin.specs.Sums.{sum_below, grid}
use Rattle.basin.specs.Tables.{entry}
use Rattle.tables.specs.Surveys.{BlockAt}

pub sum_none : (f : ℕ → ℕ) → 0 ≡ sum_below 0 f
sum_none f = refl

pub sum_more : (k : ℕ) (f : ℕ → ℕ) (s a : ℕ) → s ≡ sum_below k f → a ≡ f k → s + a ≡ sum_below (k + 1) f
sum_more k f s a e h = rw add-one (omega arith)

-- ---- a row as a part of the table
-- the first beds of a row
row_sum : (row : List ℕ) (k : ℕ) → k ≤ length row → sum (take k row) ≡ sum_below k (λ i. get_or row i 0)
row_sum row zero h = refl
row_sum row (suc k) h =
    ap (λ m. sum (take m row)) (sym (add-one k))
    ∙ (ap sum (take_more row k 0 (omega arith))
    ∙ (fold-append (λ a b. a + b) 0 (take k row) (get_or row k 0 ∷ [])
    ∙ ap (λ s. s + get_or row k 0) (row_sum row k (omega arith))))

-- the row of a block
pub row_is : (beds : List ℕ) (n x y j k p : ℕ) → p ≡ (y + j) * n + x → p + k ≤ length beds
    → sum (take (p + k - p) (drop p beds)) ≡ sum_below k (λ i. entry n 0 beds (x + i) (y + j))
row_is beds n x y j k p e h =
    let part : p + k - p ≡ k = omega arith in
    let at : (i : ℕ) → get_or (drop p beds) i 0 ≡ entry n 0 beds (x + i) (y + j) =
    λ i. get_or-drop p beds i 0 ∙ ap (λ q. get_or beds q 0) (ap (λ q. q + i) e ∙ add_assoc ((y + j) * n) x i) in
    rw part (row_sum (drop p beds) k (rw (length-drop p beds) (omega arith)) ∙ (λ t. sum_below k (λ i. at i t)))

-- no bed passes 16 bits
pub row_most : (row : List ℕ) → ((i : ℕ) → get_or row i 0 < 65536) → sum row ≤ 65535 * length row
row_most row h =
    let low : (i : ℕ) → i < length row → get_or row i 0 ≤ 65535 = λ i k. omega (arith, h i) in
    omega (arith, sum_by-le (λ b. b) 65535 row (All-from_get_or (λ b. b ≤ 65535) row 0 low))

-- a row of a block lies in the table
pub row_in : (n x y j count len : ℕ) → len ≡ n * n → x + count ≤ n → y + count ≤ n → j < count → (y + j) * n + x + count ≤ len
row_in n x y j count len e a b h =
    let up : y + j + 1 ≤ n = omega arith in
    omega (arith, mul-le-mul_right n up, add-mul (y + j) 1 n, one-mul n)

-- ---- blocks of a valid basin
-- the sum of a block's beds
pub ground_is : (b : Basin) (k x y : ℕ) (p : Plot) → BlockAt b k x y p → ground p b.tables.beds ≡ bed_sum (view b) k x y
ground_is b k x y p at = λ i. grid (at.side_is i) (λ q r. entry (at.n_is i) 0 b.tables.beds (at.west_is i + q) (at.south_is i + r))

-- the surface number of the leaf at a square, from its block and its water
pub surface_is : (b : Basin) (k x y w : ℕ) (p : Plot) → BlockAt b k x y p → k ≡ (view b).level x y → w ≡ water (view b) x y
    → (w + ground p b.tables.beds) / (p.side * p.side) ≡ surface (view b) x y
surface_is b k x y w p at ek ew =
    (λ i. (ew i + ground_is b k x y p at i) / (at.side_is i * at.side_is i))
    ∙ ap (λ j. (water (view b) x y + bed_sum (view b) j x y) / area (view b) j) ek
