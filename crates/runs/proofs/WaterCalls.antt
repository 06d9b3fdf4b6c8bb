-- What each call does to the sum of the water.
use Rattle.std.proofs.Common.{◌≡◌, ℕ, zero, suc, pred, ◌+◌, ◌-◌, ◌*◌, ◌/◌, ◌%◌, ◌^◌, ◌<◌, ◌≤◌, Bool, true, false, cond, ◌&&◌, ◌||◌, eqb, ltb, leb, ℤ, sym, refl, ap, ◌∙◌, div-lt_iff_lt-mul, mul-div_cancel, arith}
use native.Mathlib.Nat.{div-div-eq-div-mul}
use lib.Arith.{digits_div, digits_mod}
use Rattle.std.proofs.lemmas.Bool.{eqb-true, eqb-false, leb-false, ltb-false}
use Rattle.basin.specs.declared.leaf.Leaf.{Leaf}
use Rattle.basin.specs.Basins.{Valid}
use Rattle.basin.specs.Blocks.{block, block_sum, patch}
use Rattle.basin.specs.Records.{dry}
use Rattle.basin.specs.Squares.{same_block, bed_sum, water, wet, area}
use Rattle.basin.specs.Sums.{sum_below, grid, only}
use Rattle.basin.specs.Totals.{all_water, is_corner, corner_of}
use Rattle.basin.specs.Views.{side_of, View, size}
use Rattle.basin.proofs.Flat.{sum_below_cong, sum_below_rows}
use Rattle.basin.proofs.Found.{none}
use Rattle.basin.proofs.Sizes.{side_pos, side_times}
use Rattle.basin.proofs.Sums.{sum_below_none}
use Rattle.basin.proofs.Tests.{not_and, to_same_block}
use Rattle.runs.specs.Calls.{bare, no_siblings}
use Rattle.runs.specs.Changes.{twin, put, fill, remainder, child_water, child, after_split, merged, after_merge}
use Rattle.basin.specs.Finish.{finish}
use Rattle.runs.specs.Overs.{at}
use Rattle.runs.proofs.CallsKeep.{inner, above, sibling, twin_x, twin_y, half_x, half_y, twin_div}
use Rattle.runs.proofs.Corners.{corner_is}
use Rattle.runs.proofs.Partition.{patch_quarters}
use Rattle.runs.proofs.Sounds.{inside, twice}
use Rattle.runs.proofs.Sums.{grid_at, sum_below_at, grid_cong, grid_add}

-- ---- the part of a grid sum that stands in one block
block_line : (m s X : ℕ) (g : ℕ → ℕ) → 0 < s → X < m → sum_below (m * s) (λ x. at X (x / s) (g x)) ≡ sum_below s (λ i. g (X * s + i))
block_line m s X g z h =
    sum_below_rows s m (λ x. at X (x / s) (g x))
    ∙ sum_below_cong m _ (λ Q. at X Q (sum_below s (λ i. g (Q * s + i)))) (λ Q b.
    sum_below_cong s (λ i. at X ((Q * s + i) / s) (g (Q * s + i))) (λ i. at X Q (g (Q * s + i))) (λ i c. ap (λ n. at X n (g (Q * s + i))) (digits_div Q c))
    ∙ across (eqb Q X) Q)
    ∙ sum_below_at m X (λ Q. sum_below s (λ i. g (Q * s + i))) h
  where
    across : (t : Bool) (Q : ℕ) → sum_below s (λ i. cond t (g (Q * s + i)) 0) ≡ cond t (sum_below s (λ i. g (Q * s + i))) 0
    across true Q = refl
    across false Q = sum_below_none s _ (λ i b. refl)

block_grid : (m s X Y : ℕ) (g : ℕ → ℕ → ℕ) → 0 < s → X < m → Y < m → grid (m * s) (λ x y. at Y (y / s) (at X (x / s) (g x y))) ≡ patch s g X Y
block_grid m s X Y g z h k =
    sum_below_cong (m * s) _ (λ y. at Y (y / s) (sum_below (m * s) (λ x. at X (x / s) (g x y)))) (λ y b. across (eqb (y / s) Y) y)
    ∙ block_line m s Y (λ y. sum_below (m * s) (λ x. at X (x / s) (g x y))) z k
    ∙ sum_below_cong s _ _ (λ j b. block_line m s X (λ x. g x (Y * s + j)) z h)
  where
    across : (t : Bool) (y : ℕ) → sum_below (m * s) (λ x. cond t (at X (x / s) (g x y)) 0) ≡ cond t (sum_below (m * s) (λ x. at X (x / s) (g x y))) 0
    across true y = refl
    across false y = sum_below_none (m * s) _ (λ i b. refl)

pub block_in : (v : View) (j x : ℕ) → j ≤ v.L → x < size v → x / side_of v j < 2 ^ j
block_in v j x h a =
    let e = side_times v.L j h in
    let b : x < 2 ^ j * side_of v j = rw e at a in
    (div-lt_iff_lt-mul (side_pos (v.L - j))).1 b

in_block : (v : View) (j x y : ℕ) → j ≤ v.L → x < size v → y < size v → (f : ℕ → ℕ → ℕ)
    → grid (size v) (λ p q. only (same_block v j x y p q) (f p q)) ≡ block_sum v.L f (block j (x / side_of v j) (y / side_of v j))
in_block v j x y h a b f =
    let s = side_of v j in
    grid_cong (size v) (λ p q. only (same_block v j x y p q) (f p q)) (λ p q. at (y / s) (q / s) (at (x / s) (p / s) (f p q)))
    (λ p q c d. swap (x / s) (p / s) (y / s) (q / s) (f p q))
    ∙ ap (λ n. grid n (λ p q. at (y / s) (q / s) (at (x / s) (p / s) (f p q)))) (side_times v.L j h)
    ∙ block_grid (2 ^ j) s (x / s) (y / s) f (side_pos (v.L - j)) (block_in v j x h a) (block_in v j y h b)
  where
    swap : (X P Y Q n : ℕ) → only (eqb X P && eqb Y Q) n ≡ at Y Q (at X P n)
    swap X P Y Q n = grind arith

-- two sums that differ in one block only
exchange : (v : View) (j x y : ℕ) → j ≤ v.L → x < size v → y < size v → (f g : ℕ → ℕ → ℕ)
    → ((p q : ℕ) → p < size v → q < size v → same_block v j x y p q ≡ false → f p q ≡ g p q)
    → grid (size v) f + block_sum v.L g (block j (x / side_of v j) (y / side_of v j))
    ≡ grid (size v) g + block_sum v.L f (block j (x / side_of v j) (y / side_of v j))
exchange v j x y h a b f g e =
    omega (
      arith,
      sym (in_block v j x y h a b f),
      sym (in_block v j x y h a b g),
      sym (grid_add (size v) f (λ p q. only (same_block v j x y p q) (g p q))),
      sym (grid_add (size v) g (λ p q. only (same_block v j x y p q) (f p q))),
      grid_cong (size v) (λ p q. f p q + only (same_block v j x y p q) (g p q)) (λ p q. g p q + only (same_block v j x y p q) (f p q))
          (λ p q c d. one p q c d (same_block v j x y p q) refl),
    )
  where
    one : (p q : ℕ) → p < size v → q < size v → (t : Bool) → same_block v j x y p q ≡ t → f p q + only t (g p q) ≡ g p q + only t (f p q)
    one p q c d true t = omega arith
    one p q c d false t = omega (arith, e p q c d t)

-- ---- a block that is one leaf counts its water once
pub one_leaf : (w : View) (k X Y : ℕ) → k ≤ w.L → X < 2 ^ k → Y < 2 ^ k
    → ((i j : ℕ) → i < side_of w k → j < side_of w k → w.level (X * side_of w k + i) (Y * side_of w k + j) ≡ k)
    → block_sum w.L (λ p q. only (is_corner w p q) (water w p q)) (block k X Y) ≡ water w (X * side_of w k) (Y * side_of w k)
one_leaf w k X Y h a b lv =
    let s = side_of w k in
    let z = side_pos (w.L - k) in
    grid_cong s (λ i j. only (is_corner w (X * s + i) (Y * s + j)) (water w (X * s + i) (Y * s + j))) (λ i j. at 0 j (at 0 i (water w (X * s + i) (Y * s + j))))
    (λ i j c d.
    ap (λ m. only (corner_of (2 ^ (w.L - m)) (X * s + i) (Y * s + j)) (water w (X * s + i) (Y * s + j))) (lv i j c d)
    ∙ corner_is ((X * s + i) % s) ((Y * s + j) % s) (water w (X * s + i) (Y * s + j))
    ∙ (λ n. at 0 (digits_mod Y d n) (at 0 (digits_mod X c n) (water w (X * s + i) (Y * s + j)))))
    ∙ grid_at s 0 0 (λ i j. water w (X * s + i) (Y * s + j)) z z
    ∙ (let e : X * s + 0 ≡ X * s = omega arith in let f : Y * s + 0 ≡ Y * s = omega arith in λ n. water w (e n) (f n))

module _ (v : View) (good : Valid v) where
  -- a square's leaf is that of its corner
  pub corner_leaf : (p q k : ℕ) → p < size v → q < size v → v.level p q ≡ k
      → v.leaf p q ≡ v.leaf (p / side_of v k * side_of v k) (q / side_of v k * side_of v k)
  corner_leaf p q k a b e =
      let h : k ≤ v.L = omega (arith, good.quadtree.shallow p q a b) in
      let s = side_of v k in
      let z = side_pos (v.L - k) in
      let i = block_in v k p h a in
      let j = block_in v k q h b in
      let f : p / side_of v (v.level p q) ≡ p / s * s / side_of v (v.level p q) = rw e (sym (mul-div_cancel (p / s) z)) in
      let g : q / side_of v (v.level p q) ≡ q / s * s / side_of v (v.level p q) = rw e (sym (mul-div_cancel (q / s) z)) in
      sym (good.quadtree.uniform p q (p / s * s) (q / s * s) a b (omega (arith, inside v.L k (p / s) 0 h i z))
      (omega (arith, inside v.L k (q / s) 0 h j z)) f g).1

  module _ (x y : ℕ) (a : x < size v) (b : y < size v) where
    top : v.level x y ≤ v.L
    top = good.quadtree.shallow x y a b

    -- the square (X s + i, Y s + j) is in the block
    in_home : (k : ℕ) → k ≤ v.L → (i j : ℕ) → i < side_of v k → j < side_of v k
        → same_block v k x y (x / side_of v k * side_of v k + i) (y / side_of v k * side_of v k + j) ≡ true
    in_home k h i j c d = to_same_block v k x y _ _ (sym (digits_div (x / side_of v k) c)) (sym (digits_div (y / side_of v k) d))

    before : block_sum v.L (λ p q. only (is_corner v p q) (water v p q))
        (block (v.level x y) (x / side_of v (v.level x y)) (y / side_of v (v.level x y))) ≡ water v x y
    before =
        let k = v.level x y in
        let s = side_of v k in
        one_leaf v k (x / s) (y / s) top (block_in v k x top a) (block_in v k y top b)
        (λ i j c d. (inner v good x y a b (x / s * s + i) (y / s * s + j) (inside v.L k (x / s) i top (block_in v k x top a) c)
        (inside v.L k (y / s) j top (block_in v k y top b) d) (in_home k top i j c d)).0)
        ∙ ap (λ l. l.water) (sym (corner_leaf x y k a b refl))

    -- the leaf's record is replaced
    pub put_water : (l : Leaf) → all_water (put v x y l) + water v x y ≡ all_water v + l.water
    put_water l =
        let k = v.level x y in
        let s = side_of v k in
        omega (
          arith,
          exchange v k x y top a b (λ p q. only (is_corner v p q) (water (put v x y l) p q)) (λ p q. only (is_corner v p q) (water v p q))
              (λ p q c d t. ap (λ z. only (is_corner v p q) (cond z l (v.leaf p q)).water) t),
          before,
          one_leaf (put v x y l) k (x / s) (y / s) top (block_in v k x top a) (block_in v k y top b)
              (λ i j c d. (inner v good x y a b (x / s * s + i) (y / s * s + j) (inside v.L k (x / s) i top (block_in v k x top a) c)
              (inside v.L k (y / s) j top (block_in v k y top b) d) (in_home k top i j c d)).0),
          ap (λ z. (cond z l (v.leaf (x / s * s) (y / s * s))).water)
              (to_same_block v k x y (x / s * s) (y / s * s) (sym (mul-div_cancel (x / s) (side_pos (v.L - k))))
              (sym (mul-div_cancel (y / s) (side_pos (v.L - k))))),
        )

    -- ---- split
    -- the child with the corner (A, B)
    split_child : v.level x y < v.L → (A B : ℕ) → A / 2 ≡ x / side_of v (v.level x y) → B / 2 ≡ y / side_of v (v.level x y)
        → block_sum v.L (λ p q. only (is_corner (after_split v x y) p q) (water (after_split v x y) p q)) (block (suc (v.level x y)) A B)
        ≡ cond (wet v x y) (fill v x y / 4 - block_sum v.L v.bed (block (suc (v.level x y)) A B)) 0
    split_child h A B e f =
        let k = v.level x y in
        let s = side_of v (suc k) in
        let z = side_pos (v.L - suc k) in
        let t = twice v.L k h in
        let in_a : A < 2 ^ suc k = omega (arith, block_in v k x top a) in
        let in_b : B < 2 ^ suc k = omega (arith, block_in v k y top b) in
        let here : (i j : ℕ) → i < s → j < s → same_block v k x y (A * s + i) (B * s + j) ≡ true =
        λ i j c d. to_same_block v k x y (A * s + i) (B * s + j)
        (sym e ∙ ap (λ n. n / 2) (sym (digits_div A c)) ∙ div-div-eq-div-mul (A * s + i) s 2 ∙ ap (λ n. (A * s + i) / n) (sym t))
        (sym f ∙ ap (λ n. n / 2) (sym (digits_div B d)) ∙ div-div-eq-div-mul (B * s + j) s 2 ∙ ap (λ n. (B * s + j) / n) (sym t)) in
        let zx : A * s + 0 ≡ A * s = omega arith in
        let zy : B * s + 0 ≡ B * s = omega arith in
        let here₀ : same_block v k x y (A * s) (B * s) ≡ true = sym (λ n. same_block v k x y (zx n) (zy n)) ∙ here 0 0 z z in
        one_leaf (after_split v x y) (suc k) A B h in_a in_b (λ i j c d. ap (λ t. cond t (suc k) (v.level (A * s + i) (B * s + j))) (here i j c d))
        ∙ ap (λ t. (cond t (child v x y (A * s) (B * s)) (v.leaf (A * s) (B * s))).water) here₀
        ∙ ap (λ l. l) (drop (wet v x y) (area v (suc k)) _ _ _)
        ∙ (λ n. cond (wet v x y) (fill v x y / 4 - block_sum v.L v.bed (block (suc k) (mul-div_cancel A z n) (mul-div_cancel B z n))) 0)
      where
        drop : (t : Bool) (A V : ℕ) (X Y : ℤ) → (cond t (finish A V X Y) dry).water ≡ cond t V 0
        drop true A V X Y = refl
        drop false A V X Y = refl

    pub split_water : leb v.L (v.level x y) ≡ false → ((wet v x y ≡ true) → bare v x y ≡ false)
        → all_water (after_split v x y) + remainder v x y ≡ all_water v
    split_water t₅ t₇ =
        let k = v.level x y in
        let s = side_of v (suc k) in
        let X = x / side_of v k in
        let Y = y / side_of v k in
        let h : k < v.L = leb-false v.L k t₅ in
        let t = twice v.L k h in
        let w = after_split v x y in
        let F = λ (p q : ℕ). only (is_corner w p q) (water w p q) in
        omega (
          arith,
          exchange v k x y top a b F (λ p q. only (is_corner v p q) (water v p q))
              (λ p q c d u. ap (λ z. only (corner_of (2 ^ (v.L - cond z (suc k) (v.level p q))) p q) (cond z (child v x y p q) (v.leaf p q)).water) u),
          before,
          ap (λ n. patch n F X Y) t,
          patch_quarters s F X Y,
          ap (λ n. patch n v.bed X Y) t,
          patch_quarters s v.bed X Y,
          split_child h (X * 2) (Y * 2) (omega arith) (omega arith),
          split_child h (X * 2 + 1) (Y * 2) (omega arith) (omega arith),
          split_child h (X * 2) (Y * 2 + 1) (omega arith) (omega arith),
          split_child h (X * 2 + 1) (Y * 2 + 1) (omega arith) (omega arith),
          sums (wet v x y) refl (block_sum v.L v.bed (block (suc k) (X * 2) (Y * 2))) (block_sum v.L v.bed (block (suc k) (X * 2 + 1) (Y * 2)))
              (block_sum v.L v.bed (block (suc k) (X * 2) (Y * 2 + 1))) (block_sum v.L v.bed (block (suc k) (X * 2 + 1) (Y * 2 + 1)))
              (ap (λ n. patch n v.bed X Y) t ∙ patch_quarters s v.bed X Y)
              (λ e. room h (X * 2) (Y * 2) (omega arith) (omega arith) e) (λ e. room h (X * 2 + 1) (Y * 2) (omega arith) (omega arith) e)
              (λ e. room h (X * 2) (Y * 2 + 1) (omega arith) (omega arith) e) (λ e. room h (X * 2 + 1) (Y * 2 + 1) (omega arith) (omega arith) e),
        )
      where
        sums : (t : Bool) → wet v x y ≡ t → (z₁ z₂ z₃ z₄ : ℕ) → bed_sum v (v.level x y) x y ≡ z₁ + z₂ + (z₃ + z₄)
            → (t ≡ true → z₁ ≤ fill v x y / 4) → (t ≡ true → z₂ ≤ fill v x y / 4) → (t ≡ true → z₃ ≤ fill v x y / 4) → (t ≡ true → z₄ ≤ fill v x y / 4)
            → cond t (fill v x y / 4 - z₁) 0 + cond t (fill v x y / 4 - z₂) 0 + (cond t (fill v x y / 4 - z₃) 0 + cond t (fill v x y / 4 - z₄) 0)
            + cond t (fill v x y - 4 * (fill v x y / 4)) 0 ≡ water v x y
        sums true e z₁ z₂ z₃ z₄ g h₁ h₂ h₃ h₄ = omega (arith, h₁ refl, h₂ refl, h₃ refl, h₄ refl)
        sums false e z₁ z₂ z₃ z₄ g h₁ h₂ h₃ h₄ = omega (arith, ltb-false 0 (water v x y) e)

        room : v.level x y < v.L → (A B : ℕ) → A / 2 ≡ x / side_of v (v.level x y) → B / 2 ≡ y / side_of v (v.level x y) → wet v x y ≡ true
            → block_sum v.L v.bed (block (suc (v.level x y)) A B) ≤ fill v x y / 4
        room h A B e f u =
            let k = v.level x y in
            let s = side_of v (suc k) in
            let z = side_pos (v.L - suc k) in
            let t = twice v.L k h in
            let in_a : A < 2 ^ suc k = omega (arith, block_in v k x top a) in
            let in_b : B < 2 ^ suc k = omega (arith, block_in v k y top b) in
            let here : same_block v k x y (A * s) (B * s) ≡ true =
            to_same_block v k x y (A * s) (B * s)
            (sym e ∙ ap (λ n. n / 2) (sym (mul-div_cancel A z)) ∙ div-div-eq-div-mul (A * s) s 2 ∙ ap (λ n. A * s / n) (sym t))
            (sym f ∙ ap (λ n. n / 2) (sym (mul-div_cancel B z)) ∙ div-div-eq-div-mul (B * s) s 2 ∙ ap (λ n. B * s / n) (sym t)) in
            let n = not_and _ _ (none (size v) (λ p q. same_block v k x y p q && ltb (child_water v x y p q) 1) (t₇ u) (A * s) (B * s)
            (omega (arith, inside v.L (suc k) A 0 h in_a z)) (omega (arith, inside v.L (suc k) B 0 h in_b z))) here in
            let g : bed_sum v (suc k) (A * s) (B * s) ≡ block_sum v.L v.bed (block (suc k) A B) = λ i. block_sum v.L v.bed
            (block (suc k) (mul-div_cancel A z i) (mul-div_cancel B z i)) in
            omega (arith, ltb-false (child_water v x y (A * s) (B * s)) 1 n, g)

    -- ---- merge
    module _ (t₅ : (eqb (v.level x y) 0 || no_siblings v x y) ≡ false) where
      pub side_double : side_of v (pred (v.level x y)) ≡ side_of v (v.level x y) * 2
      side_double = go (v.level x y) (above v good x y a b t₅) top
        where
          go : (k : ℕ) → 0 < k → k ≤ v.L → side_of v (pred k) ≡ side_of v k * 2
          go zero z h = absurd (omega arith)
          go (suc k) z h = twice v.L k h

      low : pred (v.level x y) ≤ v.L
      low = omega (arith, top)

      corner_water : ℕ → ℕ → ℕ
      corner_water A B = water v (A * side_of v (v.level x y)) (B * side_of v (v.level x y))

      -- a sibling's square has the water of its corner
      at_corner : (p q : ℕ) → p < size v → q < size v → x / side_of v (pred (v.level x y)) ≡ p / side_of v (pred (v.level x y))
          → y / side_of v (pred (v.level x y)) ≡ q / side_of v (pred (v.level x y))
          → water v p q ≡ corner_water (p / side_of v (v.level x y)) (q / side_of v (v.level x y))
      unfolding corner_water
      at_corner p q c d e f = ap (λ l. l.water)
          (corner_leaf p q (v.level x y) c d (sibling v good x y a b t₅ p q c d (to_same_block v (pred (v.level x y)) x y p q e f)))

      merge_child : (A B : ℕ) → A / 2 ≡ x / side_of v (pred (v.level x y)) → B / 2 ≡ y / side_of v (pred (v.level x y))
          → block_sum v.L (λ p q. only (is_corner v p q) (water v p q)) (block (v.level x y) A B) ≡ corner_water A B
      unfolding corner_water
      merge_child A B e f =
          let k = v.level x y in
          let s = side_of v k in
          let t = side_double in
          let in_a : A < 2 ^ k = bound k A (above v good x y a b t₅) (omega (arith, block_in v (pred k) x low a)) in
          let in_b : B < 2 ^ k = bound k B (above v good x y a b t₅) (omega (arith, block_in v (pred k) y low b)) in
          one_leaf v k A B top in_a in_b (λ i j c d.
          sibling v good x y a b t₅ (A * s + i) (B * s + j) (inside v.L k A i top in_a c) (inside v.L k B j top in_b d)
          (to_same_block v (pred k) x y (A * s + i) (B * s + j)
          (sym e ∙ ap (λ n. n / 2) (sym (digits_div A c)) ∙ div-div-eq-div-mul (A * s + i) s 2 ∙ ap (λ n. (A * s + i) / n) (sym t))
          (sym f ∙ ap (λ n. n / 2) (sym (digits_div B d)) ∙ div-div-eq-div-mul (B * s + j) s 2 ∙ ap (λ n. (B * s + j) / n) (sym t))))
        where
          bound : (k A : ℕ) → 0 < k → A / 2 < 2 ^ pred k → A < 2 ^ k
          bound zero A z h = absurd (omega arith)
          bound (suc k) A z h = let p = native.Mathlib.Nat.pow-suc 2 k in omega arith

      pub merged_sum : ((merged v x y).water
          ≡ water v (x / side_of v (pred (v.level x y)) * 2 * side_of v (v.level x y)) (y / side_of v (pred (v.level x y)) * 2 * side_of v (v.level x y))
          + water v ((x / side_of v (pred (v.level x y)) * 2 + 1) * side_of v (v.level x y))
          (y / side_of v (pred (v.level x y)) * 2 * side_of v (v.level x y))
          + (water v (x / side_of v (pred (v.level x y)) * 2 * side_of v (v.level x y))
          ((y / side_of v (pred (v.level x y)) * 2 + 1) * side_of v (v.level x y))
          + water v ((x / side_of v (pred (v.level x y)) * 2 + 1) * side_of v (v.level x y))
          ((y / side_of v (pred (v.level x y)) * 2 + 1) * side_of v (v.level x y))))
      unfolding corner_water
      merged_sum =
          let k = v.level x y in
          let s = side_of v k in
          let S = side_of v (pred k) in
          let t = side_double in
          let hx : x / s / 2 ≡ x / S = div-div-eq-div-mul x s 2 ∙ ap (λ n. x / n) (sym t) in
          let hy : y / s / 2 ≡ y / S = div-div-eq-div-mul y s 2 ∙ ap (λ n. y / n) (sym t) in
          let tx = twin_x v good x y a b t₅ in
          let ty = twin_y v good x y a b t₅ in
          let ex = half_x v good x y a b t₅ in
          let ey = half_y v good x y a b t₅ in
          (λ i. at_corner x y a b refl refl i + at_corner (twin s x) y tx b ex refl i +
          (at_corner x (twin s y) a ty refl ey i + at_corner (twin s x) (twin s y) tx ty ex ey i))
          ∙ fourfold corner_water (x / s) (twin s x / s) (y / s) (twin s y / s) (x / S) (y / S) hx hy (twin_div s x (side_pos (v.L - k)))
          (twin_div s y (side_pos (v.L - k)))
        where
          fourfold : (c : ℕ → ℕ → ℕ) (q q̄ r r̄ P Q : ℕ) → q / 2 ≡ P → r / 2 ≡ Q → q̄ ≡ cond (eqb (q % 2) 0) (q + 1) (q - 1)
              → r̄ ≡ cond (eqb (r % 2) 0) (r + 1) (r - 1)
              → c q r + c q̄ r + (c q r̄ + c q̄ r̄) ≡ c (P * 2) (Q * 2) + c (P * 2 + 1) (Q * 2) + (c (P * 2) (Q * 2 + 1) + c (P * 2 + 1) (Q * 2 + 1))
          fourfold c q q̄ r r̄ P Q hq hr eq er = go (eqb (q % 2) 0) refl (eqb (r % 2) 0) refl
            where
              go : (t : Bool) → eqb (q % 2) 0 ≡ t → (u : Bool) → eqb (r % 2) 0 ≡ u
                  → c q r + c q̄ r + (c q r̄ + c q̄ r̄) ≡ c (P * 2) (Q * 2) + c (P * 2 + 1) (Q * 2) + (c (P * 2) (Q * 2 + 1) + c (P * 2 + 1) (Q * 2 + 1))
              go true t true u =
                  let et : q̄ ≡ q + 1 = eq ∙ ap (λ b. cond b (q + 1) (q - 1)) t in
                  let eu : r̄ ≡ r + 1 = er ∙ ap (λ b. cond b (r + 1) (r - 1)) u in
                  let pt = eqb-true (q % 2) 0 t in
                  let pu = eqb-true (r % 2) 0 u in
                  let a₁ : q ≡ P * 2 = omega arith in let a₂ : q̄ ≡ P * 2 + 1 = omega arith in
                  let b₁ : r ≡ Q * 2 = omega arith in let b₂ : r̄ ≡ Q * 2 + 1 = omega arith in
                  (λ i. c (a₁ i) (b₁ i) + c (a₂ i) (b₁ i) + (c (a₁ i) (b₂ i) + c (a₂ i) (b₂ i)))
              go false t true u =
                  let et : q̄ ≡ q - 1 = eq ∙ ap (λ b. cond b (q + 1) (q - 1)) t in
                  let eu : r̄ ≡ r + 1 = er ∙ ap (λ b. cond b (r + 1) (r - 1)) u in
                  let pt = eqb-false (q % 2) 0 t in
                  let pu = eqb-true (r % 2) 0 u in
                  let a₁ : q ≡ P * 2 + 1 = omega arith in let a₂ : q̄ ≡ P * 2 = omega arith in
                  let b₁ : r ≡ Q * 2 = omega arith in let b₂ : r̄ ≡ Q * 2 + 1 = omega arith in
                  (λ i. c (a₁ i) (b₁ i) + c (a₂ i) (b₁ i) + (c (a₁ i) (b₂ i) + c (a₂ i) (b₂ i))) ∙ omega arith
              go true t false u =
                  let et : q̄ ≡ q + 1 = eq ∙ ap (λ b. cond b (q + 1) (q - 1)) t in
                  let eu : r̄ ≡ r - 1 = er ∙ ap (λ b. cond b (r + 1) (r - 1)) u in
                  let pt = eqb-true (q % 2) 0 t in
                  let pu = eqb-false (r % 2) 0 u in
                  let a₁ : q ≡ P * 2 = omega arith in let a₂ : q̄ ≡ P * 2 + 1 = omega arith in
                  let b₁ : r ≡ Q * 2 + 1 = omega arith in let b₂ : r̄ ≡ Q * 2 = omega arith in
                  (λ i. c (a₁ i) (b₁ i) + c (a₂ i) (b₁ i) + (c (a₁ i) (b₂ i) + c (a₂ i) (b₂ i))) ∙ omega arith
              go false t false u =
                  let et : q̄ ≡ q - 1 = eq ∙ ap (λ b. cond b (q + 1) (q - 1)) t in
                  let eu : r̄ ≡ r - 1 = er ∙ ap (λ b. cond b (r + 1) (r - 1)) u in
                  let pt = eqb-false (q % 2) 0 t in
                  let pu = eqb-false (r % 2) 0 u in
                  let a₁ : q ≡ P * 2 + 1 = omega arith in let a₂ : q̄ ≡ P * 2 = omega arith in
                  let b₁ : r ≡ Q * 2 + 1 = omega arith in let b₂ : r̄ ≡ Q * 2 = omega arith in
                  (λ i. c (a₁ i) (b₁ i) + c (a₂ i) (b₁ i) + (c (a₁ i) (b₂ i) + c (a₂ i) (b₂ i))) ∙ omega arith

      pub merge_water : all_water (after_merge v x y) ≡ all_water v
      unfolding corner_water
      merge_water =
          let k = v.level x y in
          let s = side_of v k in
          let S = side_of v (pred k) in
          let P = x / S in
          let Q = y / S in
          let t = side_double in
          let w = after_merge v x y in
          let z = side_pos (v.L - pred k) in
          let F = λ (p q : ℕ). only (is_corner v p q) (water v p q) in
          let in_p = block_in v (pred k) x low a in
          let inQ = block_in v (pred k) y low b in
          let here : (i j : ℕ) → i < S → j < S → same_block v (pred k) x y (P * S + i) (Q * S + j) ≡ true = in_home (pred k) low in
          let here₀ : same_block v (pred k) x y (P * S) (Q * S)
          ≡ true = to_same_block v (pred k) x y (P * S) (Q * S) (sym (mul-div_cancel P z)) (sym (mul-div_cancel Q z)) in
          omega (
            arith,
            exchange v (pred k) x y low a b (λ p q. only (is_corner w p q) (water w p q)) F
                (λ p q c d u. ap (λ z. only (corner_of (2 ^ (v.L - cond z (pred k) (v.level p q))) p q) (cond z (merged v x y) (v.leaf p q)).water) u),
            one_leaf w (pred k) P Q low in_p inQ (λ i j c d. ap (λ t. cond t (pred k) (v.level (P * S + i) (Q * S + j))) (here i j c d)),
            ap (λ t. (cond t (merged v x y) (v.leaf (P * S) (Q * S))).water) here₀,
            ap (λ n. patch n F P Q) t,
            patch_quarters s F P Q,
            merge_child (P * 2) (Q * 2) (omega arith) (omega arith),
            merge_child (P * 2 + 1) (Q * 2) (omega arith) (omega arith),
            merge_child (P * 2) (Q * 2 + 1) (omega arith) (omega arith),
            merge_child (P * 2 + 1) (Q * 2 + 1) (omega arith) (omega arith),
            merged_sum,
          )
