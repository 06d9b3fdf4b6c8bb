-- The tree of a quadtree is sound.
use Rattle.std.proofs.Common.{◌≡◌, ℕ, zero, suc, pred, ◌+◌, ◌-◌, ◌*◌, ◌/◌, ◌%◌, ◌^◌, ◌<◌, ◌≤◌, false, ◌≢◌, sym, refl, ap, ◌∙◌, inl, inr, mul-le-mul_right, pow-suc, arith, pow-add}
use native.Mathlib.Nat.{div-div-eq-div-mul}
use lib.Arith.{digits_div, digits_lt}
use Rattle.std.proofs.lemmas.Bool.{cases_lt, eqb-false}
use Rattle.basin.specs.declared.dir.Dir.{Dir}
use Rattle.basin.specs.declared.dir.Dir.TheVariants.{East, North, West, South}
use Rattle.basin.specs.Blocks.{Block, block, Within}
use Rattle.basin.specs.Views.{View, Quadtree, size}
use Rattle.basin.proofs.Sizes.{side_pos, side_times}
use Rattle.runs.specs.Homes.{tree, sort}
use Rattle.runs.specs.Trees.{part, whole, cut, at_edge, beyond, parent, first, second}
use Rattle.runs.proofs.Sides.{Sound, within_beyond, parent_within, within_first, within_second}

-- levels of blocks beyond and of quarters
pub beyond_level : (p : Dir) (c : Block) → (beyond p c).k ≡ c.k
beyond_level East c = refl
beyond_level North c = refl
beyond_level West c = refl
beyond_level South c = refl

pub quarter_levels : (p : Dir) (b : Block) → ((first p b).k ≡ suc b.k) × ((second p b).k ≡ suc b.k)
quarter_levels East b = (refl, refl)
quarter_levels North b = (refl, refl)
quarter_levels West b = (refl, refl)
quarter_levels South b = (refl, refl)

-- kinds and levels
pub sort_below : (m k : ℕ) → m < k → sort m k ≡ part
sort_below m k h = grind arith

pub sort_at : (m k : ℕ) → m ≡ k → sort m k ≡ whole
sort_at m k h = grind arith

pub below_sort : (m k : ℕ) → sort m k ≡ part → m < k
below_sort m k h = grind arith

pub at_sort : (m k : ℕ) → sort m k ≡ whole → m ≡ k
at_sort m k h = grind arith

pub above_sort : (m k : ℕ) → sort m k ≡ cut → k < m
above_sort m k h = grind arith

not_above : (m k : ℕ) → m ≤ k → sort m k ≢ cut
not_above m k h e = omega (arith, above_sort m k e)

not_below : (m k : ℕ) → k ≤ m → sort m k ≢ part
not_below m k h e = omega (arith, below_sort m k e)

-- blocks within blocks
pub coarser : (L j k x x' : ℕ) → j ≤ k → k ≤ L → x / 2 ^ (L - k) ≡ x' / 2 ^ (L - k) → x / 2 ^ (L - j) ≡ x' / 2 ^ (L - j)
coarser L j k x x' h i e =
    let sum : L - j ≡ L - k + (k - j) = omega arith in
    let product : 2 ^ (L - j) ≡ 2 ^ (L - k) * 2 ^ (k - j) = ap (λ n. 2 ^ n) sum ∙ pow-add 2 (L - k) (k - j) in
    rw product (sym (div-div-eq-div-mul x (2 ^ (L - k)) (2 ^ (k - j))) ∙ ap (λ n. n / 2 ^ (k - j)) e ∙ div-div-eq-div-mul x' (2 ^ (L - k)) (2 ^ (k - j)))

pub twice : (L k : ℕ) → k < L → 2 ^ (L - k) ≡ 2 ^ (L - suc k) * 2
twice L k h = let e : L - k ≡ suc (L - suc k) = omega arith in ap (λ n. 2 ^ n) e ∙ pow-suc 2 (L - suc k)

-- the i-th place in the X-th block of level k
pub inside : (L k X i : ℕ) → k ≤ L → X < 2 ^ k → i < 2 ^ (L - k) → X * 2 ^ (L - k) + i < 2 ^ L
inside L k X i h a b = rw (side_times L k h) (digits_lt a b)

module _ (v : View) (valid : Quadtree v) where
  -- a square's level holds in its block, and in every smaller one that has the square
  pub agree : (k x y x' y' : ℕ) → k ≤ v.L → x < size v → y < size v → x' < size v → y' < size v
      → x / 2 ^ (v.L - k) ≡ x' / 2 ^ (v.L - k) → y / 2 ^ (v.L - k) ≡ y' / 2 ^ (v.L - k) → v.level x y ≤ k
      → (v.level x' y' ≡ v.level x y) × (v.leaf x' y' ≡ v.leaf x y)
  agree k x y x' y' h a b c d e f g =
      valid.uniform x y x' y' a b c d (coarser v.L (v.level x y) k x x' g h e) (coarser v.L (v.level x y) k y y' g h f)

  low : Block → ℕ
  low c = v.level (c.X * 2 ^ (v.L - c.k)) (c.Y * 2 ^ (v.L - c.k))

  -- two squares of one block, where the first has a level of at most the block's
  agree_in : (c : Block) → Within v.L c → (i j i' j' : ℕ) → i < 2 ^ (v.L - c.k) → j < 2 ^ (v.L - c.k) → i' < 2 ^ (v.L - c.k) → j' < 2 ^ (v.L - c.k)
      → v.level (c.X * 2 ^ (v.L - c.k) + i) (c.Y * 2 ^ (v.L - c.k) + j) ≤ c.k
      → v.level (c.X * 2 ^ (v.L - c.k) + i') (c.Y * 2 ^ (v.L - c.k) + j') ≡ v.level (c.X * 2 ^ (v.L - c.k) + i) (c.Y * 2 ^ (v.L - c.k) + j)
  agree_in c w i j i' j' a b a' b' h =
      let s = 2 ^ (v.L - c.k) in
      (agree c.k (c.X * s + i) (c.Y * s + j) (c.X * s + i') (c.Y * s + j') w.deep
      (inside v.L c.k c.X i w.deep w.east a) (inside v.L c.k c.Y j w.deep w.north b)
      (inside v.L c.k c.X i' w.deep w.east a') (inside v.L c.k c.Y j' w.deep w.north b')
      (digits_div c.X a ∙ sym (digits_div c.X a')) (digits_div c.Y b ∙ sym (digits_div c.Y b')) h).0

  low_is : (c : Block) → v.level (c.X * 2 ^ (v.L - c.k) + 0) (c.Y * 2 ^ (v.L - c.k) + 0) ≡ low c
  unfolding low
  low_is c =
      let a : c.X * 2 ^ (v.L - c.k) + 0 ≡ c.X * 2 ^ (v.L - c.k) = omega arith in
      let b : c.Y * 2 ^ (v.L - c.k) + 0 ≡ c.Y * 2 ^ (v.L - c.k) = omega arith in
      cc

  -- from the corner to any square of a block, and back
  from_low : (c : Block) → Within v.L c → (i j : ℕ) → i < 2 ^ (v.L - c.k) → j < 2 ^ (v.L - c.k) → low c ≤ c.k
      → v.level (c.X * 2 ^ (v.L - c.k) + i) (c.Y * 2 ^ (v.L - c.k) + j) ≡ low c
  from_low c w i j a b h =
      let z = side_pos (v.L - c.k) in
      agree_in c w 0 0 i j z z a b (omega (arith, low_is c)) ∙ low_is c

  to_low : (c : Block) → Within v.L c → (i j : ℕ) → i < 2 ^ (v.L - c.k) → j < 2 ^ (v.L - c.k)
      → v.level (c.X * 2 ^ (v.L - c.k) + i) (c.Y * 2 ^ (v.L - c.k) + j) ≤ c.k
      → low c ≡ v.level (c.X * 2 ^ (v.L - c.k) + i) (c.Y * 2 ^ (v.L - c.k) + j)
  to_low c w i j a b h =
      let z = side_pos (v.L - c.k) in
      sym (low_is c) ∙ agree_in c w i j 0 0 a b z z h

  -- a quarter's corner stands in the block
  quarter_place : (k X : ℕ) → suc k ≤ v.L → (i : ℕ) × (i < 2 ^ (v.L - k)) × (X * 2 ^ (v.L - suc k) ≡ X / 2 * 2 ^ (v.L - k) + i)
  quarter_place k X h =
      let s = 2 ^ (v.L - suc k) in
      let t = twice v.L k h in
      let pos = side_pos (v.L - suc k) in
      let r : X ≡ X / 2 * 2 + X % 2 = omega arith in
      let le : X % 2 * s ≤ 1 * s = mul-le-mul_right s (omega arith) in
      (X % 2 * s, omega arith, omega (arith, ap (λ n. n * s) r, ap (λ n. X / 2 * n) t))

  parent_in : (k X Y : ℕ) → Within v.L (block (suc k) X Y) → Within v.L (block k (X / 2) (Y / 2))
  parent_in k X Y w = parent_within v.L (block (suc k) X Y) w

  down_one : (k X Y : ℕ) → Within v.L (block (suc k) X Y) → low (block k (X / 2) (Y / 2)) ≤ k → low (block (suc k) X Y) ≡ low (block k (X / 2) (Y / 2))
  unfolding low
  down_one k X Y w h =
      let a = quarter_place k X w.deep in
      let b = quarter_place k Y w.deep in
      ap (λ x. v.level x (Y * 2 ^ (v.L - suc k))) a.2 ∙ ap (λ y. v.level (X / 2 * 2 ^ (v.L - k) + a.0) y) b.2
      ∙ from_low (block k (X / 2) (Y / 2)) (parent_in k X Y w) a.0 b.0 a.1 b.1 h

  up_one : (k X Y : ℕ) → Within v.L (block (suc k) X Y) → low (block (suc k) X Y) ≤ k → low (block k (X / 2) (Y / 2)) ≡ low (block (suc k) X Y)
  unfolding low
  up_one k X Y w h =
      let a = quarter_place k X w.deep in
      let b = quarter_place k Y w.deep in
      let e : low (block (suc k) X Y) ≡ v.level (X / 2 * 2 ^ (v.L - k) + a.0) (Y / 2 * 2 ^ (v.L - k) + b.0) =
      ap (λ x. v.level x (Y * 2 ^ (v.L - suc k))) a.2 ∙ ap (λ y. v.level (X / 2 * 2 ^ (v.L - k) + a.0) y) b.2 in
      to_low (block k (X / 2) (Y / 2)) (parent_in k X Y w) a.0 b.0 a.1 b.1 (omega (arith, e)) ∙ sym e

  -- the squares of the block beyond that lie along the face
  along_x : Dir → ℕ → ℕ → ℕ
  along_x East s j = 0
  along_x North s j = j
  along_x West s j = s - 1
  along_x South s j = j

  along_y : Dir → ℕ → ℕ → ℕ
  along_y East s j = j
  along_y North s j = 0
  along_y West s j = j
  along_y South s j = s - 1

  facing : Dir → Block → ℕ → ℕ
  facing p b j = v.level (b.X * 2 ^ (v.L - b.k) + along_x p (2 ^ (v.L - b.k)) j) (b.Y * 2 ^ (v.L - b.k) + along_y p (2 ^ (v.L - b.k)) j)

  next_to : (k x y x' y' m : ℕ) → x < size v → y < size v → x' < size v → y' < size v
      → x ≤ x' + 1 → x' ≤ x + 1 → y ≤ y' + 1 → y' ≤ y + 1 → v.level x y ≡ k → (k ≤ v.level x' y' + 1) × (v.level x' y' ≤ k + 1)
  next_to k x y x' y' m a b a' b' c d e f g =
      (omega (arith, valid.balanced x y x' y' a b a' b' c d e f), omega (arith, valid.balanced x' y' x y a' b' a b d c f e))

  touch : (p : Dir) (c : Block) → Within v.L c → low c ≡ c.k → at_edge p c ≡ false → (j : ℕ) → j < 2 ^ (v.L - c.k)
      → (c.k ≤ facing p (beyond p c) j + 1) × (facing p (beyond p c) j ≤ c.k + 1)
  unfolding facing along_x along_y
  touch East c w h e j a =
      let s = 2 ^ (v.L - c.k) in
      let z = side_pos (v.L - c.k) in
      let b = within_beyond v.L East c w e in
      next_to c.k (c.X * s + (s - 1)) (c.Y * s + j) ((c.X + 1) * s + 0) (c.Y * s + j) 0
      (inside v.L c.k c.X (s - 1) w.deep w.east (omega arith)) (inside v.L c.k c.Y j w.deep w.north a)
      (inside v.L c.k (c.X + 1) 0 w.deep b.east z) (inside v.L c.k c.Y j w.deep w.north a)
      (omega arith) (omega arith) (omega arith) (omega arith)
      (from_low c w (s - 1) j (omega arith) a (omega arith) ∙ h)
  touch North c w h e j a =
      let s = 2 ^ (v.L - c.k) in
      let z = side_pos (v.L - c.k) in
      let b = within_beyond v.L North c w e in
      next_to c.k (c.X * s + j) (c.Y * s + (s - 1)) (c.X * s + j) ((c.Y + 1) * s + 0) 0
      (inside v.L c.k c.X j w.deep w.east a) (inside v.L c.k c.Y (s - 1) w.deep w.north (omega arith))
      (inside v.L c.k c.X j w.deep w.east a) (inside v.L c.k (c.Y + 1) 0 w.deep b.north z)
      (omega arith) (omega arith) (omega arith) (omega arith)
      (from_low c w j (s - 1) a (omega arith) (omega arith) ∙ h)
  touch West c w h e j a =
      let s = 2 ^ (v.L - c.k) in
      let z = side_pos (v.L - c.k) in
      let b = within_beyond v.L West c w e in
      let one : c.X ≡ c.X - 1 + 1 = omega (arith, eqb-false c.X 0 e) in
      let off : c.X * s ≡ (c.X - 1) * s + s = ap (λ n. n * s) one ∙ omega arith in
      next_to c.k (c.X * s + 0) (c.Y * s + j) ((c.X - 1) * s + (s - 1)) (c.Y * s + j) 0
      (inside v.L c.k c.X 0 w.deep w.east z) (inside v.L c.k c.Y j w.deep w.north a)
      (inside v.L c.k (c.X - 1) (s - 1) w.deep b.east (omega arith)) (inside v.L c.k c.Y j w.deep w.north a)
      (omega arith) (omega arith) (omega arith) (omega arith)
      (from_low c w 0 j z a (omega arith) ∙ h)
  touch South c w h e j a =
      let s = 2 ^ (v.L - c.k) in
      let z = side_pos (v.L - c.k) in
      let b = within_beyond v.L South c w e in
      let one : c.Y ≡ c.Y - 1 + 1 = omega (arith, eqb-false c.Y 0 e) in
      let off : c.Y * s ≡ (c.Y - 1) * s + s = ap (λ n. n * s) one ∙ omega arith in
      next_to c.k (c.X * s + j) (c.Y * s + 0) (c.X * s + j) ((c.Y - 1) * s + (s - 1)) 0
      (inside v.L c.k c.X j w.deep w.east a) (inside v.L c.k c.Y 0 w.deep w.north z)
      (inside v.L c.k c.X j w.deep w.east a) (inside v.L c.k (c.Y - 1) (s - 1) w.deep b.north (omega arith))
      (omega arith) (omega arith) (omega arith) (omega arith)
      (from_low c w j 0 a z (omega arith) ∙ h)

  offsets : (p : Dir) (s j : ℕ) → j < s → (along_x p s j < s) × (along_y p s j < s)
  unfolding along_x along_y
  offsets East s j h = omega arith
  offsets North s j h = omega arith
  offsets West s j h = omega arith
  offsets South s j h = omega arith

  -- a leaf's larger neighbour
  is_larger : (p : Dir) (c : Block) → Within v.L c → low c ≡ c.k → at_edge p c ≡ false → low (beyond p c) < c.k
      → low (parent (beyond p c)) ≡ (parent (beyond p c)).k
  unfolding facing
  is_larger p c w h e l =
      let b = within_beyond v.L p c w e in
      let lk = beyond_level p c in
      let z = side_pos (v.L - (beyond p c).k) in
      let z' = side_pos (v.L - c.k) in
      let o = offsets p (2 ^ (v.L - (beyond p c).k)) 0 z in
      let f : facing p (beyond p c) 0 ≡ low (beyond p c) = from_low (beyond p c) b (along_x p (2 ^ (v.L - (beyond p c).k)) 0)
      (along_y p (2 ^ (v.L - (beyond p c).k)) 0) o.0 o.1 (omega arith) in
      go (beyond p c).k (beyond p c).X (beyond p c).Y b (omega (arith, (touch p c w h e 0 z').0))
    where
      go : (k X Y : ℕ) → Within v.L (block k X Y) → suc (low (block k X Y)) ≡ k → low (block (pred k) (X / 2) (Y / 2)) ≡ pred k
      go zero X Y w q = absurd (omega arith)
      go (suc k) X Y w q = up_one k X Y w (omega arith) ∙ (omega arith)

  -- a square of a quarter beside a leaf has the quarter's level
  is_smaller : (p : Dir) (c : Block) → Within v.L c → low c ≡ c.k → at_edge p c ≡ false → c.k < low (beyond p c) → (j : ℕ) → j < 2 ^ (v.L - c.k)
      → facing p (beyond p c) j ≡ suc c.k
  unfolding facing
  is_smaller p c w h e l j a =
      let b = within_beyond v.L p c w e in
      let lk = beyond_level p c in
      let a' : j < 2 ^ (v.L - (beyond p c).k) = rw lk a in
      let o = offsets p (2 ^ (v.L - (beyond p c).k)) j a' in
      let near = touch p c w h e j a in
      elim (cases_lt c.k (facing p (beyond p c) j)) [
        | inl m ↦ omega (arith, near.1)
        | inr m ↦ absurd (omega (
          arith,
          to_low (beyond p c) b (along_x p (2 ^ (v.L - (beyond p c).k)) j) (along_y p (2 ^ (v.L - (beyond p c).k)) j)
              o.0 o.1 (omega arith),
        ))
      ]

  quarter_level : (k A B i j x y : ℕ) → Within v.L (block (suc k) A B) → i < 2 ^ (v.L - suc k) → j < 2 ^ (v.L - suc k)
      → x ≡ A * 2 ^ (v.L - suc k) + i → y ≡ B * 2 ^ (v.L - suc k) + j → v.level x y ≡ suc k → low (block (suc k) A B) ≡ suc k
  quarter_level k A B i j x y w a b e f h =
      let g : v.level (A * 2 ^ (v.L - suc k) + i) (B * 2 ^ (v.L - suc k) + j)
      ≡ suc k = sym (ap (λ n. v.level n y) e ∙ ap (λ n. v.level (A * 2 ^ (v.L - suc k) + i) n) f) ∙ h in
      to_low (block (suc k) A B) w i j a b (omega (arith, g)) ∙ g

  quarters_are : (p : Dir) (b : Block) → Within v.L b → b.k < v.L → facing p b 0 ≡ suc b.k → facing p b (2 ^ (v.L - suc b.k)) ≡ suc b.k
      → (low (first p b) ≡ suc b.k) × (low (second p b) ≡ suc b.k)
  unfolding facing along_x along_y
  quarters_are East b w h f g =
      let t = twice v.L b.k h in
      let z = side_pos (v.L - suc b.k) in
      let s = 2 ^ (v.L - suc b.k) in
      let sx = ap (λ n. b.X * n) t in
      let sy = ap (λ n. b.Y * n) t in (
        quarter_level b.k (b.X * 2) (b.Y * 2) 0 0 _ _ (within_first v.L East b w h) (omega arith) (omega arith) (omega arith) (omega arith) f,
        quarter_level b.k (b.X * 2) (b.Y * 2 + 1) 0 0 _ _ (within_second v.L East b w h) (omega arith) (omega arith) (omega arith) (omega arith) g,
      )
  quarters_are North b w h f g =
      let t = twice v.L b.k h in
      let z = side_pos (v.L - suc b.k) in
      let s = 2 ^ (v.L - suc b.k) in
      let sx = ap (λ n. b.X * n) t in
      let sy = ap (λ n. b.Y * n) t in (
        quarter_level b.k (b.X * 2) (b.Y * 2) 0 0 _ _ (within_first v.L North b w h) (omega arith) (omega arith) (omega arith) (omega arith) f,
        quarter_level b.k (b.X * 2 + 1) (b.Y * 2) 0 0 _ _ (within_second v.L North b w h) (omega arith) (omega arith) (omega arith) (omega arith) g,
      )
  quarters_are West b w h f g =
      let t = twice v.L b.k h in
      let z = side_pos (v.L - suc b.k) in
      let s = 2 ^ (v.L - suc b.k) in
      let sx = ap (λ n. b.X * n) t in
      let sy = ap (λ n. b.Y * n) t in (
        quarter_level b.k (b.X * 2 + 1) (b.Y * 2) (s - 1) 0 _ _ (within_first v.L West b w h) (omega arith) (omega arith) (omega arith) (omega arith) f,
        quarter_level b.k (b.X * 2 + 1) (b.Y * 2 + 1) (s - 1) 0 _ _ (within_second v.L West b w h) (omega arith) (omega arith) (omega arith)
            (omega arith) g,
      )
  quarters_are South b w h f g =
      let t = twice v.L b.k h in
      let z = side_pos (v.L - suc b.k) in
      let s = 2 ^ (v.L - suc b.k) in
      let sx = ap (λ n. b.X * n) t in
      let sy = ap (λ n. b.Y * n) t in (
        quarter_level b.k (b.X * 2) (b.Y * 2 + 1) 0 (s - 1) _ _ (within_first v.L South b w h) (omega arith) (omega arith) (omega arith)
            (omega arith) f,
        quarter_level b.k (b.X * 2 + 1) (b.Y * 2 + 1) 0 (s - 1) _ _ (within_second v.L South b w h) (omega arith) (omega arith) (omega arith)
            (omega arith) g,
      )

  is_quartered : (p : Dir) (c : Block) → Within v.L c → low c ≡ c.k → at_edge p c ≡ false → c.k < low (beyond p c)
      → (low (first p (beyond p c)) ≡ suc c.k) × (low (second p (beyond p c)) ≡ suc c.k)
  unfolding low
  is_quartered p c w h e l =
      let b = within_beyond v.L p c w e in
      let lk = beyond_level p c in
      let deep : low (beyond p c) ≤ v.L = valid.shallow ((beyond p c).X * 2 ^ (v.L - (beyond p c).k)) ((beyond p c).Y * 2 ^ (v.L - (beyond p c).k))
      (corner_in (beyond p c).k (beyond p c).X b.deep b.east) (corner_in (beyond p c).k (beyond p c).Y b.deep b.north) in
      let s = twice v.L c.k (omega arith) in
      let z = side_pos (v.L - suc c.k) in
      let first_one : facing p (beyond p c) 0 ≡ suc (beyond p c).k = is_smaller p c w h e l 0 (omega arith) ∙ ap suc (sym lk) in
      let half : 2 ^ (v.L - suc (beyond p c).k) ≡ 2 ^ (v.L - suc c.k) = ap (λ k. 2 ^ (v.L - suc k)) lk in
      let second-one : facing p (beyond p c) (2 ^ (v.L - suc (beyond p c).k)) ≡ suc (beyond p c).k =
      is_smaller p c w h e l (2 ^ (v.L - suc (beyond p c).k)) (omega arith) ∙ ap suc (sym lk) in
      let q = quarters_are p (beyond p c) b (omega arith) first_one second-one in
      (q.0 ∙ ap suc lk, q.1 ∙ ap suc lk)
    where
      corner_in : (k X : ℕ) → k ≤ v.L → X < 2 ^ k → X * 2 ^ (v.L - k) < 2 ^ v.L
      corner_in k X h a = omega (arith, inside v.L k X 0 h a (side_pos (v.L - k)))

  pub sound : Sound (tree v)
  unfolding low
  sound =
      record {
        below_part = λ k X Y w h. let l = below_sort (low (block k (X / 2) (Y / 2))) k h in sort_below (low (block (suc k) X Y)) (suc k)
            (omega (arith, down_one k X Y w (omega arith)));
        below_whole = λ k X Y w h. let l = at_sort (low (block k (X / 2) (Y / 2))) k h in sort_below (low (block (suc k) X Y)) (suc k)
            (omega (arith, down_one k X Y w (omega arith)));
        below_cut = λ k X Y w h e.
            let l = above_sort (low (block k (X / 2) (Y / 2))) k h in
            let m = below_sort (low (block (suc k) X Y)) (suc k) e in
            omega (arith, up_one k X Y w (omega arith));
        finest = λ X Y w. not_above (low (block v.L X Y)) v.L
            (valid.shallow (X * 2 ^ (v.L - v.L)) (Y * 2 ^ (v.L - v.L)) (whole_in X w.east) (whole_in Y w.north));
        root = not_below (low (block 0 0 0)) 0 (omega arith);
        larger = λ p c w h e f.
            let lk = beyond_level p c in
            let l = below_sort (low (beyond p c)) (beyond p c).k f in
            sort_at (low (parent (beyond p c))) (parent (beyond p c)).k (is_larger p c w (at_sort (low c) c.k h) e (omega arith));
        smaller = λ p c w h e f.
            let lk = beyond_level p c in
            let l = above_sort (low (beyond p c)) (beyond p c).k f in
            let q = is_quartered p c w (at_sort (low c) c.k h) e (omega arith) in
            let n = quarter_levels p (beyond p c) in (
              sort_at (low (first p (beyond p c))) (first p (beyond p c)).k (omega (arith, q, n)),
              sort_at (low (second p (beyond p c))) (second p (beyond p c)).k (omega (arith, q, n)),
            );
      }
    where
      whole_in : (X : ℕ) → X < 2 ^ v.L → X * 2 ^ (v.L - v.L) < 2 ^ v.L
      whole_in X a = let e : v.L - v.L ≡ 0 = omega arith in rw e (omega arith)
