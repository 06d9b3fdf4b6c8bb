-- Steps by squares: conservation, standing water and flips.
use Rattle.std.proofs.Common.{◌≡◌, ℕ, ◌+◌, ◌-◌, ◌*◌, ◌/◌, ◌%◌, ◌^◌, ◌<◌, ◌≤◌, sym, refl, ap, ◌∙◌, inl, inr, mod-lt, div-lt_iff_lt-mul, div-add-mod', mul-div_cancel, arith}
use lib.Arith.{digits_div}
use Rattle.std.proofs.lemmas.Bool.{cases_lt}
use Rattle.basin.specs.Blocks.{Block, block, Within}
use Rattle.basin.specs.Totals.{all_water}
use Rattle.basin.specs.Views.{View, Quadtree, size}
use Rattle.basin.proofs.Flat.{sum_below_cong}
use Rattle.basin.proofs.Sizes.{side_pos, side_times}
use Rattle.runs.specs.Homes.{tree, sort, home, after_step}
use Rattle.runs.specs.Overs.{over}
use Rattle.runs.specs.Rules.{Rule, Lawful}
use Rattle.runs.specs.Step.{stepped, new_water}
use Rattle.runs.specs.Trees.{whole, cut, leaves}
use Rattle.runs.specs.Turns.{flip_leaf, flip_view}
use Rattle.runs.proofs.Corners.{corners}
use Rattle.runs.proofs.Limits.{Bounded}
use Rattle.runs.proofs.Rest.{Still, still_stepped}
use Rattle.runs.proofs.Sounds.{sound, inside, agree, sort_at, at_sort}
use Rattle.runs.proofs.Sums.{grid_cong, grid_flip}
use Rattle.runs.proofs.Turns.{flip, flip_within}
use Rattle.runs.proofs.Water.{conserved, leaves_cong}

-- the corner of a leaf is at home in it
pub at_home : (v : View) (c : Block) → Within v.L c → (tree v).kind c ≡ whole → home v (c.X * 2 ^ (v.L - c.k)) (c.Y * 2 ^ (v.L - c.k)) ≡ c
at_home v c w h =
    let s = 2 ^ (v.L - c.k) in
    let e : v.level (c.X * s) (c.Y * s) ≡ c.k = at_sort (v.level (c.X * s) (c.Y * s)) c.k h in
    ap (λ k. block k (c.X * s / 2 ^ (v.L - k)) (c.Y * s / 2 ^ (v.L - k))) e
    ∙ ap (λ x. block c.k x (c.Y * s / s)) (mul-div_cancel c.X (side_pos (v.L - c.k)))
    ∙ ap (λ y. block c.k c.X y) (mul-div_cancel c.Y (side_pos (v.L - c.k)))

-- a step keeps all water
pub step_keeps : (v : View) → Quadtree v → (R : Rule) (T : ℕ) → all_water (after_step R T v) ≡ all_water v
unfolding leaves
step_keeps v valid R T =
    corners (after_step R T v) valid.shallow (λ x y. (stepped R T (tree v) (home v x y)).water)
    ∙ leaves_cong (tree v) (λ c. (stepped R T (tree v) (home v (c.X * 2 ^ (v.L - c.k)) (c.Y * 2 ^ (v.L - c.k)))).water) (λ c. new_water R T (tree v) c)
    (λ c w h. ap (λ b. new_water R T (tree v) b) (at_home v c w h))
    ∙ conserved (tree v) (sound v valid) R T
    ∙ sym (corners v valid.shallow (λ x y. (v.leaf x y).water))

-- ---- flipping a place, and its block
flip_place : (L k x : ℕ) → k ≤ L → x < 2 ^ L → (q : ℕ) × (r : ℕ) × (r < 2 ^ (L - k)) × (q < 2 ^ k) × (x ≡ q * 2 ^ (L - k) + r)
flip_place L k x h a =
    let s = 2 ^ (L - k) in
    let z = side_pos (L - k) in
    let e = side_times L k h in
    let b : x < 2 ^ k * s = rw e at a in
    (x / s, x % s, mod-lt x z, (div-lt_iff_lt-mul z).1 b, sym (div-add-mod' x s))

pub flip_digits : (n m s q r : ℕ) → n ≡ m * s → q < m → r < s → n - 1 - (q * s + r) ≡ (m - 1 - q) * s + (s - 1 - r)
flip_digits n m s q r e a b =
    let p = m - 1 - q in
    let sum : m ≡ p + q + 1 = omega arith in
    let all : n ≡ (p + q + 1) * s = e ∙ ap (λ x. x * s) sum in
    omega arith

pub flip_div : (L k x : ℕ) → k ≤ L → x < 2 ^ L → (2 ^ L - 1 - x) / 2 ^ (L - k) ≡ 2 ^ k - 1 - x / 2 ^ (L - k)
flip_div L k x h a =
    let s = 2 ^ (L - k) in
    let z = side_pos (L - k) in
    let e = side_times L k h in
    let b : x < 2 ^ k * s = rw e at a in
    let q : x / s < 2 ^ k = (div-lt_iff_lt-mul z).1 b in
    let r : x % s < s = mod-lt x z in
    ap (λ y. (2 ^ L - 1 - y) / s) (sym (div-add-mod' x s))
    ∙ ap (λ y. y / s) (flip_digits (2 ^ L) (2 ^ k) s (x / s) (x % s) e q r)
    ∙ digits_div (2 ^ k - 1 - x / s) (omega arith)

sort_above : (m k : ℕ) → k < m → sort m k ≡ cut
sort_above m k h = grind arith

pub home_within : (v : View) → Quadtree v → (x y : ℕ) → x < size v → y < size v → Within v.L (home v x y) × ((tree v).kind (home v x y) ≡ whole)
home_within v valid x y a b =
    let k = v.level x y in
    let s = 2 ^ (v.L - k) in
    let z = side_pos (v.L - k) in
    let h : k ≤ v.L = valid.shallow x y a b in
    let e = side_times v.L k h in
    let a' : x < 2 ^ k * s = rw e at a in
    let b' : y < 2 ^ k * s = rw e at b in
    let i : x / s < 2 ^ k = (div-lt_iff_lt-mul z).1 a' in
    let j : y / s < 2 ^ k = (div-lt_iff_lt-mul z).1 b' in
    let u = valid.uniform x y (x / s * s) (y / s * s) a b (omega (arith, inside v.L k (x / s) 0 h i z)) (omega (arith, inside v.L k (y / s) 0 h j z))
    (sym (mul-div_cancel (x / s) z)) (sym (mul-div_cancel (y / s) z)) in
    (record { deep = h; east = i; north = j }, sort_at (v.level (x / s * s) (y / s * s)) k u.0)

module _ (v : View) (valid : Quadtree v) where
  -- the corner of a block of the flipped view is the south-east square of the block that it came from
  came_x : (c : Block) → Within v.L c → size v - 1 - c.X * 2 ^ (v.L - c.k) ≡ (flip c).X * 2 ^ (v.L - c.k) + (2 ^ (v.L - c.k) - 1)
  came_x c w =
      let s = 2 ^ (v.L - c.k) in
      let z = side_pos (v.L - c.k) in
      ap (λ x. size v - 1 - x) (omega arith)
      ∙ flip_digits (size v) (2 ^ c.k) s c.X 0 (side_times v.L c.k w.deep) w.east z
      ∙ omega arith

  pub both : (c : Block) → Within v.L c → (i : ℕ) → i < 2 ^ (v.L - c.k)
      → let a : ℕ = v.level (c.X * 2 ^ (v.L - c.k)) (c.Y * 2 ^ (v.L - c.k)) in
      let b : ℕ = v.level (c.X * 2 ^ (v.L - c.k) + i) (c.Y * 2 ^ (v.L - c.k)) in
      ((a ≤ c.k → (b ≡ a) × (v.leaf (c.X * 2 ^ (v.L - c.k) + i) (c.Y * 2 ^ (v.L - c.k))
      ≡ v.leaf (c.X * 2 ^ (v.L - c.k)) (c.Y * 2 ^ (v.L - c.k)))) × (b ≤ c.k → a ≡ b))
  both c w i h =
      let s = 2 ^ (v.L - c.k) in
      let z = side_pos (v.L - c.k) in
      let x₀ : c.X * s < size v = omega (arith, inside v.L c.k c.X 0 w.deep w.east z) in
      let y₀ : c.Y * s < size v = omega (arith, inside v.L c.k c.Y 0 w.deep w.north z) in
      let x₁ : c.X * s + i < size v = inside v.L c.k c.X i w.deep w.east h in
      let e : c.X * s / s ≡ (c.X * s + i) / s = mul-div_cancel c.X z ∙ sym (digits_div c.X h) in (
        λ l. agree v valid c.k (c.X * s) (c.Y * s) (c.X * s + i) (c.Y * s) w.deep x₀ y₀ x₁ y₀ e refl l,
        λ l. (agree v valid c.k (c.X * s + i) (c.Y * s) (c.X * s) (c.Y * s) w.deep x₁ y₀ x₀ y₀ (sym e) refl l).0,
      )

  pub same_sort : (a b k : ℕ) → (a ≤ k → b ≡ a) → (b ≤ k → a ≡ b) → sort b k ≡ sort a k
  same_sort a b k f g =
      elim (cases_lt k a) [
        | inr l ↦ ap (λ m. sort m k) (f l)
        | inl l ↦ elim (cases_lt k b) [ inr m ↦ ap (λ m. sort m k) (sym (g m)) | inl m ↦ sort_above b k m ∙ sym (sort_above a k l) ]
      ]

  pub flip_kind : (c : Block) → Within v.L c → (tree (flip_view v)).kind c ≡ (tree v).kind (flip c)
  flip_kind c w =
      let s = 2 ^ (v.L - c.k) in
      let z = side_pos (v.L - c.k) in
      let q = both (flip c) (flip_within v.L c w) (s - 1) (omega arith) in
      ap (λ x. sort (v.level x (c.Y * s)) c.k) (came_x c w)
      ∙ same_sort (v.level ((flip c).X * s) (c.Y * s)) (v.level ((flip c).X * s + (s - 1)) (c.Y * s)) c.k (λ l. (q.0 l).0) q.1

  pub flip_leaves : (c : Block) → Within v.L c → (tree (flip_view v)).kind c ≡ whole → (tree (flip_view v)).leaf c ≡ flip_leaf ((tree v).leaf (flip c))
  flip_leaves c w h =
      let s = 2 ^ (v.L - c.k) in
      let z = side_pos (v.L - c.k) in
      let q = both (flip c) (flip_within v.L c w) (s - 1) (omega arith) in
      let k : v.level ((flip c).X * s) (c.Y * s) ≡ c.k = at_sort (v.level ((flip c).X * s) (c.Y * s)) c.k (sym (flip_kind c w) ∙ h) in
      ap (λ x. flip_leaf (v.leaf x (c.Y * s))) (came_x c w) ∙ ap flip_leaf (q.0 (omega arith)).1

  pub flip_beds : (c : Block) → Within v.L c → (tree (flip_view v)).beds c ≡ (tree v).beds (flip c)
  flip_beds c w =
      let s = 2 ^ (v.L - c.k) in
      grid_cong s _ (λ i j. v.bed ((flip c).X * s + (s - 1 - i)) (c.Y * s + j))
      (λ i j a b. ap (λ x. v.bed x (c.Y * s + j)) (flip_digits (size v) (2 ^ c.k) s c.X i (side_times v.L c.k w.deep) w.east a))
      ∙ grid_flip s (λ i j. v.bed ((flip c).X * s + i) (c.Y * s + j))

-- ---- standing water, square by square
pub step_rests : (v : View) → Quadtree v → (height : Block → ℕ) → Still (tree v) height
    → ((c : Block) → Within v.L c → (tree v).kind c ≡ whole → Bounded (tree v) c) → (R : Rule) → Lawful R → (T x y : ℕ) → x < size v → y < size v
    → (after_step R T v).leaf x y ≡ v.leaf x y
step_rests v valid height still bounded R law T x y a b =
    let w = home_within v valid x y a b in
    let k = v.level x y in
    let s = 2 ^ (v.L - k) in
    let z = side_pos (v.L - k) in
    let i : x / s < 2 ^ k = w.0.east in
    let j : y / s < 2 ^ k = w.0.north in
    let h : k ≤ v.L = w.0.deep in
    still_stepped (tree v) height R T law (sound v valid) still bounded (home v x y) w.0 w.1
    ∙ (valid.uniform x y (x / s * s) (y / s * s) a b (omega (arith, inside v.L k (x / s) 0 h i z)) (omega (arith, inside v.L k (y / s) 0 h j z))
    (sym (mul-div_cancel (x / s) z)) (sym (mul-div_cancel (y / s) z))).1

-- ---- a sum over leaves does not mind a flip
pub over_flip : (L : ℕ) (f : Block → ℕ) → over L (λ c. f (flip c)) ≡ over L f
over_flip L f = sum_below_cong (L + 1) _ _ (λ k h. grid_flip (2 ^ k) (λ X Y. f (block k X Y)))
