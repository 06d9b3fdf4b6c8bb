-- Squares that each fit their block are alike throughout every leaf.
use Rattle.std.proofs.Common.{◌≡◌, ℕ, zero, suc, ◌+◌, ◌-◌, ◌*◌, ◌/◌, ◌%◌, ◌<◌, ◌≤◌, sym, ap, ◌∙◌, subst, add-zero, mod-lt, div-add-mod', arith}
use lib.Arith.{digits_div}
use Rattle.basin.specs.declared.leaf.Leaf.{Leaf}
use Rattle.basin.specs.Basins.{Basin, side, view}
use Rattle.basin.specs.Views.{side_of}
use Rattle.basin.proofs.Sizes.{side_pos}
use Rattle.tables.specs.Alike.{FitsBlock}

-- ---- along one side of a block
-- the first number of a block of side s lies in the block
pub start : (s x : ℕ) → 0 < s → x / s ≡ x / s * s / s
start s x z = sym (ap (λ m. m / s) (sym (add-zero (x / s * s))) ∙ digits_div (x / s) z)

pub start_le : (s x : ℕ) → x / s * s ≤ x
start_le s x = omega (arith, div-add-mod' x s)

-- what holds at the first number of a block, and passes on from each number to the next in the block, holds throughout the block
module _ (n s : ℕ) (P : ℕ → Type 0) (next : (a : ℕ) → a + 1 < n → a / s ≡ (a + 1) / s → P a → P (a + 1)) where
  steps : (q : ℕ) → P (q * s) → (i : ℕ) → i < s → q * s + i < n → P (q * s + i)
  steps q first zero h a = subst P (sym (add-zero (q * s))) first
  steps q first (suc i) h a =
      let e : q * s + i + 1 ≡ q * s + suc i = omega arith in
      let l : i < s = omega arith in
      let same : (q * s + i) / s ≡ (q * s + i + 1) / s = digits_div q l ∙ sym (ap (λ m. m / s) e ∙ digits_div q h) in
      subst P e (next (q * s + i) (omega arith) same (steps q first i l (omega arith)))

  throughout : (x p : ℕ) → 0 < s → P (x / s * s) → p < n → x / s ≡ p / s → P p
  throughout x p z first a e =
      let w : x / s * s + p % s ≡ p = ap (λ m. m * s + p % s) e ∙ div-add-mod' p s in
      subst P w (steps (x / s) first (p % s) (mod-lt p z) (omega arith))

-- ---- squares that fit their blocks
module _ (b : Basin)
    (fit : (x y : ℕ) → x < side b.head → y < side b.head
    → FitsBlock (side b.head) (side_of (view b) ((view b).level x y)) b.tables.levels b.tables.leaves x y) where
  -- the same level and record as a square of level k with the record l
  module _ (k : ℕ) (l : Leaf) where
    abbrev Like : ℕ → ℕ → Type 0
    Like x y = ((view b).level x y ≡ k) × ((view b).leaf x y ≡ l)

    block : (x y : ℕ) → x < side b.head → y < side b.head → Like x y
        → FitsBlock (side b.head) (side_of (view b) k) b.tables.levels b.tables.leaves x y
    block x y c d e =
        subst (λ m. FitsBlock (side b.head) (side_of (view b) m) b.tables.levels b.tables.leaves x y) e.0 (fit x y c d)

    next_east : (y : ℕ) → y < side b.head → (x : ℕ) → x + 1 < side b.head → x / side_of (view b) k ≡ (x + 1) / side_of (view b) k
        → Like x y → Like (x + 1) y
    next_east y d x c e h = let t = (block x y (omega arith) d h).east c e in (t.0 ∙ h.0, t.1 ∙ h.1)

    next_north : (x : ℕ) → x < side b.head → (y : ℕ) → y + 1 < side b.head → y / side_of (view b) k ≡ (y + 1) / side_of (view b) k
        → Like x y → Like x (y + 1)
    next_north x c y d e h = let t = (block x y c (omega arith) h).north d e in (t.0 ∙ h.0, t.1 ∙ h.1)

  pub uniform : (x y p q : ℕ) → x < side b.head → y < side b.head → p < side b.head → q < side b.head
      → x / side_of (view b) ((view b).level x y) ≡ p / side_of (view b) ((view b).level x y)
      → y / side_of (view b) ((view b).level x y) ≡ q / side_of (view b) ((view b).level x y)
      → ((view b).level p q ≡ (view b).level x y) × ((view b).leaf p q ≡ (view b).leaf x y)
  uniform x y p q a c d e f g =
      let n = side b.head in
      let k = (view b).level x y in
      let l = (view b).leaf x y in
      let s = side_of (view b) k in
      let z : 0 < s = side_pos (b.head.L - k) in
      let south : y / s * s < n = omega (arith, start_le s y) in
      let row = throughout n s (λ m. Like k l m (y / s * s)) (next_east k l (y / s * s) south) x p z (fit x y a c).corner d f in
      throughout n s (λ m. Like k l p m) (next_north k l p d) y q z row e g
