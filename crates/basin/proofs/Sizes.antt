-- Sides of blocks: powers of two of at most 64.
use Rattle.std.proofs.Common.{◌≡◌, ℕ, suc, ◌+◌, ◌-◌, ◌*◌, ◌/◌, ◌^◌, ◌<◌, ◌≤◌, ap, ◌∙◌, mul-le-mul, mul-le-mul_right, div-lt_iff_lt-mul, add-mul, one-mul, pow-suc, arith, lit<, pow-add}
use native.Mathlib.Nat.{pow-le-pow_right, one-le-pow}

pub side_pos : (height : ℕ) → 0 < 2 ^ height
side_pos height = one-le-pow height 2 (omega arith)

pub side_small : (height : ℕ) → height ≤ 6 → 2 ^ height ≤ 64
side_small height h = pow-le-pow_right (lit< tt) h

pub area_small : (height s : ℕ) → height ≤ 6 → s ≡ 2 ^ height → s * s ≤ 4096
area_small height s h e =
    let small : s ≤ 64 = rw e (side_small height h) in
    mul-le-mul small small

-- half a side is the side one level deeper
pub half_side : (height s : ℕ) → 0 < height → s ≡ 2 ^ height → (s / 2 ≡ 2 ^ (height - 1)) × (2 * (s / 2) ≡ s)
half_side height s h e =
    let up : height ≡ suc (height - 1) = omega arith in
    let double : s ≡ 2 ^ (height - 1) * 2 = e ∙ (ap (λ k. 2 ^ k) up ∙ pow-suc 2 (height - 1)) in
    (omega arith, omega arith)

-- a basin's side is that of a block times the blocks along it
pub side_times : (L k : ℕ) → k ≤ L → 2 ^ L ≡ 2 ^ k * 2 ^ (L - k)
side_times L k h = let e : L ≡ k + (L - k) = omega arith in ap (λ n. 2 ^ n) e ∙ pow-add 2 k (L - k)

-- the block at a square ends inside the basin
pub block_in : (L k x : ℕ) → k ≤ L → x < 2 ^ L → x / 2 ^ (L - k) * 2 ^ (L - k) + 2 ^ (L - k) ≤ 2 ^ L
block_in L k x h a =
    let s = 2 ^ (L - k) in
    let z = side_pos (L - k) in
    let e = side_times L k h in
    let b : x < 2 ^ k * s = rw e at a in
    let q : x / s < 2 ^ k = (div-lt_iff_lt-mul z).1 b in
    let q' : x / s + 1 ≤ 2 ^ k = omega arith in
    omega (arith, mul-le-mul_right s q', add-mul (x / s) 1 s, one-mul s)
