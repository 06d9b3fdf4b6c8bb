-- The ways through the groups of a number.
use Rattle.std.proofs.Common.{◌≡◌, ℕ, zero, suc, ◌+◌, ◌-◌, ◌*◌, ◌^◌, ◌<◌, ◌≤◌, List, length, get_or, Ok, Err, refl, mul-le-mul_left, mul-one, mul-add, arith, lit<}
use native.Mathlib.Nat.{pow-le-pow_right}
use Rattle.std.proofs.lemmas.Bool.{lt-ltb, le-ltb}
use Rattle.std.proofs.lemmas.Bool.Decides.{nat_tests}
use Rattle.numbers.specs.declared.fault.NumberFault.TheVariants.{Ended, Malformed}
use Rattle.numbers.specs.Numbers.{groups_at}

-- the byte b stands at a place
pub record Byte (bs : List ℕ) (at b : ℕ) : Type 0 where
  pub inside : at < length bs
  pub is : b ≡ get_or bs at 0

-- gs are the first six bytes from at on, or as many as there are
pub record First (bs : List ℕ) (at : ℕ) (gs : List ℕ) : Type 0 where
  pub few : length gs ≤ 6
  pub all : length gs < 6 → length bs ≤ at + length gs
  pub each : (k b : ℕ) → k < length gs → b ≡ get_or gs k 0 → Byte bs (at + k) b

pub ended : (m : ℕ) (bs : List ℕ) (start at v u : ℕ) → 0 < m → length bs ≤ at → Err (Ended start) ≡ groups_at m bs start at v u
unfolding groups_at
ended zero bs start at v u p h = absurd (omega arith)
ended (suc m) bs start at v u p h = rw (le-ltb at (length bs) h) refl

pub padded : (m : ℕ) (bs : List ℕ) (start at v u b : ℕ) → 0 < m → Byte bs at b → b ≡ 0 → start < at → Err (Malformed start) ≡ groups_at m bs start at v u
unfolding groups_at
padded zero bs start at v u b p h z l = absurd (omega arith)
padded (suc m) bs start at v u b p h z l = rw (lt-ltb at (length bs) h.inside, ← h.is, z, lt-ltb start at l) refl

pub done : (m : ℕ) (bs : List ℕ) (start at v u b : ℕ) → 0 < m → Byte bs at b → b < 128 → (b ≡ 0 → start < at → ⊥) → Ok (v + u * b, at + 1) ≡ groups_at m bs start at v u
unfolding groups_at
done zero bs start at v u b p h l z = absurd (omega arith)
done (suc m) bs start at v u b p h l z = rw h.is (last (rw h.is at l) (rw h.is at z))
  where
    last : get_or bs at 0 < 128 → (get_or bs at 0 ≡ 0 → start < at → ⊥) → Ok (v + u * get_or bs at 0, at + 1) ≡ groups_at (suc m) bs start at v u
    last l z = let i : at < length bs = h.inside in grind (arith, nat_tests)

pub more : (m : ℕ) (bs : List ℕ) (start at v u b : ℕ) → 0 < m → Byte bs at b → 128 ≤ b → groups_at m bs start at v u ≡ groups_at (m - 1) bs start (at + 1) (v + u * (b - 128)) (u * 128)
unfolding groups_at
more zero bs start at v u b p h z = absurd (omega arith)
more (suc m) bs start at v u b p h z =
    let e : suc m - 1 ≡ m = omega arith in
    rw (lt-ltb at (length bs) h.inside, ← h.is, le-ltb b 128 z, e) refl

pub light : (k : ℕ) → k < 6 → 128 ^ k ≤ 128 ^ 5
light k h = let l : k ≤ 5 = omega arith in pow-le-pow_right (lit< tt) l

-- what the groups so far come to stays below the next group's weight
pub kept_below : (v u b : ℕ) → v < u → b < 128 → v + u * b < u * 128
kept_below v u b h l =
    let s : b + 1 ≤ 128 = omega arith in
    omega (arith, mul-le-mul_left u s, mul-add u b 1, mul-one u)

-- and so below the largest weight
pub kept_small : (k v u b : ℕ) → k < 6 → u ≡ 128 ^ k → v < u → b < 128 → v + u * b < 2 ^ 42
kept_small k v u b h e l m = omega (arith, light k h, kept_below v u b l m)
