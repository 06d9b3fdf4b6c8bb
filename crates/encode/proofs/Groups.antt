-- A number's groups, counted and written one after another.
use Rattle.std.proofs.Common.{◌≡◌, ℕ, zero, suc, ◌+◌, ◌-◌, ◌/◌, ◌%◌, ◌^◌, ◌<◌, ◌≤◌, List, [], ◌∷◌, length, set, sym, ⊎_elim, pow-suc, add-one, arith}
use lib.Seq.{sets}
use Rattle.std.proofs.lemmas.Bool.{cases_lt}
use Rattle.numbers.specs.Numbers.{groups, number}
use Rattle.numbers.proofs.Forms.{groups_last, groups_more}

more : (j v : ℕ) → 0 < j → 128 ≤ v → groups j v ≡ (v % 128 + 128) ∷ groups (j - 1) (v / 128)
more zero v p h = absurd (omega arith)
more (suc j) v p h = let e : suc j - 1 ≡ j = omega arith in rw e (groups_more j v h)

last : (j v : ℕ) → 0 < j → v < 128 → groups j v ≡ v ∷ []
last zero v p h = absurd (omega arith)
last (suc j) v p h = groups_last j v h

fewer : (j v : ℕ) → v < 128 ^ j → 128 ≤ v → (2 ≤ j) × (v / 128 < 128 ^ (j - 1))
fewer zero v h l = absurd (omega arith)
fewer (suc zero) v h l = absurd (omega arith)
fewer (suc (suc j)) v h l =
    let e : suc (suc j) - 1 ≡ suc j = omega arith in
    let h' = rw pow-suc at h in
    (omega arith, rw e (omega arith))

-- the groups of rest from here on are what is left of the groups of value from at on
pub record Left (at value here rest : ℕ) : Type 0 where
  pub begun : at ≤ here
  pub few : here < at + 6
  pub small : rest < 128 ^ (6 - (here - at))
  pub ends : here + length (groups (6 - (here - at)) rest) ≡ at + length (number value)

-- and with them in their places, out is what it is to be
pub record Putting (at value here rest : ℕ) (before out : List ℕ) : Type 0 where
  pub left : Left at value here rest
  pub bytes : sets before at (number value) ≡ sets out here (groups (6 - (here - at)) rest)

pub left_fewer : (at value here rest : ℕ) → 128 ≤ rest → Left at value here rest → Left at value (here + 1) (rest / 128)
left_fewer at value here rest l p =
    let j = fewer (6 - (here - at)) rest p.small l in
    let k : 6 - (here + 1 - at) ≡ 6 - (here - at) - 1 = omega arith in
    let n = rw (more (6 - (here - at)) rest (omega arith) l) at p.ends in
    record { begun = omega arith; few = omega arith; small = rw k j.1; ends = rw k (omega (arith, n)) }

pub left_last : (at value here rest : ℕ) → rest < 128 → Left at value here rest → here + 1 ≡ at + length (number value)
left_last at value here rest l p =
    let n = rw (last (6 - (here - at)) rest (omega (arith, p.few)) l) at p.ends in
    omega (arith, n)

-- there is a group left
pub left_some : (at value here rest : ℕ) → Left at value here rest → here < at + length (number value)
left_some at value here rest p =
    ⊎_elim
    (λ (l : rest < 128). omega (arith, left_last at value here rest l p))
    (λ (l : 128 ≤ rest).
    let n = rw (more (6 - (here - at)) rest (omega (arith, p.few)) l) at p.ends in
    omega (arith, n))
    (cases_lt rest 128)

pub putting_fewer : (at value here rest : ℕ) (before out : List ℕ) → 128 ≤ rest → Putting at value here rest before out
    → Putting at value (here + 1) (rest / 128) before (set out here (rest % 128 + 128))
putting_fewer at value here rest before out l p =
    let k : 6 - (here + 1 - at) ≡ 6 - (here - at) - 1 = omega (arith, p.left.begun) in
    let g = more (6 - (here - at)) rest (omega (arith, p.left.few)) l in
    record { left = left_fewer at value here rest l p.left; bytes = rw (k, add-one) (rw g at p.bytes) }

pub putting_last : (at value here rest : ℕ) (before out : List ℕ) → rest < 128 → Putting at value here rest before out
    → set out here rest ≡ sets before at (number value)
putting_last at value here rest before out l p =
    let g = last (6 - (here - at)) rest (omega (arith, p.left.few)) l in
    sym (rw g at p.bytes)
