-- Two turns are the turn that they make, of whatever a flip and a quarter turn act on.
use Rattle.std.specs.Prelude.{◌≡◌, ℕ, zero, suc, ◌+◌, ◌-◌, ◌*◌, ◌/◌, ◌%◌, ◌<◌, cond, ◌==◌, refl}
use Rattle.std.proofs.Common.{sym, ◌∙◌, ap, suc-add, arith}
use Rattle.runs.specs.Turns.{times}
use Rattle.turns.specs.Turns.{composite_of, undoing}

-- what makes a flip and a quarter turn those of a square
pub record Acting {A : Type 0} (flip quarter : A → A) : Type 0 where
  pub flip_twice : (a : A) → flip (flip a) ≡ a
  pub four_quarters : (a : A) → quarter (quarter (quarter (quarter a))) ≡ a
  -- a quarter turn before a flip is one the other way after it
  pub flip_after : (a : A) → flip (quarter a) ≡ quarter (quarter (quarter (flip a)))

module _ {A : Type 0} (flip quarter : A → A) (acting : Acting flip quarter) where
  abbrev turned : ℕ → A → A
  turned t a = times (t % 4) quarter (times (t / 4) flip a)

  times_add : (m k : ℕ) (a : A) → times m quarter (times k quarter a) ≡ times (m + k) quarter a
  times_add zero k a = ap (λ i. times i quarter a) (omega arith)
  times_add (suc m) k a = ap quarter (times_add m k a) ∙ ap (λ i. times i quarter a) (sym (suc-add m k))

  -- four quarter turns are none
  times_mod : (k : ℕ) (a : A) → times k quarter a ≡ times (k % 4) quarter a
  times_mod zero a = refl
  times_mod (suc zero) a = refl
  times_mod (suc (suc zero)) a = refl
  times_mod (suc (suc (suc zero))) a = refl
  times_mod (suc (suc (suc (suc k)))) a =
      acting.four_quarters (times k quarter a) ∙ times_mod k a ∙ ap (λ i. times i quarter a) (omega arith)

  -- a flip reverses the quarter turns before it
  flip_times : (r : ℕ) (a : A) → flip (times r quarter a) ≡ times (3 * r) quarter (flip a)
  flip_times zero a = refl
  flip_times (suc r) a =
      let three : suc (suc (suc (3 * r))) ≡ 3 * suc r = omega arith in
      acting.flip_after (times r quarter a)
      ∙ ap (λ b. quarter (quarter (quarter b))) (flip_times r a)
      ∙ ap (λ i. times i quarter (flip a)) three

  flips : (f : ℕ) (a : A) → f < 2 → flip (times f flip a) ≡ times ((f + 1) % 2) flip a
  flips zero a h = refl
  flips (suc zero) a h = acting.flip_twice a
  flips (suc (suc f)) a h = absurd (omega arith)

  -- r quarter turns, then g flips and q quarter turns
  quarters_then : (r g q : ℕ) (a : A) → r < 4 → g < 2
      → times q quarter (times g flip (times r quarter a)) ≡ times ((q + cond (g == 0) r (4 - r)) % 4) quarter (times g flip a)
  quarters_then r zero q a h k = times_add q r a ∙ times_mod (q + r) a
  quarters_then r (suc zero) q a h k =
      ap (times q quarter) (flip_times r a)
      ∙ times_add q (3 * r) (flip a)
      ∙ times_mod (q + 3 * r) (flip a)
      ∙ ap (λ i. times i quarter (flip a)) (omega arith)
  quarters_then r (suc (suc g)) q a h k = absurd (omega arith)

  flips_then : (f g : ℕ) (a : A) → f < 2 → g < 2 → times g flip (times f flip a) ≡ times ((f + g) % 2) flip a
  flips_then f zero a h k = ap (λ i. times i flip a) (omega arith)
  flips_then f (suc zero) a h k = flips f a h
  flips_then f (suc (suc g)) a h k = absurd (omega arith)

  pub two_turns : (s t : ℕ) → s < 8 → t < 8 → (a : A) → turned t (turned s a) ≡ turned (composite_of s t) a
  two_turns s t h k a =
      let r = (t % 4 + cond (t / 4 == 0) (s % 4) (4 - s % 4)) % 4 in
      let f = (s / 4 + t / 4) % 2 in
      let small : (t % 4 + cond (t / 4 == 0) (s % 4) (4 - s % 4)) % 4 < 4 = omega arith in
      let er : (t % 4 + cond (t / 4 == 0) (s % 4) (4 - s % 4)) % 4 ≡ composite_of s t % 4 = omega arith in
      let ef : (s / 4 + t / 4) % 2 ≡ composite_of s t / 4 = omega arith in
      quarters_then (s % 4) (t / 4) (t % 4) (times (s / 4) flip a) (omega arith) (omega arith)
      ∙ ap (times r quarter) (flips_then (s / 4) (t / 4) a (omega arith) (omega arith))
      ∙ (λ i. times (er i) quarter (times (ef i) flip a))

  -- a turn and the one that undoes it
  pub undone_first : (t : ℕ) → t < 8 → (a : A) → turned t (turned (undoing t) a) ≡ a
  undone_first t h a =
      let u : undoing t < 8 = grind arith in
      let e : composite_of (undoing t) t ≡ 0 = grind arith in
      two_turns (undoing t) t u h a ∙ ap (λ c. turned c a) e

  pub undone_last : (t : ℕ) → t < 8 → (a : A) → turned (undoing t) (turned t a) ≡ a
  undone_last t h a =
      let u : undoing t < 8 = grind arith in
      let e : composite_of t (undoing t) ≡ 0 = grind arith in
      two_turns t (undoing t) h u a ∙ ap (λ c. turned c a) e
