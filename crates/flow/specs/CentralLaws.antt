-- The rule central keeps the four laws.
use Rattle.std.specs.Prelude.{◌≡◌, ℕ, zero, suc, ◌+◌, ◌*◌, ◌≤◌, Bool, true, false, cond, ℤ, pos, negsuc, ◌+ℤ◌, ◌-ℤ◌, ◌*ℤ◌, neg_ℤ, ◌≤ℤ◌, int_div, unsigned_abs}
use Rattle.std.proofs.Math.Path.{refl, ap}
use Rattle.std.proofs.Common.{sym, ◌∙◌, mul-div_cancel, arith}
use Rattle.std.proofs.Math.Nat.{div-le_of_le-mul}
use Rattle.std.proofs.Math.IntN.{neg_ℤ-neg_ℤ, *ℤ_comm, *ℤ-zero}
use Rattle.std.proofs.lemmas.Int.{ints, clamps}
use Rattle.std.proofs.lemmas.Bool.{ne_eqb}
use Rattle.runs.specs.Roots.{square_root}
use Rattle.runs.specs.Rules.{State, Fine, mirrored, pressure, at_rest, Rests, Mirrors, MirrorsAlong, Capped}
use Rattle.runs.proofs.Rooted.{roots, root_le}
use Rattle.flow.specs.Centrals.{wave, ahead, behind, carried, momentum, across, along, weighed, spread, dividend, divisor, same, blend, central_flow, central_push, central_drift, central}
use Rattle.flow.specs.InRange.{pressure_within}
use Rattle.flow.specs.Whole.{neg_mul, mul_neg, quot_neg, abs_add, abs_sub, abs_quot, mul_within}

-- ---- mirrored, the fastest waves change places
ahead_turns : (s t : State) → ahead (mirrored t) (mirrored s) ≡ neg_ℤ (behind s t)
unfolding ahead behind
ahead_turns s t = omega (arith, ints, clamps)

behind_turns : (s t : State) → behind (mirrored t) (mirrored s) ≡ neg_ℤ (ahead s t)
unfolding ahead behind
behind_turns s t = omega (arith, ints, clamps)

-- ---- the blend of negated and of exchanged amounts
neg_minus : (x y : ℤ) → neg_ℤ x -ℤ neg_ℤ y ≡ neg_ℤ (x -ℤ y)
neg_minus x y = omega (arith, ints)

neg_plus : (x y : ℤ) → neg_ℤ x +ℤ neg_ℤ y ≡ neg_ℤ (x +ℤ y)
neg_plus x y = omega (arith, ints)

minus_turns : (x y : ℤ) → neg_ℤ y -ℤ neg_ℤ x ≡ x -ℤ y
minus_turns x y = omega (arith, ints)

cond_neg : (t : Bool) (x : ℤ) → cond t (pos 0) (neg_ℤ x) ≡ neg_ℤ (cond t (pos 0) x)
cond_neg true x = refl
cond_neg false x = refl

module _ (a b F₁ F₂ U₁ U₂ : ℤ) where
  weighed_neg : weighed a b (neg_ℤ F₁) (neg_ℤ F₂) ≡ neg_ℤ (weighed a b F₁ F₂)
  unfolding weighed
  weighed_neg = rw (mul_neg a F₁, mul_neg b F₂) (neg_minus (a *ℤ F₁) (b *ℤ F₂))

  spread_neg : spread a b (neg_ℤ U₁) (neg_ℤ U₂) ≡ neg_ℤ (spread a b U₁ U₂)
  unfolding spread
  spread_neg = rw (neg_minus U₂ U₁) (mul_neg (a *ℤ b) (U₂ -ℤ U₁))

  weighed_turns : weighed (neg_ℤ b) (neg_ℤ a) F₂ F₁ ≡ weighed a b F₁ F₂
  unfolding weighed
  weighed_turns = rw (neg_mul a F₁, neg_mul b F₂) (minus_turns (a *ℤ F₁) (b *ℤ F₂))

  spread_turns : spread (neg_ℤ b) (neg_ℤ a) (neg_ℤ U₂) (neg_ℤ U₁) ≡ spread a b U₁ U₂
  unfolding spread
  spread_turns =
      let speeds : neg_ℤ b *ℤ neg_ℤ a ≡ a *ℤ b = neg_mul b (neg_ℤ a) ∙ ap neg_ℤ (mul_neg b a) ∙ neg_ℤ-neg_ℤ (b *ℤ a) ∙ *ℤ_comm b a in
      rw (speeds, minus_turns U₂ U₁) refl

  blend_neg : blend a b (neg_ℤ F₁) (neg_ℤ F₂) (neg_ℤ U₁) (neg_ℤ U₂) ≡ neg_ℤ (blend a b F₁ F₂ U₁ U₂)
  unfolding blend
  blend_neg =
      rw (weighed_neg, spread_neg, neg_plus (weighed a b F₁ F₂) (spread a b U₁ U₂), quot_neg (dividend a b F₁ F₂ U₁ U₂) (divisor a b))
      (cond_neg (same a b) (int_div (dividend a b F₁ F₂ U₁ U₂) (divisor a b)))

  blend_turns : blend (neg_ℤ b) (neg_ℤ a) F₂ F₁ (neg_ℤ U₂) (neg_ℤ U₁) ≡ blend a b F₁ F₂ U₁ U₂
  unfolding blend
  blend_turns = rw (weighed_turns, spread_turns, minus_turns a b) refl

blend_turns_neg : (a b F₁ F₂ U₁ U₂ : ℤ) → blend (neg_ℤ b) (neg_ℤ a) (neg_ℤ F₂) (neg_ℤ F₁) U₂ U₁ ≡ neg_ℤ (blend a b F₁ F₂ U₁ U₂)
blend_turns_neg a b F₁ F₂ U₁ U₂ =
    let there : blend (neg_ℤ b) (neg_ℤ a) (neg_ℤ F₂) (neg_ℤ F₁) (neg_ℤ (neg_ℤ U₂)) (neg_ℤ (neg_ℤ U₁)) ≡ blend a b (neg_ℤ F₁) (neg_ℤ F₂) (neg_ℤ U₁) (neg_ℤ U₂) =
    blend_turns a b (neg_ℤ F₁) (neg_ℤ F₂) (neg_ℤ U₁) (neg_ℤ U₂) in
    rw (neg_ℤ-neg_ℤ U₁, neg_ℤ-neg_ℤ U₂) at there ∙ blend_neg a b F₁ F₂ U₁ U₂

-- ---- mirror and along
across_turns : (s : State) → across (mirrored s) ≡ across s
across_turns s =
    rw (mul_neg (pos s.h) s.u, neg_mul (pos s.h *ℤ s.u) (neg_ℤ s.u), mul_neg (pos s.h *ℤ s.u) s.u, neg_ℤ-neg_ℤ (pos s.h *ℤ s.u *ℤ s.u)) refl

along_turns : (s : State) → along (mirrored s) ≡ neg_ℤ (along s)
along_turns s = rw (mul_neg (pos s.h) s.u) (neg_mul (pos s.h *ℤ s.u) s.v)

pub central_mirrors : Mirrors central
central_mirrors = record {
  flow = λ s t _ _.
      rw (ahead_turns s t, behind_turns s t, mul_neg (pos s.h) s.u, mul_neg (pos t.h) t.u)
      (blend_turns_neg (ahead s t) (behind s t) (carried s.h s.u) (carried t.h t.u) (pos s.h) (pos t.h));
  push = λ s t _ _.
      rw (ahead_turns s t, behind_turns s t, across_turns s, across_turns t, mul_neg (pos s.h) s.u, mul_neg (pos t.h) t.u)
      (blend_turns (ahead s t) (behind s t) (across s) (across t) (carried s.h s.u) (carried t.h t.u));
  drift = λ s t _ _.
      rw (ahead_turns s t, behind_turns s t, along_turns s, along_turns t)
      (blend_turns_neg (ahead s t) (behind s t) (along s) (along t) (carried s.h s.v) (carried t.h t.v));
}

pub central_mirrors_along : MirrorsAlong central
unfolding ahead behind
central_mirrors_along = record {
  flow = λ s t _ _. refl;
  push = λ s t _ _. refl;
  drift = λ s t _ _.
      rw (mul_neg (carried s.h s.u) s.v, mul_neg (carried t.h t.u) t.v, mul_neg (pos s.h) s.v, mul_neg (pos t.h) t.v)
      (blend_neg (ahead s t) (behind s t) (along s) (along t) (carried s.h s.v) (carried t.h t.v));
}

-- ---- rest
rest_ahead : (h : ℕ) → ahead (at_rest h) (at_rest h) ≡ pos (square_root (9810 * h))
unfolding ahead wave
rest_ahead h = omega (arith, ints, clamps)

rest_behind : (h : ℕ) → behind (at_rest h) (at_rest h) ≡ neg_ℤ (pos (square_root (9810 * h)))
unfolding behind wave
rest_behind h = omega (arith, ints, clamps)

-- equal amounts are their own blend, where waves run as fast to both sides
blend_even : (r F : ℕ) (U : ℤ) → (r ≡ 0 → F ≡ 0) → blend (pos r) (neg_ℤ (pos r)) (pos F) (pos F) U U ≡ pos F
unfolding blend weighed spread
blend_even zero F U none = ap pos (sym (none refl))
blend_even (suc n) F U none =
    let apart : same (pos (suc n)) (negsuc n) ≡ false = ne_eqb (suc n + suc n) 0 (λ e. omega arith) in
    let level : U -ℤ U ≡ pos 0 = omega (arith, ints) in
    let twice : pos (suc n) *ℤ pos F -ℤ negsuc n *ℤ pos F +ℤ pos 0 ≡ pos (F * (suc n + suc n)) = omega (arith, ints) in
    rw (apart, level, *ℤ-zero (pos (suc n) *ℤ negsuc n), twice) (ap pos (mul-div_cancel F (omega arith)))

-- where no wave runs there is no depth
no_wave : (h : ℕ) → square_root (9810 * h) ≡ 0 → h ≡ 0
no_wave h e = let p = rw e at (roots (9810 * h)) in omega arith

pub central_rests : Rests central
central_rests = record {
  flow = λ h _. rw (rest_ahead h, rest_behind h, *ℤ-zero (pos h)) (blend_even (square_root (9810 * h)) 0 (pos h) (λ _. refl));
  push = λ h _.
      let still : across (at_rest h) ≡ pos (pressure h) = omega (arith, ints) in
      rw (rest_ahead h, rest_behind h, still)
      (blend_even (square_root (9810 * h)) (pressure h) (pos h *ℤ pos 0) (λ e. let z : h ≡ 0 = no_wave h e in rw z refl));
  drift = λ h _.
      let still : along (at_rest h) ≡ pos 0 = omega (arith, ints) in
      rw (rest_ahead h, rest_behind h, still) (blend_even (square_root (9810 * h)) 0 (pos h *ℤ pos 0) (λ _. refl));
}

-- ---- caps
pub wave_within : (h : ℕ) → h ≤ 30000 → unsigned_abs (wave h) ≤ 17200
unfolding wave
wave_within h l = root_le (9810 * h) 17200 (omega arith)

pub ahead_within : (s t : State) → Fine s → Fine t → (pos 0 ≤ℤ ahead s t) × (unsigned_abs (ahead s t) ≤ 27200)
unfolding ahead
ahead_within s t p q =
    let w₁ = wave_within s.h p.deep in
    let w₂ = wave_within t.h q.deep in
    (omega (arith, ints, clamps), omega (arith, ints, clamps, p.slow_u, q.slow_u))

pub behind_within : (s t : State) → Fine s → Fine t → (behind s t ≤ℤ pos 0) × (unsigned_abs (behind s t) ≤ 27200)
unfolding behind
behind_within s t p q =
    let w₁ = wave_within s.h p.deep in
    let w₂ = wave_within t.h q.deep in
    (omega (arith, ints, clamps), omega (arith, ints, clamps, p.slow_u, q.slow_u))

pub carried_within : (h : ℕ) (speed : ℤ) → h ≤ 30000 → unsigned_abs speed ≤ 10000 → unsigned_abs (carried h speed) ≤ 300000000
carried_within h speed p q = mul_within (pos h) speed 30000 10000 p q

pub momentum_within : (s : State) (speed : ℤ) → Fine s → unsigned_abs speed ≤ 10000 → unsigned_abs (momentum s speed) ≤ 3000000000000
momentum_within s speed f slow = mul_within (carried s.h s.u) speed 300000000 10000 (carried_within s.h s.u f.deep f.slow_u) slow

pub across_within : (s : State) → Fine s → unsigned_abs (across s) ≤ 7414500000000
across_within s f =
    let k = momentum_within s s.u f f.slow_u in
    omega (arith, abs_add (momentum s s.u) (pos (pressure s.h)), pressure_within s.h f.deep)

cond_within : (t : Bool) (x : ℤ) (m : ℕ) → unsigned_abs x ≤ m → unsigned_abs (cond t (pos 0) x) ≤ m
cond_within true x m h = omega arith
cond_within false x m h = h

-- sizes of the parts of the dividend, where x + y is the divisor
weights : (x y A M N f g k n : ℕ) → x ≤ A → f ≤ x * M → g ≤ y * M → k ≤ A * y * N → n ≤ f + g + k → n ≤ (x + y) * (M + A * N)
weights x y A M N f g k n p q r s t = omega arith

-- a blend of amounts to M is no more than M, and A times the difference of what the sides hold
blend_within : (a b F₁ F₂ U₁ U₂ : ℤ) (A M N : ℕ) → (pos 0 ≤ℤ a) × (unsigned_abs a ≤ A) → b ≤ℤ pos 0
    → unsigned_abs F₁ ≤ M → unsigned_abs F₂ ≤ M → unsigned_abs (U₂ -ℤ U₁) ≤ N → unsigned_abs (blend a b F₁ F₂ U₁ U₂) ≤ M + A * N
unfolding blend weighed spread
blend_within a b F₁ F₂ U₁ U₂ A M N la lb f₁ f₂ u =
    let apart : unsigned_abs (a -ℤ b) ≡ unsigned_abs a + unsigned_abs b = omega (arith, ints) in
    let k₁ = mul_within a F₁ (unsigned_abs a) M (omega arith) f₁ in
    let k₂ = mul_within b F₂ (unsigned_abs b) M (omega arith) f₂ in
    let k₃ = mul_within (a *ℤ b) (U₂ -ℤ U₁) (A * unsigned_abs b) N (mul_within a b A (unsigned_abs b) la.1 (omega arith)) u in
    let n : unsigned_abs (dividend a b F₁ F₂ U₁ U₂) ≤ unsigned_abs (a *ℤ F₁) + unsigned_abs (b *ℤ F₂) + unsigned_abs (a *ℤ b *ℤ (U₂ -ℤ U₁)) =
    omega (arith, abs_add (a *ℤ F₁ -ℤ b *ℤ F₂) (a *ℤ b *ℤ (U₂ -ℤ U₁)), abs_sub (a *ℤ F₁) (b *ℤ F₂)) in
    let w = weights (unsigned_abs a) (unsigned_abs b) A M N _ _ _ (unsigned_abs (dividend a b F₁ F₂ U₁ U₂)) la.1 k₁ k₂ k₃ n in
    cond_within (same a b) (int_div (dividend a b F₁ F₂ U₁ U₂) (divisor a b)) (M + A * N)
    (rw (abs_quot (dividend a b F₁ F₂ U₁ U₂) (divisor a b), apart) (div-le_of_le-mul (unsigned_abs a + unsigned_abs b) w))

both_within : (x y : ℤ) (m : ℕ) → unsigned_abs x ≤ m → unsigned_abs y ≤ m → unsigned_abs (x -ℤ y) ≤ m + m
both_within x y m p q = omega (arith, abs_sub x y)

module _ (s t : State) (p : Fine s) (q : Fine t) where
  blended : (F₁ F₂ U₁ U₂ : ℤ) (M N : ℕ) → unsigned_abs F₁ ≤ M → unsigned_abs F₂ ≤ M → unsigned_abs (U₂ -ℤ U₁) ≤ N
      → unsigned_abs (blend (ahead s t) (behind s t) F₁ F₂ U₁ U₂) ≤ M + 27200 * N
  blended F₁ F₂ U₁ U₂ M N f₁ f₂ u =
      blend_within (ahead s t) (behind s t) F₁ F₂ U₁ U₂ 27200 M N (ahead_within s t p q) (behind_within s t p q).0 f₁ f₂ u

  run₁ : unsigned_abs (carried s.h s.u) ≤ 300000000
  run₁ = carried_within s.h s.u p.deep p.slow_u

  run₂ : unsigned_abs (carried t.h t.u) ≤ 300000000
  run₂ = carried_within t.h t.u q.deep q.slow_u

  flow_capped : unsigned_abs (central_flow s t) ≤ 1200000000
  flow_capped =
      let level : unsigned_abs (pos t.h -ℤ pos s.h) ≤ 30000 = omega (arith, ints, p.deep, q.deep) in
      omega (arith, blended (carried s.h s.u) (carried t.h t.u) (pos s.h) (pos t.h) 300000000 30000 run₁ run₂ level)

  push_capped : unsigned_abs (central_push s t) ≤ 25000000000000
  push_capped =
      let apart = both_within (carried t.h t.u) (carried s.h s.u) 300000000 run₂ run₁ in
      let k₁ = across_within s p in
      let k₂ = across_within t q in
      omega (arith, blended (across s) (across t) (carried s.h s.u) (carried t.h t.u) 7414500000000 600000000 k₁ k₂ apart)

  drift_capped : unsigned_abs (central_drift s t) ≤ 25000000000000
  drift_capped =
      let slide₁ = carried_within s.h s.v p.deep p.slow_v in
      let slide₂ = carried_within t.h t.v q.deep q.slow_v in
      let apart = both_within (carried t.h t.v) (carried s.h s.v) 300000000 slide₂ slide₁ in
      let k₁ = momentum_within s s.v p p.slow_v in
      let k₂ = momentum_within t t.v q q.slow_v in
      omega (arith, blended (along s) (along t) (carried s.h s.v) (carried t.h t.v) 3000000000000 600000000 k₁ k₂ apart)

pub central_capped : Capped 1200000000 25000000000000 central
central_capped = record { flow = flow_capped; push = push_capped; drift = drift_capped }
