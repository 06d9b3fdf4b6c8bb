-- What the rule central answers.
use Rattle.std.specs.Prelude.{ℕ, ◌*◌, Bool, cond, ℤ, pos, ◌+ℤ◌, ◌-ℤ◌, ◌*ℤ◌, ◌==◌, int_div, unsigned_abs}
use Rattle.std.specs.Int.{int_max, int_min}
use Rattle.runs.specs.Roots.{square_root}
use Rattle.runs.specs.Rules.{Rule, State, pressure}

-- the speed of a small wave on water of depth h
unfoldable pub wave : ℕ → ℤ
wave h = pos (square_root (9810 * h))

-- the fastest waves: from side 1 toward side 2, and from side 2 toward side 1 as a negative number; 0 where none runs that way
unfoldable pub ahead : State → State → ℤ
ahead s t = int_max (pos 0) (int_max (s.u +ℤ wave s.h) (t.u +ℤ wave t.h))

unfoldable pub behind : State → State → ℤ
behind s t = int_min (pos 0) (int_min (s.u -ℤ wave s.h) (t.u -ℤ wave t.h))

-- what runs past in a second, where water of depth h has this speed
abbrev pub carried : ℕ → ℤ → ℤ
carried h speed = pos h *ℤ speed

-- the momentum that a side brings to the face: across it by the speed u, with the side's pressure, and along it by the speed v
abbrev pub momentum : State → ℤ → ℤ
momentum s speed = carried s.h s.u *ℤ speed

abbrev pub across : State → ℤ
across s = momentum s s.u +ℤ pos (pressure s.h)

abbrev pub along : State → ℤ
along s = momentum s s.v

-- the dividend: what both sides bring, F₁ and F₂, weighed by the fastest waves, and the difference of what they hold, U₁ and U₂, spread by them
unfoldable pub weighed : ℤ → ℤ → ℤ → ℤ → ℤ
weighed a b F₁ F₂ = a *ℤ F₁ -ℤ b *ℤ F₂

unfoldable pub spread : ℤ → ℤ → ℤ → ℤ → ℤ
spread a b U₁ U₂ = a *ℤ b *ℤ (U₂ -ℤ U₁)

abbrev pub dividend : ℤ → ℤ → ℤ → ℤ → ℤ → ℤ → ℤ
dividend a b F₁ F₂ U₁ U₂ = weighed a b F₁ F₂ +ℤ spread a b U₁ U₂

abbrev pub divisor : ℤ → ℤ → ℤ
divisor a b = a -ℤ b

abbrev pub same : ℤ → ℤ → Bool
same a b = unsigned_abs (a -ℤ b) == 0

-- 0 where the fastest waves are equal, as no wave runs then
unfoldable pub blend : ℤ → ℤ → ℤ → ℤ → ℤ → ℤ → ℤ
blend a b F₁ F₂ U₁ U₂ = cond (same a b) (pos 0) (int_div (dividend a b F₁ F₂ U₁ U₂) (divisor a b))

abbrev pub central_flow : State → State → ℤ
central_flow s t =
    blend (ahead s t) (behind s t) (carried s.h s.u) (carried t.h t.u) (pos s.h) (pos t.h)

abbrev pub central_push : State → State → ℤ
central_push s t =
    blend (ahead s t) (behind s t) (across s) (across t) (carried s.h s.u) (carried t.h t.u)

abbrev pub central_drift : State → State → ℤ
central_drift s t =
    blend (ahead s t) (behind s t) (along s) (along t) (carried s.h s.v) (carried t.h t.v)

abbrev pub central : Rule
central = record { flow = central_flow; push = central_push; drift = central_drift }
