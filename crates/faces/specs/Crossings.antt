-- The numbers of one face, by any rule.
use Rattle.std.specs.Prelude.{ℕ, ◌≤◌, ℤ, pos, ◌-ℤ◌, unsigned_abs}
use Rattle.runs.specs.Rules.{Rule, State, pressure}
use Rattle.runs.specs.Step.{scaled}

-- a face of e squares between the sides a and b, in a step of T milliseconds with squares d metres wide
module _ (R : Rule) (d T e : ℕ) (a b : State) where
  -- the water that wishes to pass from a to b
  abbrev pub wish_of : ℤ
  wish_of = scaled d T (R.flow a b) e

  -- what a's discharge across the face falls by, and b's rises by: the push, less the pressure that the side's own depth has
  abbrev pub fall_of : ℤ
  fall_of = scaled d T (R.push a b -ℤ pos (pressure a.h)) e

  abbrev pub rise_of : ℤ
  rise_of = scaled d T (R.push a b -ℤ pos (pressure b.h)) e

  -- what the discharge along the face falls by at a, and rises by at b
  abbrev pub drift_of : ℤ
  drift_of = scaled d T (R.drift a b) e

-- how large they can be
pub record Small (wish fall rise drift : ℤ) : Type 0 where
  pub wish_small : unsigned_abs wish ≤ 153600000
  pub fall_small : unsigned_abs fall ≤ 3840000000000
  pub rise_small : unsigned_abs rise ≤ 3840000000000
  pub drift_small : unsigned_abs drift ≤ 3840000000000
