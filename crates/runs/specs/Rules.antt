-- Flow rules: what passes from one side of a face to the other.
use Rattle.std.specs.Prelude.{◌≡◌, ℕ, ◌*◌, ◌≤◌, ℤ, pos, neg_ℤ, unsigned_abs}

-- one side of a face: the depth above the sill, the speed across the face, and the speed along it
pub record State : Type 0 where
  pub h : ℕ
  pub u : ℤ
  pub v : ℤ

-- what passes eastward or northward: water, momentum across the face, and momentum along it
pub record Rule : Type 0 where
  pub flow : State → State → ℤ
  pub push : State → State → ℤ
  pub drift : State → State → ℤ

abbrev pub mirrored : State → State
mirrored s = record { h = s.h; u = neg_ℤ s.u; v = s.v }

abbrev pub turned_along : State → State
turned_along s = record { h = s.h; u = s.u; v = neg_ℤ s.v }

abbrev pub at_rest : ℕ → State
at_rest h = record { h = h; u = pos 0; v = pos 0 }

-- the pressure of water at rest that is h deep: half of 9,810 mm/s², by which it falls, for each h × h
abbrev pub pressure : ℕ → ℕ
pressure h = 4905 * h * h

-- the sides that exist
pub record Fine (s : State) : Type 0 where
  pub deep : s.h ≤ 30000
  pub slow_u : unsigned_abs s.u ≤ 10000
  pub slow_v : unsigned_abs s.v ≤ 10000
  pub dry : s.h ≡ 0 → (s.u ≡ pos 0) × (s.v ≡ pos 0)

-- rest: between equal depths without speeds nothing passes but the pressure
pub record Rests (R : Rule) : Type 0 where
  pub flow : (h : ℕ) → h ≤ 30000 → R.flow (at_rest h) (at_rest h) ≡ pos 0
  pub push : (h : ℕ) → h ≤ 30000 → R.push (at_rest h) (at_rest h) ≡ pos (pressure h)
  pub drift : (h : ℕ) → h ≤ 30000 → R.drift (at_rest h) (at_rest h) ≡ pos 0

-- mirror: a mirror at the face turns what passes
pub record Mirrors (R : Rule) : Type 0 where
  pub flow : (a b : State) → Fine a → Fine b → R.flow (mirrored b) (mirrored a) ≡ neg_ℤ (R.flow a b)
  pub push : (a b : State) → Fine a → Fine b → R.push (mirrored b) (mirrored a) ≡ R.push a b
  pub drift : (a b : State) → Fine a → Fine b → R.drift (mirrored b) (mirrored a) ≡ neg_ℤ (R.drift a b)

-- along: a mirror along the face turns only the momentum along it
pub record MirrorsAlong (R : Rule) : Type 0 where
  pub flow : (a b : State) → Fine a → Fine b → R.flow (turned_along a) (turned_along b) ≡ R.flow a b
  pub push : (a b : State) → Fine a → Fine b → R.push (turned_along a) (turned_along b) ≡ R.push a b
  pub drift : (a b : State) → Fine a → Fine b → R.drift (turned_along a) (turned_along b) ≡ neg_ℤ (R.drift a b)

-- caps: nothing that passes is larger than the rule's caps, one for the flow and one for push and drift
pub record Capped (flow_cap push_cap : ℕ) (R : Rule) : Type 0 where
  pub flow : (a b : State) → Fine a → Fine b → unsigned_abs (R.flow a b) ≤ flow_cap
  pub push : (a b : State) → Fine a → Fine b → unsigned_abs (R.push a b) ≤ push_cap
  pub drift : (a b : State) → Fine a → Fine b → unsigned_abs (R.drift a b) ≤ push_cap

-- no rule has larger caps
abbrev pub LowCaps : ℕ → ℕ → Type 0
LowCaps flow_cap push_cap = (flow_cap ≤ 1200000000) × (push_cap ≤ 25000000000000)

-- the laws of a rule: between equal depths at rest only the pressure acts, a mirror at the face turns what passes, and a mirror along the
-- face turns only the momentum along it
pub record Lawful (R : Rule) : Type 0 where
  pub rest_flow : (h : ℕ) → h ≤ 30000 → R.flow (at_rest h) (at_rest h) ≡ pos 0
  pub rest_push : (h : ℕ) → h ≤ 30000 → R.push (at_rest h) (at_rest h) ≡ pos (4905 * h * h)
  pub rest_drift : (h : ℕ) → h ≤ 30000 → R.drift (at_rest h) (at_rest h) ≡ pos 0
  pub mirror_flow : (a b : State) → Fine a → Fine b → R.flow (mirrored b) (mirrored a) ≡ neg_ℤ (R.flow a b)
  pub mirror_push : (a b : State) → Fine a → Fine b → R.push (mirrored b) (mirrored a) ≡ R.push a b
  pub mirror_drift : (a b : State) → Fine a → Fine b → R.drift (mirrored b) (mirrored a) ≡ neg_ℤ (R.drift a b)
  pub along_flow : (a b : State) → Fine a → Fine b → R.flow (turned_along a) (turned_along b) ≡ R.flow a b
  pub along_push : (a b : State) → Fine a → Fine b → R.push (turned_along a) (turned_along b) ≡ R.push a b
  pub along_drift : (a b : State) → Fine a → Fine b → R.drift (turned_along a) (turned_along b) ≡ neg_ℤ (R.drift a b)

-- no water crosses a wall, behind which stands the mirrored side, whichever of the two is side 1
abbrev pub WallsHold : Type 0
WallsHold = (R : Rule) → Lawful R → (s : State) → Fine s → (R.flow s (mirrored s) ≡ pos 0) × (R.flow (mirrored s) s ≡ pos 0)
