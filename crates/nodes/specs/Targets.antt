-- Where nodes are read to.
use Rattle.std.specs.Prelude.{◌≡◌, ℕ, ◌+◌, ◌*◌, ◌^◌, ◌≤◌}
use Rattle.nodes.specs.declared.target.Target.{Target}
use Rattle.basin.specs.declared.quarters.Quarters.{Quarters}

-- the target's block lies in a table of so many entries
abbrev pub LiesIn : Target → ℕ → Type 0
LiesIn s entries = s.corner + 2 ^ s.height * s.stride + 2 ^ s.height ≤ entries + s.stride

-- s is where the node of a whole basin of L levels lies
abbrev pub WholeTarget : ℕ → Target → Type 0
WholeTarget L s = (s.corner ≡ 0) × (s.stride ≡ 2 ^ L) × (s.height ≡ L) × (s.levels ≡ L)

-- q is the quarter of s whose corner lies so many squares east and north of that of s
pub record TargetQuarter (s : Target) (east north : ℕ) (q : Target) : Type 0 where
  pub height : s.height ≡ q.height + 1
  pub levels : q.levels ≡ s.levels
  pub stride : q.stride ≡ s.stride
  pub corner : q.corner ≡ s.corner + north * s.stride + east

-- the four quarters of s
pub record TargetQuarters (s : Target) (q : Quarters Target) : Type 0 where
  pub sw : TargetQuarter s 0 0 q.sw
  pub se : TargetQuarter s (2 ^ q.sw.height) 0 q.se
  pub nw : TargetQuarter s 0 (2 ^ q.sw.height) q.nw
  pub ne : TargetQuarter s (2 ^ q.sw.height) (2 ^ q.sw.height) q.ne
