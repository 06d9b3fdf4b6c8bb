-- Where nodes lie in the tables.
use Rattle.std.specs.Prelude.{◌≡◌, ℕ, ◌+◌, ◌*◌, ◌^◌}
use Rattle.nodes.specs.declared.spot.Spot.{Spot}
use Rattle.basin.specs.declared.quarters.Quarters.{Quarters}

-- the entry of the block's south-west square
abbrev pub corner_of : Spot → ℕ
corner_of s = s.y * 2 ^ s.levels + s.x

-- s is where the node of a whole basin of L levels lies
abbrev pub WholeSpot : ℕ → Spot → Type 0
WholeSpot L s = (s.x ≡ 0) × (s.y ≡ 0) × (s.height ≡ L) × (s.levels ≡ L)

-- q is the quarter of s whose corner lies so many squares east and north of that of s
pub record Quarter (s : Spot) (east north : ℕ) (q : Spot) : Type 0 where
  pub height : s.height ≡ q.height + 1
  pub levels : q.levels ≡ s.levels
  pub x : q.x ≡ s.x + east
  pub y : q.y ≡ s.y + north

-- the four quarters of s
pub record Quartered (s : Spot) (q : Quarters Spot) : Type 0 where
  pub sw : Quarter s 0 0 q.sw
  pub se : Quarter s (2 ^ q.sw.height) 0 q.se
  pub nw : Quarter s 0 (2 ^ q.sw.height) q.nw
  pub ne : Quarter s (2 ^ q.sw.height) (2 ^ q.sw.height) q.ne
