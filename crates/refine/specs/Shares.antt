-- The water of a wet leaf shared out among its children.
use Rattle.std.specs.Prelude.{ℕ, ◌+◌, ◌-◌, ◌/◌, ◌≤◌, Bool, not, ◌||◌, List, nat_lt}
use Rattle.basin.specs.declared.plot.Plot.{Plot}
use Rattle.basin.specs.declared.quarters.Quarters.{Quarters}
use Rattle.basin.specs.Records.{may_hold}
use Rattle.basin.specs.Sums.{grid}
use Rattle.basin.specs.Tables.{entry}

-- the sum of the beds of the child whose south-west square is (west, south)
abbrev pub child_ground : Plot → List ℕ → (west south : ℕ) → ℕ
child_ground p beds west south = grid (p.side / 2) (λ i j. entry p.n 0 beds (west + i) (south + j))

-- its water, where quarter is a fourth of the leaf's water and beds
abbrev pub share : Plot → List ℕ → ℕ → (west south : ℕ) → ℕ
share p beds quarter west south = quarter - child_ground p beds west south

abbrev pub shares : Plot → List ℕ → ℕ → Quarters ℕ
shares p beds quarter =
    record {
      sw = share p beds quarter p.west p.south;
      se = share p beds quarter (p.west + p.side / 2) p.south;
      nw = share p beds quarter p.west (p.south + p.side / 2);
      ne = share p beds quarter (p.west + p.side / 2) (p.south + p.side / 2);
    }

-- some child would be dry, or could not hold its water
abbrev pub some_bare : Quarters ℕ → Bool
some_bare s = nat_lt s.sw 1 || (nat_lt s.se 1 || (nat_lt s.nw 1 || nat_lt s.ne 1))

abbrev pub some_full : ℕ → Quarters ℕ → Bool
some_full area s = not (may_hold area s.sw) || (not (may_hold area s.se) || (not (may_hold area s.nw) || not (may_hold area s.ne)))

-- no share is more than the largest leaf may hold
pub record SmallShares (s : Quarters ℕ) : Type 0 where
  pub sw : s.sw ≤ 122880000
  pub se : s.se ≤ 122880000
  pub nw : s.nw ≤ 122880000
  pub ne : s.ne ≤ 122880000
