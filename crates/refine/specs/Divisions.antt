-- A leaf divided into four, on the tables.
use Rattle.std.specs.Prelude.{ℕ, ◌+◌, ◌-◌, ◌*◌, ◌/◌, cond, List, pos, Ok, Err, Result, int_div, nat_lt}
use Rattle.basin.specs.declared.leaf.Leaf.{Leaf}
use Rattle.basin.specs.declared.plot.Plot.{Plot}
use Rattle.basin.specs.declared.quarters.Quarters.{Quarters}
use Rattle.basin.specs.declared.refusal.Refusal.{Refusal}
use Rattle.basin.specs.declared.refusal.Refusal.TheVariants.{WetDry, LeafFull, LooseFull}
use Rattle.basin.specs.Fills.{square}
use Rattle.basin.specs.Finish.{finish}
use Rattle.basin.specs.Plots.{ground}
use Rattle.basin.specs.Records.{dry}
use Rattle.refine.specs.declared.parts.Division.{Division}
use Rattle.refine.specs.Shares.{shares, some_bare, some_full}

-- the children's records, from their shares of the water
abbrev pub child_of : ℕ → Leaf → ℕ → Leaf
child_of area l water = finish area water (int_div l.east (pos 4)) (int_div l.north (pos 4))

abbrev pub children_of : ℕ → Quarters ℕ → Leaf → Quarters Leaf
children_of area s l =
    record { sw = child_of area l s.sw; se = child_of area l s.se; nw = child_of area l s.nw; ne = child_of area l s.ne }

-- the area of a child
abbrev pub child_area : Plot → ℕ
child_area s = s.side / 2 * (s.side / 2)

module _ (s : Plot) (beds : List ℕ) (l : Leaf) where
  -- water and beds of the leaf, and what four equal parts leave over
  abbrev pub filled : ℕ
  filled = l.water + ground s beds

  abbrev pub left_over : ℕ
  left_over = filled - 4 * (filled / 4)

  unfoldable pub wet_division : ℕ → Result Division Refusal
  wet_division loose =
      cond (some_bare (shares s beds (filled / 4))) (Err WetDry)
      (cond (some_full (child_area s) (shares s beds (filled / 4))) (Err LeafFull)
      (cond (nat_lt 1000000 (loose + left_over)) (Err LooseFull)
      (Ok (record { children = children_of (child_area s) (shares s beds (filled / 4)) l; remainder = left_over }))))

  -- a dry leaf has dry children
  unfoldable pub division_of : ℕ → Result Division Refusal
  division_of loose =
      cond (nat_lt 0 l.water) (wet_division loose)
      (Ok (record { children = record { sw = dry; se = dry; nw = dry; ne = dry }; remainder = 0 }))

-- the tables with the children, of the level below, in the leaf's place
abbrev pub levels_cut : Plot → ℕ → List ℕ → List ℕ
levels_cut s level levels = square s.side s.n s.side (s.south * s.n + s.west) (level + 1) levels

abbrev pub leaves_cut : Plot → Quarters Leaf → List Leaf → List Leaf
leaves_cut s c leaves =
    square (s.side / 2) s.n (s.side / 2) ((s.south + s.side / 2) * s.n + (s.west + s.side / 2)) c.ne
    (square (s.side / 2) s.n (s.side / 2) ((s.south + s.side / 2) * s.n + s.west) c.nw
    (square (s.side / 2) s.n (s.side / 2) (s.south * s.n + (s.west + s.side / 2)) c.se
    (square (s.side / 2) s.n (s.side / 2) (s.south * s.n + s.west) c.sw leaves)))
