-- The windows and the quarters of the leaf at a spot.
use Rattle.std.proofs.Common.{◌≡◌, ℕ, suc, ◌+◌, ◌-◌, ◌*◌, ◌/◌, ◌<◌, ◌≤◌, Bool, min, length, Decides, sym, ap, ◌∙◌, subst, arith}
use Rattle.basin.specs.declared.plot.Plot.{Plot}
use Rattle.basin.specs.declared.window.Window.{Window}
use Rattle.basin.specs.Basins.{Basin, view}
use Rattle.basin.specs.Blocks.{block, block_sum}
use Rattle.basin.specs.Plots.{window_of}
use Rattle.basin.specs.Sums.{grid}
use Rattle.basin.specs.Tables.{entry}
use Rattle.basin.specs.Views.{side_of}
use Rattle.basin.specs.Windows.{ring_at}
use Rattle.basin.proofs.Sizes.{side_pos}
use Rattle.runs.proofs.Sounds.{twice}
use Rattle.calls.specs.declared.spot.Spot.{Spot}
use Rattle.calls.specs.Spots.{Located}
use Rattle.tables.specs.Surveys.{BlockAt}
use Rattle.refine.specs.Shares.{child_ground}
use Rattle.refine.specs.Floods.{DryWindow}
use Rattle.refine.specs.Windows.{BlockWindow, RingWindow}

module _ (b : Basin) (k x y : ℕ) (s : Plot) (l : BlockAt b k x y s) where
  pub block_window_is : BlockWindow (view b) k x y (window_of s)
  block_window_is =
      record {
        west = l.west_is;
        east = λ i. l.west_is i + l.side_is i;
        south = l.south_is;
        north = λ i. l.south_is i + l.side_is i;
      }

  pub ring_window_is : RingWindow (view b) k x y (ring_at s.n (window_of s))
  ring_window_is =
      record {
        west = ap (λ p. p - 1) l.west_is;
        east = λ i. min (l.n_is i) (l.west_is i + l.side_is i + 1);
        south = ap (λ p. p - 1) l.south_is;
        north = λ i. min (l.n_is i) (l.south_is i + l.side_is i + 1);
      }

module _ (b : Basin) (x y : ℕ) (s : Spot) (l : Located b x y s) where
  pub levels_full : length b.tables.levels ≡ s.plot.n * s.plot.n
  levels_full = l.valid.full.levels ∙ (λ i. sym l.block.n_is i * sym l.block.n_is i)

  -- a leaf that is not of the deepest level
  module _ (deep : (view b).level x y < b.head.L) where
    abbrev k : ℕ
    k = (view b).level x y

    abbrev half : ℕ
    half = side_of (view b) (suc k)

    pub twice_half : s.plot.side ≡ half * 2
    twice_half = l.block.side_is ∙ twice b.head.L k deep

    pub two_wide : 2 ≤ s.plot.side
    two_wide = let z = side_pos (b.head.L - suc k) in let e = twice_half in omega arith

    pub half_is : s.plot.side / 2 ≡ half
    half_is = let e = twice_half in omega arith

    abbrev X : ℕ
    X = x / side_of (view b) k

    abbrev Y : ℕ
    Y = y / side_of (view b) k

    -- the south-west squares of the quarters
    pub west_first : X * 2 * half ≡ s.plot.west
    west_first = omega (arith, l.block.west_is, ap (λ n. X * n) (twice b.head.L k deep))

    pub west_second : (X * 2 + 1) * half ≡ s.plot.west + s.plot.side / 2
    west_second = omega (arith, l.block.west_is, ap (λ n. X * n) (twice b.head.L k deep), half_is)

    pub south_first : Y * 2 * half ≡ s.plot.south
    south_first = omega (arith, l.block.south_is, ap (λ n. Y * n) (twice b.head.L k deep))

    pub south_second : (Y * 2 + 1) * half ≡ s.plot.south + s.plot.side / 2
    south_second = omega (arith, l.block.south_is, ap (λ n. Y * n) (twice b.head.L k deep), half_is)

    -- the sum of the beds of a quarter
    pub ground_is : (A B west south : ℕ) → A * half ≡ west → B * half ≡ south
        → child_ground s.plot b.tables.beds west south ≡ block_sum b.head.L (view b).bed (block (suc k) A B)
    ground_is A B west south e f =
        λ i. grid (half_is i) (λ p q. entry (l.block.n_is i) 0 b.tables.beds (sym e i + p) (sym f i + q))

-- ---- what was asked of a survey was asked of the basin that it shows
pub block_at : (a b : Basin) (k x y : ℕ) (p : Plot) → a ≡ b → BlockAt a k x y p → BlockAt b k x y p
block_at a b k x y p e at = subst (λ c. BlockAt c k x y p) e at

pub dry_in : (a b : Basin) (r : Bool) (j : ℕ) (w : Window) → a ≡ b → Decides r (DryWindow (view a) j w) → Decides r (DryWindow (view b) j w)
dry_in a b r j w e told = subst (λ c. Decides r (DryWindow (view c) j w)) e told
