-- A turned basin holds the same water.
use Rattle.std.proofs.Common.{◌≡◌, ℕ, zero, suc, ◌+◌, ◌/◌, ◌%◌, Bool, ◌&&◌, eqb, sym, refl, ap, ◌∙◌}
use Rattle.std.proofs.Math.Bool.{and_comm}
use Rattle.basin.specs.Basins.{Basin, view, Valid, ValidBasin}
use Rattle.basin.specs.Squares.{water}
use Rattle.basin.specs.Sums.{only}
use Rattle.basin.specs.Totals.{is_corner, all_water, total}
use Rattle.basin.specs.Views.{View, size, side_of}
use Rattle.runs.specs.Homes.{tree}
use Rattle.runs.specs.Trees.{is_whole, leaves}
use Rattle.runs.specs.Turns.{flip_view, transpose_view, quarter_view, times, flip_basin, quarter_basin}
use Rattle.runs.proofs.Basins.{packed_water}
use Rattle.runs.proofs.Corners.{corners}
use Rattle.runs.proofs.Overs.{over_cong}
use Rattle.runs.proofs.Sums.{grid_cong, grid_across}
use Rattle.runs.proofs.Turns.{flip}
use Rattle.runs.proofs.Views.{flip_kind, flip_leaves, over_flip}
use Rattle.runs.proofs.Water.{leaves_cong}
use Rattle.turns.specs.Turns.{turned_basin}
use Rattle.turns.proofs.Basins.{flip_squares, transpose_squares, flip_valid, quarter_valid}
use Rattle.turns.proofs.Places.{times_keeps}

-- a flip takes the leaves to leaves, though not their corners to corners
flip_water : (v : View) → Valid v → all_water (flip_view v) ≡ all_water v
unfolding leaves
flip_water v valid =
    let w = flip_view v in
    let tree_of = valid.quadtree in
    corners w (flip_squares v valid).quadtree.shallow (λ x y. water w x y)
    ∙ leaves_cong (tree w) (λ c. ((tree w).leaf c).water) (λ c. ((tree v).leaf (flip c)).water) (λ c i h. ap (λ l. l.water) (flip_leaves v tree_of c i h))
    ∙ over_cong v.L _ (λ c. only (is_whole ((tree v).kind (flip c))) ((tree v).leaf (flip c)).water)
    (λ c i. ap (λ κ. only (is_whole κ) ((tree v).leaf (flip c)).water) (flip_kind v tree_of c i))
    ∙ over_flip v.L (λ c. only (is_whole ((tree v).kind c)) ((tree v).leaf c).water)
    ∙ sym (corners v tree_of.shallow (λ x y. water v x y))

transpose_water : (v : View) → all_water (transpose_view v) ≡ all_water v
transpose_water v =
    grid_cong (size v) _ (λ x y. only (is_corner v y x) (water v y x))
    (λ x y a b. across (eqb (x % side_of v (v.level y x)) 0) (eqb (y % side_of v (v.level y x)) 0) (water v y x))
    ∙ grid_across (size v) (λ x y. only (is_corner v x y) (water v x y))
  where
    across : (s t : Bool) (m : ℕ) → only (s && t) m ≡ only (t && s) m
    across s t m = ap (λ b. only b m) (and_comm s t)

flip_total : (b : Basin) → ValidBasin b → total (flip_basin b) ≡ total b
flip_total b right =
    ap (λ m. m + b.head.loose) (packed_water b.head.loose (flip_view (view b)) ∙ flip_water (view b) right.squares)

quarter_total : (b : Basin) → ValidBasin b → total (quarter_basin b) ≡ total b
quarter_total b right =
    ap (λ m. m + b.head.loose)
    (packed_water b.head.loose (quarter_view (view b))
    ∙ flip_water (transpose_view (view b)) (transpose_squares (view b) right.squares)
    ∙ transpose_water (view b))

times_total : (G : Basin → Basin) → ((b : Basin) → ValidBasin b → ValidBasin (G b)) → ((b : Basin) → ValidBasin b → total (G b) ≡ total b)
    → (k : ℕ) (b : Basin) → ValidBasin b → total (times k G b) ≡ total b
times_total G keeps same zero b right = refl
times_total G keeps same (suc k) b right = same (times k G b) (times_keeps ValidBasin G keeps k b right) ∙ times_total G keeps same k b right

pub turned_total : (t : ℕ) (b : Basin) → ValidBasin b → total (turned_basin t b) ≡ total b
turned_total t b right =
    times_total quarter_basin quarter_valid quarter_total (t % 4) (times (t / 4) flip_basin b) (times_keeps ValidBasin flip_basin flip_valid (t / 4) b right)
    ∙ times_total flip_basin flip_valid flip_total (t / 4) b right
