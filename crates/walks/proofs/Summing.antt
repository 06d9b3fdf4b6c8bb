-- The sum over the leaves in the order of the tables is the sum over the leaves of the tree.
use Rattle.std.proofs.Common.{◌≡◌, ℕ, ◌+◌, ◌-◌, ◌*◌, ◌/◌, ◌%◌, ◌^◌, ◌<◌, ◌≤◌, true, eqb, sym, ap, ◌∙◌, mod-lt, add-mul, mul-le-mul, div-add-mod', arith}
use Rattle.std.proofs.lemmas.Bool.{eq-eqb, eqb-true}
use Rattle.basin.specs.Basins.{Basin, view, ValidBasin}
use Rattle.basin.specs.Blocks.{Block}
use Rattle.basin.specs.Sums.{only}
use Rattle.basin.specs.Totals.{corner_of, is_corner}
use Rattle.basin.specs.Views.{View, side_of}
use Rattle.basin.proofs.Flat.{sum_below_cong, flat_grid}
use Rattle.basin.proofs.Sizes.{side_pos}
use Rattle.basin.proofs.Tests.{and_true, true_and, same_bool}
use Rattle.runs.specs.Calls.{moved}
use Rattle.runs.specs.Homes.{tree, home}
use Rattle.runs.specs.Rules.{Rule}
use Rattle.runs.specs.Step.{out_of}
use Rattle.runs.specs.Trees.{leaves}
use Rattle.runs.proofs.Corners.{corners}
use Rattle.runs.proofs.Views.{at_home}
use Rattle.runs.proofs.Water.{leaves_cong}
use Rattle.blocks.specs.Places.{corner_entry, home_at}
use Rattle.walks.specs.Walks.{leaf_sum}
use Rattle.walks.proofs.Walking.{home_is}

-- the square (x, y) is the corner of its block of side s where the block's corner has the square's entry
corner_told : (n s x y : ℕ) → 0 < n → 0 < s → x < n → eqb (y / s * s * n + x / s * s) (y * n + x) ≡ corner_of s x y
corner_told n s x y some wide h = same_bool _ _ there back
  where
    ex : x / s * s + x % s ≡ x
    ex = div-add-mod' x s

    ey : y / s * s + y % s ≡ y
    ey = div-add-mod' y s

    there : eqb (y / s * s * n + x / s * s) (y * n + x) ≡ true → corner_of s x y ≡ true
    there e =
        let same = eqb-true (y / s * s * n + x / s * s) (y * n + x) e in
        let up : y * n ≡ y / s * s * n + y % s * n = ap (λ k. k * n) (sym ey) ∙ add-mul (y / s * s) (y % s) n in
        let one : y % s * 1 ≤ y % s * n = mul-le-mul (omega arith) some in
        true_and _ _ (eq-eqb (x % s) 0 (omega (arith, ex))) (eq-eqb (y % s) 0 (omega (arith, ex)))

    back : corner_of s x y ≡ true → eqb (y / s * s * n + x / s * s) (y * n + x) ≡ true
    back e =
        let both = and_true _ _ e in
        let zx = eqb-true (x % s) 0 both.0 in
        let zy = eqb-true (y % s) 0 both.1 in
        let same : y / s * s ≡ y = omega (arith, ey) in
        eq-eqb _ _ (omega (arith, ex, ap (λ k. k * n) same))

module _ (b : Basin) (ok : ValidBasin b) where
  abbrev v : View
  v = view b

  abbrev L : ℕ
  L = b.head.L

  pub all_leaves : (f : Block → ℕ) → leaf_sum L b.tables.levels f (2 ^ L * 2 ^ L) ≡ leaves (tree v) f
  unfolding leaf_sum
  all_leaves f =
      sum_below_cong (2 ^ L * 2 ^ L) _ (λ i. only (is_corner v (i % 2 ^ L) (i / 2 ^ L)) (f (home v (i % 2 ^ L) (i / 2 ^ L)))) at_square
      ∙ flat_grid (2 ^ L) (λ x y. only (is_corner v x y) (f (home v x y)))
      ∙ corners v ok.squares.quadtree.shallow (λ x y. f (home v x y))
      ∙ leaves_cong (tree v) (λ c. f (home v (c.X * 2 ^ (L - c.k)) (c.Y * 2 ^ (L - c.k)))) f (λ c w h. ap f (at_home v c w h))
    where
      at_square : (i : ℕ) → i < 2 ^ L * 2 ^ L
          → only (eqb (corner_entry L (home_at L b.tables.levels i)) i) (f (home_at L b.tables.levels i))
          ≡ only (is_corner v (i % 2 ^ L) (i / 2 ^ L)) (f (home v (i % 2 ^ L) (i / 2 ^ L)))
      at_square i h =
          let x = i % 2 ^ L in
          let y = i / 2 ^ L in
          let s = side_of v (v.level x y) in
          let told = corner_told (2 ^ L) s x y (side_pos L) (side_pos (L - v.level x y)) (mod-lt i (side_pos L)) in
          ap (λ c. only (eqb (corner_entry L c) i) (f c)) (home_is b ok i)
          ∙ ap (λ j. only (eqb (corner_entry L (home v x y)) j) (f (home v x y))) (sym (div-add-mod' i (2 ^ L)))
          ∙ ap (λ t. only t (f (home v x y))) told

  pub moved_is : (R : Rule) (T m : ℕ) → m ≡ leaf_sum L b.tables.levels (out_of R T (tree v)) (2 ^ L * 2 ^ L) → m ≡ moved R T v
  moved_is R T m e = e ∙ all_leaves (out_of R T (tree v))
