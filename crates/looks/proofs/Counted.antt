-- The water of all leaves, counted entry by entry.
use Rattle.std.proofs.Common.{◌≡◌, ℕ, ◌+◌, ◌-◌, ◌*◌, ◌/◌, ◌%◌, ◌^◌, ◌<◌, ◌≤◌, true, false, get_or, sym, ap, ◌∙◌, add-zero, div-add-mod'}
use Rattle.std.proofs.lemmas.Nat.{div_below, mod_below}
use Rattle.basin.specs.Basins.{Basin, side, view, ValidBasin}
use Rattle.basin.specs.Records.{dry}
use Rattle.basin.specs.Squares.{water}
use Rattle.basin.specs.Sums.{sum_below, only}
use Rattle.basin.specs.Totals.{corner_of, is_corner, all_water}
use Rattle.basin.proofs.Flat.{flat_grid}
use Rattle.basin.proofs.Sizes.{side_pos}
use Rattle.looks.proofs.Beds.{sum_more}

-- the water that is counted at a square
abbrev pub counted : Basin → ℕ → ℕ → ℕ
counted b x y = only (is_corner (view b) x y) (water (view b) x y)

-- and at the square of entry i
abbrev pub counted_at : Basin → ℕ → ℕ
counted_at b i = counted b (i % side b.head) (i / side b.head)

-- one more entry, where s is the side of its leaf, and n the basin's
module _ (b : Basin) (n s i : ℕ) (en : n ≡ side b.head) (es : s ≡ 2 ^ (b.head.L - get_or b.tables.levels i 0)) where
  counted_is : only (corner_of s (i % n) (i / n)) (get_or b.tables.leaves i dry).water ≡ counted_at b i
  counted_is =
      let at : i ≡ i / side b.head * side b.head + i % side b.head = sym (div-add-mod' i (side b.head)) in
      let wide : s ≡ 2 ^ (b.head.L - (view b).level (i % side b.head) (i / side b.head)) =
      es ∙ ap (λ p. 2 ^ (b.head.L - get_or b.tables.levels p 0)) at in
      λ t. only (corner_of (wide t) (i % en t) (i / en t)) (get_or b.tables.leaves (at t) dry).water

  -- a corner's water is counted
  pub corner_more : (sum : ℕ) → true ≡ corner_of s (i % n) (i / n) → sum ≡ sum_below i (counted_at b)
      → sum + (get_or b.tables.leaves i dry).water ≡ sum_below (i + 1) (counted_at b)
  corner_more sum corner e = sum_more i (counted_at b) sum _ e (ap (λ t. only t (get_or b.tables.leaves i dry).water) corner ∙ counted_is)

  -- another square's is not
  pub other_more : (sum : ℕ) → false ≡ corner_of s (i % n) (i / n) → sum ≡ sum_below i (counted_at b)
      → sum ≡ sum_below (i + 1) (counted_at b)
  other_more sum other e =
      sym (add-zero sum) ∙ sum_more i (counted_at b) sum 0 e (ap (λ t. only t (get_or b.tables.leaves i dry).water) other ∙ counted_is)

-- all entries
pub all_counted : (b : Basin) (sum i : ℕ) → i ≡ side b.head * side b.head → sum ≡ sum_below i (counted_at b) → sum ≡ all_water (view b)
all_counted b sum i all e = e ∙ ap (λ m. sum_below m (counted_at b)) all ∙ flat_grid (side b.head) (counted b)

-- an entry's level is at most that of the tree
pub deep_at : (b : Basin) → ValidBasin b → (i : ℕ) → i < side b.head * side b.head → get_or b.tables.levels i 0 ≤ b.head.L
deep_at b valid i within =
    let n = side b.head in
    let some = side_pos b.head.L in
    let e = ap (λ p. get_or b.tables.levels p 0) (div-add-mod' i (side b.head)) in
    rw (sym e) (valid.squares.quadtree.shallow (i % n) (i / n) (mod_below i n some) (div_below i n n some within))
