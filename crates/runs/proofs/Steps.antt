-- A step of the turned squares is the turned step, and moves as much.
use Rattle.std.proofs.Common.{◌≡◌, ℕ, ◌+◌, ◌-◌, ◌*◌, ◌/◌, ◌^◌, ◌<◌, sym, ap, ◌∙◌, arith}
use Rattle.basin.specs.declared.leaf.Leaf.{Leaf}
use Rattle.basin.specs.Basins.{Valid}
use Rattle.basin.specs.Blocks.{Block, block, block_sum, Within}
use Rattle.basin.specs.Squares.{area}
use Rattle.basin.specs.Sums.{only}
use Rattle.basin.specs.Views.{View, size}
use Rattle.basin.proofs.Flat.{sum_below_cong}
use Rattle.basin.proofs.Sizes.{side_pos}
use Rattle.runs.specs.Calls.{moved}
use Rattle.runs.specs.Homes.{sort, home, after_step, tree}
use Rattle.runs.specs.Rules.{Rule, Lawful}
use Rattle.runs.specs.Step.{stepped, out_of}
use Rattle.runs.specs.Trees.{whole, is_whole, leaves}
use Rattle.runs.specs.Turns.{flip_leaf, transpose_leaf}
use Rattle.runs.proofs.Limits.{Bounded}
use Rattle.runs.proofs.Overs.{over_cong}
use Rattle.runs.proofs.Ranges.{has_room, slow_eastward, slow_northward}
use Rattle.runs.proofs.Sounds.{sound, inside, at_sort}
use Rattle.runs.proofs.Sums.{grid_cong, grid_across}
use Rattle.runs.proofs.Turning.{like, Turned}
use Rattle.runs.proofs.Turns.{flip, transpose, flip_stepped, flip_out, transpose_stepped, transpose_out}
use Rattle.runs.proofs.Views.{home_within, flip_kind, flip_leaves, flip_beds, flip_div, over_flip}
use Rattle.runs.proofs.Water.{leaves_cong}

pub bounded : (v : View) → Valid v → (c : Block) → Within v.L c → (tree v).kind c ≡ whole → Bounded (tree v) c
bounded v good c w h =
    let s = 2 ^ (v.L - c.k) in
    let z = side_pos (v.L - c.k) in
    let x₀ : c.X * s < size v = omega (arith, inside v.L c.k c.X 0 w.deep w.east z) in
    let y₀ : c.Y * s < size v = omega (arith, inside v.L c.k c.Y 0 w.deep w.north z) in
    let e = at_sort (v.level (c.X * s) (c.Y * s)) c.k h in
    record {
      room = omega (arith, has_room good (c.X * s) (c.Y * s) x₀ y₀, ap (λ k. 30000 * area v k) e);
      slow_east = slow_eastward good (c.X * s) (c.Y * s) x₀ y₀;
      slow_north = slow_northward good (c.X * s) (c.Y * s) x₀ y₀;
    }

-- ---- the corner of a block
corner_x : (v : View) (c : Block) → Within v.L c → c.X * 2 ^ (v.L - c.k) < size v
corner_x v c w = omega (arith, inside v.L c.k c.X 0 w.deep w.east (side_pos (v.L - c.k)))

corner_y : (v : View) (c : Block) → Within v.L c → c.Y * 2 ^ (v.L - c.k) < size v
corner_y v c w = omega (arith, inside v.L c.k c.Y 0 w.deep w.north (side_pos (v.L - c.k)))

block_cong : (L : ℕ) (f g : ℕ → ℕ → ℕ) → ((x y : ℕ) → x < 2 ^ L → y < 2 ^ L → f x y ≡ g x y) → (c : Block) → Within L c → block_sum L f c ≡ block_sum L g c
block_cong L f g h c w =
    let s = 2 ^ (L - c.k) in
    grid_cong s (λ i j. f (c.X * s + i) (c.Y * s + j)) (λ i j. g (c.X * s + i) (c.Y * s + j))
    (λ i j a b. h (c.X * s + i) (c.Y * s + j) (inside L c.k c.X i w.deep w.east a) (inside L c.k c.Y j w.deep w.north b))

module _ (v : View) (level' bed' : ℕ → ℕ → ℕ) (leaf' : ℕ → ℕ → Leaf) (good : Valid v) (good' : Valid (like v level' bed' leaf')) where
  -- ---- flipped
  module _ (T : Turned v level' bed' leaf' (λ x y. 2 ^ v.L - 1 - x) (λ x y. y) flip_leaf) where
    kinds : (c : Block) → Within v.L c → (tree (like v level' bed' leaf')).kind c ≡ (tree v).kind (flip c)
    kinds c w = ap (λ m. sort m c.k) (T.levels _ _ (corner_x v c w) (corner_y v c w)) ∙ flip_kind v good.quadtree c w

    records : (c : Block) → Within v.L c → (tree (like v level' bed' leaf')).kind c ≡ whole
        → (tree (like v level' bed' leaf')).leaf c ≡ flip_leaf ((tree v).leaf (flip c))
    records c w h =
        T.leaves _ _ (corner_x v c w) (corner_y v c w)
        ∙ flip_leaves v good.quadtree c w (sym (ap (λ m. sort m c.k) (T.levels _ _ (corner_x v c w) (corner_y v c w))) ∙ h)

    bed_sums : (c : Block) → Within v.L c → (tree (like v level' bed' leaf')).kind c ≡ whole → (tree (like v level' bed' leaf')).beds c ≡ (tree v).beds (flip c)
    bed_sums c w h = block_cong v.L bed' (λ x y. v.bed (2 ^ v.L - 1 - x) y) T.beds c w ∙ flip_beds v good.quadtree c w

    pub flip_steps : (R : Rule) → Lawful R → (t x y : ℕ) → x < size v → y < size v
        → (after_step R t (like v level' bed' leaf')).leaf x y ≡ flip_leaf ((after_step R t v).leaf (2 ^ v.L - 1 - x) y)
    flip_steps R law t x y a b =
        let v' = like v level' bed' leaf' in
        let w = home_within v' good'.quadtree x y a b in
        let k = v.level (2 ^ v.L - 1 - x) y in
        flip_stepped (tree v) (tree v').kind (tree v').leaf (tree v').beds (sound v' good'.quadtree) kinds records bed_sums
        (bounded v good) R law t (home v' x y) w.0 w.1
        ∙ ap (λ c. flip_leaf (stepped R t (tree v) c))
        (ap (λ k. flip (block k (x / 2 ^ (v.L - k)) (y / 2 ^ (v.L - k)))) (T.levels x y a b)
        ∙ ap (λ q. block k q (y / 2 ^ (v.L - k))) (sym (flip_div v.L k x (good.quadtree.shallow (2 ^ v.L - 1 - x) y (omega arith) b) a)))

    pub flip_moved : (R : Rule) → Lawful R → (t : ℕ) → moved R t (like v level' bed' leaf') ≡ moved R t v
    unfolding leaves
    flip_moved R law t =
        let v' = like v level' bed' leaf' in
        leaves_cong (tree v') (λ c. out_of R t (tree v') c) (λ c. out_of R t (tree v) (flip c))
        (λ c w h. flip_out (tree v) (tree v').kind (tree v').leaf (tree v').beds (sound v' good'.quadtree) kinds records bed_sums
        (bounded v good) R law t c w h)
        ∙ over_cong v.L _ (λ c. only (is_whole ((tree v).kind (flip c))) (out_of R t (tree v) (flip c)))
        (λ c w. ap (λ κ. only (is_whole κ) (out_of R t (tree v) (flip c))) (kinds c w))
        ∙ over_flip v.L (λ c. only (is_whole ((tree v).kind c)) (out_of R t (tree v) c))

  -- ---- transposed
  module _ (T : Turned v level' bed' leaf' (λ x y. y) (λ x y. x) transpose_leaf) where
    kinds_across : (c : Block) → Within v.L c → (tree (like v level' bed' leaf')).kind c ≡ (tree v).kind (transpose c)
    kinds_across c w = ap (λ m. sort m c.k) (T.levels _ _ (corner_x v c w) (corner_y v c w))

    records_across : (c : Block) → Within v.L c → (tree (like v level' bed' leaf')).kind c ≡ whole
        → (tree (like v level' bed' leaf')).leaf c ≡ transpose_leaf ((tree v).leaf (transpose c))
    records_across c w h = T.leaves _ _ (corner_x v c w) (corner_y v c w)

    bed_sums_across : (c : Block) → Within v.L c → (tree (like v level' bed' leaf')).kind c ≡ whole
        → (tree (like v level' bed' leaf')).beds c ≡ (tree v).beds (transpose c)
    bed_sums_across c w h =
        block_cong v.L bed' (λ x y. v.bed y x) T.beds c w
        ∙ grid_across (2 ^ (v.L - c.k)) (λ i j. v.bed (c.Y * 2 ^ (v.L - c.k) + i) (c.X * 2 ^ (v.L - c.k) + j))

    pub transpose_steps : (R : Rule) → Lawful R → (t x y : ℕ) → x < size v → y < size v
        → (after_step R t (like v level' bed' leaf')).leaf x y ≡ transpose_leaf ((after_step R t v).leaf y x)
    transpose_steps R law t x y a b =
        let v' = like v level' bed' leaf' in
        let w = home_within v' good'.quadtree x y a b in
        transpose_stepped (tree v) (tree v').kind (tree v').leaf (tree v').beds
        (sound v' good'.quadtree) kinds_across records_across bed_sums_across (bounded v good) R t (home v' x y) w.0 w.1
        ∙ ap (λ c. transpose_leaf (stepped R t (tree v) c)) (ap (λ k. block k (y / 2 ^ (v.L - k)) (x / 2 ^ (v.L - k))) (T.levels x y a b))

    pub transpose_moved : (R : Rule) → Lawful R → (t : ℕ) → moved R t (like v level' bed' leaf') ≡ moved R t v
    unfolding leaves
    transpose_moved R law t =
        let v' = like v level' bed' leaf' in
        leaves_cong (tree v') (λ c. out_of R t (tree v') c) (λ c. out_of R t (tree v) (transpose c))
        (λ c w h. transpose_out (tree v) (tree v').kind (tree v').leaf (tree v').beds
        (sound v' good'.quadtree) kinds_across records_across bed_sums_across (bounded v good) R t c w h)
        ∙ over_cong v.L _ (λ c. only (is_whole ((tree v).kind (transpose c))) (out_of R t (tree v) (transpose c)))
        (λ c w. ap (λ κ. only (is_whole κ) (out_of R t (tree v) (transpose c))) (kinds_across c w))
        ∙ sum_below_cong (v.L + 1) _ _ (λ k h. grid_across (2 ^ k) (λ X Y. only (is_whole ((tree v).kind (block k X Y))) (out_of R t (tree v) (block k X Y))))
