-- The tree of a valid basin: sound, and its leaves are those that the tables show.
use Rattle.std.proofs.Common.{◌≡◌, ℕ, zero, suc, ◌+◌, ◌-◌, ◌*◌, ◌/◌, ◌^◌, ◌<◌, ◌≤◌, sym, ap, ◌∙◌, ⊎_elim, add-zero, mul_assoc, add-mul, pow-suc, zero-add, arith}
use native.Mathlib.Nat.{div-div-eq-div-mul}
use lib.Arith.{digits_div}
use Rattle.std.proofs.lemmas.Bool.{cases_lt}
use Rattle.basin.specs.Basins.{Valid}
use Rattle.basin.specs.Views.{View, size}
use Rattle.basin.proofs.Sizes.{side_pos, side_times}
use Rattle.nodes.specs.Trees.{Tree, one, four, Found, found, Sound}
use Rattle.nodes.proofs.Leaves.{found_sw, found_se, found_nw, found_ne}
use Rattle.encode.specs.Bytes.{tree_of}
use Rattle.encode.proofs.Nodes.{tree_cut, tree_leaf}

-- ---- the X-th block of side 2^h lies in one block of each larger side 2^m
part_of : (X h m i : ℕ) → h ≤ m → i < 2 ^ h → (X * 2 ^ h + i) / 2 ^ m ≡ X / 2 ^ (m - h)
part_of X h m i l b =
    ap (λ k. (X * 2 ^ h + i) / k) (side_times m h l)
    ∙ (sym (div-div-eq-div-mul (X * 2 ^ h + i) (2 ^ h) (2 ^ (m - h))) ∙ ap (λ k. k / 2 ^ (m - h)) (digits_div X b))

same_part : (x X h m i : ℕ) → x ≡ X * 2 ^ h → h ≤ m → i < 2 ^ h → (x + i) / 2 ^ m ≡ x / 2 ^ m
same_part x X h m i e l b =
    let first : x / 2 ^ m ≡ X / 2 ^ (m - h) =
    ap (λ k. k / 2 ^ m) (e ∙ sym (add-zero (X * 2 ^ h))) ∙ part_of X h m 0 l (side_pos h) in
    ap (λ k. (k + i) / 2 ^ m) e ∙ (part_of X h m i l b ∙ sym first)

-- ---- a block of side 2^h at (x, y) that lies in no larger leaf
record Whole (v : View) (h x y : ℕ) : Type 0 where
  pub X : ℕ
  pub Y : ℕ
  pub deep : h ≤ v.L
  pub east_is : x ≡ X * 2 ^ h
  pub north_is : y ≡ Y * 2 ^ h
  pub east : x + 2 ^ h ≤ size v
  pub north : y + 2 ^ h ≤ size v
  pub inside : (i j : ℕ) → i < 2 ^ h → j < 2 ^ h → v.L - h ≤ v.level (x + i) (y + j)

all : (v : View) → Whole v v.L 0 0
all v =
    record {
      X = 0;
      Y = 0;
      deep = omega arith;
      east_is = omega arith;
      north_is = omega arith;
      east = omega arith;
      north = omega arith;
      inside = λ i j a b. omega arith;
    }

-- the leaf that the tables show at a square
abbrev square : View → ℕ → ℕ → Found
square v x y = record { height = v.L - v.level x y; leaf = v.leaf x y }

-- a tree is sound on a block, and its leaves are those that the tables show there
pub record Shown (v : View) (h x y : ℕ) (t : Tree) : Type 0 where
  pub sound : Sound h t
  pub shows : (i j : ℕ) → i < 2 ^ h → j < 2 ^ h → found h t i j ≡ square v (x + i) (y + j)

module _ (v : View) (good : Valid v) where
  -- ---- a block that is a leaf
  module _ (h x y : ℕ) (w : Whole v h x y) (low : v.level x y ≤ v.L - h) where
    height_is : v.L - v.level x y ≡ h
    height_is =
        let least = rw (add-zero x, add-zero y) at (w.inside 0 0 (side_pos h) (side_pos h)) in
        omega (arith, least, w.deep)

    same : (i j : ℕ) → i < 2 ^ h → j < 2 ^ h → (v.level (x + i) (y + j) ≡ v.level x y) × (v.leaf (x + i) (y + j) ≡ v.leaf x y)
    same i j a b =
        good.quadtree.uniform x y (x + i) (y + j)
        (omega (arith, w.east)) (omega (arith, w.north)) (omega (arith, w.east)) (omega (arith, w.north))
        (rw height_is (sym (same_part x w.X h h i w.east_is (omega arith) a)))
        (rw height_is (sym (same_part y w.Y h h j w.north_is (omega arith) b)))

    shown_leaf : Shown v h x y (one (v.leaf x y))
    unfolding found
    shown_leaf =
        record {
          sound = rw height_is at (good.in_range x y (omega (arith, w.east, side_pos h)) (omega (arith, w.north, side_pos h)));
          shows = λ i j a b.
              let s = same i j a b in
              let e : h ≡ v.L - v.level (x + i) (y + j) = omega (arith, s.0, height_is) in
              λ k. record { height = e k; leaf = sym s.1 k };
        }

  -- ---- a block that is cut
  module _ (m x y : ℕ) (w : Whole v (suc m) x y) (deeper : v.L - suc m < v.level x y) where
    -- its squares lie in no leaf as large as it
    finer : (i j : ℕ) → i < 2 ^ suc m → j < 2 ^ suc m → v.L - m ≤ v.level (x + i) (y + j)
    finer i j a b = ⊎_elim coarse (λ (l : v.L - m ≤ v.level (x + i) (y + j)). l) (cases_lt (v.level (x + i) (y + j)) (v.L - m))
      where
        coarse : v.level (x + i) (y + j) < v.L - m → v.L - m ≤ v.level (x + i) (y + j)
        coarse l =
            let k : suc m ≤ v.L - v.level (x + i) (y + j) = omega (arith, w.deep) in
            let s = good.quadtree.uniform (x + i) (y + j) x y
            (omega (arith, w.east)) (omega (arith, w.north)) (omega (arith, w.east)) (omega (arith, w.north))
            (same_part x w.X (suc m) (v.L - v.level (x + i) (y + j)) i w.east_is k a)
            (same_part y w.Y (suc m) (v.L - v.level (x + i) (y + j)) j w.north_is k b) in
            omega (arith, s.0, w.deep)

    -- its quarters, a and b halves to the east and to the north
    quarter : (a d b e p q : ℕ) → d ≡ a * 2 ^ m → d ≤ 2 ^ m → e ≡ b * 2 ^ m → e ≤ 2 ^ m → p ≡ x + d → q ≡ y + e → Whole v m p q
    quarter a d b e p q ed ld ee le ep eq =
        let double : 2 ^ suc m ≡ 2 ^ m * 2 = pow-suc 2 m in
        record {
          X = 2 * w.X + a;
          Y = 2 * w.Y + b;
          deep = omega (arith, w.deep);
          east_is = twice x w.X a d p w.east_is ed ep;
          north_is = twice y w.Y b e q w.north_is ee eq;
          east = omega (arith, w.east);
          north = omega (arith, w.north);
          inside = λ i j f g.
              let ei : p + i ≡ x + (d + i) = omega arith in
              let ej : q + j ≡ y + (e + j) = omega arith in
              rw (ei, ej) (finer (d + i) (e + j) (omega arith) (omega arith));
        }
      where
        twice : (x X a d p : ℕ) → x ≡ X * 2 ^ suc m → d ≡ a * 2 ^ m → p ≡ x + d → p ≡ (2 * X + a) * 2 ^ m
        twice x X a d p ex ed ep =
            omega (arith, ap (λ n. X * n) (pow-suc 2 m), add-mul (2 * X) a (2 ^ m), mul_assoc 2 X (2 ^ m), mul_assoc X (2 ^ m) 2)

  shown_four : (m x y : ℕ) (a b c d : Tree)
      → Shown v m x y a → Shown v m (x + 2 ^ m) y b → Shown v m x (y + 2 ^ m) c → Shown v m (x + 2 ^ m) (y + 2 ^ m) d
      → Shown v (suc m) x y (four a b c d)
  shown_four m x y a b c d sa sb sc sd =
      record { sound = (omega arith, sa.sound, sb.sound, sc.sound, sd.sound); shows = shows }
    where
      shows : (i j : ℕ) → i < 2 ^ suc m → j < 2 ^ suc m → found (suc m) (four a b c d) i j ≡ square v (x + i) (y + j)
      shows i j li lj =
          let double : 2 ^ suc m ≡ 2 ^ m * 2 = pow-suc 2 m in
          ⊎_elim
          (λ (n : j < 2 ^ m). ⊎_elim
          (λ (e : i < 2 ^ m). found_sw m a b c d i j e n ∙ sa.shows i j e n)
          (λ (e : 2 ^ m ≤ i).
          let k : x + 2 ^ m + (i - 2 ^ m) ≡ x + i = omega arith in
          found_se m a b c d i j e n ∙ (sb.shows (i - 2 ^ m) j (omega arith) n ∙ ap (λ p. square v p (y + j)) k))
          (cases_lt i (2 ^ m)))
          (λ (n : 2 ^ m ≤ j).
          let l : y + 2 ^ m + (j - 2 ^ m) ≡ y + j = omega arith in
          ⊎_elim
          (λ (e : i < 2 ^ m).
          found_nw m a b c d i j e n ∙ (sc.shows i (j - 2 ^ m) e (omega arith) ∙ ap (λ q. square v (x + i) q) l))
          (λ (e : 2 ^ m ≤ i).
          let k : x + 2 ^ m + (i - 2 ^ m) ≡ x + i = omega arith in
          found_ne m a b c d i j e n
          ∙ (sd.shows (i - 2 ^ m) (j - 2 ^ m) (omega arith) (omega arith) ∙ (λ z. square v (k z) (l z))))
          (cases_lt i (2 ^ m)))
          (cases_lt j (2 ^ m))

  shown : (h x y : ℕ) → Whole v h x y → Shown v h x y (tree_of v h x y)
  shown zero x y w =
      let low = good.quadtree.shallow x y (omega (arith, w.east)) (omega (arith, w.north)) in
      let l : v.level x y ≤ v.L - 0 = omega arith in
      rw (tree_leaf v 0 x y l) (shown_leaf 0 x y w l)
  shown (suc m) x y w =
      ⊎_elim
      (λ (l : v.L - suc m < v.level x y).
      let q = quarter m x y w l in
      rw (tree_cut v m x y l)
      (shown_four m x y _ _ _ _
      (shown m x y (q 0 0 0 0 x y (omega arith) (omega arith) (omega arith) (omega arith) (omega arith) (omega arith)))
      (shown m (x + 2 ^ m) y (q 1 (2 ^ m) 0 0 (x + 2 ^ m) y (omega arith) (omega arith) (omega arith) (omega arith) (omega arith) (omega arith)))
      (shown m x (y + 2 ^ m) (q 0 0 1 (2 ^ m) x (y + 2 ^ m) (omega arith) (omega arith) (omega arith) (omega arith) (omega arith) (omega arith)))
      (shown m (x + 2 ^ m) (y + 2 ^ m)
      (q 1 (2 ^ m) 1 (2 ^ m) (x + 2 ^ m) (y + 2 ^ m) (omega arith) (omega arith) (omega arith) (omega arith) (omega arith) (omega arith)))))
      (λ (l : v.level x y ≤ v.L - suc m). rw (tree_leaf v (suc m) x y l) (shown_leaf (suc m) x y w l))
      (cases_lt (v.L - suc m) (v.level x y))

  pub whole_sound : Sound v.L (tree_of v v.L 0 0)
  whole_sound = (shown v.L 0 0 (all v)).sound

  pub whole_shows : (x y : ℕ) → x < size v → y < size v → found v.L (tree_of v v.L 0 0) x y ≡ square v x y
  whole_shows x y a b = (shown v.L 0 0 (all v)).shows x y a b ∙ (λ i. square v (zero-add x i) (zero-add y i))
