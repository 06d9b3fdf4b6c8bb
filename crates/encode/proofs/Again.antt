-- The tree of the tables that a sound tree makes is that tree.
use Rattle.std.proofs.Common.{◌≡◌, ℕ, zero, suc, ◌+◌, ◌-◌, ◌*◌, ◌^◌, ◌<◌, ◌≤◌, refl, ap, ◌∙◌, add-zero, pow-suc, arith}
use Rattle.basin.specs.Views.{View}
use Rattle.basin.proofs.Sizes.{side_pos}
use Rattle.nodes.specs.Trees.{Tree, one, four, Found, found, Sound}
use Rattle.nodes.proofs.Leaves.{leaf_of, found_sw, found_se, found_nw, found_ne}
use Rattle.encode.specs.Bytes.{tree_of}
use Rattle.encode.proofs.Nodes.{tree_cut, tree_leaf}

-- on the block of side 2^h at (x, y), the tables show the leaves of the tree t
pub record Shows (v : View) (h x y : ℕ) (t : Tree) : Type 0 where
  pub level : (i j : ℕ) → i < 2 ^ h → j < 2 ^ h → v.level (x + i) (y + j) ≡ v.L - (found h t i j).height
  pub leaf : (i j : ℕ) → i < 2 ^ h → j < 2 ^ h → v.leaf (x + i) (y + j) ≡ (found h t i j).leaf

module _ (v : View) where
  -- ---- at the block's corner
  module _ (h x y : ℕ) (t : Tree) (s : Shows v h x y t) where
    corner_level : v.level x y ≡ v.L - (found h t 0 0).height
    corner_level = rw (add-zero x, add-zero y) at (s.level 0 0 (side_pos h) (side_pos h))

    corner_leaf : v.leaf x y ≡ (found h t 0 0).leaf
    corner_leaf = rw (add-zero x, add-zero y) at (s.leaf 0 0 (side_pos h) (side_pos h))

  -- ---- the quarters show their trees
  -- the quarter's squares (i, j) are the squares (d + i, e + j) of the whole
  part : (m x y d e : ℕ) (a t : Tree) → Shows v (suc m) x y t → d ≤ 2 ^ m → e ≤ 2 ^ m
      → ((i j : ℕ) → i < 2 ^ m → j < 2 ^ m → found (suc m) t (d + i) (e + j) ≡ found m a i j)
      → Shows v m (x + d) (y + e) a
  part m x y d e a t s ld le h =
      let double : 2 ^ suc m ≡ 2 ^ m * 2 = pow-suc 2 m in
      record {
        level = λ i j f g.
            let ei : x + d + i ≡ x + (d + i) = omega arith in
            let ej : y + e + j ≡ y + (e + j) = omega arith in
            rw (ei, ej)
            (s.level (d + i) (e + j) (omega arith) (omega arith) ∙ ap (λ (g : Found). v.L - g.height) (h i j f g));
        leaf = λ i j f g.
            let ei : x + d + i ≡ x + (d + i) = omega arith in
            let ej : y + e + j ≡ y + (e + j) = omega arith in
            rw (ei, ej)
            (s.leaf (d + i) (e + j) (omega arith) (omega arith) ∙ ap (λ (g : Found). g.leaf) (h i j f g));
      }

  module _ (m x y : ℕ) (a b c d : Tree) (s : Shows v (suc m) x y (four a b c d)) where
    sw_shows : Shows v m x y a
    sw_shows =
        rw (add-zero x, add-zero y) at
        (part m x y 0 0 a (four a b c d) s (omega arith) (omega arith) (λ i j f g.
        found_sw m a b c d (0 + i) (0 + j) (omega arith) (omega arith) ∙ same i j))
      where
        same : (i j : ℕ) → found m a (0 + i) (0 + j) ≡ found m a i j
        same i j = let ei : 0 + i ≡ i = omega arith in let ej : 0 + j ≡ j = omega arith in rw (ei, ej) refl

    se_shows : Shows v m (x + 2 ^ m) y b
    se_shows =
        rw (add-zero y) at
        (part m x y (2 ^ m) 0 b (four a b c d) s (omega arith) (omega arith) (λ i j f g.
        found_se m a b c d (2 ^ m + i) (0 + j) (omega arith) (omega arith) ∙ same i j))
      where
        same : (i j : ℕ) → found m b (2 ^ m + i - 2 ^ m) (0 + j) ≡ found m b i j
        same i j = let ei : 2 ^ m + i - 2 ^ m ≡ i = omega arith in let ej : 0 + j ≡ j = omega arith in rw (ei, ej) refl

    nw_shows : Shows v m x (y + 2 ^ m) c
    nw_shows =
        rw (add-zero x) at
        (part m x y 0 (2 ^ m) c (four a b c d) s (omega arith) (omega arith) (λ i j f g.
        found_nw m a b c d (0 + i) (2 ^ m + j) (omega arith) (omega arith) ∙ same i j))
      where
        same : (i j : ℕ) → found m c (0 + i) (2 ^ m + j - 2 ^ m) ≡ found m c i j
        same i j = let ei : 0 + i ≡ i = omega arith in let ej : 2 ^ m + j - 2 ^ m ≡ j = omega arith in rw (ei, ej) refl

    ne_shows : Shows v m (x + 2 ^ m) (y + 2 ^ m) d
    ne_shows =
        part m x y (2 ^ m) (2 ^ m) d (four a b c d) s (omega arith) (omega arith) (λ i j f g.
        found_ne m a b c d (2 ^ m + i) (2 ^ m + j) (omega arith) (omega arith) ∙ same i j)
      where
        same : (i j : ℕ) → found m d (2 ^ m + i - 2 ^ m) (2 ^ m + j - 2 ^ m) ≡ found m d i j
        same i j =
            let ei : 2 ^ m + i - 2 ^ m ≡ i = omega arith in
            let ej : 2 ^ m + j - 2 ^ m ≡ j = omega arith in
            rw (ei, ej) refl

  -- ---- so the tables hold the tree
  pub again : (h x y : ℕ) (t : Tree) → h ≤ v.L → Sound h t → Shows v h x y t → tree_of v h x y ≡ t
  unfolding found
  again h x y (one l) deep sound s =
      let low : v.level x y ≤ v.L - h = omega (arith, corner_level h x y (one l) s) in
      tree_leaf v h x y low ∙ ap one (corner_leaf h x y (one l) s)
  again zero x y (four a b c d) deep sound s = absurd (omega (arith, sound.0))
  again (suc m) x y (four a b c d) deep sound s =
      let first : v.level x y ≡ v.L - (found m a 0 0).height = corner_level m x y a (sw_shows m x y a b c d s) in
      let deeper : v.L - suc m < v.level x y = omega (arith, first, (leaf_of m a sound.1 0 0).low) in
      let ea = again m x y a (omega arith) sound.1 (sw_shows m x y a b c d s) in
      let eb = again m (x + 2 ^ m) y b (omega arith) sound.2 (se_shows m x y a b c d s) in
      let ec = again m x (y + 2 ^ m) c (omega arith) sound.3 (nw_shows m x y a b c d s) in
      let ed = again m (x + 2 ^ m) (y + 2 ^ m) d (omega arith) sound.4 (ne_shows m x y a b c d s) in
      tree_cut v m x y deeper ∙ (λ i. four (ea i) (eb i) (ec i) (ed i))
