-- The leaves of a sound tree: in their ranges, and one for all squares of their block.
use Rattle.std.proofs.Common.{◌≡◌, ℕ, zero, suc, ◌+◌, ◌-◌, ◌*◌, ◌/◌, ◌%◌, ◌<◌, ◌≤◌, sym, refl, ap, ◌∙◌, ⊎_elim, mod-lt, div-lt_iff_lt-mul, div-add-mod', arith}
use lib.Arith.{digits_div}
use Rattle.std.proofs.lemmas.Bool.{lt-ltb, le-ltb, cases_lt}
use Rattle.basin.specs.Records.{InRange}
use Rattle.basin.proofs.Sizes.{side_pos, side_times}
use Rattle.nodes.specs.Trees.{Tree, one, four, side, Found, found, Sound}

-- ---- the quarter that a square lies in
module _ (m : ℕ) (a b c d : Tree) (x y : ℕ) where
  pub found_sw : x < side m → y < side m → found (suc m) (four a b c d) x y ≡ found m a x y
  unfolding found
  found_sw e n = rw (lt-ltb y (side m) n, lt-ltb x (side m) e) refl

  pub found_se : side m ≤ x → y < side m → found (suc m) (four a b c d) x y ≡ found m b (x - side m) y
  unfolding found
  found_se e n = rw (lt-ltb y (side m) n, le-ltb x (side m) e) refl

  pub found_nw : x < side m → side m ≤ y → found (suc m) (four a b c d) x y ≡ found m c x (y - side m)
  unfolding found
  found_nw e n = rw (le-ltb y (side m) n, lt-ltb x (side m) e) refl

  pub found_ne : side m ≤ x → side m ≤ y → found (suc m) (four a b c d) x y ≡ found m d (x - side m) (y - side m)
  unfolding found
  found_ne e n = rw (le-ltb y (side m) n, le-ltb x (side m) e) refl

-- what holds of every leaf of the quarters holds of every leaf of the whole
by_quarter : (P : Found → Type 0) (m : ℕ) (a b c d : Tree)
    → ((x y : ℕ) → P (found m a x y)) → ((x y : ℕ) → P (found m b x y)) → ((x y : ℕ) → P (found m c x y)) → ((x y : ℕ) → P (found m d x y))
    → (x y : ℕ) → P (found (suc m) (four a b c d) x y)
by_quarter P m a b c d ha hb hc hd x y =
    ⊎_elim
    (λ (n : y < side m). ⊎_elim
    (λ (e : x < side m). rw (found_sw m a b c d x y e n) (ha x y))
    (λ (e : side m ≤ x). rw (found_se m a b c d x y e n) (hb (x - side m) y))
    (cases_lt x (side m)))
    (λ (n : side m ≤ y). ⊎_elim
    (λ (e : x < side m). rw (found_nw m a b c d x y e n) (hc x (y - side m)))
    (λ (e : side m ≤ x). rw (found_ne m a b c d x y e n) (hd (x - side m) (y - side m)))
    (cases_lt x (side m)))
    (cases_lt y (side m))

-- ---- a leaf is no higher than its tree, and in its ranges
pub record LeafOf (h : ℕ) (f : Found) : Type 0 where
  pub low : f.height ≤ h
  pub in_range : InRange (side f.height * side f.height) f.leaf

deeper : (m : ℕ) (f : Found) → LeafOf m f → LeafOf (suc m) f
deeper m f l = record { low = omega (arith, l.low); in_range = l.in_range }

pub leaf_of : (h : ℕ) (t : Tree) → Sound h t → (x y : ℕ) → LeafOf h (found h t x y)
unfolding found
leaf_of h (one l) v x y = record { low = omega arith; in_range = v }
leaf_of zero (four a b c d) v x y = absurd (omega (arith, v.0))
leaf_of (suc m) (four a b c d) v x y =
    by_quarter (LeafOf (suc m)) m a b c d
    (λ x y. deeper m _ (leaf_of m a v.1 x y)) (λ x y. deeper m _ (leaf_of m b v.2 x y))
    (λ x y. deeper m _ (leaf_of m c v.3 x y)) (λ x y. deeper m _ (leaf_of m d v.4 x y)) x y

-- ---- squares of one block of side 2^j, in a square of side 2^m, j at most m
module _ (m j : ℕ) (h : j ≤ m) where
  -- both or none lie below 2^m
  below_with : (x p : ℕ) → x / side j ≡ p / side j → x < side m → p < side m
  below_with x p e l =
      let z = side_pos j in
      let w : side m ≡ side (m - j) * side j = parts in
      let a : x < side (m - j) * side j = rw w at l in
      let b : p / side j < side (m - j) = rw e at ((div-lt_iff_lt-mul z).1 a) in
      rw w ((div-lt_iff_lt-mul z).0 b)
    where
      parts : side m ≡ side (m - j) * side j
      parts = let k : m - (m - j) ≡ j = omega arith in side_times m (m - j) (omega arith) ∙ ap (λ i. side (m - j) * side i) k

  -- and they stay together 2^m further south or west
  back_with : (x p : ℕ) → x / side j ≡ p / side j → side m ≤ x → side m ≤ p → (x - side m) / side j ≡ (p - side m) / side j
  back_with x p e l k = back x l ∙ (ap (λ q. q - side (m - j)) e ∙ sym (back p k))
    where
      back : (x : ℕ) → side m ≤ x → (x - side m) / side j ≡ x / side j - side (m - j)
      back x l =
          let z = side_pos j in
          let r : m - (m - j) ≡ j = omega arith in
          let w : side m ≡ side (m - j) * side j = side_times m (m - j) (omega arith) ∙ ap (λ i. side (m - j) * side i) r in
          let whole = div-add-mod' x (side j) in
          let q = x / side j in
          let fewer : side (m - j) ≤ q = least (side (m - j)) q (x % side j) (side j) (mod-lt x z) (omega arith) in
          let cut : x - side m ≡ (q - side (m - j)) * side j + x % side j = minus (side (m - j)) q (x % side j) (side j) (x) (side m) fewer whole w in
          ap (λ n. n / side j) cut ∙ digits_div (q - side (m - j)) (mod-lt x z)
        where
          least : (c q r s : ℕ) → r < s → c * s ≤ q * s + r → c ≤ q
          least c q r s a b = ⊎_elim (λ (u : q < c). absurd (over c q r s a b u)) (λ (u : c ≤ q). u) (cases_lt q c)
            where
              over : (c q r s : ℕ) → r < s → c * s ≤ q * s + r → q < c → ⊥
              over c q r s a b u =
                  let e : c ≡ q + 1 + (c - q - 1) = omega arith in
                  let f : c * s ≡ (q + 1 + (c - q - 1)) * s = ap (λ n. n * s) e in
                  omega arith

          minus : (c q r s x n : ℕ) → c ≤ q → q * s + r ≡ x → n ≡ c * s → x - n ≡ (q - c) * s + r
          minus c q r s x n a b e =
              let f : q ≡ c + (q - c) = omega arith in
              let g : q * s ≡ (c + (q - c)) * s = ap (λ k. k * s) f in
              omega arith

-- ---- all squares of a leaf's block lie in that leaf
abbrev pub OneLeaf : ℕ → Tree → Type 0
OneLeaf h t = (x y p q j : ℕ) → (found h t x y).height ≡ j → x / side j ≡ p / side j → y / side j ≡ q / side j → found h t p q ≡ found h t x y

above_with : (m j : ℕ) → j ≤ m → (x p : ℕ) → x / side j ≡ p / side j → side m ≤ x → side m ≤ p
above_with m j h x p e l =
    ⊎_elim (λ (u : p < side m). absurd (omega (arith, below_with m j h p x (sym e) u))) (λ (u : side m ≤ p). u) (cases_lt p (side m))

one_leaf_four : (m : ℕ) (a b c d : Tree) → Sound (suc m) (four a b c d) → OneLeaf m a → OneLeaf m b → OneLeaf m c → OneLeaf m d
    → OneLeaf (suc m) (four a b c d)
one_leaf_four m a b c d v ia ib ic id x y p q j k e f =
    ⊎_elim
    (λ (n : y < side m). ⊎_elim
    (λ (w : x < side m).
    let o = found_sw m a b c d x y w n in
    let i : (found m a x y).height ≡ j = sym (ap (λ (g : Found). g.height) o) ∙ k in
    let h : j ≤ m = omega (arith, (leaf_of m a v.1 x y).low) in
    found_sw m a b c d p q (below_with m j h x p e w) (below_with m j h y q f n) ∙ (ia x y p q j i e f ∙ sym o))
    (λ (w : side m ≤ x).
    let o = found_se m a b c d x y w n in
    let i : (found m b (x - side m) y).height ≡ j = sym (ap (λ (g : Found). g.height) o) ∙ k in
    let h : j ≤ m = omega (arith, (leaf_of m b v.2 (x - side m) y).low) in
    let u = above_with m j h x p e w in
    found_se m a b c d p q u (below_with m j h y q f n)
    ∙ (ib (x - side m) y (p - side m) q j i (back_with m j h x p e w u) f ∙ sym o))
    (cases_lt x (side m)))
    (λ (n : side m ≤ y). ⊎_elim
    (λ (w : x < side m).
    let o = found_nw m a b c d x y w n in
    let i : (found m c x (y - side m)).height ≡ j = sym (ap (λ (g : Found). g.height) o) ∙ k in
    let h : j ≤ m = omega (arith, (leaf_of m c v.3 x (y - side m)).low) in
    let u = above_with m j h y q f n in
    found_nw m a b c d p q (below_with m j h x p e w) u
    ∙ (ic x (y - side m) p (q - side m) j i e (back_with m j h y q f n u) ∙ sym o))
    (λ (w : side m ≤ x).
    let o = found_ne m a b c d x y w n in
    let i : (found m d (x - side m) (y - side m)).height ≡ j = sym (ap (λ (g : Found). g.height) o) ∙ k in
    let h : j ≤ m = omega (arith, (leaf_of m d v.4 (x - side m) (y - side m)).low) in
    let u = above_with m j h x p e w in
    let t = above_with m j h y q f n in
    found_ne m a b c d p q u t
    ∙ (id (x - side m) (y - side m) (p - side m) (q - side m) j i (back_with m j h x p e w u) (back_with m j h y q f n t) ∙ sym o))
    (cases_lt x (side m)))
    (cases_lt y (side m))

pub one_leaf : (h : ℕ) (t : Tree) → Sound h t → OneLeaf h t
unfolding found
one_leaf h (one l) v = λ x y p q j k e f. refl
one_leaf zero (four a b c d) v = absurd (omega (arith, v.0))
one_leaf (suc m) (four a b c d) v =
    one_leaf_four m a b c d v (one_leaf m a v.1) (one_leaf m b v.2) (one_leaf m c v.3) (one_leaf m d v.4)
