-- The bytes of a block that is cut, and of one that is a leaf.
use Rattle.std.proofs.Common.{◌≡◌, ℕ, zero, suc, ◌+◌, ◌-◌, ◌*◌, ◌/◌, ◌^◌, ◌<◌, ◌≤◌, ◌++◌, length, Bor, sym, refl, ap, ◌∙◌, ⊎_elim, pow-suc, arith, lit<, length-append}
use native.Mathlib.Nat.{pow-le-pow_right, one-le-pow}
use Rattle.std.proofs.lemmas.Bool.{lt-ltb, le-ltb, cases_lt}
use Rattle.basin.specs.declared.leaf.Leaf.{Leaf}
use Rattle.basin.specs.Basins.{Basin, view}
use Rattle.basin.specs.Records.{InRange}
use Rattle.basin.specs.Views.{View}
use Rattle.basin.proofs.Sizes.{side_pos}
use Rattle.numbers.specs.Numbers.{groups, number, coded}
use Rattle.numbers.proofs.Forms.{groups_last, groups_more}
use Rattle.nodes.specs.Trees.{Tree, one, four}
use Rattle.nodes.specs.Written.{leaf_bytes, tree_bytes}
use Rattle.nodes.specs.Spots.{WholeSpot}
use Rattle.tables.specs.declared.survey.Survey.{Survey}
use Rattle.tables.specs.Surveys.{surveyed}
use Rattle.basin.specs.declared.quarters.Quarters.{Quarters}
use Rattle.encode.specs.declared.tree.Node.{Node}
use Rattle.encode.specs.Bytes.{tree_of, node_bytes}
use Rattle.encode.specs.Nodes.{record_at, IsLeaf, Part, IsCut, bytes_of}
use Rattle.encode.proofs.Ranges.{on_the_largest}

-- ---- the tree of a block
pub tree_cut : (v : View) (h x y : ℕ) → v.L - suc h < v.level x y
    → tree_of v (suc h) x y ≡ four (tree_of v h x y) (tree_of v h (x + 2 ^ h) y) (tree_of v h x (y + 2 ^ h)) (tree_of v h (x + 2 ^ h) (y + 2 ^ h))
unfolding tree_of
tree_cut v h x y l = rw (lt-ltb (v.L - suc h) (v.level x y) l) refl

pub tree_leaf : (v : View) (h x y : ℕ) → v.level x y ≤ v.L - h → tree_of v h x y ≡ one (v.leaf x y)
unfolding tree_of
tree_leaf v zero x y l = refl
tree_leaf v (suc h) x y l = rw (le-ltb (v.L - suc h) (v.level x y) l) refl

tree_zero : (v : View) (x y : ℕ) → tree_of v 0 x y ≡ one (v.leaf x y)
unfolding tree_of
tree_zero v x y = refl

-- ---- its bytes
bytes_cut : (v : View) (h x y s : ℕ) → 0 < h → s ≡ 2 ^ (h - 1) → v.L - h < v.level x y
    → node_bytes v h x y
    ≡ number 1 ++ (node_bytes v (h - 1) x y ++ (node_bytes v (h - 1) (x + s) y ++ (node_bytes v (h - 1) x (y + s) ++ node_bytes v (h - 1) (x + s) (y + s))))
unfolding tree_bytes
bytes_cut v zero x y s p e l = absurd (omega arith)
bytes_cut v (suc h) x y s p e l =
    let k : suc h - 1 ≡ h = omega arith in
    rw (e, k) (ap tree_bytes (tree_cut v h x y l))

bytes_leaf : (v : View) (h x y : ℕ) → v.level x y ≤ v.L - h → node_bytes v h x y ≡ number 0 ++ leaf_bytes (v.leaf x y)
unfolding tree_bytes
bytes_leaf v h x y l = ap tree_bytes (tree_leaf v h x y l)

-- ---- how many they are
pub groups_few : (k v : ℕ) → length (groups k v) ≤ k
unfolding groups
groups_few zero v = omega arith
groups_few (suc k) v =
    ⊎_elim
    (λ (l : v < 128). rw (groups_last k v l) (omega arith))
    (λ (l : 128 ≤ v). rw (groups_more k v l) (omega (arith, groups_few k (v / 128))))
    (cases_lt v 128)

leaf_few : (l : Leaf) → length (leaf_bytes l) ≤ 18
leaf_few l =
    simp length-append
    (omega (arith, groups_few 6 l.water, groups_few 6 (coded l.east), groups_few 6 (coded l.north)))

pub one_group : (v : ℕ) → v < 128 → length (number v) ≡ 1
one_group v h = ap length (groups_last 5 v h)

one_few : (h : ℕ) (l : Leaf) → length (tree_bytes (one l)) + 1 ≤ 20 * 4 ^ h
unfolding tree_bytes
one_few h l =
    let z = one_group 0 (lit< tt) in
    let p : 1 ≤ 4 ^ h = one-le-pow h 4 (omega arith) in
    omega (arith, leaf_few l, length-append (number 0) (leaf_bytes l))

four_few : (h : ℕ) (a b c d : Tree)
    → length (tree_bytes a) + 1 ≤ 20 * 4 ^ h → length (tree_bytes b) + 1 ≤ 20 * 4 ^ h
    → length (tree_bytes c) + 1 ≤ 20 * 4 ^ h → length (tree_bytes d) + 1 ≤ 20 * 4 ^ h
    → length (tree_bytes (four a b c d)) + 1 ≤ 20 * 4 ^ suc h
unfolding tree_bytes
four_few h a b c d ea eb ec ed =
    let z = one_group 1 (lit< tt) in
    let n : length (number 1 ++ (tree_bytes a ++ (tree_bytes b ++ (tree_bytes c ++ tree_bytes d))))
    ≡ length (number 1) + (length (tree_bytes a) + (length (tree_bytes b) + (length (tree_bytes c) + length (tree_bytes d)))) =
    simp length-append in
    omega (arith, pow-suc 4 h)

few : (v : View) (h x y : ℕ) → length (node_bytes v h x y) + 1 ≤ 20 * 4 ^ h
few v zero x y = rw (tree_zero v x y) (one_few 0 (v.leaf x y))
few v (suc h) x y =
    ⊎_elim
    (λ (l : v.L - suc h < v.level x y).
    rw (tree_cut v h x y l) (four_few h _ _ _ _ (few v h x y) (few v h (x + 2 ^ h) y) (few v h x (y + 2 ^ h)) (few v h (x + 2 ^ h) (y + 2 ^ h))))
    (λ (l : v.level x y ≤ v.L - suc h). rw (tree_leaf v (suc h) x y l) (one_few (suc h) (v.leaf x y)))
    (cases_lt (v.L - suc h) (v.level x y))

node_few : (v : View) (h x y : ℕ) → h ≤ 6 → length (node_bytes v h x y) ≤ 81920
node_few v h x y l =
    let p : 4 ^ h ≤ 4 ^ 6 = pow-le-pow_right (lit< tt) l in
    omega (arith, few v h x y)

-- ---- a node of a valid basin's tree
module _ (n : Node) where
  abbrev basin_at : Basin
  basin_at = surveyed n.survey.now

  pub small_at : InRange 4096 (record_at n)
  small_at =
      let side_is = ap (λ k. 2 ^ k) n.same in
      on_the_largest basin_at n.survey.now.valid n.spot.x n.spot.y
      (omega (arith, n.spot.east, side_is, side_pos n.spot.height)) (omega (arith, n.spot.north, side_is, side_pos n.spot.height))

  pub few_at : length (bytes_of n) ≤ 81920
  few_at = node_few (view basin_at) n.spot.height n.spot.x n.spot.y (omega (arith, n.spot.deep, n.spot.few))

  pub leaf_is : IsLeaf n → bytes_of n ≡ number 0 ++ leaf_bytes (record_at n)
  leaf_is low = bytes_leaf (view basin_at) n.spot.height n.spot.x n.spot.y low

  -- what there is for a quarter, by the node's own numbers
  pub part_is : {A : Type 0} (f : View → (height x y : ℕ) → A) {east north : ℕ} {q : Node} → Part n east north q → (x y : ℕ)
      → x ≡ n.spot.x + east → y ≡ n.spot.y + north
      → f (view basin_at) (n.spot.height - 1) x y ≡ f (view (surveyed q.survey.now)) q.spot.height q.spot.x q.spot.y
  part_is f {east} {north} {q} p x y ex ey =
      let k : n.spot.height - 1 ≡ q.spot.height = omega (arith, p.spot.height) in
      let e : x ≡ q.spot.x = ex ∙ sym p.spot.x in
      let g : y ≡ q.spot.y = ey ∙ sym p.spot.y in
      let same = sym p.survey in
      λ i. f (view (surveyed (same i).now)) (k i) (e i) (g i)

  module _ {q : Quarters Node} (c : IsCut n q) where
    pub cut_is : bytes_of n ≡ number 1 ++ (bytes_of q.sw ++ (bytes_of q.se ++ (bytes_of q.nw ++ bytes_of q.ne)))
    cut_is =
        let below : q.sw.spot.height ≡ n.spot.height - 1 = omega (arith, c.sw.spot.height) in
        rw (
          ← part_is node_bytes c.sw n.spot.x n.spot.y (omega arith) (omega arith),
          ← part_is node_bytes c.se (n.spot.x + 2 ^ q.sw.spot.height) n.spot.y refl (omega arith),
          ← part_is node_bytes c.nw n.spot.x (n.spot.y + 2 ^ q.sw.spot.height) (omega arith) refl,
          ← part_is node_bytes c.ne (n.spot.x + 2 ^ q.sw.spot.height) (n.spot.y + 2 ^ q.sw.spot.height) refl refl,
        )
        (bytes_cut (view basin_at) n.spot.height n.spot.x n.spot.y (2 ^ q.sw.spot.height) (omega (arith, c.sw.spot.height)) (ap (λ k. 2 ^ k) below) c.deep)

    pub cut_length : length (bytes_of n) ≡ 1 + length (bytes_of q.sw) + length (bytes_of q.se) + length (bytes_of q.nw) + length (bytes_of q.ne)
    cut_length =
        let z = one_group 1 (lit< tt) in
        rw cut_is (simp length-append (omega arith))

  pub leaf_length : IsLeaf n → length (bytes_of n) ≡ 1 + length (leaf_bytes (record_at n))
  leaf_length low =
      let z = one_group 0 (lit< tt) in
      rw (leaf_is low) (simp length-append (omega arith))

-- the node of the whole basin
pub whole_is : (s : Bor Survey) (n : Node) → n.survey ≡ s → WholeSpot s.now.head.levels n.spot
    → bytes_of n ≡ node_bytes (view (surveyed s.now)) s.now.head.levels 0 0
whole_is s n e h = λ i. node_bytes (view (surveyed (e i).now)) (h.2 i) (h.0 i) (h.1 i)
