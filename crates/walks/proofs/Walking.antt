-- From square to square: the work table and the sum over the leaves while the walk goes on.
use Rattle.std.proofs.Common.{◌≡◌, ℕ, ◌+◌, ◌-◌, ◌*◌, ◌/◌, ◌%◌, ◌^◌, ◌<◌, ◌≤◌, Bool, true, false, eqb, ltb, List, get_or, sym, refl, ap, ◌∙◌, subst, mod-lt, div-lt_iff_lt-mul, div-add-mod', add-one, arith}
use lib.Arith.{digits_mod, digits_div}
use Rattle.std.proofs.lemmas.Bool.{eq-eqb, ne_eqb}
use Rattle.basin.specs.declared.dir.Dir.{Dir}
use Rattle.basin.specs.declared.dir.Dir.TheVariants.{East, North, West, South}
use Rattle.basin.specs.declared.leaf.Leaf.{Leaf}
use Rattle.basin.specs.Basins.{Basin, view, ValidBasin}
use Rattle.basin.specs.Blocks.{Block, block}
use Rattle.basin.specs.Records.{dry}
use Rattle.basin.specs.Sums.{sum_below, only}
use Rattle.basin.specs.Views.{View, Quadtree}
use Rattle.basin.proofs.Sizes.{side_pos}
use Rattle.runs.specs.Homes.{tree, home}
use Rattle.runs.specs.Overs.{here}
use Rattle.runs.specs.Rules.{Rule}
use Rattle.runs.specs.Step.{leaving, out_of}
use Rattle.runs.specs.Trees.{Tree, Side, wall, one, two, beside, each, round, opposite}
use Rattle.runs.proofs.Basins.{gives_what_it_has}
use Rattle.runs.proofs.Sides.{met, Leads, side_leads}
use Rattle.runs.proofs.Sounds.{sound}
use Rattle.runs.proofs.Views.{at_home, home_within}
use Rattle.blocks.specs.Places.{corner_entry, LeafAt, home_at}
use Rattle.visits.specs.Visits.{held, Room, AllVisited}
use Rattle.visits.proofs.Corners.{here_same, x_below}
use Rattle.visits.proofs.Limits.{most_water}
use Rattle.visits.proofs.Sending.{here_le}
use Rattle.walks.specs.Walks.{SoFar, Walked, leaf_sum}
use Rattle.walks.proofs.SoFar.{so_far_more, each_here}

only_start : (j x : ℕ) → only (ltb j 0) x ≡ 0
only_start j x = grind arith

only_skip : (j i x : ℕ) → (j ≡ i → ⊥) → only (ltb j (i + 1)) x ≡ only (ltb j i) x
only_skip j i x n = grind arith

only_here : (i x : ℕ) → only (ltb i i) x ≡ 0
only_here i x = grind arith

only_le : (b : Bool) (x : ℕ) → only b x ≤ x
only_le true x = omega arith
only_le false x = omega arith

each_start : (s : Side) (j f : Block → ℕ) → each s 0 (λ b. only (ltb (j b) 0) (f b)) ≡ 0
each_start wall j f = refl
each_start (one a) j f = only_start (j a) (f a)
each_start (two a b) j f = omega (arith, only_start (j a) (f a), only_start (j b) (f b))

each_le : (s : Side) (c : Block) (f : Block → ℕ) → each s 0 (λ a. here a c (f a)) ≤ each s 0 f
each_le wall c f = omega arith
each_le (one a) c f = here_le a c (f a)
each_le (two a b) c f = omega (arith, here_le a c (f a), here_le b c (f b))

module _ (b : Basin) (ok : ValidBasin b) where
  abbrev v : View
  v = view b

  abbrev L : ℕ
  L = b.head.L

  abbrev levels : List ℕ
  levels = b.tables.levels

  abbrev t : Tree
  t = tree v

  valid : Quadtree v
  valid = ok.squares.quadtree

  pub home_is : (i : ℕ) → home_at L levels i ≡ home v (i % 2 ^ L) (i / 2 ^ L)
  home_is i = ap (λ k. block (get_or levels k 0) (i % 2 ^ L / 2 ^ (L - get_or levels k 0)) (i / 2 ^ L / 2 ^ (L - get_or levels k 0))) (sym (div-add-mod' i (2 ^ L)))

  pub leaf_home : (i : ℕ) → i < 2 ^ L * 2 ^ L → LeafAt L levels (home_at L levels i)
  leaf_home i h =
      let z = side_pos L in
      let k = home_within v valid (i % 2 ^ L) (i / 2 ^ L) (mod-lt i z) ((div-lt_iff_lt-mul z).1 h) in
      let P : Block → Type 0 = λ c. LeafAt L levels c in
      subst P (sym (home_is i)) k

  -- a leaf is at home at its corner
  corner_home : (c : Block) → LeafAt L levels c → home_at L levels (corner_entry L c) ≡ c
  corner_home c l =
      let x = digits_mod (c.Y * 2 ^ (L - c.k)) (x_below v c l) in
      let y = digits_div (c.Y * 2 ^ (L - c.k)) (x_below v c l) in
      home_is (corner_entry L c) ∙ ap (λ a. home v a (corner_entry L c / 2 ^ L)) x ∙ ap (λ b. home v (c.X * 2 ^ (L - c.k)) b) y ∙ at_home v c l.0 l.1

  -- no leaf's corner is where the square's leaf has another
  no_corner : (i : ℕ) → (corner_entry L (home_at L levels i) ≡ i → ⊥) → (c : Block) → LeafAt L levels c → corner_entry L c ≡ i → ⊥
  no_corner i n c l e = n (ap (λ j. corner_entry L (home_at L levels j)) (sym e) ∙ ap (corner_entry L) (corner_home c l) ∙ e)

  leads : (p : Dir) (c : Block) → LeafAt L levels c → Leads t (beside t p c)
  leads p c l = side_leads t (sound v valid) p c l.0 l.1

  each_skip : (i : ℕ) → (corner_entry L (home_at L levels i) ≡ i → ⊥) → (s : Side) → Leads t s → (f : Block → ℕ)
      → each s 0 (λ b. only (ltb (corner_entry L b) (i + 1)) (f b)) ≡ each s 0 (λ b. only (ltb (corner_entry L b) i) (f b))
  each_skip i n wall l f = refl
  each_skip i n (one a) l f = only_skip (corner_entry L a) i (f a) (no_corner i n a l)
  each_skip i n (two a b) l f = omega (arith, only_skip (corner_entry L a) i (f a) (no_corner i n a l.0), only_skip (corner_entry L b) i (f b) (no_corner i n b l.1))

  module _ (R : Rule) (T : ℕ) where
    pub walked_start : (work : List Leaf) → work ≡ b.tables.leaves → Walked R T b 0 work
    unfolding Walked
    walked_start work e c l =
        let F = leaving R T t in
        record {
          water = omega (
            arith,
            ap (λ w. (get_or w (corner_entry L c) dry).water) e,
            only_start (corner_entry L c) (round (λ p. each (beside t p c) 0 (λ b. F p c b))),
            each_start (beside t East c) (corner_entry L) (λ b. F West b c),
            each_start (beside t North c) (corner_entry L) (λ b. F South b c),
            each_start (beside t West c) (corner_entry L) (λ b. F East b c),
            each_start (beside t South c) (corner_entry L) (λ b. F North b c),
          );
          east = λ h. absurd (omega arith);
          north = λ h. absurd (omega arith);
        }

    pub walked_skip : (i : ℕ) (work : List Leaf) → (corner_entry L (home_at L levels i) ≡ i → ⊥) → Walked R T b i work → Walked R T b (i + 1) work
    unfolding Walked
    walked_skip i work n w c l =
        let F = leaving R T t in
        let s = w c l in
        let ne = no_corner i n c l in
        record {
          water = omega (
            arith,
            s.water,
            only_skip (corner_entry L c) i (round (λ p. each (beside t p c) 0 (λ b. F p c b))) ne,
            each_skip i n (beside t East c) (leads East c l) (λ b. F West b c),
            each_skip i n (beside t North c) (leads North c l) (λ b. F South b c),
            each_skip i n (beside t West c) (leads West c l) (λ b. F East b c),
            each_skip i n (beside t South c) (leads South c l) (λ b. F North b c),
          );
          east = λ h. s.east (omega (arith, ne));
          north = λ h. s.north (omega (arith, ne));
        }

    pub walked_more : (i : ℕ) (work work' : List Leaf) (m : Block) → LeafAt L levels m → corner_entry L m ≡ i → Walked R T b i work
        → AllVisited L levels R T t m work work' → Walked R T b (i + 1) work'
    unfolding Walked
    walked_more i work work' m lm e w h c l =
        let s : SoFar L R T t (corner_entry L m) work c = rw e (w c l) in
        let g : SoFar L R T t (corner_entry L m + 1) work' c = so_far_more v valid R T m c lm l work work' s (h c l) in
        rw e at g

    -- ---- room in the entries: no leaf gives more than it holds, and none holds more than 122,880,000
    side_le : (p : Dir) (c : Block) → each (beside t p c) 0 (λ b. leaving R T t p c b) ≤ out_of R T t c
    side_le East c = omega arith
    side_le North c = omega arith
    side_le West c = omega arith
    side_le South c = omega arith

    -- what the leaf m sends to c, which lies beside it
    back_le : (p : Dir) (m c : Block) → LeafAt L levels m → LeafAt L levels c → (x : ℕ) → x ≡ leaving R T t (opposite p) m c → x ≤ each (beside t p c) 0 (λ b. here b m x) → x ≤ 122880000
    back_le p m c lm lc x e h =
        let a = met t (sound v valid) c m x lc.0 lm.0 lc.1 lm.1 p in
        let f = ap (λ y. each (beside t (opposite p) m) 0 (λ b. here b c y)) e in
        let same = each_here v valid c lc (beside t (opposite p) m) (leads (opposite p) m lm) (λ a. leaving R T t (opposite p) m a) in
        let k = each_le (beside t (opposite p) m) c (λ a. leaving R T t (opposite p) m a) in
        omega (arith, a, f, same, k, side_le (opposite p) m, gives_what_it_has v R T m, most_water b ok m lm)

    -- what arrives across a side, whose leaves are at most two
    each_small : (p : Dir) (c : Block) → LeafAt L levels c → (i : ℕ) (s : Side) → beside t p c ≡ s → Leads t s
        → each s 0 (λ b. only (ltb (corner_entry L b) i) (leaving R T t (opposite p) b c)) ≤ 245760000
    each_small p c lc i wall e l = omega arith
    each_small p c lc i (one a) e l =
        let x = leaving R T t (opposite p) a c in
        let k = back_le p a c l lc x refl (omega (arith, ap (λ s. each s 0 (λ b. here b a x)) e, here_same a a x refl)) in
        omega (arith, k, only_le (ltb (corner_entry L a) i) x)
    each_small p c lc i (two a b) e l =
        let x = leaving R T t (opposite p) a c in
        let y = leaving R T t (opposite p) b c in
        let k = back_le p a c l.0 lc x refl (omega (arith, ap (λ s. each s 0 (λ b. here b a x)) e, here_same a a x refl)) in
        let h = back_le p b c l.1 lc y refl (omega (arith, ap (λ s. each s 0 (λ a. here a b y)) e, here_same b b y refl)) in
        omega (arith, k, h, only_le (ltb (corner_entry L a) i) x, only_le (ltb (corner_entry L b) i) y)

    pub walked_room : (i : ℕ) (work : List Leaf) → Walked R T b i work → Room L levels work 1400000000
    unfolding Walked
    walked_room i work w c l =
        omega (
          arith,
          (w c l).water,
          most_water b ok c l,
          each_small East c l i (beside t East c) refl (leads East c l),
          each_small North c l i (beside t North c) refl (leads North c l),
          each_small West c l i (beside t West c) refl (leads West c l),
          each_small South c l i (beside t South c) refl (leads South c l),
        )

    pub walked_enough : (i : ℕ) (work : List Leaf) (m : Block) → LeafAt L levels m → corner_entry L m ≡ i → Walked R T b i work → out_of R T t m ≤ (held L work m).water
    unfolding Walked
    walked_enough i work m l e w =
        let s : SoFar L R T t (corner_entry L m) work m = rw e (w m l) in
        omega (arith, s.water, only_here (corner_entry L m) (out_of R T t m), gives_what_it_has v R T m)

-- ---- the sum over the leaves
pub sum_start : (L : ℕ) (levels : List ℕ) (f : Block → ℕ) → 0 ≡ leaf_sum L levels f 0
unfolding leaf_sum
sum_start L levels f = refl

pub sum_more : (L : ℕ) (levels : List ℕ) (f : Block → ℕ) (i : ℕ) → corner_entry L (home_at L levels i) ≡ i → leaf_sum L levels f (i + 1) ≡ leaf_sum L levels f i + f (home_at L levels i)
unfolding leaf_sum
sum_more L levels f i e =
    ap (λ m. sum_below m (λ j. only (eqb (corner_entry L (home_at L levels j)) j) (f (home_at L levels j)))) (add-one i)
    ∙ ap (λ b. sum_below i (λ j. only (eqb (corner_entry L (home_at L levels j)) j) (f (home_at L levels j))) + only b (f (home_at L levels i))) (eq-eqb _ _ e)

pub sum_skip : (L : ℕ) (levels : List ℕ) (f : Block → ℕ) (i : ℕ) → (corner_entry L (home_at L levels i) ≡ i → ⊥) → leaf_sum L levels f (i + 1) ≡ leaf_sum L levels f i
unfolding leaf_sum
sum_skip L levels f i n =
    ap (λ m. sum_below m (λ j. only (eqb (corner_entry L (home_at L levels j)) j) (f (home_at L levels j)))) (add-one i)
    ∙ ap (λ b. sum_below i (λ j. only (eqb (corner_entry L (home_at L levels j)) j) (f (home_at L levels j))) + only b (f (home_at L levels i))) (ne_eqb _ _ n)
    ∙ omega arith
