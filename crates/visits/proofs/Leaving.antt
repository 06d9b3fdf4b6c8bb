-- What leaves a leaf by its borders is what the step says.
use Rattle.std.proofs.Common.{◌≡◌, ℕ, ◌+◌, ◌*◌, ◌/◌, Bool, true, false, cond, leb, List, ℤ, ◌+ℤ◌, refl, ap, ◌∙◌, zero-mul, arith}
use native.Mathlib.Nat.{zero-div}
use Rattle.basin.specs.declared.dir.Dir.{Dir}
use Rattle.basin.specs.declared.dir.Dir.TheVariants.{East, North, West, South}
use Rattle.basin.specs.declared.leaf.Leaf.{Leaf}
use Rattle.basin.specs.Basins.{Basin, view}
use Rattle.basin.specs.Blocks.{Block}
use Rattle.runs.specs.Homes.{tree}
use Rattle.runs.specs.Rules.{Rule}
use Rattle.runs.specs.Step.{drained, wish, face, wishes_of, leaving, out_of, momentum_across, momentum_along, new_east, new_north}
use Rattle.runs.specs.Trees.{Tree, Side, wall, one, two, beside, each}
use Rattle.blocks.specs.declared.block.Edge.{Edge}
use Rattle.basin.specs.declared.sides.Sides.{Sides}
use Rattle.blocks.specs.declared.block.Edge.{Edge}
use Rattle.blocks.specs.Places.{as_side, beside_in, Around}
use Rattle.borders.specs.declared.border.Border.{Border}
use Rattle.borders.specs.declared.pool.Pool.{Pool}
use Rattle.borders.specs.Borders.{at_first, at_second, border_of, borders_of, both, wishes_in}
use Rattle.borders.specs.Pools.{pool_in}
use Rattle.borders.specs.Shares.{wish_by, across_by, along_by}
use Rattle.visits.specs.declared.departure.Departure.{Departure}
use Rattle.visits.specs.declared.departure.Outflow.{Outflow}
use Rattle.visits.specs.Departures.{outflow_by, outflow_from, departure_from}

both_faces : (s : Side) (f : Block → ℕ) → at_first s f + at_second s f ≡ each s 0 f
both_faces wall f = refl
both_faces (one a) f = omega arith
both_faces (two a b) f = refl

drained_none : (V Q : ℕ) → drained V Q 0 ≡ 0
drained_none V Q = go (leb Q V)
  where
    go : (b : Bool) → cond b 0 (0 * V / Q) ≡ 0
    go true = refl
    go false = ap (λ n. n / Q) (zero-mul V) ∙ zero-div Q

drained_first : (V Q : ℕ) (s : Side) (f : Block → ℕ) → drained V Q (at_first s f) ≡ at_first s (λ b. drained V Q (f b))
drained_first V Q wall f = drained_none V Q
drained_first V Q (one a) f = refl
drained_first V Q (two a b) f = refl

drained_second : (V Q : ℕ) (s : Side) (f : Block → ℕ) → drained V Q (at_second s f) ≡ at_second s (λ b. drained V Q (f b))
drained_second V Q wall f = drained_none V Q
drained_second V Q (one a) f = drained_none V Q
drained_second V Q (two a b) f = refl

outflow_same : (a b : ℕ) {a' b' : ℕ} → a ≡ a' → b ≡ b' → ◌≡◌ {A = Outflow} (record { first = a; second = b }) (record { first = a'; second = b' })
outflow_same a b p q = cc

same_sum : (x a b f g : ℤ) {x' a' b' f' g' : ℤ} → x ≡ x' → a ≡ a' → b ≡ b' → f ≡ f' → g ≡ g' → x +ℤ (a +ℤ b) +ℤ (f +ℤ g) ≡ x' +ℤ (a' +ℤ b') +ℤ (f' +ℤ g')
same_sum x a b f g p q r s t = cc

module _ (R : Rule) (T : ℕ) (b : Basin) where
  abbrev t : Tree
  t = tree (view b)

  abbrev L : ℕ
  L = b.head.L

  abbrev d : ℕ
  d = b.head.d

  abbrev levels : List ℕ
  levels = b.tables.levels

  abbrev beds : List ℕ
  beds = b.tables.beds

  abbrev leaves : List Leaf
  leaves = b.tables.leaves

  -- a side's numbers, as the step is defined
  abbrev defined_border : Dir → Block → Border
  defined_border p c =
      record {
        first = at_first (beside t p c) (λ a. wish R T t p (face t p c a));
        second = at_second (beside t p c) (λ a. wish R T t p (face t p c a));
        across = momentum_across R T t p c;
        along = momentum_along R T t p c;
      }

  border_is : (p : Dir) (c : Block) → border_of R T d L beds leaves p (pool_in L beds leaves c) (beside_in L levels p c) ≡ defined_border p c
  unfolding border_of wish_by across_by along_by
  border_is p c = refl

  border_at : (p : Dir) (c : Block) (near : Pool) (e : Edge) (r : Border) → near ≡ pool_in L beds leaves c → as_side e ≡ beside_in L levels p c
      → r ≡ border_of R T d L beds leaves p near (as_side e) → r ≡ defined_border p c
  border_at p c near e r n s h =
      h ∙ ap (λ q. border_of R T d L beds leaves p q (as_side e)) n ∙ ap (λ q. border_of R T d L beds leaves p (pool_in L beds leaves c) q) s ∙ border_is p c

  outflow_is : (p : Dir) (c : Block) (V Q : ℕ) (r : Border) → V ≡ (t.leaf c).water → Q ≡ wishes_of R T t c → r ≡ defined_border p c → outflow_by V Q r ≡ outflow_from R T t p c
  outflow_is p c V Q r v q h =
      ap (λ x. outflow_by x Q r) v ∙ ap (λ x. outflow_by (t.leaf c).water x r) q ∙ ap (λ x. outflow_by (t.leaf c).water (wishes_of R T t c) x) h
      ∙ outflow_same _ _ (drained_first (t.leaf c).water (wishes_of R T t c) (beside t p c) (λ a. wish R T t p (face t p c a)))
      (drained_second (t.leaf c).water (wishes_of R T t c) (beside t p c) (λ a. wish R T t p (face t p c a)))

  both_is : (p : Dir) (c : Block) → both (defined_border p c) ≡ each (beside t p c) 0 (λ a. wish R T t p (face t p c a))
  both_is p c = both_faces (beside t p c) (λ a. wish R T t p (face t p c a))

  pub record Known (c : Block) (near : Pool) (s : Sides Edge) (r : Sides Border) : Type 0 where
    pub near_is : near ≡ pool_in L beds leaves c
    pub around : Around L levels c s
    pub borders_are : r ≡ borders_of R T d L beds leaves near s

  module _ (c : Block) (near : Pool) (s : Sides Edge) (r : Sides Border) (k : Known c near s r) where
    west_is : r.west ≡ defined_border West c
    west_is = border_at West c near s.west r.west k.near_is k.around.west (ap (λ r. r.west) k.borders_are)

    east_is : r.east ≡ defined_border East c
    east_is = border_at East c near s.east r.east k.near_is k.around.east (ap (λ r. r.east) k.borders_are)

    south_is : r.south ≡ defined_border South c
    south_is = border_at South c near s.south r.south k.near_is k.around.south (ap (λ r. r.south) k.borders_are)

    north_is : r.north ≡ defined_border North c
    north_is = border_at North c near s.north r.north k.near_is k.around.north (ap (λ r. r.north) k.borders_are)

    pub wishes_are : wishes_in r ≡ wishes_of R T t c
    wishes_are =
        omega (
          arith,
          ap both east_is ∙ both_is East c,
          ap both north_is ∙ both_is North c,
          ap both west_is ∙ both_is West c,
          ap both south_is ∙ both_is South c,
        )

    water_is : near.leaf.water ≡ (t.leaf c).water
    water_is = ap (λ n. n.leaf.water) k.near_is

    east_sum : (x : ℤ) → x ≡ near.leaf.east +ℤ (r.east.across +ℤ r.west.across) +ℤ (r.north.along +ℤ r.south.along) → x ≡ new_east R T t c
    east_sum x h =
        h ∙ same_sum _ _ _ _ _ (ap (λ n. n.leaf.east) k.near_is) (ap (λ b. b.across) east_is) (ap (λ b. b.across) west_is) (ap (λ b. b.along) north_is)
        (ap (λ b. b.along) south_is)

    north_sum : (x : ℤ) → x ≡ near.leaf.north +ℤ (r.north.across +ℤ r.south.across) +ℤ (r.east.along +ℤ r.west.along) → x ≡ new_north R T t c
    north_sum x h =
        h ∙ same_sum _ _ _ _ _ (ap (λ n. n.leaf.north) k.near_is) (ap (λ b. b.across) north_is) (ap (λ b. b.across) south_is) (ap (λ b. b.along) east_is)
        (ap (λ b. b.along) west_is)

    pub departure_is : (Q : ℕ) (w e o n : Outflow) (x y : ℤ) → Q ≡ wishes_in r
        → w ≡ outflow_by near.leaf.water Q r.west
        → e ≡ outflow_by near.leaf.water Q r.east
        → o ≡ outflow_by near.leaf.water Q r.south
        → n ≡ outflow_by near.leaf.water Q r.north
        → x ≡ near.leaf.east +ℤ (r.east.across +ℤ r.west.across) +ℤ (r.north.along +ℤ r.south.along)
        → y ≡ near.leaf.north +ℤ (r.north.across +ℤ r.south.across) +ℤ (r.east.along +ℤ r.west.along)
        → ◌≡◌ {A = Departure}
        (record { outflows = record { east = e; north = n; west = w; south = o }; total = e.first + e.second + (n.first + n.second) + (w.first + w.second + (o.first + o.second)); new_east = x; new_north = y })
        (departure_from R T t c)
    unfolding departure_from
    departure_is Q w e o n x y q ew ee eo en ex ey =
        let Q' = q ∙ wishes_are in
        let w' = ew ∙ outflow_is West c _ Q r.west water_is Q' west_is in
        let e' = ee ∙ outflow_is East c _ Q r.east water_is Q' east_is in
        let o' = eo ∙ outflow_is South c _ Q r.south water_is Q' south_is in
        let n' = en ∙ outflow_is North c _ Q r.north water_is Q' north_is in
        let sum = λ (q : Outflow). q.first + q.second in
        let out : e.first + e.second + (n.first + n.second) + (w.first + w.second + (o.first + o.second)) ≡ out_of R T t c =
        omega (
          arith,
          ap sum w' ∙ both_faces (beside t West c) (λ a. leaving R T t West c a),
          ap sum e' ∙ both_faces (beside t East c) (λ a. leaving R T t East c a),
          ap sum o' ∙ both_faces (beside t South c) (λ a. leaving R T t South c a),
          ap sum n' ∙ both_faces (beside t North c) (λ a. leaving R T t North c a),
        ) in
        same w e o n _ x y w' e' o' n' out (east_sum x ex) (north_sum y ey)
      where
        same : (w e o n : Outflow) (s : ℕ) (x y : ℤ) {w' e' o' n' : Outflow} {s' : ℕ} {x' y' : ℤ} → w ≡ w' → e ≡ e' → o ≡ o' → n ≡ n' → s ≡ s' → x ≡ x' → y ≡ y'
            → ◌≡◌ {A = Departure} (record { outflows = record { east = e; north = n; west = w; south = o }; total = s; new_east = x; new_north = y }) (record { outflows = record { east = e'; north = n'; west = w'; south = o' }; total = s'; new_east = x'; new_north = y' })
        same w e o n s x y p₁ p₂ p₃ p₄ p₅ p₆ p₇ = cc
