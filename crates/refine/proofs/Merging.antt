-- What a merge replies and leaves, case by case.
use Rattle.std.proofs.Common.{◌≡◌, ℕ, pred, ◌+◌, ◌-◌, ◌*◌, ◌/◌, ◌<◌, ◌≤◌, Bool, true, false, cond, not, ◌&&◌, ◌||◌, eqb, ltb, ◌⊎◌, List, Ok, Err, Decides, Result, sym, refl, ap, ◌∙◌, subst, inl, inr, sub-one, arith}
use Rattle.std.proofs.lemmas.Bool.{cases_Bool, eq-eqb, ne_eqb, or_left, or_right, or_from, ltb-false}
use Rattle.basin.specs.declared.leaf.Leaf.{Leaf}
use Rattle.basin.specs.declared.refusal.Refusal.{Refusal}
use Rattle.basin.specs.declared.refusal.Refusal.TheVariants.{NotDivisible, Unbalanced, WetDry}
use Rattle.basin.specs.declared.plot.Plot.{Plot}
use Rattle.basin.specs.declared.window.Window.{Window}
use Rattle.basin.specs.Basins.{Basin, basin, tables, side, view}
use Rattle.basin.specs.Finish.{finish}
use Rattle.basin.specs.Fills.{square}
use Rattle.basin.specs.Plots.{window_of, ground}
use Rattle.basin.specs.Records.{dry}
use Rattle.basin.specs.Squares.{area, wet, bed_sum, surface}
use Rattle.basin.specs.Tables.{table}
use Rattle.basin.specs.Views.{View, size, side_of}
use Rattle.basin.specs.Windows.{ring_at}
use Rattle.basin.proofs.Sizes.{area_small}
use Rattle.basin.proofs.Tests.{to_same_block}
use Rattle.runs.specs.Calls.{merge, granted, refused, perform, beside_finer, mixed, no_siblings, would_flood}
use Rattle.runs.specs.Changes.{twin, four, merged, after_merge}
use Rattle.runs.proofs.CallsKeep.{four_holds, sibling_holds, twin_x, twin_y, half_x, half_y}
use Rattle.runs.proofs.Ranges.{Holds}
use Rattle.looks.proofs.Beds.{ground_is}
use Rattle.tables.specs.Surveys.{BlockAt}
use Rattle.calls.specs.declared.spot.Spot.{Spot}
use Rattle.calls.specs.Spots.{placing, Located, Covers}
use Rattle.calls.proofs.Refilled.{beds_are, filled_table}
use Rattle.calls.proofs.Verdicts.{refuses, strikes, grants}
use Rattle.refine.specs.declared.parts.Siblings.{Siblings}
use Rattle.refine.specs.Floods.{DryWindow}
use Rattle.refine.specs.Joins.{levels_joined, leaves_joined}
use Rattle.refine.specs.Siblings.{Slow, siblings_at, some_mixed, joined}
use Rattle.refine.specs.Windows.{Between, BlockWindow, RingWindow}
use Rattle.refine.proofs.Blocks.{siblings_told, finer_told, flood_told}
use Rattle.refine.proofs.Families.{mixed_is}
use Rattle.refine.proofs.Spotted.{block_window_is, ring_window_is}

-- ---- the refusals that every call may meet
pub merge_refused : (b : Basin) (x y : ℕ) (e : Refusal) → placing b x y ≡ Err e → (refused e, b) ≡ perform (merge x y) b
merge_refused b x y e h = refuses b x y (merge x y) (λ l v. refl) (λ n. refl) e h

module _ (b : Basin) (x y : ℕ) (s : Spot) (l : Located b x y s) where
  abbrev v : View
  v = view b

  abbrev k : ℕ
  k = v.level x y

  -- the refusals of a merge, by its tests
  abbrev by_tests : Bool → Bool → Bool → Result (Unit {0}) Refusal
  by_tests alone unbalanced mixed = cond alone (Err NotDivisible) (cond unbalanced (Err Unbalanced) (cond mixed (Err WetDry) (Ok tt)))

  abbrev t₅ : Bool
  t₅ = eqb k 0 || no_siblings v x y

  abbrev t₆ : Bool
  t₆ = beside_finer v x y

  abbrev t₇ : Bool
  t₇ = mixed v x y || (not (wet v x y) && would_flood v (pred k) (pred k) x y)

  strike : (e : Refusal) → by_tests t₅ t₆ t₇ ≡ Err e → (refused e, b) ≡ perform (merge x y) b
  strike e h = strikes b x y (merge x y) (λ l v. refl) (λ n. refl) l.passed e h

  -- ---- a lone leaf
  pub merge_alone : s.level ≡ 0 → (refused NotDivisible, b) ≡ perform (merge x y) b
  merge_alone e =
      let t : t₅ ≡ true = or_left (eqb k 0) _ (eq-eqb k 0 (sym l.level_is ∙ e)) in
      strike NotDivisible (λ i. by_tests (t i) t₆ t₇)

  module _ (deeper : s.level ≡ 0 → ⊥) where
    above : 0 < k
    above = let f : s.level ≡ 0 → ⊥ = deeper in omega (arith, l.level_is, f)

    deep : k ≤ b.head.L
    deep = l.valid.squares.quadtree.shallow x y l.east l.north

    -- the level above
    up_level : s.level - 1 ≡ pred k
    up_level = ap (λ n. n - 1) l.level_is ∙ sub-one k

    pub above_deep : s.level - 1 ≤ b.head.L
    above_deep = omega (arith, up_level, deep)

    module _ (p : Plot) (is : BlockAt b (s.level - 1) s.square.x s.square.y p) (window : Window) (window-of : window ≡ window_of p) where
      covers : Covers b (pred k) x y p
      covers =
          record {
            deep = omega (arith, deep);
            east = l.east;
            north = l.north;
            block = rw (sym up_level, sym l.square.x_is, sym l.square.y_is) is;
          }

      block_window : BlockWindow v (pred k) x y window
      block_window = subst (BlockWindow v (pred k) x y) (sym window-of) (block_window_is b (pred k) x y p covers.block)

      -- ---- siblings of another level
      module _ (r : Bool) (even : Decides r (Between p.n b.tables.levels window s.level s.level)) where
        siblings_are : no_siblings v x y ≡ not r
        siblings_are =
            siblings_told v x y l.east l.north window r (omega (arith, deep)) block_window
            (subst (λ k. Decides r (Between (side b.head) b.tables.levels window k k)) l.level_is
            (subst (λ n. Decides r (Between n b.tables.levels window s.level s.level)) is.n_is even))

        pub merge_unequal : r ≡ false → (refused NotDivisible, b) ≡ perform (merge x y) b
        merge_unequal e =
            let t : t₅ ≡ true = or_right (eqb k 0) _ (siblings_are ∙ ap not e) in
            strike NotDivisible (λ i. by_tests (t i) t₆ t₇)

        module _ (ok : r ≡ true) where
          four_leaves : t₅ ≡ false
          four_leaves = or_from (eqb k 0) _ (ne_eqb k 0 (let z = above in omega arith)) (siblings_are ∙ ap not ok)

          -- the siblings lie in the basin
          pub record Twins : Type 0 where
            pub east : twin s.plot.side s.square.x < s.square.n
            pub north : twin s.plot.side s.square.y < s.square.n

          pub twins : Twins
          twins =
              record {
                east = rw (l.block.side_is, l.square.x_is, l.square.n_is) (twin_x v l.valid.squares x y l.east l.north four_leaves);
                north = rw (l.block.side_is, l.square.y_is, l.square.n_is) (twin_y v l.valid.squares x y l.east l.north four_leaves);
              }

          -- ---- a finer leaf beside
          module _ (ring : Window) (ring_of : ring ≡ ring_at p.n window) (q : Bool)
              (fine : Decides q (Between p.n b.tables.levels ring 0 s.level)) where
            finer_is : t₆ ≡ not q
            finer_is =
                finer_told v x y l.east l.north ring q (omega (arith, deep))
                (subst (λ w. RingWindow v (pred k) x y w) (sym (ring_of ∙ ap (ring_at p.n) window-of)) (ring_window_is b (pred k) x y p covers.block))
                (subst (λ k. Decides q (Between (side b.head) b.tables.levels ring 0 k)) l.level_is
                (subst (λ n. Decides q (Between n b.tables.levels ring 0 s.level)) is.n_is fine))

            pub merge_unbalanced : q ≡ false → (refused Unbalanced, b) ≡ perform (merge x y) b
            merge_unbalanced e = let u = finer_is ∙ ap not e in strike Unbalanced (λ i. by_tests (four_leaves i) (u i) t₇)

            module _ (good : q ≡ true) (f : Siblings) (family : f ≡ siblings_at s.square.n s.plot.side b.tables.leaves s.square.x s.square.y) where
              balanced : t₆ ≡ false
              balanced = finer_is ∙ ap not good

              family_is : f ≡ siblings_at (side b.head) (side_of v k) b.tables.leaves x y
              family_is = family ∙ (λ i. siblings_at (l.square.n_is i) (l.block.side_is i) b.tables.leaves (l.square.x_is i) (l.square.y_is i))

              wet_is : wet v x y ≡ ltb 0 f.own.water
              wet_is = sym (ap (λ g. ltb 0 g.own.water) family_is)

              -- the records may be added up
              pub record Summable : Type 0 where
                pub few : (joined f).water ≤ 122880000
                pub own : Slow f.own
                pub beside : Slow f.beside
                pub above : Slow f.above
                pub across : Slow f.across

              pub summable : Summable
              summable =
                  let t = side_of v k in
                  let valid = l.valid.squares in
                  let small = area_small (b.head.L - pred k) (side_of v (pred k)) (omega (arith, l.valid.head.levels)) refl in
                  let slow : (m : Leaf) → Holds (area v k) m → Slow m = λ m h. record { east = omega (arith, h.slow_east); north = omega (arith, h.slow_north) } in
                  let at : (p q : ℕ) → p < size v → q < size v → x / side_of v (pred k) ≡ p / side_of v (pred k)
                  → y / side_of v (pred k) ≡ q / side_of v (pred k) → Slow (v.leaf p q) =
                  λ p q c d e g. slow (v.leaf p q)
                  (sibling_holds v valid x y l.east l.north four_leaves p q c d (to_same_block v (pred k) x y p q e g)) in
                  let tx = twin_x v valid x y l.east l.north four_leaves in
                  let ty = twin_y v valid x y l.east l.north four_leaves in
                  let hx = half_x v valid x y l.east l.north four_leaves in
                  let hy = half_y v valid x y l.east l.north four_leaves in
                  record {
                    few = omega (arith, ap (λ g. (joined g).water) family_is, (four_holds v valid x y l.east l.north four_leaves).room, small);
                    own = subst Slow (sym (ap (λ g. g.own) family_is)) (at x y l.east l.north refl refl);
                    beside = subst Slow (sym (ap (λ g. g.beside) family_is)) (at (twin t x) y tx l.north hx refl);
                    above = subst Slow (sym (ap (λ g. g.above) family_is)) (at x (twin t y) l.east ty refl hy);
                    across = subst Slow (sym (ap (λ g. g.across) family_is)) (at (twin t x) (twin t y) tx ty hx hy);
                  }

              -- ---- wet and dry siblings
              module _ (m : Bool) (told : m ≡ some_mixed f) where
                mixed_told : mixed v x y ≡ m
                mixed_told = mixed_is v l.valid.squares x y l.east l.north four_leaves ∙ sym (told ∙ ap some_mixed family_is)

                pub merge_mixed : m ≡ true → (refused WetDry, b) ≡ perform (merge x y) b
                merge_mixed e =
                    let t : t₇ ≡ true = or_left (mixed v x y) _ (mixed_told ∙ e) in
                    strike WetDry (λ i. by_tests (four_leaves i) (balanced i) (t i))

                module _ (even-wet : m ≡ false) where
                  -- ---- water beside dry siblings
                  module _ (g : Bool) (dry-told : Decides g (DryWindow v (s.level - 1) window)) where
                    flood_is : would_flood v (pred k) (pred k) x y ≡ not g
                    flood_is =
                        flood_told v (pred k) (pred k) x y window g (omega (arith, deep)) l.east l.north block_window
                        (subst (λ j. Decides g (DryWindow v j window)) up_level dry-told)

                    pub merge_flooded : f.own.water ≡ 0 → g ≡ false → (refused WetDry, b) ≡ perform (merge x y) b
                    merge_flooded z e =
                        let w : wet v x y ≡ false = wet_is ∙ ap (λ n. ltb 0 n) z in
                        let c = flood_is ∙ ap not e in
                        let u = mixed_told ∙ even-wet in
                        strike WetDry (λ i. by_tests (four_leaves i) (balanced i) (u i || (not (w i) && c i)))

                  -- ---- the siblings are wet, or were seen to stay dry
                  module _ (seen : (f.own.water ≡ 0 → ⊥) ⊎ ((g : Bool) × Decides g (DryWindow v (s.level - 1) window) × (g ≡ true))) where
                    passes : t₇ ≡ false
                    passes =
                        let u = mixed_told ∙ even-wet in
                        elim (cases_Bool (wet v x y)) [
                          | inl w ↦ (λ i. u i || (not (w i) && would_flood v (pred k) (pred k) x y))
                          | inr w ↦ elim seen [
                            | inl some ↦ absurd (some (omega (arith, ltb-false 0 f.own.water (sym wet_is ∙ w))))
                            | inr q ↦ let c = flood_is q.0 q.1 ∙ ap not q.2 in (λ i. u i || (not (w i) && c i))
                          ]
                        ]

                    sum_is : joined f ≡ four v x y
                    sum_is = ap joined family_is

                    leaves_are : (sum : Leaf) → sum ≡ joined f → leaves_joined p sum b.tables.leaves ≡ table (side b.head) (after_merge v x y).leaf
                    leaves_are sum e =
                        let to-four = e ∙ sum_is in
                        let side-to = covers.block.side_is in
                        ap (λ n. square p.side p.n p.side (p.south * p.n + p.west) n b.tables.leaves)
                        (λ i. finish (side-to i * side-to i) (to-four i).water (to-four i).east (to-four i).north)
                        ∙ filled_table b (pred k) x y p covers (merged v x y) dry b.tables.leaves l.valid.full.leaves

                    levels_are : levels_joined p (s.level - 1) b.tables.levels ≡ table (side b.head) (after_merge v x y).level
                    levels_are =
                        ap (λ j. square p.side p.n p.side (p.south * p.n + p.west) j b.tables.levels) up_level
                        ∙ filled_table b (pred k) x y p covers (pred k) 0 b.tables.levels l.valid.full.levels

                    surface_is : (sum : Leaf) → sum ≡ joined f
                        → (sum.water + ground p b.tables.beds) / (p.side * p.side) ≡ surface (after_merge v x y) x y
                    surface_is sum e =
                        let to-four = e ∙ sum_is in
                        let here = sym (to_same_block v (pred k) x y x y refl refl) in
                        (λ i. ((to-four i).water + ground_is b (pred k) x y p covers.block i) / (covers.block.side_is i * covers.block.side_is i))
                        ∙ (λ i. ((cond (here i) (merged v x y) (v.leaf x y)).water + bed_sum v (cond (here i) (pred k) k) x y) / area v (cond (here i) (pred k) k))

                    pub merge_granted : (sum : Leaf) → sum ≡ joined f → (levels : List ℕ) (leaves : List Leaf) (w : ℕ)
                        → levels ≡ levels_joined p (s.level - 1) b.tables.levels → leaves ≡ leaves_joined p sum b.tables.leaves
                        → w ≡ (sum.water + ground p b.tables.beds) / (p.side * p.side)
                        → (granted w, basin b.head (tables levels b.tables.beds leaves)) ≡ perform (merge x y) b
                    merge_granted sum e levels leaves w lv lf sf =
                        let lv' = lv ∙ levels_are in
                        let lf' = lf ∙ leaves_are sum e in
                        let sf' = sf ∙ surface_is sum e in
                        (λ i. (granted (sf' i), basin b.head (tables (lv' i) (beds_are b l.valid.full.beds i) (lf' i))))
                        ∙ grants b x y (merge x y) (λ l v. refl) (λ n. refl) l.passed (λ i. by_tests (four_leaves i) (balanced i) (passes i))
