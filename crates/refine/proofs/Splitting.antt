-- What a split replies and leaves, case by case.
use Rattle.std.proofs.Common.{◌≡◌, ℕ, suc, ◌+◌, ◌-◌, ◌*◌, ◌/◌, ◌^◌, ◌<◌, ◌≤◌, Bool, true, false, cond, not, ◌&&◌, ◌||◌, eqb, ltb, leb, ◌⊎◌, List, length, pos, Ok, Err, Decides, Result, sym, refl, ap, ◌∙◌, subst, inl, inr, add-one, arith}
use lib.Signed.{quot_z}
use Rattle.std.proofs.lemmas.Bool.{cases_Bool, le-ltb, ltb-false}
use Rattle.basin.specs.declared.leaf.Leaf.{Leaf}
use Rattle.basin.specs.declared.refusal.Refusal.{Refusal}
use Rattle.basin.specs.declared.refusal.Refusal.TheVariants.{NotDivisible, Unbalanced, WetDry, LeafFull, LooseFull}
use Rattle.basin.specs.declared.quarters.Quarters.{Quarters}
use Rattle.basin.specs.declared.window.Window.{Window}
use Rattle.basin.specs.Basins.{Basin, basin, tables, side, view}
use Rattle.basin.specs.Blocks.{block, block_sum}
use Rattle.basin.specs.Fills.{square}
use Rattle.basin.specs.Finish.{finish}
use Rattle.basin.specs.Plots.{window_of}
use Rattle.basin.specs.Records.{dry, may_hold}
use Rattle.basin.specs.Squares.{area, wet}
use Rattle.basin.specs.Tables.{table, entry}
use Rattle.basin.specs.Views.{View, side_of}
use Rattle.basin.specs.Windows.{ring_at}
use Rattle.basin.proofs.Fills.{length_square, filled_entry}
use Rattle.basin.proofs.Sizes.{side_pos, side_times}
use Rattle.basin.proofs.Tabled.{tabled}
use Rattle.basin.proofs.Tests.{le_leb}
use Rattle.runs.specs.Calls.{split, granted, refused, perform, pack, beside_coarser, bare, brimming, would_flood}
use Rattle.runs.specs.Changes.{fill, remainder, child, after_split}
use Rattle.runs.proofs.WaterCalls.{block_in}
use Rattle.calls.specs.declared.spot.Spot.{Spot}
use Rattle.calls.specs.Spots.{placing, Located}
use Rattle.calls.proofs.Placing.{located_covers}
use Rattle.calls.proofs.Refilled.{beds_are, filled_table, water_is}
use Rattle.looks.proofs.Beds as beds
use Rattle.calls.proofs.Verdicts.{refuses, strikes, grants}
use Rattle.refine.specs.declared.parts.Division.{Division}
use Rattle.refine.specs.Divisions.{filled, left_over, child_area, children_of, wet_division, division_of, levels_cut, leaves_cut}
use Rattle.refine.specs.Floods.{DryWindow}
use Rattle.refine.specs.Shares.{child_ground, shares, some_bare, some_full}
use Rattle.refine.specs.Windows.{Between, BlockWindow, RingWindow}
use Rattle.refine.proofs.Blocks.{coarser_told, flood_told}
use Rattle.refine.proofs.Divided.{division_wet, division_dry}
use Rattle.refine.proofs.Quarters.{quarters_some, four_quarters, half_div}
use Rattle.refine.proofs.Spotted.{block_window_is, ring_window_is, half_is, west_first, west_second, south_first, south_second, ground_is}

-- ---- the refusals that every call may meet
pub split_refused : (b : Basin) (x y : ℕ) (e : Refusal) → placing b x y ≡ Err e → (refused e, b) ≡ perform (split x y) b
split_refused b x y e h = refuses b x y (split x y) (λ l v. refl) (λ n. refl) e h

module _ (b : Basin) (x y : ℕ) (s : Spot) (l : Located b x y s) where
  abbrev v : View
  v = view b

  abbrev k : ℕ
  k = v.level x y

  -- the leaf's record, as the code reads it
  abbrev old : Leaf
  old = s.leaf

  -- the refusals of a split, by its tests
  abbrev by_tests : Bool → Bool → Bool → Bool → Bool → Result (Unit {0}) Refusal
  by_tests bottom unbalanced mixed overfull loose =
      cond bottom (Err NotDivisible) (cond unbalanced (Err Unbalanced) (cond mixed (Err WetDry) (cond overfull (Err LeafFull) (cond loose (Err LooseFull) (Ok tt)))))

  abbrev t₅ : Bool
  t₅ = leb v.L k

  abbrev t₆ : Bool
  t₆ = beside_coarser v x y

  abbrev t₇ : Bool
  t₇ = cond (wet v x y) (bare v x y) (would_flood v k (suc k) x y)

  abbrev t₁₀ : Bool
  t₁₀ = wet v x y && brimming v x y

  abbrev t₁₁ : Bool
  t₁₁ = ltb 1000000 (b.head.loose + remainder v x y)

  strike : (e : Refusal) → by_tests t₅ t₆ t₇ t₁₀ t₁₁ ≡ Err e → (refused e, b) ≡ perform (split x y) b
  strike e h = strikes b x y (split x y) (λ l v. refl) (λ n. refl) l.passed e h

  -- ---- the deepest level
  pub split_bottom : b.head.L ≤ s.level → (refused NotDivisible, b) ≡ perform (split x y) b
  split_bottom h =
      let e : t₅ ≡ true = le_leb v.L k (omega (arith, l.level_is)) in
      strike NotDivisible (λ i. by_tests (e i) t₆ t₇ t₁₀ t₁₁)

  module _ (above : s.level < b.head.L) where
    deep : k < b.head.L
    deep = omega (arith, l.level_is)

    not_bottom : t₅ ≡ false
    not_bottom = grind (arith, deep)

    -- ---- a coarser leaf beside
    module _ (window ring : Window) (window-of : window ≡ window_of s.plot) (ring_of : ring ≡ ring_at s.plot.n window)
        (r : Bool) (even : Decides r (Between s.plot.n b.tables.levels ring s.level b.head.L)) where
      coarser_is : t₆ ≡ not r
      coarser_is =
          coarser_told v x y l.east l.north ring r (omega (arith, deep))
          (subst (λ w. RingWindow v k x y w) (sym (ring_of ∙ ap (ring_at s.plot.n) window-of)) (ring_window_is b k x y s.plot l.block))
          (subst (λ k. Decides r (Between (side b.head) b.tables.levels ring k b.head.L)) l.level_is
          (subst (λ n. Decides r (Between n b.tables.levels ring s.level b.head.L)) l.block.n_is even))
          l.valid.squares.quadtree.shallow

      pub split_unbalanced : r ≡ false → (refused Unbalanced, b) ≡ perform (split x y) b
      split_unbalanced e = let c = coarser_is ∙ ap not e in strike Unbalanced (λ i. by_tests (not_bottom i) (c i) t₇ t₁₀ t₁₁)

      module _ (ok : r ≡ true) where
        balanced : t₆ ≡ false
        balanced = coarser_is ∙ ap not ok

        wet_is : wet v x y ≡ ltb 0 old.water
        wet_is = ap (λ m. ltb 0 m.water) (sym l.leaf_is)

        -- ---- water beside a dry leaf
        module _ (f : Bool) (told : Decides f (DryWindow v (s.level + 1) window)) where
          flood_is : would_flood v k (suc k) x y ≡ not f
          flood_is =
              flood_told v k (suc k) x y window f (omega (arith, deep)) l.east l.north
              (subst (λ w. BlockWindow v k x y w) (sym window-of) (block_window_is b k x y s.plot l.block))
              (subst (λ j. Decides f (DryWindow v j window)) (ap (λ n. n + 1) l.level_is ∙ add-one k) told)

          pub split_flooded : old.water ≡ 0 → f ≡ false → (refused WetDry, b) ≡ perform (split x y) b
          split_flooded z e =
              let w : wet v x y ≡ false = wet_is ∙ ap (λ n. ltb 0 n) z in
              let c = flood_is ∙ ap not e in
              strike WetDry (λ i. by_tests (not_bottom i) (balanced i) (cond (w i) (bare v x y) (c i)) t₁₀ t₁₁)

        -- ---- the division
        -- a division's refusal
        abbrev refusal_of : Result Division Refusal → Result (Unit {0}) Refusal
        refusal_of (Ok d) = Ok tt
        refusal_of (Err e) = Err e

        fill_is : filled s.plot b.tables.beds old ≡ fill v x y
        fill_is = λ i. water_is b x y s l i + beds.ground_is b k x y s.plot l.block i

        abbrev X : ℕ
        X = x / side_of v k

        abbrev Y : ℕ
        Y = y / side_of v k

        -- the water of the quarter (A, B) of a wet leaf
        abbrev quarter_water : ℕ → ℕ → ℕ
        quarter_water A B = fill v x y / 4 - block_sum v.L v.bed (block (suc k) A B)

        share_is : (A B west south : ℕ) → A * side_of v (suc k) ≡ west → B * side_of v (suc k) ≡ south
            → filled s.plot b.tables.beds old / 4 - child_ground s.plot b.tables.beds west south ≡ quarter_water A B
        share_is A B west south e f = λ i. fill_is i / 4 - ground_is b x y s l deep A B west south e f i

        abbrev given_shares : Quarters ℕ
        given_shares = shares s.plot b.tables.beds (filled s.plot b.tables.beds old / 4)

        record Shared : Type 0 where
          pub sw : given_shares.sw ≡ quarter_water (X * 2) (Y * 2)
          pub se : given_shares.se ≡ quarter_water (X * 2 + 1) (Y * 2)
          pub nw : given_shares.nw ≡ quarter_water (X * 2) (Y * 2 + 1)
          pub ne : given_shares.ne ≡ quarter_water (X * 2 + 1) (Y * 2 + 1)

        shared : Shared
        shared =
            record {
              sw = share_is (X * 2) (Y * 2) _ _ (west_first b x y s l deep) (south_first b x y s l deep);
              se = share_is (X * 2 + 1) (Y * 2) _ _ (west_second b x y s l deep) (south_first b x y s l deep);
              nw = share_is (X * 2) (Y * 2 + 1) _ _ (west_first b x y s l deep) (south_second b x y s l deep);
              ne = share_is (X * 2 + 1) (Y * 2 + 1) _ _ (west_second b x y s l deep) (south_second b x y s l deep);
            }

        child_area_is : child_area s.plot ≡ area v (suc k)
        child_area_is = λ i. half_is b x y s l deep i * half_is b x y s l deep i

        bare_is : bare v x y ≡ some_bare given_shares
        bare_is =
            quarters_some v k x y deep l.east l.north (λ A B. ltb (quarter_water A B) 1)
            ∙ sym (λ i. ltb (shared.sw i) 1 || (ltb (shared.se i) 1 || (ltb (shared.nw i) 1 || ltb (shared.ne i) 1)))

        brimming_is : brimming v x y ≡ some_full (child_area s.plot) given_shares
        brimming_is =
            quarters_some v k x y deep l.east l.north (λ A B. not (may_hold (area v (suc k)) (quarter_water A B)))
            ∙ sym (λ i. not (may_hold (child_area_is i) (shared.sw i)) || (not (may_hold (child_area_is i) (shared.se i))
            || (not (may_hold (child_area_is i) (shared.nw i)) || not (may_hold (child_area_is i) (shared.ne i)))))

        -- the division of a wet leaf that meets no refusal, and of a dry one
        abbrev wet_parts : Division
        wet_parts = record { children = children_of (child_area s.plot) given_shares old; remainder = left_over s.plot b.tables.beds old }

        abbrev dry_parts : Division
        dry_parts = record { children = record { sw = dry; se = dry; nw = dry; ne = dry }; remainder = 0 }

        -- the tests of a wet leaf are those of its division
        wet_tests : wet v x y ≡ true → by_tests t₅ t₆ t₇ t₁₀ t₁₁ ≡ refusal_of (wet_division s.plot b.tables.beds old b.head.loose)
        unfolding wet_division
        wet_tests w =
            (λ i. by_tests (not_bottom i) (balanced i) (cond (w i) (bare_is i) (would_flood v k (suc k) x y)) (w i && brimming_is i)
            (ltb 1000000 (b.head.loose + cond (w i) (sym fill_is i - 4 * (sym fill_is i / 4)) 0)))
            ∙ go (some_bare given_shares) (some_full (child_area s.plot) given_shares) (ltb 1000000 (b.head.loose + left_over s.plot b.tables.beds old))
          where
            go : (bare full over : Bool) → by_tests false false bare full over
                ≡ refusal_of (cond bare (Err WetDry) (cond full (Err LeafFull) (cond over (Err LooseFull) (Ok wet_parts))))
            go true full over = refl
            go false true over = refl
            go false false true = refl
            go false false false = refl

        wet_given : (d : Division) → wet_division s.plot b.tables.beds old b.head.loose ≡ Ok d → wet_parts ≡ d
        unfolding wet_division
        wet_given d e =
            go (some_bare given_shares) (some_full (child_area s.plot) given_shares) (ltb 1000000 (b.head.loose + left_over s.plot b.tables.beds old)) wet_parts d e
          where
            go : (bare full over : Bool) (p d : Division)
                → cond bare (Err WetDry) (cond full (Err LeafFull) (cond over (Err LooseFull) (Ok p))) ≡ Ok d → p ≡ d
            go true full over p d e = let z : ◌≡◌ {A = ℕ} 0 1 = cc in absurd (omega arith)
            go false true over p d e = let z : ◌≡◌ {A = ℕ} 0 1 = cc in absurd (omega arith)
            go false false true p d e = let z : ◌≡◌ {A = ℕ} 0 1 = cc in absurd (omega arith)
            go false false false p d e = cc

        -- a dry leaf that stays dry meets no refusal: the loose account stays
        dry_tests : wet v x y ≡ false → would_flood v k (suc k) x y ≡ false → by_tests t₅ t₆ t₇ t₁₀ t₁₁ ≡ Ok tt
        dry_tests w c =
            let few : ltb 1000000 (b.head.loose + 0) ≡ false = le-ltb 1000000 (b.head.loose + 0) (omega (arith, l.valid.head.loose)) in
            (λ i. by_tests (not_bottom i) (balanced i) (cond (w i) (bare v x y) (c i)) (w i && brimming v x y)
            (ltb 1000000 (b.head.loose + cond (w i) (fill v x y - 4 * (fill v x y / 4)) 0)))
            ∙ ap (λ t. by_tests false false false false t) few

        -- ---- the children
        -- the record of the quarter (A, B)
        abbrev quarter : ℕ → ℕ → Leaf
        quarter A B = cond (wet v x y)
            (finish (area v (suc k)) (quarter_water A B) (quot_z (v.leaf x y).east (pos 4)) (quot_z (v.leaf x y).north (pos 4))) dry

        record Parts (c : Quarters Leaf) : Type 0 where
          pub sw : c.sw ≡ quarter (X * 2) (Y * 2)
          pub se : c.se ≡ quarter (X * 2 + 1) (Y * 2)
          pub nw : c.nw ≡ quarter (X * 2) (Y * 2 + 1)
          pub ne : c.ne ≡ quarter (X * 2 + 1) (Y * 2 + 1)

        wet_children : wet v x y ≡ true → Parts wet_parts.children
        wet_children w =
            let one : (share A B : ℕ) → share ≡ quarter_water A B
            → finish (child_area s.plot) share (quot_z old.east (pos 4)) (quot_z old.north (pos 4)) ≡ quarter A B =
            λ share A B e.
            (λ i. cond (sym w i) (finish (child_area_is i) (e i) (quot_z (l.leaf_is i).east (pos 4))
            (quot_z (l.leaf_is i).north (pos 4))) dry) in
            record {
              sw = one given_shares.sw (X * 2) (Y * 2) shared.sw;
              se = one given_shares.se (X * 2 + 1) (Y * 2) shared.se;
              nw = one given_shares.nw (X * 2) (Y * 2 + 1) shared.nw;
              ne = one given_shares.ne (X * 2 + 1) (Y * 2 + 1) shared.ne;
            }

        dry_children : wet v x y ≡ false → Parts dry_parts.children
        dry_children w =
            let one : (A B : ℕ) → dry ≡ quarter A B =
            λ A B i. cond (sym w i) (finish (area v (suc k)) (quarter_water A B) (quot_z (v.leaf x y).east (pos 4)) (quot_z (v.leaf x y).north (pos 4))) dry in
            record { sw = one (X * 2) (Y * 2); se = one (X * 2 + 1) (Y * 2); nw = one (X * 2) (Y * 2 + 1); ne = one (X * 2 + 1) (Y * 2 + 1) }

        -- ---- the tables
        -- one quarter filled
        quarter_entry : (A B corner : ℕ) → corner ≡ B * side_of v (suc k) * side b.head + A * side_of v (suc k) → A < 2 ^ suc k → B < 2 ^ suc k
            → (c : Leaf) (t : List Leaf) → length t ≡ side b.head * side b.head → (p q : ℕ) → p < side b.head → q < side b.head
            → entry (side b.head) dry (square (s.plot.side / 2) s.plot.n (s.plot.side / 2) corner c t) p q
            ≡ cond (eqb A (p / side_of v (suc k)) && eqb B (q / side_of v (suc k))) c (entry (side b.head) dry t p q)
        quarter_entry A B corner e east north c t all p q a d =
            (λ i. entry (side b.head) dry (square (half_is b x y s l deep i) (l.block.n_is i) (half_is b x y s l deep i) (e i) c t) p q)
            ∙ filled_entry (side b.head) (2 ^ suc k) (side_of v (suc k)) A B (side_times b.head.L (suc k) deep) (side_pos _) east north c dry t all p q a d

        module _ (c : Quarters Leaf) (parts : Parts c) where
          abbrev with_sw : List Leaf
          with_sw = square (s.plot.side / 2) s.plot.n (s.plot.side / 2) (s.plot.south * s.plot.n + s.plot.west) c.sw b.tables.leaves

          abbrev with_se : List Leaf
          with_se = square (s.plot.side / 2) s.plot.n (s.plot.side / 2) (s.plot.south * s.plot.n + (s.plot.west + s.plot.side / 2)) c.se with_sw

          abbrev with_nw : List Leaf
          with_nw = square (s.plot.side / 2) s.plot.n (s.plot.side / 2) ((s.plot.south + s.plot.side / 2) * s.plot.n + s.plot.west) c.nw with_se

          sw_full : length with_sw ≡ side b.head * side b.head
          sw_full = length_square _ _ _ _ c.sw b.tables.leaves ∙ l.valid.full.leaves

          se_full : length with_se ≡ side b.head * side b.head
          se_full = length_square _ _ _ _ c.se with_sw ∙ sw_full

          nw_full : length with_nw ≡ side b.head * side b.head
          nw_full = length_square _ _ _ _ c.nw with_se ∙ se_full

          cut_entry : (p q : ℕ) → p < side b.head → q < side b.head
              → entry (side b.head) dry (leaves_cut s.plot c b.tables.leaves) p q ≡ (after_split v x y).leaf p q
          cut_entry p q a d =
              let n = side b.head in
              let h = side_of v (suc k) in
              let east = block_in v k x (omega (arith, deep)) l.east in
              let north = block_in v k y (omega (arith, deep)) l.north in
              let x₀ = west_first b x y s l deep in
              let x₁ = west_second b x y s l deep in
              let y₀ = south_first b x y s l deep in
              let y₁ = south_second b x y s l deep in
              let row₀ : s.plot.south * s.plot.n ≡ Y * 2 * h * n = (λ i. s.plot.south * l.block.n_is i) ∙ ap (λ r. r * n) (sym y₀) in
              let row₁ : (s.plot.south + s.plot.side / 2) * s.plot.n ≡ (Y * 2 + 1) * h * n = (λ i. (s.plot.south + s.plot.side / 2) * l.block.n_is i) ∙ ap (λ r. r * n) (sym y₁) in
              quarter_entry (X * 2 + 1) (Y * 2 + 1) _ (omega (arith, row₁, x₁)) (omega (arith, east)) (omega (arith, north)) c.ne with_nw nw_full p q a d
              ∙ ap (cond (eqb (X * 2 + 1) (p / h) && eqb (Y * 2 + 1) (q / h)) c.ne)
              (quarter_entry (X * 2) (Y * 2 + 1) _ (omega (arith, row₁, x₀)) (omega (arith, east)) (omega (arith, north)) c.nw with_se se_full p q a d
              ∙ ap (cond (eqb (X * 2) (p / h) && eqb (Y * 2 + 1) (q / h)) c.nw)
              (quarter_entry (X * 2 + 1) (Y * 2) _ (omega (arith, row₀, x₁)) (omega (arith, east)) (omega (arith, north)) c.se with_sw sw_full p q a d
              ∙ ap (cond (eqb (X * 2 + 1) (p / h) && eqb (Y * 2) (q / h)) c.se)
              (quarter_entry (X * 2) (Y * 2) _ (omega (arith, row₀, x₀)) (omega (arith, east)) (omega (arith, north)) c.sw b.tables.leaves
              l.valid.full.leaves p q a d)))
              ∙ (λ i. cond (eqb (X * 2 + 1) (p / h) && eqb (Y * 2 + 1) (q / h)) (parts.ne i)
              (cond (eqb (X * 2) (p / h) && eqb (Y * 2 + 1) (q / h)) (parts.nw i)
              (cond (eqb (X * 2 + 1) (p / h) && eqb (Y * 2) (q / h)) (parts.se i)
              (cond (eqb (X * 2) (p / h) && eqb (Y * 2) (q / h)) (parts.sw i) (v.leaf p q)))))
              ∙ four_quarters X Y (p / h) (q / h) quarter (v.leaf p q)
              ∙ sym (λ i. cond (eqb X (half_div v k p deep i) && eqb Y (half_div v k q deep i)) (child v x y p q) (v.leaf p q))

          leaves_are : leaves_cut s.plot c b.tables.leaves ≡ table (side b.head) (after_split v x y).leaf
          leaves_are = tabled (side b.head) (leaves_cut s.plot c b.tables.leaves) dry (after_split v x y).leaf (length_square _ _ _ _ c.ne with_nw ∙ nw_full) cut_entry

          levels_are : levels_cut s.plot s.level b.tables.levels ≡ table (side b.head) (after_split v x y).level
          levels_are =
              ap (λ j. square s.plot.side s.plot.n s.plot.side (s.plot.south * s.plot.n + s.plot.west) j b.tables.levels) (ap (λ n. n + 1) l.level_is ∙ add-one k)
              ∙ filled_table b k x y s.plot (located_covers b x y s l) (suc k) 0 b.tables.levels l.valid.full.levels

          cut_basin : (loose : ℕ)
              → basin (record { L = b.head.L; d = b.head.d; loose = loose })
              (tables (levels_cut s.plot s.level b.tables.levels) b.tables.beds (leaves_cut s.plot c b.tables.leaves))
              ≡ pack loose (after_split v x y)
          cut_basin loose = λ i. basin (record { L = b.head.L; d = b.head.d; loose = loose })
              (tables (levels_are i) (beds_are b l.valid.full.beds i) (leaves_are i))

        -- ---- wet or dry: what the division gives
        -- the leaf is wet, or was seen to stay dry
        module _ (seen : (old.water ≡ 0 → ⊥) ⊎ ((f : Bool) × Decides f (DryWindow v (s.level + 1) window) × (f ≡ true))) where
          safe : wet v x y ≡ false → would_flood v k (suc k) x y ≡ false
          safe w = elim seen [
            | inl some ↦ absurd (some (omega (arith, ltb-false 0 old.water (sym wet_is ∙ w))))
            | inr q ↦ flood_is q.0 q.1 ∙ ap not q.2
          ]

          record Divided (d : Division) : Type 0 where
            pub parts : Parts d.children
            pub over : d.remainder ≡ remainder v x y

          tests_are : by_tests t₅ t₆ t₇ t₁₀ t₁₁ ≡ refusal_of (division_of s.plot b.tables.beds old b.head.loose)
          tests_are = elim (cases_Bool (wet v x y)) [
            | inl w ↦ wet_tests w ∙ ap refusal_of (sym (division_wet s.plot b.tables.beds old b.head.loose (sym wet_is ∙ w)))
            | inr w ↦ dry_tests w (safe w) ∙ ap refusal_of (sym (division_dry s.plot b.tables.beds old b.head.loose (sym wet_is ∙ w)))
          ]

          divided : (d : Division) → division_of s.plot b.tables.beds old b.head.loose ≡ Ok d → Divided d
          divided d e = elim (cases_Bool (wet v x y)) [
            | inl w ↦
                let g = wet_given d (sym (division_wet s.plot b.tables.beds old b.head.loose (sym wet_is ∙ w)) ∙ e) in
                subst Divided g (record {
                  parts = wet_children w;
                  over = λ i. cond (sym w i) (fill_is i - 4 * (fill_is i / 4)) 0;
                })
            | inr w ↦
                let g : dry_parts ≡ d = same_ok dry_parts d (sym (division_dry s.plot b.tables.beds old b.head.loose (sym wet_is ∙ w)) ∙ e) in
                subst Divided g (record {
                  parts = dry_children w;
                  over = λ i. cond (sym w i) (fill v x y - 4 * (fill v x y / 4)) 0;
                })
          ]
            where
              same_ok : (p d : Division) → ◌≡◌ {A = Result Division Refusal} (Ok p) (Ok d) → p ≡ d
              same_ok p d e = cc

          pub split_undivided : (e : Refusal) → Err e ≡ division_of s.plot b.tables.beds old b.head.loose → (refused e, b) ≡ perform (split x y) b
          split_undivided e h = strike e (tests_are ∙ ap refusal_of (sym h))

          pub split_granted : (d : Division) → Ok d ≡ division_of s.plot b.tables.beds old b.head.loose
              → (levels : List ℕ) (leaves : List Leaf) → levels ≡ levels_cut s.plot s.level b.tables.levels → leaves ≡ leaves_cut s.plot d.children b.tables.leaves
              → (granted d.remainder, basin (record { L = b.head.L; d = b.head.d; loose = b.head.loose + d.remainder }) (tables levels b.tables.beds leaves))
              ≡ perform (split x y) b
          split_granted d h levels leaves e f =
              let g = divided d (sym h) in
              (λ i. (granted d.remainder, basin (record { L = b.head.L; d = b.head.d; loose = b.head.loose + d.remainder }) (tables (e i) b.tables.beds (f i))))
              ∙ (λ i. (granted d.remainder, cut_basin d.children g.parts (b.head.loose + d.remainder) i))
              ∙ (λ i. (granted (g.over i), pack (b.head.loose + g.over i) (after_split v x y)))
              ∙ grants b x y (split x y) (λ l v. refl) (λ n. refl) l.passed (tests_are ∙ ap refusal_of (sym h))
