-- Each test and each result of a call is turned with the squares.
use Rattle.std.proofs.Common.{◌≡◌, ℕ, suc, pred, ◌+◌, ◌-◌, ◌*◌, ◌/◌, ◌^◌, ◌<◌, ◌≤◌, max, Bool, true, false, cond, not, ◌&&◌, ◌||◌, eqb, ltb, leb, [], ◌∷◌, pos, nat_abs, sym, refl, ap, ◌∙◌, inl, inr, arith}
use lib.Signed.{quot_z}
use Rattle.std.proofs.lemmas.Bool.{cases_lt}
use Rattle.basin.specs.declared.leaf.Leaf.{Leaf}
use Rattle.basin.specs.declared.refusal.Refusal.TheVariants.{OffGrid, OutOfRange, NotDivisible, Unbalanced, WetDry, Overdrawn, StepTooLong, LeafFull, LooseFull}
use Rattle.basin.specs.Blocks.{patch}
use Rattle.basin.specs.Records.{may_hold, dry}
use Rattle.basin.specs.Squares.{same_block, bed_sum, water, wet, area, surface, bed_number, touch, edge, some_square, some_pair}
use Rattle.basin.specs.Sums.{only}
use Rattle.basin.specs.Views.{View, size, side_of}
use Rattle.runs.specs.Calls.{full, pour, draw, settle, split, merge, if, first_of, off, outside, pace, too_fast, would_flood, beside_coarser, beside_finer, bare, brimming, no_siblings, mixed, overfull, tests}
use Rattle.runs.specs.Changes.{four, twin, both, after_pour, after_draw, fill, remainder, child_water, child, after_split, merged, after_merge}
use Rattle.basin.specs.Finish.{finish}
use Rattle.runs.specs.Roots.{root}
use Rattle.runs.proofs.Symmetry.{Symmetry, some_square_cong, twin_in}

abbrev pub like : View → (ℕ → ℕ → ℕ) → (ℕ → ℕ → ℕ) → (ℕ → ℕ → Leaf) → View
like v level' bed' leaf' = record { L = v.L; d = v.d; level = level'; bed = bed'; leaf = leaf' }

abbrev pub Shallow : View → Type 0
Shallow v = (x y : ℕ) → x < size v → y < size v → v.level x y ≤ v.L

-- the squares given by level', bed' and leaf' are those of v turned
pub record Turned (v : View) (level' bed' : ℕ → ℕ → ℕ) (leaf' : ℕ → ℕ → Leaf) (fx fy : ℕ → ℕ → ℕ) (ρ : Leaf → Leaf) : Type 0 where
  pub levels : (x y : ℕ) → x < size v → y < size v → level' x y ≡ v.level (fx x y) (fy x y)
  pub beds : (x y : ℕ) → x < size v → y < size v → bed' x y ≡ v.bed (fx x y) (fy x y)
  pub leaves : (x y : ℕ) → x < size v → y < size v → leaf' x y ≡ ρ (v.leaf (fx x y) (fy x y))

cond_through : {A B : Type 0} (g : A → B) (t : Bool) (a b : A) → cond t (g a) (g b) ≡ g (cond t a b)
cond_through g true a b = refl
cond_through g false a b = refl

pub on_grid : (v : View) (x y : ℕ) → x < size v → y < size v → off v x y ≡ false
on_grid v x y a b = go (size v) x y a b
  where
    go : (n x y : ℕ) → x < n → y < n → not (ltb x n && ltb y n) ≡ false
    go n x y a b = grind arith

module _ (v : View) (level' bed' : ℕ → ℕ → ℕ) (leaf' : ℕ → ℕ → Leaf) (fx fy : ℕ → ℕ → ℕ) (ρ : Leaf → Leaf)
    (S : Symmetry v.L fx fy ρ) (shallow : Shallow v) (T : Turned v level' bed' leaf' fx fy ρ) where
  turn_square : (P P' : ℕ → ℕ → Bool) → ((x y : ℕ) → x < size v → y < size v → P' x y ≡ P (fx x y) (fy x y)) → some_square (size v) P' ≡ some_square (size v) P
  turn_square P P' h = some_square_cong (size v) P' (λ x y. P (fx x y) (fy x y)) h ∙ ap (λ m. ltb 0 m) (S.sums (λ x y. only (P x y) 1))

  turn_pair : (P P' : ℕ → ℕ → ℕ → ℕ → Bool)
      → ((x y x' y' : ℕ) → x < size v → y < size v → x' < size v → y' < size v → P' x y x' y' ≡ P (fx x y) (fy x y) (fx x' y') (fy x' y'))
      → some_pair (size v) P' ≡ some_pair (size v) P
  turn_pair P P' h =
      turn_square (λ x y. some_square (size v) (λ x' y'. P x y x' y')) (λ x y. some_square (size v) (λ x' y'. P' x y x' y'))
      (λ x y a b. turn_square (P (fx x y) (fy x y)) (P' x y) (λ x' y' a' b'. h x y x' y' a b a' b'))

  pub bed_sums : (k x y : ℕ) → x < size v → y < size v → bed_sum (like v level' bed' leaf') k x y ≡ bed_sum v k (fx x y) (fy x y)
  bed_sums k x y a b =
      elim (cases_lt v.L k) [
        | inr h ↦ S.patches v.bed bed' T.beds k x y h a b
        | inl h ↦
            let e : v.L - k ≡ v.L - v.L = omega arith in
            ap (λ m. patch (2 ^ m) bed' (x / 2 ^ m) (y / 2 ^ m)) e
            ∙ S.patches v.bed bed' T.beds v.L x y (omega arith) a b
            ∙ ap (λ m. patch (2 ^ m) v.bed (fx x y / 2 ^ m) (fy x y / 2 ^ m)) (sym e)
      ]

  module _ (x y : ℕ) (a : x < size v) (b : y < size v) where
    at_x : fx x y < size v
    at_x = S.in_x x y a b

    at_y : fy x y < size v
    at_y = S.in_y x y a b

    levels_turn : level' x y ≡ v.level (fx x y) (fy x y)
    levels_turn = T.levels x y a b

    deep : v.level (fx x y) (fy x y) ≤ v.L
    deep = shallow (fx x y) (fy x y) at_x at_y

    pub waters : water (like v level' bed' leaf') x y ≡ water v (fx x y) (fy x y)
    waters = ap (λ l. l.water) (T.leaves x y a b) ∙ S.ρ_water (v.leaf (fx x y) (fy x y))

    pub wets : wet (like v level' bed' leaf') x y ≡ wet v (fx x y) (fy x y)
    wets = ap (λ m. ltb 0 m) waters

    pub home_bed_sum : bed_sum (like v level' bed' leaf') (level' x y) x y ≡ bed_sum v (v.level (fx x y) (fy x y)) (fx x y) (fy x y)
    home_bed_sum = ap (λ k. bed_sum (like v level' bed' leaf') k x y) levels_turn ∙ bed_sums (v.level (fx x y) (fy x y)) x y a b

    pub surfaces : surface (like v level' bed' leaf') x y ≡ surface v (fx x y) (fy x y)
    surfaces = λ i. (waters i + home_bed_sum i) / area v (levels_turn i)

    pub fills : fill (like v level' bed' leaf') x y ≡ fill v (fx x y) (fy x y)
    fills = λ i. waters i + home_bed_sum i

    pub remainders : remainder (like v level' bed' leaf') x y ≡ remainder v (fx x y) (fy x y)
    remainders = λ i. cond (wets i) (fills i - 4 * (fills i / 4)) 0

    fulls : (m m' : ℕ) → m ≡ m' → full (like v level' bed' leaf') x y m ≡ full v (fx x y) (fy x y) m'
    fulls m m' e = λ i. not (may_hold (area v (levels_turn i)) (e i))

    bed_numbers : (k : ℕ) → bed_number (like v level' bed' leaf') k x y ≡ bed_number v k (fx x y) (fy x y)
    bed_numbers k = λ i. bed_sums k x y a b i / area v k

    paces : pace (like v level' bed' leaf') x y ≡ pace v (fx x y) (fy x y)
    paces =
        (λ i. max (nat_abs (T.leaves x y a b i).east / waters i) (nat_abs (T.leaves x y a b i).north / waters i)
        + root (9810 * (waters i / area v (levels_turn i))))
        ∙ ap (λ m. m + root (9810 * (water v (fx x y) (fy x y) / area v (v.level (fx x y) (fy x y)))))
        (S.ρ_pace (water v (fx x y) (fy x y)) (v.leaf (fx x y) (fy x y)))

    module _ (x' y' : ℕ) (a' : x' < size v) (b' : y' < size v) where
      same_blocks : (k : ℕ) → k ≤ v.L → same_block v k x y x' y' ≡ same_block v k (fx x y) (fy x y) (fx x' y') (fy x' y')
      same_blocks k h = S.blocks k x y x' y' h a b a' b'

      homes : same_block v (level' x y) x y x' y' ≡ same_block v (v.level (fx x y) (fy x y)) (fx x y) (fy x y) (fx x' y') (fy x' y')
      homes = ap (λ k. same_block v k x y x' y') levels_turn ∙ same_blocks (v.level (fx x y) (fy x y)) deep

      parents : same_block v (pred (level' x y)) x y x' y' ≡ same_block v (pred (v.level (fx x y) (fy x y))) (fx x y) (fy x y) (fx x' y') (fy x' y')
      parents = ap (λ k. same_block v (pred k) x y x' y') levels_turn ∙ same_blocks (pred (v.level (fx x y) (fy x y))) (omega (arith, deep))

      child_waters : child_water (like v level' bed' leaf') x y x' y' ≡ child_water v (fx x y) (fy x y) (fx x' y') (fy x' y')
      child_waters =
          let g : bed_sum (like v level' bed' leaf') (suc (level' x y)) x' y' ≡ bed_sum v (suc (v.level (fx x y) (fy x y))) (fx x' y') (fy x' y') =
          ap (λ k. bed_sum (like v level' bed' leaf') (suc k) x' y') levels_turn ∙ bed_sums (suc (v.level (fx x y) (fy x y))) x' y' a' b' in
          λ i. fills i / 4 - g i

      children : child (like v level' bed' leaf') x y x' y' ≡ ρ (child v (fx x y) (fy x y) (fx x' y') (fy x' y'))
      children =
          let l = v.leaf (fx x y) (fy x y) in
          let w = child_water v (fx x y) (fy x y) (fx x' y') (fy x' y') in
          (λ i. cond (wets i) (finish (area v (suc (levels_turn i))) (child_waters i) (quot_z (T.leaves x y a b i).east (pos 4))
          (quot_z (T.leaves x y a b i).north (pos 4))) dry)
          ∙ (λ i. cond (wet v (fx x y) (fy x y)) (S.ρ_share (area v (suc (v.level (fx x y) (fy x y)))) w l i) (sym S.ρ_dry i))
          ∙ cond_through ρ (wet v (fx x y) (fy x y))
          (finish (area v (suc (v.level (fx x y) (fy x y)))) w (quot_z l.east (pos 4)) (quot_z l.north (pos 4))) dry

    -- ---- the tests
    coarser_turns : beside_coarser (like v level' bed' leaf') x y ≡ beside_coarser v (fx x y) (fy x y)
    coarser_turns =
        turn_pair (λ p q p' q'. same_block v (v.level (fx x y) (fy x y)) (fx x y) (fy x y) p q &&
        (touch p q p' q' && ltb (v.level p' q') (v.level (fx x y) (fy x y)))) _
        (λ p q p' q' c d c' d'. λ i. homes p q c d i && (S.touches p q p' q' c d c' d' i && ltb (T.levels p' q' c' d' i) (levels_turn i)))

    finer_turns : beside_finer (like v level' bed' leaf') x y ≡ beside_finer v (fx x y) (fy x y)
    finer_turns =
        turn_pair (λ p q p' q'. same_block v (pred (v.level (fx x y) (fy x y))) (fx x y) (fy x y) p q &&
        (touch p q p' q' && ltb (v.level (fx x y) (fy x y)) (v.level p' q'))) _
        (λ p q p' q' c d c' d'. λ i. parents p q c d i && (S.touches p q p' q' c d c' d' i && ltb (levels_turn i) (T.levels p' q' c' d' i)))

    bare_turns : bare (like v level' bed' leaf') x y ≡ bare v (fx x y) (fy x y)
    bare_turns =
        turn_square (λ p q. same_block v (v.level (fx x y) (fy x y)) (fx x y) (fy x y) p q && ltb (child_water v (fx x y) (fy x y) p q) 1) _
        (λ p q c d. λ i. homes p q c d i && ltb (child_waters p q c d i) 1)

    brimming_turns : brimming (like v level' bed' leaf') x y ≡ brimming v (fx x y) (fy x y)
    brimming_turns =
        turn_square (λ p q. same_block v (v.level (fx x y) (fy x y)) (fx x y) (fy x y) p q && not
        (may_hold (area v (suc (v.level (fx x y) (fy x y)))) (child_water v (fx x y) (fy x y) p q))) _
        (λ p q c d. λ i. homes p q c d i && not (may_hold (area v (suc (levels_turn i))) (child_waters p q c d i)))

    siblings_turn : no_siblings (like v level' bed' leaf') x y ≡ no_siblings v (fx x y) (fy x y)
    siblings_turn =
        turn_square (λ p q. same_block v (pred (v.level (fx x y) (fy x y))) (fx x y) (fy x y) p q && not (eqb (v.level p q) (v.level (fx x y) (fy x y)))) _
        (λ p q c d. λ i. parents p q c d i && not (eqb (T.levels p q c d i) (levels_turn i)))

    flood_turns : (k j k' j' : ℕ) → k' ≡ k → j' ≡ j → k ≤ v.L → would_flood (like v level' bed' leaf') k' j' x y ≡ would_flood v k j (fx x y) (fy x y)
    flood_turns k j k' j' ek ej h =
        (λ i. would_flood (like v level' bed' leaf') (ek i) (ej i) x y)
        ∙ turn_pair (λ p q p' q'. same_block v k (fx x y) (fy x y) p q && (edge p q p' q' && (wet v p' q' && ltb (bed_number v j p q) (surface v p' q')))) _
        (λ p q p' q' c d c' d'. λ i. same_blocks p q c d k h i &&
        (S.edges p q p' q' c d c' d' i && (wets_of p' q' c' d' i && ltb (bottoms_of p q c d i) (surfaces_of p' q' c' d' i))))
      where
        wets_of : (p q : ℕ) → p < size v → q < size v → wet (like v level' bed' leaf') p q ≡ wet v (fx p q) (fy p q)
        wets_of p q c d = Rattle.runs.proofs.Turning.wets v level' bed' leaf' fx fy ρ S shallow T p q c d

        bottoms_of : (p q : ℕ) → p < size v → q < size v → bed_number (like v level' bed' leaf') j p q ≡ bed_number v j (fx p q) (fy p q)
        bottoms_of p q c d = Rattle.runs.proofs.Turning.bed_numbers v level' bed' leaf' fx fy ρ S shallow T p q c d j

        surfaces_of : (p q : ℕ) → p < size v → q < size v → surface (like v level' bed' leaf') p q ≡ surface v (fx p q) (fy p q)
        surfaces_of p q c d = Rattle.runs.proofs.Turning.surfaces v level' bed' leaf' fx fy ρ S shallow T p q c d

  mixed_turns : (x y : ℕ) (a : x < size v) (b : y < size v) → mixed (like v level' bed' leaf') x y ≡ mixed v (fx x y) (fy x y)
  mixed_turns x y a b =
      turn_square (λ p q. same_block v (pred (v.level (fx x y) (fy x y))) (fx x y) (fy x y) p q && cond (wet v (fx x y) (fy x y)) (not (wet v p q))
      (wet v p q)) _
      (λ p q c d. λ i. parents x y a b p q c d i && cond (wets x y a b i) (not (wets p q c d i)) (wets p q c d i))

  fast_turns : (t : ℕ) → too_fast (like v level' bed' leaf') t ≡ too_fast v t
  fast_turns t =
      turn_square (λ p q. wet v p q && ltb (1000000 * v.d * side_of v (v.level p q)) (4 * pace v p q * t)) _
      (λ p q c d. λ i. wets p q c d i && ltb (1000000 * v.d * side_of v (levels_turn p q c d i)) (4 * paces p q c d i * t))

  pub overfull_turns : overfull (like v level' bed' leaf') ≡ overfull v
  overfull_turns = turn_square (λ x y. full v x y (water v x y)) _ (λ x y a b. fulls x y a b _ (water v (fx x y) (fy x y)) (waters x y a b))

  pub step_tests : (t : ℕ) (past past' : Bool) → past' ≡ past
      → first_of (if (outside 1 2000 t) OutOfRange ∷ if (too_fast (like v level' bed' leaf') t) StepTooLong ∷ if past' LeafFull ∷ [])
      ≡ first_of (if (outside 1 2000 t) OutOfRange ∷ if (too_fast v t) StepTooLong ∷ if past LeafFull ∷ [])
  step_tests t past past' e = λ i. first_of (if (outside 1 2000 t) OutOfRange ∷ if (fast_turns t i) StepTooLong ∷ if (e i) LeafFull ∷ [])

  offs : (x y : ℕ) → x < size v → y < size v → off v x y ≡ off v (fx x y) (fy x y)
  offs x y a b = on_grid v x y a b ∙ sym (on_grid v (fx x y) (fy x y) (at_x x y a b) (at_y x y a b))

  module _ (loose : ℕ) (x y : ℕ) (a : x < size v) (b : y < size v) where
    pub pour_tests : (m : ℕ) → first_of (tests loose (like v level' bed' leaf') (pour x y m)) ≡ first_of (tests loose v (pour (fx x y) (fy x y) m))
    pour_tests m = λ i. first_of (if (offs x y a b i) OffGrid ∷ if (outside 1 122880000 m) OutOfRange ∷ if
        (fulls x y a b _ (water v (fx x y) (fy x y) + m) (ap (λ w. w + m) (waters x y a b)) i) LeafFull ∷ [])

    pub draw_tests : (m : ℕ) → first_of (tests loose (like v level' bed' leaf') (draw x y m)) ≡ first_of (tests loose v (draw (fx x y) (fy x y) m))
    draw_tests m = λ i. first_of (if (offs x y a b i) OffGrid ∷ if (outside 1 122880000 m) OutOfRange ∷ if (ltb (waters x y a b i) m) Overdrawn ∷ [])

    pub settle_tests : first_of (tests loose (like v level' bed' leaf') (settle x y)) ≡ first_of (tests loose v (settle (fx x y) (fy x y)))
    settle_tests = λ i. first_of (if (offs x y a b i) OffGrid ∷ if
        (fulls x y a b _ (water v (fx x y) (fy x y) + loose) (ap (λ w. w + loose) (waters x y a b)) i) LeafFull ∷ [])

    pub split_tests : first_of (tests loose (like v level' bed' leaf') (split x y)) ≡ first_of (tests loose v (split (fx x y) (fy x y)))
    split_tests =
        let k = v.level (fx x y) (fy x y) in
        let flood = flood_turns x y a b k (suc k) (level' x y) (suc (level' x y)) (levels_turn x y a b) (ap suc (levels_turn x y a b)) (deep x y a b) in
        λ i. first_of
        (if (offs x y a b i) OffGrid
        ∷ if (leb v.L (levels_turn x y a b i)) NotDivisible
        ∷ if (coarser_turns x y a b i) Unbalanced
        ∷ if (cond (wets x y a b i) (bare_turns x y a b i) (flood i)) WetDry
        ∷ if (wets x y a b i && brimming_turns x y a b i) LeafFull
        ∷ if (ltb 1000000 (loose + remainders x y a b i)) LooseFull
        ∷ [])

    pub merge_tests : first_of (tests loose (like v level' bed' leaf') (merge x y)) ≡ first_of (tests loose v (merge (fx x y) (fy x y)))
    merge_tests =
        let k = v.level (fx x y) (fy x y) in
        let e = ap pred (levels_turn x y a b) in
        let flood = flood_turns x y a b (pred k) (pred k) (pred (level' x y)) (pred (level' x y)) e e (omega (arith, deep x y a b)) in
        λ i. first_of
        (if (offs x y a b i) OffGrid
        ∷ if (eqb (levels_turn x y a b i) 0 || siblings_turn x y a b i) NotDivisible
        ∷ if (finer_turns x y a b i) Unbalanced
        ∷ if (mixed_turns x y a b i || (not (wets x y a b i) && flood i)) WetDry
        ∷ [])

    pub pour_made : (m : ℕ) → Turned (after_pour v (fx x y) (fy x y) m) level' bed' (after_pour (like v level' bed' leaf') x y m).leaf fx fy ρ
    pour_made m =
        record {
          levels = T.levels;
          beds = T.beds;
          leaves = λ x' y' a' b'.
              let t = same_block v (v.level (fx x y) (fy x y)) (fx x y) (fy x y) (fx x' y') (fy x' y') in
              let l = v.leaf (fx x y) (fy x y) in
              (λ i. cond (homes x y a b x' y' a' b' i) (finish (area v (levels_turn x y a b i)) (waters x y a b i + m) (T.leaves x y a b i).east
              (T.leaves x y a b i).north) (T.leaves x' y' a' b' i))
              ∙ (λ i. cond t (S.ρ_finish (area v (v.level (fx x y) (fy x y))) (l.water + m) l i) (ρ (v.leaf (fx x' y') (fy x' y'))))
              ∙ cond_through ρ t _ (v.leaf (fx x' y') (fy x' y'));
        }

    pub draw_made : (m : ℕ) → Turned (after_draw v (fx x y) (fy x y) m) level' bed' (after_draw (like v level' bed' leaf') x y m).leaf fx fy ρ
    draw_made m =
        record {
          levels = T.levels;
          beds = T.beds;
          leaves = λ x' y' a' b'.
              let t = same_block v (v.level (fx x y) (fy x y)) (fx x y) (fy x y) (fx x' y') (fy x' y') in
              let l = v.leaf (fx x y) (fy x y) in
              (λ i. cond (homes x y a b x' y' a' b' i) (finish (area v (levels_turn x y a b i)) (waters x y a b i - m) (T.leaves x y a b i).east
              (T.leaves x y a b i).north) (T.leaves x' y' a' b' i))
              ∙ (λ i. cond t (S.ρ_finish (area v (v.level (fx x y) (fy x y))) (l.water - m) l i) (ρ (v.leaf (fx x' y') (fy x' y'))))
              ∙ cond_through ρ t _ (v.leaf (fx x' y') (fy x' y'));
        }

    pub split_made : Turned (after_split v (fx x y) (fy x y)) (after_split (like v level' bed' leaf') x y).level bed'
        (after_split (like v level' bed' leaf') x y).leaf fx fy ρ
    split_made =
        record {
          levels = λ x' y' a' b'. λ i. cond (homes x y a b x' y' a' b' i) (suc (levels_turn x y a b i)) (T.levels x' y' a' b' i);
          beds = T.beds;
          leaves = λ x' y' a' b'.
              let t = same_block v (v.level (fx x y) (fy x y)) (fx x y) (fy x y) (fx x' y') (fy x' y') in
              (λ i. cond (homes x y a b x' y' a' b' i) (children x y a b x' y' a' b' i) (T.leaves x' y' a' b' i))
              ∙ cond_through ρ t _ (v.leaf (fx x' y') (fy x' y'));
        }

    four_turns : 0 < v.level (fx x y) (fy x y) → four (like v level' bed' leaf') x y ≡ ρ (four v (fx x y) (fy x y))
    four_turns z =
        let k = v.level (fx x y) (fy x y) in
        let s = 2 ^ (v.L - k) in
        let h = deep x y a b in
        let tx = twin_in v.L k x z h a in
        let ty = twin_in v.L k y z h b in
        let g = λ (p q : ℕ). v.leaf p q in
        ap (λ k. both (both (leaf' x y) (leaf' (twin (side_of v k) x) y))
        (both (leaf' x (twin (side_of v k) y)) (leaf' (twin (side_of v k) x) (twin (side_of v k) y)))) (levels_turn x y a b)
        ∙ (λ i. both (both (T.leaves x y a b i) (T.leaves (twin s x) y tx b i))
        (both (T.leaves x (twin s y) a ty i) (T.leaves (twin s x) (twin s y) tx ty i)))
        ∙ S.fours k x y z h a b (λ p q. ρ (v.leaf p q))
        ∙ (λ i. both (sym (S.ρ_both (v.leaf (fx x y) (fy x y)) (v.leaf (twin s (fx x y)) (fy x y))) i)
        (sym (S.ρ_both (v.leaf (fx x y) (twin s (fy x y))) (v.leaf (twin s (fx x y)) (twin s (fy x y)))) i))
        ∙ sym (S.ρ_both _ _)

    merged_turns : 0 < v.level (fx x y) (fy x y) → merged (like v level' bed' leaf') x y ≡ ρ (merged v (fx x y) (fy x y))
    merged_turns z =
        let F = four v (fx x y) (fy x y) in
        let A = area v (pred (v.level (fx x y) (fy x y))) in
        ap (λ l. finish A l.water l.east l.north) (four_turns z)
        ∙ ap (λ w. finish A w (ρ F).east (ρ F).north) (S.ρ_water F)
        ∙ S.ρ_finish A F.water F

    pub merge_made : 0 < v.level (fx x y) (fy x y) → Turned (after_merge v (fx x y) (fy x y))
        (after_merge (like v level' bed' leaf') x y).level bed' (after_merge (like v level' bed' leaf') x y).leaf fx fy ρ
    merge_made z =
        record {
          levels = λ x' y' a' b'. λ i. cond (parents x y a b x' y' a' b' i) (pred (levels_turn x y a b i)) (T.levels x' y' a' b' i);
          beds = T.beds;
          leaves = λ x' y' a' b'.
              let t = same_block v (pred (v.level (fx x y) (fy x y))) (fx x y) (fy x y) (fx x' y') (fy x' y') in
              (λ i. cond (parents x y a b x' y' a' b' i) (merged_turns z i) (T.leaves x' y' a' b' i))
              ∙ cond_through ρ t _ (v.leaf (fx x' y') (fy x' y'));
        }
