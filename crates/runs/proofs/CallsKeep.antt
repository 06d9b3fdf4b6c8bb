-- Each call leaves valid squares.
use Rattle.std.proofs.Common.{◌≡◌, ℕ, zero, suc, pred, ◌+◌, ◌-◌, ◌*◌, ◌/◌, ◌%◌, ◌^◌, ◌<◌, ◌≤◌, Bool, true, false, cond, not, ◌&&◌, ◌||◌, eqb, ltb, leb, ◌≢◌, ℤ, pos, negsuc, ◌+ℤ◌, nat_abs, sym, refl, ap, ◌∙◌, mod-lt, div-add-mod', arith}
use native.Mathlib.Nat.{div-div-eq-div-mul}
use lib.Arith.{digits_div}
use lib.Signed.{quot_z}
use borrow.Author.Differences.{up, down, ints}
use Rattle.std.proofs.lemmas.Bool.{eqb-true, eqb-false, leb-true, leb-false, ltb-false}
use Rattle.basin.specs.declared.leaf.Leaf.{Leaf}
use Rattle.basin.specs.Basins.{Valid}
use Rattle.basin.specs.Blocks.{block, block_sum}
use Rattle.basin.specs.Records.{may_hold, dry}
use Rattle.basin.specs.Squares.{same_block, water, wet, area, touch}
use Rattle.basin.specs.Views.{View, size, side_of}
use Rattle.basin.proofs.Found.{none, none_pair}
use Rattle.basin.proofs.Sizes.{side_pos}
use Rattle.basin.proofs.Tests.{or_false, not_and, not_true, from_same_block, to_same_block, from_touch}
use Rattle.runs.specs.Calls.{full, beside_coarser, beside_finer, brimming, no_siblings, overfull}
use Rattle.runs.specs.Changes.{four, twin, both, put, after_pour, after_draw, fill, child_water, child, after_split, merged, after_merge}
use Rattle.basin.specs.Finish.{finish}
use Rattle.runs.specs.Homes.{after_step, home, tree}
use Rattle.runs.specs.Rules.{Rule}
use Rattle.runs.specs.Step.{new_east, new_north, stepped}
use Rattle.runs.proofs.Keeps.{valid_turns, recast, recast_valid}
use Rattle.runs.proofs.Ranges.{finish_kept, slow_eastward, slow_northward, has_room, Holds, to_range, finish_holds, finish_same}
use Rattle.runs.proofs.Sounds.{twice}
use Rattle.runs.proofs.Symmetry.{still, twin_in}

-- ---- sums of sizes
size_is : (z : ℤ) → nat_abs z ≡ up z + down z
size_is (pos n) = omega (arith, ints)
size_is (negsuc n) = omega (arith, ints)

size_le : (a b : ℤ) → nat_abs (a +ℤ b) ≤ nat_abs a + nat_abs b
size_le a b = omega (arith, ints, size_is a, size_is b, size_is (a +ℤ b))

-- ---- the place beside
pub twin_div : (s x : ℕ) → 0 < s → twin s x / s ≡ cond (eqb (x / s % 2) 0) (x / s + 1) (x / s - 1)
twin_div s x z = go (eqb (x / s % 2) 0) refl
  where
    go : (t : Bool) → eqb (x / s % 2) 0 ≡ t → cond t (x + s) (x - s) / s ≡ cond t (x / s + 1) (x / s - 1)
    go true t =
        let dm = div-add-mod' x s in
        let e : x + s ≡ (x / s + 1) * s + x % s = omega arith in
        ap (λ n. n / s) e ∙ digits_div (x / s + 1) (mod-lt x z)
    go false t =
        let dm = div-add-mod' x s in
        let odd : x / s % 2 ≢ 0 = eqb-false (x / s % 2) 0 t in
        let one : x / s ≡ x / s - 1 + 1 = omega arith in
        let m : x / s * s ≡ (x / s - 1) * s + s = ap (λ n. n * s) one ∙ omega arith in
        let e : x - s ≡ (x / s - 1) * s + x % s = omega arith in
        ap (λ n. n / s) e ∙ digits_div (x / s - 1) (mod-lt x z)

half_same : (q : ℕ) → cond (eqb (q % 2) 0) (q + 1) (q - 1) / 2 ≡ q / 2
half_same q = go (eqb (q % 2) 0) refl
  where
    go : (t : Bool) → eqb (q % 2) 0 ≡ t → cond t (q + 1) (q - 1) / 2 ≡ q / 2
    go true t = omega (arith, eqb-true (q % 2) 0 t)
    go false t = omega (arith, eqb-false (q % 2) 0 t)

-- the place beside is in the same block of twice the side
pub twin_half : (L k x : ℕ) → 0 < k → k ≤ L → x / 2 ^ (L - pred k) ≡ twin (2 ^ (L - k)) x / 2 ^ (L - pred k)
twin_half L zero x z h = absurd (omega arith)
twin_half L (suc k) x z h =
    let s = 2 ^ (L - suc k) in
    let p = side_pos (L - suc k) in
    let t = twice L k h in
    ap (λ n. x / n) t ∙ sym (div-div-eq-div-mul x s 2)
    ∙ sym (half_same (x / s)) ∙ ap (λ n. n / 2) (sym (twin_div s x p))
    ∙ div-div-eq-div-mul (twin s x) s 2 ∙ ap (λ n. twin s x / n) (sym t)

pub area_four : (v : View) (k : ℕ) → 0 < k → k ≤ v.L → area v (pred k) ≡ 4 * area v k
area_four v zero z h = absurd (omega arith)
area_four v (suc k) z h =
    let t = twice v.L k h in
    let s = side_of v (suc k) in
    (λ i. t i * t i) ∙ omega arith

module _ (v : View) (good : Valid v) (x y : ℕ) (a : x < size v) (b : y < size v) where
  -- the squares of the leaf
  pub inner : (p q : ℕ) → p < size v → q < size v → same_block v (v.level x y) x y p q ≡ true → (v.level p q ≡ v.level x y) × (v.leaf p q ≡ v.leaf x y)
  inner p q c d t = let e = from_same_block v (v.level x y) x y p q t in good.quadtree.uniform x y p q a b c d e.0 e.1

  deep : v.level x y ≤ v.L
  deep = good.quadtree.shallow x y a b

  balance : (p q p' q' : ℕ) → p < size v → q < size v → p' < size v → q' < size v → touch p q p' q' ≡ true
      → (v.level p q ≤ v.level p' q' + 1) × (v.level p' q' ≤ v.level p q + 1)
  balance p q p' q' c d c' d' t =
      let u = from_touch p q p' q' t in
      (good.quadtree.balanced p q p' q' c d c' d' u.0 u.1 u.2 u.3, good.quadtree.balanced p' q' p q c' d' c d u.1 u.0 u.3 u.2)

  pub put_valid : (l : Leaf) → Holds (area v (v.level x y)) l → Valid (put v x y l)
  put_valid l h =
      let k = v.level x y in
      valid_turns (recast v k k x y (λ p q. l)) v.level v.bed (put v x y l).leaf (λ x y. x) (λ x y. y) (λ l. l) (still v.L)
      (record { levels = λ p q c d. same p q c d (same_block v k x y p q) refl; beds = λ p q c d. refl; leaves = λ p q c d. refl })
      (recast_valid v good k x y deep (λ p q c d t. omega (arith, (inner p q c d t).0)) k (omega arith) deep (λ p q. l)
      (λ p q p' q' e f. refl)
      (λ p q p' q' c d c' d' t u. omega (arith, (inner p q c d t).0, balance p q p' q' c d c' d' u))
      (λ p q c d t. h))
    where
      same : (p q : ℕ) → p < size v → q < size v → (t : Bool) → same_block v (v.level x y) x y p q ≡ t → v.level p q ≡ cond t (v.level x y) (v.level p q)
      same p q c d true t = (inner p q c d t).0
      same p q c d false t = refl

  pub pour_valid : (m : ℕ) → full v x y (water v x y + m) ≡ false → Valid (after_pour v x y m)
  pour_valid m t =
      let A = area v (v.level x y) in
      let r = leb-true (water v x y + m) (30000 * A) (not_true _ t) in
      put_valid (finish A (water v x y + m) (v.leaf x y).east (v.leaf x y).north)
      (finish_holds A (water v x y + m) (v.leaf x y).east (v.leaf x y).north r)

  -- to finish the record changes nothing in a pour
  pub pour_same : (m : ℕ)
      → finish (area v (v.level x y)) (water v x y + m) (v.leaf x y).east (v.leaf x y).north
      ≡ record { water = water v x y + m; east = (v.leaf x y).east; north = (v.leaf x y).north }
  pour_same m =
      finish_kept (area v (v.level x y)) (water v x y + m) (v.leaf x y).east (v.leaf x y).north
      (omega (arith, slow_eastward good x y a b)) (omega (arith, slow_northward good x y a b))

  pub draw_valid : (m : ℕ) → Valid (after_draw v x y m)
  draw_valid m =
      let A = area v (v.level x y) in
      put_valid (finish A (water v x y - m) (v.leaf x y).east (v.leaf x y).north)
      (finish_holds A (water v x y - m) (v.leaf x y).east (v.leaf x y).north (omega (arith, has_room good x y a b)))

  pub split_valid : leb v.L (v.level x y) ≡ false → beside_coarser v x y ≡ false → (wet v x y && brimming v x y) ≡ false → Valid (after_split v x y)
  split_valid t₅ t₆ t₁₀ =
      let k = v.level x y in
      let room : k < v.L = leb-false v.L k t₅ in
      recast_valid v good k x y deep (λ p q c d t. omega (arith, (inner p q c d t).0)) (suc k) (omega arith) room (child v x y)
      (λ p q p' q' e f. λ i. cond (wet v x y) (finish (area v (suc k)) (fill v x y / 4 - block_sum v.L v.bed (block (suc k) (e i) (f i)))
      (quot_z (v.leaf x y).east (pos 4)) (quot_z (v.leaf x y).north (pos 4))) dry)
      (λ p q p' q' c d c' d' t u.
      let z = not_and _ _ (not_and _ _ (none_pair (size v)
      (λ a b p q. same_block v (v.level x y) x y a b && (touch a b p q && ltb (v.level p q) (v.level x y))) t₆ p q p' q' c d c' d') t) u in
      omega (arith, (inner p q c d t).0, balance p q p' q' c d c' d' u, ltb-false (v.level p' q') k z))
      (λ p q c d t. holds p q c d t (wet v x y) refl)
    where
      holds : (p q : ℕ) → p < size v → q < size v → same_block v (v.level x y) x y p q ≡ true → (w : Bool) → wet v x y ≡ w
          → Holds (area v (suc (v.level x y))) (cond w
          (finish (area v (suc (v.level x y))) (child_water v x y p q) (quot_z (v.leaf x y).east (pos 4)) (quot_z (v.leaf x y).north (pos 4))) dry)
      holds p q c d t true w =
          let k = v.level x y in
          let n = child_water v x y p q in
          let z = not_and _ _ (none (size v) (λ a b. same_block v k x y a b && not (may_hold (area v (suc k)) (child_water v x y a b)))
          (not_and _ _ t₁₀ w) p q c d) t in
          finish_holds (area v (suc k)) n (quot_z (v.leaf x y).east (pos 4)) (quot_z (v.leaf x y).north (pos 4))
          (leb-true n (30000 * area v (suc k)) (not_true _ z))
      holds p q c d t false w = record { room = omega arith; slow_east = omega arith; slow_north = omega arith }

  -- the squares of the four siblings
  module _ (t₅ : (eqb (v.level x y) 0 || no_siblings v x y) ≡ false) where
    pub above : 0 < v.level x y
    above = omega (arith, eqb-false (v.level x y) 0 (or_false _ _ t₅).0)

    pub sibling : (p q : ℕ) → p < size v → q < size v → same_block v (pred (v.level x y)) x y p q ≡ true → v.level p q ≡ v.level x y
    sibling p q c d t =
        let z = not_and _ _ (none (size v) (λ a b. same_block v (pred (v.level x y)) x y a b && not (eqb (v.level a b) (v.level x y)))
        (or_false _ _ t₅).1 p q c d) t in
        eqb-true (v.level p q) (v.level x y) (not_true _ z)

    pub twin_x : twin (side_of v (v.level x y)) x < size v
    twin_x = twin_in v.L (v.level x y) x above deep a

    pub twin_y : twin (side_of v (v.level x y)) y < size v
    twin_y = twin_in v.L (v.level x y) y above deep b

    pub half_x : x / side_of v (pred (v.level x y)) ≡ twin (side_of v (v.level x y)) x / side_of v (pred (v.level x y))
    half_x = twin_half v.L (v.level x y) x above deep

    pub half_y : y / side_of v (pred (v.level x y)) ≡ twin (side_of v (v.level x y)) y / side_of v (pred (v.level x y))
    half_y = twin_half v.L (v.level x y) y above deep

    pub sibling_holds : (p q : ℕ) → p < size v → q < size v → same_block v (pred (v.level x y)) x y p q ≡ true → Holds (area v (v.level x y)) (v.leaf p q)
    sibling_holds p q c d t =
        record {
          room = omega (arith, has_room good p q c d, ap (λ k. 30000 * area v k) (sibling p q c d t));
          slow_east = slow_eastward good p q c d;
          slow_north = slow_northward good p q c d;
        }

    -- the four records added up are in their ranges, so that to finish them changes nothing
    pub four_holds : Holds (area v (pred (v.level x y))) (four v x y)
    four_holds =
        let k = v.level x y in
        let s = side_of v k in
        let z = above in
        added k z deep (v.leaf x y) (v.leaf (twin s x) y) (v.leaf x (twin s y)) (v.leaf (twin s x) (twin s y))
        (sibling_holds x y a b (to_same_block v (pred k) x y x y refl refl))
        (sibling_holds (twin s x) y twin_x b (to_same_block v (pred k) x y (twin s x) y half_x refl))
        (sibling_holds x (twin s y) a twin_y (to_same_block v (pred k) x y x (twin s y) refl half_y))
        (sibling_holds (twin s x) (twin s y) twin_x twin_y (to_same_block v (pred k) x y (twin s x) (twin s y) half_x half_y))
      where
        added : (k : ℕ) → 0 < k → k ≤ v.L → (l₁ l₂ l₃ l₄ : Leaf) → Holds (area v k) l₁ → Holds (area v k) l₂ → Holds (area v k) l₃
            → Holds (area v k) l₄ → Holds (area v (pred k)) (both (both l₁ l₂) (both l₃ l₄))
        added k z h l₁ l₂ l₃ l₄ h₁ h₂ h₃ h₄ =
            record {
              room = omega (arith, area_four v k z h, h₁.room, h₂.room, h₃.room, h₄.room);
              slow_east = omega (
                arith,
                size_le (l₁.east +ℤ l₂.east) (l₃.east +ℤ l₄.east),
                size_le l₁.east l₂.east,
                size_le l₃.east
                    l₄.east,
                h₁.slow_east,
                h₂.slow_east,
                h₃.slow_east,
                h₄.slow_east,
              );
              slow_north = omega (
                arith,
                size_le (l₁.north +ℤ l₂.north) (l₃.north +ℤ l₄.north),
                size_le l₁.north l₂.north,
                size_le
                    l₃.north l₄.north,
                h₁.slow_north,
                h₂.slow_north,
                h₃.slow_north,
                h₄.slow_north,
              );
            }

    pub merged_same : merged v x y ≡ four v x y
    merged_same = finish_same (area v (pred (v.level x y))) (four v x y) four_holds

    pub merge_valid : beside_finer v x y ≡ false → Valid (after_merge v x y)
    merge_valid t₆ =
        let k = v.level x y in
        let z = above in
        recast_valid v good (pred k) x y (omega (arith, deep)) (λ p q c d t. omega (arith, sibling p q c d t)) (pred k) (omega arith)
        (omega (arith, deep)) (λ p q. merged v x y)
        (λ p q p' q' e f. refl)
        (λ p q p' q' c d c' d' t u.
        let n = not_and _ _ (not_and _ _ (none_pair (size v)
        (λ a b p q. same_block v (pred k) x y a b && (touch a b p q && ltb k (v.level p q))) t₆ p q p' q' c d c' d') t) u in
        omega (arith, z, sibling p q c d t, balance p q p' q' c d c' d' u, ltb-false k (v.level p' q') n))
        (λ p q c d t. finish_holds (area v (pred k)) (four v x y).water (four v x y).east (four v x y).north four_holds.room)

-- ---- a step
pub step_valid : (v : View) → Valid v → (R : Rule) (T : ℕ) → overfull (after_step R T v) ≡ false → Valid (after_step R T v)
step_valid v good R T t =
    record {
      quadtree =
          record {
            shallow = good.quadtree.shallow;
            uniform = λ x y x' y' a b a' b' e f.
                let u = good.quadtree.uniform x y x' y' a b a' b' e f in
                let k = v.level x y in
                let h : home v x' y' ≡ home v x y = ap (λ k. block k (x' / side_of v k) (y' / side_of v k)) u.0 ∙ (λ i. block k (sym e i) (sym f i)) in
                (u.0, ap (λ c. stepped R T (tree v) c) h);
            balanced = good.quadtree.balanced;
          };
      low_beds = good.low_beds;
      in_range = λ x y a b.
          let c = home v x y in
          let w = after_step R T v in
          to_range _ _ (finish_holds (area v (v.level x y)) (water w x y) (new_east R T (tree v) c) (new_north R T (tree v) c)
          (leb-true (water w x y) (30000 * area v (v.level x y)) (not_true _ (none (size v) (λ x y. full w x y (water w x y)) t x y a b))));
    }
