-- Split and merge leave standing water standing.
use Rattle.std.proofs.Common.{◌≡◌, ℕ, zero, suc, pred, ◌+◌, ◌-◌, ◌*◌, ◌/◌, ◌%◌, ◌^◌, ◌<◌, ◌≤◌, Bool, true, false, cond, not, ◌&&◌, ◌||◌, eqb, ltb, leb, ℤ, pos, ◌+ℤ◌, sym, refl, ap, ◌∙◌, inl, inr, mul-le-mul, le-div_iff_mul-le, mul-div_cancel, arith}
use native.Mathlib.Nat.{div-div-eq-div-mul, one-le-pow}
use lib.Arith.{digits_div}
use lib.Signed.{quot_z}
use Rattle.std.proofs.lemmas.Bool.{eq-eqb, or_left, or_right, cases_eq, leb-false, ltb-true, ltb-false}
use Rattle.basin.specs.declared.leaf.Leaf.{Leaf}
use Rattle.basin.specs.Basins.{Valid}
use Rattle.basin.specs.Blocks.{block, block_sum, patch}
use Rattle.basin.specs.Records.{dry}
use Rattle.basin.specs.Squares.{same_block, bed_sum, water, wet, area, surface, bed_number, next, edge}
use Rattle.basin.specs.Views.{View, size, side_of}
use Rattle.basin.proofs.Found.{none, none_pair}
use Rattle.basin.proofs.Sizes.{side_pos}
use Rattle.basin.proofs.Tests.{or_false, not_and, from_same_block, to_same_block}
use Rattle.runs.specs.Calls.{would_flood, bare, no_siblings, mixed}
use Rattle.runs.specs.Changes.{twin, fill, child_water, child, after_split, merged, after_merge}
use Rattle.basin.specs.Finish.{clipped, finish}
use Rattle.runs.specs.Runs.{Stands, Alike}
use Rattle.runs.proofs.CallsKeep.{merged_same, inner, above, sibling, twin_x, twin_y, half_x, half_y, area_four}
use Rattle.runs.proofs.Keeps.{recast}
use Rattle.runs.proofs.Partition.{patch_quarters}
use Rattle.runs.proofs.Sounds.{inside}
use Rattle.runs.proofs.Symmetry.{or_across}
use Rattle.runs.proofs.WaterCalls.{block_in, side_double, merged_sum}

pub area_pos : (v : View) (k : ℕ) → 0 < area v k
area_pos v k = let w : 1 ≤ side_of v k = one-le-pow (v.L - k) 2 (omega arith) in mul-le-mul w w

eqb_turn : (a b : ℕ) → eqb a b ≡ eqb b a
eqb_turn a b = grind arith

next_turn : (a b : ℕ) → next a b ≡ next b a
next_turn a b = or_across (eqb a (b + 1)) (eqb b (a + 1))

pub edge_turn : (x y x' y' : ℕ) → edge x y x' y' ≡ edge x' y' x y
edge_turn x y x' y' = λ i. (eqb_turn x x' i && next_turn y y' i) || (eqb_turn y y' i && next_turn x x' i)

pub edge_east : (p q r : ℕ) → q ≡ p + 1 → edge p r q r ≡ true
edge_east p q r e = or_right (eqb p q && next r r) (eqb r r && next p q)
    (λ i. eq-eqb r r refl i && or_right (eqb p (q + 1)) (eqb q (p + 1)) (eq-eqb q (p + 1) e) i)

pub edge_north : (p q r : ℕ) → q ≡ p + 1 → edge r p r q ≡ true
edge_north p q r e = or_left (eqb r r && next p q) (eqb p q && next r r)
    (λ i. eq-eqb r r refl i && or_right (eqb p (q + 1)) (eqb q (p + 1)) (eq-eqb q (p + 1) e) i)

-- the squares of one leaf have one surface
pub same_surface : (v : View) → Valid v → (x y : ℕ) (a : x < size v) (b : y < size v) (p q : ℕ) → p < size v → q < size v
    → same_block v (v.level x y) x y p q ≡ true
    → (surface v p q ≡ surface v x y)
same_surface v good x y a b p q c d t =
    let u = inner v good x y a b p q c d t in
    let e = from_same_block v (v.level x y) x y p q t in
    let k = v.level x y in
    (λ i. ((u.1 i).water + bed_sum v (u.0 i) p q) / area v (u.0 i))
    ∙ (λ i. (water v x y + block_sum v.L v.bed (block k (sym e.0 i) (sym e.1 i))) / area v k)

-- ---- a block that gets another level and other records
module _ (v : View) (st : Stands v) (j m x y : ℕ) (f : ℕ → ℕ → Leaf)
    (fills_up : (p q : ℕ) → p < size v → q < size v → same_block v j x y p q ≡ true → 0 < water v p q
    → (0 < (f p q).water) × ((f p q).water + bed_sum v m p q ≡ surface v p q * area v m))
    (stays-dry : (p q : ℕ) → p < size v → q < size v → same_block v j x y p q ≡ true → water v p q ≡ 0 → (f p q).water ≡ 0)
    (rests : (p q : ℕ) → p < size v → q < size v → same_block v j x y p q ≡ true → ((f p q).east ≡ pos 0) × ((f p q).north ≡ pos 0))
    (banks : (p q p' q' : ℕ) → p < size v → q < size v → p' < size v → q' < size v → same_block v j x y p q ≡ true → edge p q p' q' ≡ true
    → water v p q ≡ 0 → 0 < water v p' q' → surface v p' q' * area v m ≤ bed_sum v m p q) where
  -- a square of the new view: its level and its record
  surf : ℕ → ℕ → ℕ → Leaf → ℕ
  surf p q k l = (l.water + bed_sum v k p q) / area v k

  wet_one : (p q : ℕ) → p < size v → q < size v → (t : Bool) → same_block v j x y p q ≡ t → 0 < water v p q
      → (0 < (cond t (f p q) (v.leaf p q)).water) × (surf p q (cond t m (v.level p q)) (cond t (f p q) (v.leaf p q)) ≡ surface v p q)
  unfolding surf
  wet_one p q a b true t h =
      let u = fills_up p q a b t h in
      (u.0, ap (λ n. n / area v m) u.1 ∙ mul-div_cancel (surface v p q) (area_pos v m))
  wet_one p q a b false t h = (h, refl)

  dry_one : (p q : ℕ) → p < size v → q < size v → (t : Bool) → same_block v j x y p q ≡ t → water v p q ≡ 0 → (cond t (f p q) (v.leaf p q)).water ≡ 0
  dry_one p q a b true t h = stays-dry p q a b t h
  dry_one p q a b false t h = h

  pub recast_alike : Alike v (recast v j m x y f)
  unfolding surf
  recast_alike =
      record {
        same_size = refl;
        wet_stays = λ p q a b h. wet_one p q a b (same_block v j x y p q) refl h;
        dry_stays = λ p q a b h. dry_one p q a b (same_block v j x y p q) refl h;
      }

  -- a square that is wet now was wet
  was_wet : (p q : ℕ) → p < size v → q < size v → 0 < water (recast v j m x y f) p q → 0 < water v p q
  was_wet p q a b h =
      elim (cases_eq (water v p q) 0) [
        | inl e ↦ absurd (omega (arith, h, recast_alike.dry_stays p q a b e))
        | inr e ↦ omega arith
      ]

  was_dry : (p q : ℕ) → p < size v → q < size v → water (recast v j m x y f) p q ≡ 0 → water v p q ≡ 0
  was_dry p q a b h =
      elim (cases_eq (water v p q) 0) [
        | inl e ↦ e
        | inr e ↦ absurd (omega (arith, h, (recast_alike.wet_stays p q a b (omega arith)).0))
      ]

  pub recast_stands : Stands (recast v j m x y f)
  recast_stands =
      record {
        no_east = λ p q a b. easts p q a b (same_block v j x y p q) refl;
        no_north = λ p q a b. norths p q a b (same_block v j x y p q) refl;
        whole_surface = λ p q a b h.
            let h' = was_wet p q a b h in
            wholes p q a b (same_block v j x y p q) refl h'
            ∙ ap (λ n. n * area v ((recast v j m x y f).level p q)) (sym (recast_alike.wet_stays p q a b h').1);
        level = λ p q p' q' a b a' b' e h h'.
            let w = was_wet p q a b h in
            let w' = was_wet p' q' a' b' h' in
            (recast_alike.wet_stays p q a b w).1 ∙ st.level p q p' q' a b a' b' e w w' ∙ sym (recast_alike.wet_stays p' q' a' b' w').1;
        shore = λ p q p' q' a b a' b' e h h'.
            let w = was_wet p q a b h in
            let d = was_dry p' q' a' b' h' in
            let s = (recast_alike.wet_stays p q a b w).1 in
            omega (arith, ap (λ n. n * area v ((recast v j m x y f).level p' q')) s, shores p q p' q' a b a' b' e w d (same_block v j x y p' q') refl);
      }
    where
      easts : (p q : ℕ) → p < size v → q < size v → (t : Bool) → same_block v j x y p q ≡ t → (cond t (f p q) (v.leaf p q)).east ≡ pos 0
      easts p q a b true t = (rests p q a b t).0
      easts p q a b false t = st.no_east p q a b

      norths : (p q : ℕ) → p < size v → q < size v → (t : Bool) → same_block v j x y p q ≡ t → (cond t (f p q) (v.leaf p q)).north ≡ pos 0
      norths p q a b true t = (rests p q a b t).1
      norths p q a b false t = st.no_north p q a b

      wholes : (p q : ℕ) → p < size v → q < size v → (t : Bool) → same_block v j x y p q ≡ t → 0 < water v p q
          → (cond t (f p q) (v.leaf p q)).water + bed_sum v (cond t m (v.level p q)) p q ≡ surface v p q * area v (cond t m (v.level p q))
      wholes p q a b true t h = (fills_up p q a b t h).1
      wholes p q a b false t h = st.whole_surface p q a b h

      shores : (p q p' q' : ℕ) → p < size v → q < size v → p' < size v → q' < size v → edge p q p' q' ≡ true → 0 < water v p q → water v p' q' ≡ 0
          → (t : Bool) → same_block v j x y p' q' ≡ t → surface v p q * area v (cond t m (v.level p' q')) ≤ bed_sum v (cond t m (v.level p' q')) p' q'
      shores p q p' q' a b a' b' e w d true t = banks p' q' p q a' b' a b t (sym (edge_turn p q p' q') ∙ e) d w
      shores p q p' q' a b a' b' e w d false t = st.shore p q p' q' a b a' b' e w d

-- ---- split
flooded : (v : View) (k j x y : ℕ) → would_flood v k j x y ≡ false → (p q p' q' : ℕ) → p < size v → q < size v → p' < size v → q' < size v
    → same_block v k x y p q ≡ true → edge p q p' q' ≡ true → 0 < water v p' q' → surface v p' q' * area v j ≤ bed_sum v j p q
flooded v k j x y f p q p' q' a b a' b' t e w =
    let n = none_pair (size v) (λ a b p q. same_block v k x y a b &&
    (edge a b p q && (wet v p q && ltb (bed_number v j a b) (surface v p q)))) f p q p' q' a b a' b' in
    let z = not_and _ _ (not_and _ _ (not_and _ _ n t) e) (is_wet (water v p' q') w) in
    let h : surface v p' q' ≤ bed_number v j p q = ltb-false (bed_number v j p q) (surface v p' q') z in
    (le-div_iff_mul-le (area_pos v j)).0 h
  where
    is_wet : (n : ℕ) → 0 < n → ltb 0 n ≡ true
    is_wet n h = grind arith

is_dry : (n : ℕ) → n ≡ 0 → ltb 0 n ≡ false
is_dry n h = grind arith

is_wet : (n : ℕ) → 0 < n → ltb 0 n ≡ true
is_wet n h = grind arith

no_share : (w : ℕ) (z : ℤ) → z ≡ pos 0 → clipped (10000 * w) (quot_z z (pos 4)) ≡ pos 0
no_share w z e = ap (λ z. clipped (10000 * w) (quot_z z (pos 4))) e ∙ ap pos (omega arith)

module _ (v : View) (good : Valid v) (st : Stands v) (x y : ℕ) (a : x < size v) (b : y < size v) where
  pub split_stands : leb v.L (v.level x y) ≡ false
      → cond (wet v x y) (bare v x y) (would_flood v (v.level x y) (suc (v.level x y)) x y) ≡ false
      → Stands (after_split v x y) × Alike v (after_split v x y)
  split_stands t₅ t₇ =
      let k = v.level x y in (
        recast_stands v st k (suc k) x y (child v x y) up down calm banks,
        recast_alike v st k (suc k) x y (child v x y) up down calm banks,
      )
    where
      k : ℕ
      k = v.level x y

      room : k < v.L
      room = leb-false v.L k t₅

      up : (p q : ℕ) → p < size v → q < size v → same_block v (v.level x y) x y p q ≡ true → 0 < water v p q
          → (0 < (child v x y p q).water) × ((child v x y p q).water + bed_sum v (suc (v.level x y)) p q ≡ surface v p q * area v (suc (v.level x y)))
      up p q c d t h =
          let k = v.level x y in
          let u = inner v good x y a b p q c d t in
          let h' : 0 < water v x y = omega (arith, ap (λ l. l.water) u.1) in
          let w = is_wet (water v x y) h' in
          let e : (child v x y p q).water ≡ child_water v x y p q = ap
          (λ t. (cond t (finish (area v (suc (v.level x y))) (child_water v x y p q) (quot_z (v.leaf x y).east (pos 4))
          (quot_z (v.leaf x y).north (pos 4))) dry).water) w in
          let n = not_and _ _ (none (size v) (λ p q. same_block v k x y p q && ltb (child_water v x y p q) 1)
          (sym (ap (λ t. cond t (bare v x y) (would_flood v k (suc k) x y)) w) ∙ t₇) p q c d) t in
          let some-water = ltb-false (child_water v x y p q) 1 n in
          let whole = st.whole_surface x y a b h' in
          let four : area v k ≡ 4 * area v (suc k) = area_four v (suc k) (omega arith) room in
          let ss = same_surface v good x y a b p q c d t in
          let m = ap (λ n. surface v x y * n) four in
          let m' = ap (λ n. n * area v (suc k)) ss in
          (omega (arith, e, some-water), omega (arith, e, some-water, whole, m, m'))

      down : (p q : ℕ) → p < size v → q < size v → same_block v (v.level x y) x y p q ≡ true → water v p q ≡ 0 → (child v x y p q).water ≡ 0
      down p q c d t h =
          let u = inner v good x y a b p q c d t in
          let w = is_dry (water v x y) (sym (ap (λ l. l.water) u.1) ∙ h) in
          ap (λ t. (cond t (finish (area v (suc (v.level x y))) (child_water v x y p q) (quot_z (v.leaf x y).east (pos 4))
          (quot_z (v.leaf x y).north (pos 4))) dry).water) w

      calm : (p q : ℕ) → p < size v → q < size v → same_block v (v.level x y) x y p q ≡ true
          → ((child v x y p q).east ≡ pos 0) × ((child v x y p q).north ≡ pos 0)
      calm p q c d t = go (wet v x y)
        where
          go : (w : Bool) → ((cond w (finish (area v (suc (v.level x y))) (child_water v x y p q) (quot_z (v.leaf x y).east (pos 4))
              (quot_z (v.leaf x y).north (pos 4))) dry).east ≡ pos 0)
              × ((cond w (finish (area v (suc (v.level x y))) (child_water v x y p q) (quot_z (v.leaf x y).east (pos 4))
              (quot_z (v.leaf x y).north (pos 4))) dry).north ≡ pos 0)
          go true = (
            no_share (child_water v x y p q) (v.leaf x y).east (st.no_east x y a b),
            no_share (child_water v x y p q) (v.leaf x y).north
                (st.no_north x y a b),
          )
          go false = (refl, refl)

      banks : (p q p' q' : ℕ) → p < size v → q < size v → p' < size v → q' < size v → same_block v (v.level x y) x y p q ≡ true → edge p q p' q' ≡ true
          → water v p q ≡ 0 → 0 < water v p' q' → surface v p' q' * area v (suc (v.level x y)) ≤ bed_sum v (suc (v.level x y)) p q
      banks p q p' q' c d c' d' t e h w =
          let k = v.level x y in
          let u = inner v good x y a b p q c d t in
          let z = is_dry (water v x y) (sym (ap (λ l. l.water) u.1) ∙ h) in
          flooded v k (suc k) x y (sym (ap (λ t. cond t (bare v x y) (would_flood v k (suc k) x y)) z) ∙ t₇) p q p' q' c d c' d' t e w

  -- ---- merge
  module _ (t₅ : (eqb (v.level x y) 0 || no_siblings v x y) ≡ false)
      (t₇ : (mixed v x y || (not (wet v x y) && would_flood v (pred (v.level x y)) (pred (v.level x y)) x y)) ≡ false) where
    k : ℕ
    k = v.level x y

    s : ℕ
    s = side_of v (v.level x y)

    P : ℕ
    P = x / side_of v (pred (v.level x y))

    Q : ℕ
    Q = y / side_of v (pred (v.level x y))

    top : v.level x y ≤ v.L
    top = good.quadtree.shallow x y a b

    low : pred (v.level x y) ≤ v.L
    low = omega (arith, top)

    same_wet : (p q : ℕ) → p < size v → q < size v → same_block v (pred (v.level x y)) x y p q ≡ true → wet v p q ≡ wet v x y
    same_wet p q c d t = go (wet v x y) (wet v p q)
        (not_and _ _ (none (size v) (λ p q. same_block v (pred (v.level x y)) x y p q && cond (wet v x y) (not (wet v p q)) (wet v p q))
        (or_false _ _ t₇).0 p q c d) t)
      where
        go : (s t : Bool) → cond s (not t) t ≡ false → t ≡ s
        go true true e = refl
        go true false e = sym e
        go false t e = e

    bound : (A P : ℕ) → A / 2 ≡ P → P < 2 ^ pred (v.level x y) → A < 2 ^ v.level x y
    bound A P e h = go (v.level x y) (above v good x y a b t₅) h
      where
        go : (k : ℕ) → 0 < k → P < 2 ^ pred k → A < 2 ^ k
        go zero z h = absurd (omega arith)
        go (suc k) z h = let p = native.Mathlib.Nat.pow-suc 2 k in omega arith

    -- the square (A s + i, B s + j) of a sibling
    record OfSibling (A B i j : ℕ) : Type 0 where
      on_x : A * side_of v (v.level x y) + i < size v
      on_y : B * side_of v (v.level x y) + j < size v
      kin : same_block v (pred (v.level x y)) x y (A * side_of v (v.level x y) + i) (B * side_of v (v.level x y) + j) ≡ true
      same_level : v.level (A * side_of v (v.level x y) + i) (B * side_of v (v.level x y) + j) ≡ v.level x y

    of_sibling : (A B i j : ℕ) → A / 2 ≡ x / side_of v (pred (v.level x y)) → B / 2 ≡ y / side_of v (pred (v.level x y))
        → i < side_of v (v.level x y) → j < side_of v (v.level x y) → OfSibling A B i j
    of_sibling A B i j e f c d =
        let k = v.level x y in
        let s = side_of v k in
        let t = side_double v good x y a b t₅ in
        let in_a = bound A (x / side_of v (pred k)) e (block_in v (pred k) x low a) in
        let in_b = bound B (y / side_of v (pred k)) f (block_in v (pred k) y low b) in
        let ox = inside v.L k A i top in_a c in
        let oy = inside v.L k B j top in_b d in
        let kin = to_same_block v (pred k) x y (A * s + i) (B * s + j)
        (sym e ∙ ap (λ n. n / 2) (sym (digits_div A c)) ∙ div-div-eq-div-mul (A * s + i) s 2 ∙ ap (λ n. (A * s + i) / n) (sym t))
        (sym f ∙ ap (λ n. n / 2) (sym (digits_div B d)) ∙ div-div-eq-div-mul (B * s + j) s 2 ∙ ap (λ n. (B * s + j) / n) (sym t)) in
        record { on_x = ox; on_y = oy; kin = kin; same_level = sibling v good x y a b t₅ (A * s + i) (B * s + j) ox oy kin }

    -- the surface of a sibling
    height : ℕ → ℕ → ℕ
    height A B = surface v (A * side_of v (v.level x y) + 0) (B * side_of v (v.level x y) + 0)

    pos_s : 0 < side_of v (v.level x y)
    pos_s = side_pos (v.L - v.level x y)

    one_surface : (A B i j : ℕ) → A / 2 ≡ x / side_of v (pred (v.level x y)) → B / 2 ≡ y / side_of v (pred (v.level x y))
        → i < side_of v (v.level x y) → j < side_of v (v.level x y)
        → surface v (A * side_of v (v.level x y) + i) (B * side_of v (v.level x y) + j) ≡ height A B
    unfolding height
    one_surface A B i j e f c d =
        let k = v.level x y in
        let s = side_of v k in
        let o = of_sibling A B 0 0 e f pos_s pos_s in
        let o' = of_sibling A B i j e f c d in
        let t : same_block v k (A * s + 0) (B * s + 0) (A * s + i) (B * s + j) ≡ true =
        to_same_block v k _ _ _ _ (digits_div A pos_s ∙ sym (digits_div A c)) (digits_div B pos_s ∙ sym (digits_div B d)) in
        same_surface v good (A * s + 0) (B * s + 0) o.on_x o.on_y (A * s + i) (B * s + j) o'.on_x o'.on_y
        (ap (λ k. same_block v k (A * s + 0) (B * s + 0) (A * s + i) (B * s + j)) o.same_level ∙ t)

    module _ (w : 0 < water v x y) where
      all_wet : (A B i j : ℕ) → OfSibling A B i j → 0 < water v (A * side_of v (v.level x y) + i) (B * side_of v (v.level x y) + j)
      all_wet A B i j o = ltb-true 0 _ (same_wet _ _ o.on_x o.on_y o.kin ∙ is_wet (water v x y) w)

      level_beside : (A B : ℕ) → A / 2 ≡ x / side_of v (pred (v.level x y)) → (A + 1) / 2 ≡ x / side_of v (pred (v.level x y))
          → B / 2 ≡ y / side_of v (pred (v.level x y)) → height A B ≡ height (A + 1) B
      unfolding height
      level_beside A B e e' f =
          let k = v.level x y in
          let s = side_of v k in
          let o = of_sibling A B (s - 1) 0 e f (omega (arith, pos_s)) pos_s in
          let o' = of_sibling (A + 1) B 0 0 e' f pos_s pos_s in
          sym (one_surface A B (s - 1) 0 e f (omega (arith, pos_s)) pos_s)
          ∙ st.level (A * s + (s - 1)) (B * s + 0) ((A + 1) * s + 0) (B * s + 0) o.on_x o.on_y o'.on_x o'.on_y
          (edge_east (A * s + (s - 1)) ((A + 1) * s + 0) (B * s + 0) (omega (arith, pos_s))) (all_wet A B (s - 1) 0 o) (all_wet (A + 1) B 0 0 o')

      atop : (A B : ℕ) → A / 2 ≡ x / side_of v (pred (v.level x y)) → B / 2 ≡ y / side_of v (pred (v.level x y))
          → (B + 1) / 2 ≡ y / side_of v (pred (v.level x y)) → height A B ≡ height A (B + 1)
      unfolding height
      atop A B e f f' =
          let k = v.level x y in
          let s = side_of v k in
          let o = of_sibling A B 0 (s - 1) e f pos_s (omega (arith, pos_s)) in
          let o' = of_sibling A (B + 1) 0 0 e f' pos_s pos_s in
          sym (one_surface A B 0 (s - 1) e f pos_s (omega (arith, pos_s)))
          ∙ st.level (A * s + 0) (B * s + (s - 1)) (A * s + 0) ((B + 1) * s + 0) o.on_x o.on_y o'.on_x o'.on_y
          (edge_north (B * s + (s - 1)) ((B + 1) * s + 0) (A * s + 0) (omega (arith, pos_s))) (all_wet A B 0 (s - 1) o) (all_wet A (B + 1) 0 0 o')

      -- all four stand at one height
      one_height : (A B : ℕ) → A / 2 ≡ x / side_of v (pred (v.level x y)) → B / 2 ≡ y / side_of v (pred (v.level x y))
          → height A B ≡ height (x / side_of v (pred (v.level x y)) * 2) (y / side_of v (pred (v.level x y)) * 2)
      one_height A B e f =
          let P = x / side_of v (pred (v.level x y)) in
          let Q = y / side_of v (pred (v.level x y)) in
          across A e ∙ along (P * 2) (omega arith) B f
        where
          across : (A : ℕ) → A / 2 ≡ x / side_of v (pred (v.level x y)) → height A B ≡ height (x / side_of v (pred (v.level x y)) * 2) B
          across A e =
              let P = x / side_of v (pred (v.level x y)) in
              elim (cases_eq A (P * 2)) [
                | inl u ↦ ap (λ n. height n B) u
                | inr u ↦ let z : A ≡ P * 2 + 1 = omega arith in ap (λ n. height n B) z ∙ sym (level_beside (P * 2) B (omega arith) (omega arith) f)
              ]

          along : (A : ℕ) → A / 2 ≡ x / side_of v (pred (v.level x y)) → (B : ℕ) → B / 2 ≡ y / side_of v (pred (v.level x y))
              → height A B ≡ height A (y / side_of v (pred (v.level x y)) * 2)
          along A e B f =
              let Q = y / side_of v (pred (v.level x y)) in
              elim (cases_eq B (Q * 2)) [
                | inl u ↦ ap (height A) u
                | inr u ↦ let z : B ≡ Q * 2 + 1 = omega arith in ap (height A) z ∙ sym (atop A (Q * 2) e (omega arith) (omega arith))
              ]

      -- water and beds of one sibling
      filled : (A B : ℕ) → A / 2 ≡ x / side_of v (pred (v.level x y)) → B / 2 ≡ y / side_of v (pred (v.level x y))
          → water v (A * side_of v (v.level x y)) (B * side_of v (v.level x y)) + block_sum v.L v.bed (block (v.level x y) A B)
          ≡ height (x / side_of v (pred (v.level x y)) * 2) (y / side_of v (pred (v.level x y)) * 2) * area v (v.level x y)
      unfolding height
      filled A B e f =
          let k = v.level x y in
          let s = side_of v k in
          let o = of_sibling A B 0 0 e f pos_s pos_s in
          let zx : A * s + 0 ≡ A * s = omega arith in
          let zy : B * s + 0 ≡ B * s = omega arith in
          let g : fill v (A * s + 0) (B * s + 0) ≡ water v (A * s) (B * s) + block_sum v.L v.bed (block k A B) =
          ap (λ k. water v (A * s + 0) (B * s + 0) + bed_sum v k (A * s + 0) (B * s + 0)) o.same_level
          ∙ (λ i. water v (zx i) (zy i) + block_sum v.L v.bed (block k (digits_div A pos_s i) (digits_div B pos_s i))) in
          sym g ∙ st.whole_surface (A * s + 0) (B * s + 0) o.on_x o.on_y (all_wet A B 0 0 o)
          ∙ ap (λ k. height A B * area v k) o.same_level
          ∙ ap (λ n. n * area v k) (one_height A B e f)

      merged_fill : (merged v x y).water + block_sum v.L v.bed
          (block (pred (v.level x y)) (x / side_of v (pred (v.level x y))) (y / side_of v (pred (v.level x y))))
          ≡ height (x / side_of v (pred (v.level x y)) * 2) (y / side_of v (pred (v.level x y)) * 2) * area v (pred (v.level x y))
      merged_fill =
          let k = v.level x y in
          let P = x / side_of v (pred k) in
          let Q = y / side_of v (pred k) in
          let t = side_double v good x y a b t₅ in
          omega (
            arith,
            merged_sum v good x y a b t₅,
            ap (λ n. patch n v.bed P Q) t,
            patch_quarters (side_of v k) v.bed P Q,
            filled (P * 2) (Q * 2) (omega arith) (omega arith),
            filled (P * 2 + 1) (Q * 2) (omega arith) (omega arith),
            filled (P * 2) (Q * 2 + 1) (omega arith) (omega arith),
            filled (P * 2 + 1) (Q * 2 + 1) (omega arith) (omega arith),
            ap (λ n. height (P * 2) (Q * 2) * n) (area_four v k (above v good x y a b t₅) top),
          )

    pub merge_stands : Stands (after_merge v x y) × Alike v (after_merge v x y)
    unfolding height
    merge_stands =
        let k = v.level x y in (
          recast_stands v st (pred k) (pred k) x y (λ p q. merged v x y) up down calm banks,
          recast_alike v st (pred k) (pred k) x y (λ p q. merged v x y) up down calm banks,
        )
      where
        up : (p q : ℕ) → p < size v → q < size v → same_block v (pred (v.level x y)) x y p q ≡ true → 0 < water v p q
            → (0 < (merged v x y).water) × ((merged v x y).water + bed_sum v (pred (v.level x y)) p q ≡ surface v p q * area v (pred (v.level x y)))
        up p q c d t h =
            let k = v.level x y in
            let s = side_of v k in
            let S = side_of v (pred k) in
            let e = from_same_block v (pred k) x y p q t in
            let w : 0 < water v x y = ltb-true 0 _ (sym (same_wet p q c d t) ∙ is_wet (water v p q) h) in
            let td = side_double v good x y a b t₅ in
            let hp : p / s / 2 ≡ x / S = div-div-eq-div-mul p s 2 ∙ ap (λ n. p / n) (sym td) ∙ sym e.0 in
            let hq : q / s / 2 ≡ y / S = div-div-eq-div-mul q s 2 ∙ ap (λ n. q / n) (sym td) ∙ sym e.1 in
            let dp = native.Mathlib.Nat.div-add-mod' p s in
            let dq = native.Mathlib.Nat.div-add-mod' q s in
            let ip = native.Mathlib.Nat.mod-lt p pos_s in
            let iq = native.Mathlib.Nat.mod-lt q pos_s in
            let su : surface v p q ≡ height (x / S * 2) (y / S * 2) =
            sym (λ i. surface v (dp i) (dq i)) ∙ one_surface (p / s) (q / s) (p % s) (q % s) hp hq ip iq ∙ one_height w (p / s) (q / s) hp hq in
            let g : bed_sum v (pred k) p q ≡ block_sum v.L v.bed (block (pred k) (x / S) (y / S)) = λ i. block_sum v.L v.bed
            (block (pred k) (sym e.0 i) (sym e.1 i)) in (
              omega (arith, w),
              ap (λ n. (merged v x y).water + n) g ∙ merged_fill w ∙ ap (λ n. n * area v (pred k)) (sym su),
            )

        kin_x : same_block v (pred (v.level x y)) x y (twin (side_of v (v.level x y)) x) y ≡ true
        kin_x = to_same_block v (pred (v.level x y)) x y _ y (half_x v good x y a b t₅) refl

        kin_y : same_block v (pred (v.level x y)) x y x (twin (side_of v (v.level x y)) y) ≡ true
        kin_y = to_same_block v (pred (v.level x y)) x y x _ refl (half_y v good x y a b t₅)

        kin_both : same_block v (pred (v.level x y)) x y (twin (side_of v (v.level x y)) x) (twin (side_of v (v.level x y)) y) ≡ true
        kin_both = to_same_block v (pred (v.level x y)) x y _ _ (half_x v good x y a b t₅) (half_y v good x y a b t₅)

        down : (p q : ℕ) → p < size v → q < size v → same_block v (pred (v.level x y)) x y p q ≡ true → water v p q ≡ 0 → (merged v x y).water ≡ 0
        down p q c d t h =
            let s = side_of v (v.level x y) in
            let tx = twin_x v good x y a b t₅ in
            let ty = twin_y v good x y a b t₅ in
            let z : wet v x y ≡ false = sym (same_wet p q c d t) ∙ is_dry (water v p q) h in
            omega (
              arith,
              ltb-false 0 (water v x y) z,
              ltb-false 0 (water v (twin s x) y) (same_wet (twin s x) y tx b kin_x ∙ z),
              ltb-false 0 (water v x (twin s y)) (same_wet x (twin s y) a ty kin_y ∙ z),
              ltb-false 0 (water v (twin s x) (twin s y)) (same_wet (twin s x) (twin s y) tx ty kin_both ∙ z),
            )

        calm : (p q : ℕ) → p < size v → q < size v → same_block v (pred (v.level x y)) x y p q ≡ true
            → ((merged v x y).east ≡ pos 0) × ((merged v x y).north ≡ pos 0)
        calm p q c d t =
            let s = side_of v (v.level x y) in
            let tx = twin_x v good x y a b t₅ in
            let ty = twin_y v good x y a b t₅ in
            let same = merged_same v good x y a b t₅ in (
              ap (λ l. l.east) same ∙ (λ i. st.no_east x y a b i +ℤ st.no_east (twin s x) y tx b i +ℤ
                  (st.no_east x (twin s y) a ty i +ℤ st.no_east (twin s x) (twin s y) tx ty i)),
              ap (λ l. l.north) same ∙ (λ i. st.no_north x y a b i +ℤ st.no_north (twin s x) y tx b i +ℤ
                  (st.no_north x (twin s y) a ty i +ℤ st.no_north (twin s x) (twin s y) tx ty i)),
            )

        banks : (p q p' q' : ℕ) → p < size v → q < size v → p' < size v → q' < size v → same_block v (pred (v.level x y)) x y p q ≡ true
            → edge p q p' q' ≡ true
            → water v p q ≡ 0 → 0 < water v p' q' → surface v p' q' * area v (pred (v.level x y)) ≤ bed_sum v (pred (v.level x y)) p q
        banks p q p' q' c d c' d' t e h w =
            let k = v.level x y in
            let z : wet v x y ≡ false = sym (same_wet p q c d t) ∙ is_dry (water v p q) h in
            let n = not_and (not (wet v x y)) (would_flood v (pred k) (pred k) x y)
            (or_false (mixed v x y) (not (wet v x y) && would_flood v (pred k) (pred k) x y) t₇).1 (ap not z) in
            flooded v (pred k) (pred k) x y n p q p' q' c d c' d' t e w
