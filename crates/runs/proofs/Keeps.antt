-- Turned squares are valid, and so are squares of which one block gets another level and other records.
use Rattle.std.proofs.Common.{◌≡◌, ℕ, ◌+◌, ◌*◌, ◌/◌, ◌<◌, ◌≤◌, Bool, true, false, cond, nat_abs, Ok, Err, Result, sym, refl, ap, ◌∙◌, arith}
use Rattle.basin.specs.declared.leaf.Leaf.{Leaf}
use Rattle.basin.specs.declared.refusal.Refusal.{Refusal}
use Rattle.basin.specs.Basins.{Valid}
use Rattle.basin.specs.Squares.{same_block, water, area, touch}
use Rattle.basin.specs.Views.{View, size, side_of}
use Rattle.basin.proofs.Tests.{same_bool, from_same_block, to_same_block, to_touch, from_touch}
use Rattle.runs.proofs.Ranges.{has_room, slow_eastward, slow_northward, holds_at, Holds, to_range}
use Rattle.runs.proofs.Sounds.{coarser}
use Rattle.runs.proofs.Symmetry.{Symmetry}
use Rattle.runs.proofs.Turning.{like, Turned}

-- a test that does not strike, and the tests after it
pub pass : (b : Bool) (f : Refusal) (r : Result (Unit {0}) Refusal) → cond b (Err f) r ≡ Ok tt → (b ≡ false) × (r ≡ Ok tt)
pass true f r e = let z : ◌≡◌ {A = ℕ} 0 1 = cc in absurd (omega arith)
pass false f r e = (refl, e)

-- ---- turned squares are valid
module _ (v : View) (level' bed' : ℕ → ℕ → ℕ) (leaf' : ℕ → ℕ → Leaf) (fx fy : ℕ → ℕ → ℕ) (ρ : Leaf → Leaf)
    (S : Symmetry v.L fx fy ρ) (T : Turned v level' bed' leaf' fx fy ρ) (good : Valid v) where
  pub valid_turns : Valid (like v level' bed' leaf')
  valid_turns =
      record {
        quadtree =
            record {
              shallow = λ x y a b. omega (arith, T.levels x y a b, good.quadtree.shallow (fx x y) (fy x y) (S.in_x x y a b) (S.in_y x y a b));
              uniform = λ x y x' y' a b a' b' e f.
                  let k = v.level (fx x y) (fy x y) in
                  let h : k ≤ v.L = good.quadtree.shallow (fx x y) (fy x y) (S.in_x x y a b) (S.in_y x y a b) in
                  let lv = T.levels x y a b in
                  let e' : x / side_of v k ≡ x' / side_of v k = rw lv at e in
                  let f' : y / side_of v k ≡ y' / side_of v k = rw lv at f in
                  let t = from_same_block v k (fx x y) (fy x y) (fx x' y') (fy x' y')
                  (sym (S.blocks k x y x' y' h a b a' b') ∙ to_same_block v k x y x' y' e' f') in
                  let u = good.quadtree.uniform (fx x y) (fy x y) (fx x' y') (fy x' y') (S.in_x x y a b) (S.in_y x y a b) (S.in_x x' y' a' b')
                  (S.in_y x' y' a' b') t.0 t.1 in
                  (T.levels x' y' a' b' ∙ u.0 ∙ sym lv, T.leaves x' y' a' b' ∙ ap ρ u.1 ∙ sym (T.leaves x y a b));
              balanced = λ x y x' y' a b a' b' c d e f.
                  let t = from_touch (fx x y) (fy x y) (fx x' y') (fy x' y') (sym (S.touches x y x' y' a b a' b') ∙ to_touch x y x' y' c d e f) in
                  let u = good.quadtree.balanced (fx x y) (fy x y) (fx x' y') (fy x' y') (S.in_x x y a b) (S.in_y x y a b) (S.in_x x' y' a' b')
                  (S.in_y x' y' a' b') t.0 t.1 t.2 t.3 in
                  omega (arith, u, T.levels x y a b, T.levels x' y' a' b');
            };
        low_beds = λ x y a b. omega (arith, T.beds x y a b, good.low_beds (fx x y) (fy x y) (S.in_x x y a b) (S.in_y x y a b));
        in_range = λ x y a b. to_range (area v (level' x y)) (leaf' x y) (
            let r = has_room good (fx x y) (fy x y) (S.in_x x y a b) (S.in_y x y a b) in
            record {
              room = omega (arith, r, wt x y a b, ap (λ k. 30000 * area v k) (T.levels x y a b));
              slow_east = omega (arith, (slows x y a b).0, wt x y a b);
              slow_north = omega (arith, (slows x y a b).1, wt x y a b);
            });
      }
    where
      wt : (x y : ℕ) → x < size v → y < size v → (leaf' x y).water ≡ water v (fx x y) (fy x y)
      wt x y a b = ap (λ l. l.water) (T.leaves x y a b) ∙ S.ρ_water (v.leaf (fx x y) (fy x y))

      slows : (x y : ℕ) → x < size v → y < size v → (nat_abs (leaf' x y).east ≤ water v (fx x y) (fy x y) * 10000) ×
          (nat_abs (leaf' x y).north ≤ water v (fx x y) (fy x y) * 10000)
      slows x y a b =
          let l = v.leaf (fx x y) (fy x y) in
          let s = S.ρ_slow (l.water * 10000) l (slow_eastward good (fx x y) (fy x y) (S.in_x x y a b) (S.in_y x y a b))
          (slow_northward good (fx x y) (fy x y) (S.in_x x y a b) (S.in_y x y a b)) in
          (omega (arith, s.0, ap (λ l. nat_abs l.east) (T.leaves x y a b)), omega (arith, s.1, ap (λ l. nat_abs l.north) (T.leaves x y a b)))

-- ---- a block gets another level and other records
abbrev pub recast : View → ℕ → ℕ → ℕ → ℕ → (ℕ → ℕ → Leaf) → View
recast v j m x y f =
    record {
      L = v.L;
      d = v.d;
      level = λ p q. cond (same_block v j x y p q) m (v.level p q);
      bed = v.bed;
      leaf = λ p q. cond (same_block v j x y p q) (f p q) (v.leaf p q);
    }

module _ (v : View) (good : Valid v) (j x y : ℕ) (deep : j ≤ v.L)
    (inner : (p q : ℕ) → p < size v → q < size v → same_block v j x y p q ≡ true → j ≤ v.level p q) where
  -- two squares of one leaf are both in the block or both not
  pub closed : (p q p' q' : ℕ) → p < size v → q < size v → p' < size v → q' < size v
      → p / side_of v (v.level p q) ≡ p' / side_of v (v.level p q) → q / side_of v (v.level p q) ≡ q' / side_of v (v.level p q)
      → same_block v j x y p q ≡ same_block v j x y p' q'
  closed p q p' q' a b a' b' e f =
      let u = good.quadtree.uniform p q p' q' a b a' b' e f in
      same_bool (same_block v j x y p q) (same_block v j x y p' q')
      (λ t.
      let i = inner p q a b t in
      let c = from_same_block v j x y p q t in
      let h = good.quadtree.shallow p q a b in
      to_same_block v j x y p' q' (c.0 ∙ coarser v.L j (v.level p q) p p' i h e) (c.1 ∙ coarser v.L j (v.level p q) q q' i h f))
      (λ t.
      let i : j ≤ v.level p q = omega (arith, inner p' q' a' b' t, u.0) in
      let c = from_same_block v j x y p' q' t in
      let h = good.quadtree.shallow p q a b in
      to_same_block v j x y p q (c.0 ∙ sym (coarser v.L j (v.level p q) p p' i h e)) (c.1 ∙ sym (coarser v.L j (v.level p q) q q' i h f)))

  module _ (m : ℕ) (up : j ≤ m) (top : m ≤ v.L) (f : ℕ → ℕ → Leaf)
      (alike : (p q p' q' : ℕ) → p / side_of v m ≡ p' / side_of v m → q / side_of v m ≡ q' / side_of v m → f p q ≡ f p' q')
      (outer : (p q p' q' : ℕ) → p < size v → q < size v → p' < size v → q' < size v → same_block v j x y p q ≡ true → touch p q p' q' ≡ true
      → (m ≤ v.level p' q' + 1) × (v.level p' q' ≤ m + 1))
      (holds : (p q : ℕ) → p < size v → q < size v → same_block v j x y p q ≡ true → Holds (area v m) (f p q)) where
    pub recast_valid : Valid (recast v j m x y f)
    recast_valid =
        record {
          quadtree =
              record {
                shallow = λ p q a b. pick (same_block v j x y p q) (λ t. t ≤ v.L) top (good.quadtree.shallow p q a b);
                uniform = λ p q p' q' a b a' b' e g. uniforms p q p' q' a b a' b' e g (same_block v j x y p q) refl;
                balanced = λ p q p' q' a b a' b' c d e g.
                    balances p q p' q' a b a' b' (to_touch p q p' q' c d e g) (to_touch p' q' p q d c g e) c d e g (same_block v j x y p q) refl
                    (same_block v j x y p' q') refl;
              };
          low_beds = good.low_beds;
          in_range = λ p q a b. to_range _ _ (bounds p q a b (same_block v j x y p q) refl);
        }
      where
        pick : (t : Bool) (P : ℕ → Type 0) {a b : ℕ} → P a → P b → P (cond t a b)
        pick true P x y = x
        pick false P x y = y

        uniforms : (p q p' q' : ℕ) → p < size v → q < size v → p' < size v → q' < size v
            → p / side_of v (cond (same_block v j x y p q) m (v.level p q)) ≡ p' / side_of v (cond (same_block v j x y p q) m (v.level p q))
            → q / side_of v (cond (same_block v j x y p q) m (v.level p q)) ≡ q' / side_of v (cond (same_block v j x y p q) m (v.level p q))
            → (t : Bool) → same_block v j x y p q ≡ t
            → ((recast v j m x y f).level p' q' ≡ (recast v j m x y f).level p q) × ((recast v j m x y f).leaf p' q' ≡ (recast v j m x y f).leaf p q)
        uniforms p q p' q' a b a' b' e g true t =
            let e' : p / side_of v m ≡ p' / side_of v m = rw t at e in
            let g' : q / side_of v m ≡ q' / side_of v m = rw t at g in
            let c = from_same_block v j x y p q t in
            let t' = to_same_block v j x y p' q' (c.0 ∙ coarser v.L j m p p' up top e') (c.1 ∙ coarser v.L j m q q' up top g') in
            (rw (t, t') refl, rw (t, t') (sym (alike p q p' q' e' g')))
        uniforms p q p' q' a b a' b' e g false t =
            let e' : p / side_of v (v.level p q) ≡ p' / side_of v (v.level p q) = rw t at e in
            let g' : q / side_of v (v.level p q) ≡ q' / side_of v (v.level p q) = rw t at g in
            let t' = sym (closed p q p' q' a b a' b' e' g') ∙ t in
            let u = good.quadtree.uniform p q p' q' a b a' b' e' g' in
            (rw (t, t') u.0, rw (t, t') u.1)

        balances : (p q p' q' : ℕ) → p < size v → q < size v → p' < size v → q' < size v → touch p q p' q' ≡ true → touch p' q' p q ≡ true
            → p ≤ p' + 1 → p' ≤ p + 1 → q ≤ q' + 1 → q' ≤ q + 1
            → (t : Bool) → same_block v j x y p q ≡ t → (t' : Bool) → same_block v j x y p' q' ≡ t'
            → (recast v j m x y f).level p q ≤ (recast v j m x y f).level p' q' + 1
        balances p q p' q' a b a' b' h h' c d e g true t true t' = rw (t, t') (omega arith)
        balances p q p' q' a b a' b' h h' c d e g true t false t' = rw (t, t') (outer p q p' q' a b a' b' t h).0
        balances p q p' q' a b a' b' h h' c d e g false t true t' = rw (t, t') (outer p' q' p q a' b' a b t' h').1
        balances p q p' q' a b a' b' h h' c d e g false t false t' = rw (t, t') (good.quadtree.balanced p q p' q' a b a' b' c d e g)

        bounds : (p q : ℕ) → p < size v → q < size v → (t : Bool) → same_block v j x y p q ≡ t
            → Holds (area v (cond t m (v.level p q))) (cond t (f p q) (v.leaf p q))
        bounds p q a b true t = holds p q a b t
        bounds p q a b false t = holds_at good p q a b
