-- Tests of all squares of a block, or of all squares that touch one, by the squares of a window.
use Rattle.std.proofs.Common.{◌≡◌, ℕ, pred, ◌+◌, ◌-◌, ◌*◌, ◌/◌, ◌<◌, ◌≤◌, Bool, true, false, not, ◌&&◌, eqb, ltb, leb, Decides, sym, refl, ap, ◌∙◌, inl, inr, mod-lt, div-add-mod', arith}
use lib.Arith.{digits_div}
use Rattle.std.proofs.lemmas.Bool.{cases_Bool, and_left, and_right, or_from, leb-true, le-ltb, lt-ltb, ltb-true, ltb-false, eqb-true, eq-eqb}
use Rattle.std.proofs.lemmas.Bool.Decides.{not_from_Decides}
use Rattle.basin.specs.Squares.{same_block, touch, edge, around, some_square, some_pair}
use Rattle.basin.specs.Views.{View, size, side_of}
use Rattle.basin.specs.Windows.{Seen}
use Rattle.basin.proofs.Found.{none, is_none, none_pair, is_none_pair}
use Rattle.basin.proofs.Sizes.{side_pos, block_in}
use Rattle.basin.proofs.Tests.{and_true, true_and, or_false, not_and, not_true, le_leb, from_same_block, to_same_block}
use Rattle.runs.specs.Calls.{beside_coarser, beside_finer, no_siblings, would_flood}
use Rattle.runs.proofs.Reach.{by_block, reach, edges_around}
use Rattle.basin.specs.declared.window.Window.{Window}
use Rattle.refine.specs.Floods.{flows_onto, DrySquare, DryWindow}
use Rattle.refine.specs.Windows.{BlockWindow, RingWindow}

-- a test that is false exactly where a decided fact holds
pub told : {P : Type 0} (t r : Bool) → Decides r P → (t ≡ false → P) → (P → t ≡ false) → t ≡ not r
told t true d f g = g (d.0 refl)
told t false d f g = elim (cases_Bool t) [ inl e ↦ e | inr e ↦ absurd (not_from_Decides false d refl (f e)) ]

-- a place is in a block where the block's bounds say so
in_block : (s x p : ℕ) → 0 < s → x / s * s ≤ p → p < x / s * s + s → x / s ≡ p / s
in_block s x p z a b =
    let i : p - x / s * s < s = omega arith in
    let e : x / s * s + (p - x / s * s) ≡ p = omega arith in
    sym (ap (λ q. q / s) (sym e) ∙ digits_div (x / s) i)

block_of : (s x p : ℕ) → 0 < s → x / s ≡ p / s → (x / s * s ≤ p) × (p < x / s * s + s)
block_of s x p z e =
    let d = div-add-mod' p s in
    let r = mod-lt p z in
    let m = ap (λ q. q * s) e in
    (omega arith, omega arith)

module _ (v : View) (k x y : ℕ) (w : Window) where
  -- ---- the squares of a block
  module _ (is : BlockWindow v k x y w) where
    pub seen_same : (p q : ℕ) → Seen w p q → same_block v k x y p q ≡ true
    seen_same p q h =
        let s = side_of v k in
        let z = side_pos (v.L - k) in
        to_same_block v k x y p q (in_block s x p z (omega (arith, h.west, is.west)) (omega (arith, h.east, is.east)))
        (in_block s y q z (omega (arith, h.south, is.south)) (omega (arith, h.north, is.north)))

    pub same_seen : (p q : ℕ) → same_block v k x y p q ≡ true → Seen w p q
    same_seen p q h =
        let s = side_of v k in
        let z = side_pos (v.L - k) in
        let e = from_same_block v k x y p q h in
        let a = block_of s x p z e.0 in
        let b = block_of s y q z e.1 in
        record {
          west = omega (arith, a.0, is.west);
          east = omega (arith, a.1, is.east);
          south = omega (arith, b.0, is.south);
          north = omega (arith, b.1, is.north);
        }

  -- the window lies in the basin
  module _ (deep : k ≤ v.L) (a : x < size v) (b : y < size v) where
    pub block_inside : BlockWindow v k x y w → (w.east ≤ size v) × (w.north ≤ size v)
    block_inside is =
        (omega (arith, is.east, block_in v.L k x deep a), omega (arith, is.north, block_in v.L k y deep b))

    pub block_clear : BlockWindow v k x y w → (U : ℕ → ℕ → Bool)
        → some_square (size v) (λ p q. same_block v k x y p q && U p q) ≡ false → (p q : ℕ) → Seen w p q → U p q ≡ false
    block_clear is U e p q h =
        let i = block_inside is in
        not_and _ _ (none (size v) (λ p q. same_block v k x y p q && U p q) e p q (omega (arith, h.east, i.0)) (omega (arith, h.north, i.1)))
        (seen_same is p q h)

    pub clear_block : BlockWindow v k x y w → (U : ℕ → ℕ → Bool)
        → ((p q : ℕ) → Seen w p q → U p q ≡ false) → some_square (size v) (λ p q. same_block v k x y p q && U p q) ≡ false
    clear_block is U f =
        is_none (size v) (λ p q. same_block v k x y p q && U p q) (λ p q c d.
        elim (cases_Bool (same_block v k x y p q)) [
          | inl t ↦ and_right (same_block v k x y p q) _ (f p q (same_seen is p q t))
          | inr t ↦ and_left _ _ t
        ])

    -- ---- the squares that touch a block
    module _ (is : RingWindow v k x y w) (U : ℕ → ℕ → Bool) where
      abbrev touched : Bool
      touched = some_pair (size v) (λ p q p' q'. same_block v k x y p q && (touch p q p' q' && U p' q'))

      pub ring_clear : touched ≡ false → (p q : ℕ) → Seen w p q → U p q ≡ false
      ring_clear e p q h =
          let s = side_of v k in
          let f : some_square (size v) (λ p q. by_block v k x p && (by_block v k y q && U p q)) ≡ false = sym (reach v k x y deep a b U) ∙ e in
          let bx = true_and _ _ (le_leb (x / s * s) (p + 1) (omega (arith, h.west, is.west))) (le_leb p (x / s * s + s) (omega (arith, h.east, is.east))) in
          let by = true_and _ _ (le_leb (y / s * s) (q + 1) (omega (arith, h.south, is.south))) (le_leb q (y / s * s + s) (omega (arith, h.north, is.north))) in
          not_and _ _ (not_and _ _ (none (size v) (λ p q. by_block v k x p && (by_block v k y q && U p q)) f p q
          (omega (arith, h.east, is.east)) (omega (arith, h.north, is.north))) bx) by

      pub clear_ring : ((p q : ℕ) → Seen w p q → U p q ≡ false) → touched ≡ false
      clear_ring f =
          reach v k x y deep a b U ∙ is_none (size v) (λ p q. by_block v k x p && (by_block v k y q && U p q)) (λ p q c d.
          elim (cases_Bool (by_block v k x p)) [
            | inl t ↦ elim (cases_Bool (by_block v k y q)) [
              | inl u ↦
                  let s = side_of v k in
                  let bx = and_true (leb (x / s * s) (p + 1)) (leb p (x / s * s + s)) t in
                  let by = and_true (leb (y / s * s) (q + 1)) (leb q (y / s * s + s)) u in
                  and_right (by_block v k x p) _ (and_right (by_block v k y q) _ (f p q (record {
                    west = omega (arith, leb-true _ _ bx.0, is.west);
                    east = omega (arith, leb-true _ _ bx.1, is.east);
                    south = omega (arith, leb-true _ _ by.0, is.south);
                    north = omega (arith, leb-true _ _ by.1, is.north);
                  })))
              | inr u ↦ and_right (by_block v k x p) _ (and_left (by_block v k y q) _ u)
            ]
            | inr t ↦ and_left _ _ t
          ])

-- ---- the tests of split and merge
module _ (v : View) (x y : ℕ) (a : x < size v) (b : y < size v) (w : Window) (r : Bool) where
  -- no square beside the leaf is coarser
  pub coarser_told : v.level x y ≤ v.L → RingWindow v (v.level x y) x y w
      → Decides r ((p q : ℕ) → Seen w p q → (v.level x y ≤ v.level p q) × (v.level p q ≤ v.L))
      → ((p q : ℕ) → p < size v → q < size v → v.level p q ≤ v.L) → beside_coarser v x y ≡ not r
  coarser_told deep is d shallow =
      let k = v.level x y in
      told (beside_coarser v x y) r d
      (λ e p q h. (
        ltb-false (v.level p q) k (ring_clear v k x y w deep a b is (λ p q. ltb (v.level p q) k) e p q h),
        shallow p q (omega (arith, h.east, is.east)) (omega (arith, h.north, is.north)),
      ))
      (λ f. clear_ring v k x y w deep a b is (λ p q. ltb (v.level p q) k) (λ p q h. le-ltb (v.level p q) k (f p q h).0))

  -- no square beside the leaf and its siblings is finer than they
  pub finer_told : pred (v.level x y) ≤ v.L → RingWindow v (pred (v.level x y)) x y w
      → Decides r ((p q : ℕ) → Seen w p q → (0 ≤ v.level p q) × (v.level p q ≤ v.level x y)) → beside_finer v x y ≡ not r
  finer_told deep is d =
      let k = v.level x y in
      told (beside_finer v x y) r d
      (λ e p q h. (omega arith, ltb-false k (v.level p q) (ring_clear v (pred k) x y w deep a b is (λ p q. ltb k (v.level p q)) e p q h)))
      (λ f. clear_ring v (pred k) x y w deep a b is (λ p q. ltb k (v.level p q)) (λ p q h. le-ltb k (v.level p q) (f p q h).1))

  -- all squares of the block above are of the leaf's level
  pub siblings_told : pred (v.level x y) ≤ v.L → BlockWindow v (pred (v.level x y)) x y w
      → Decides r ((p q : ℕ) → Seen w p q → (v.level x y ≤ v.level p q) × (v.level p q ≤ v.level x y)) → no_siblings v x y ≡ not r
  siblings_told deep is d =
      let k = v.level x y in
      told (no_siblings v x y) r d
      (λ e p q h.
      let same : v.level p q ≡ k =
      eqb-true (v.level p q) k (not_true _ (block_clear v (pred k) x y w deep a b is (λ p q. not (eqb (v.level p q) k)) e p q h)) in
      (omega arith, omega arith))
      (λ f. clear_block v (pred k) x y w deep a b is (λ p q. not (eqb (v.level p q) k))
      (λ p q h. ap not (eq-eqb (v.level p q) k (omega (arith, f p q h)))))

-- no square across an edge flows onto a square that stays dry, and only then
dry_around : (v : View) (j x y : ℕ) → DrySquare v j x y → around (size v) x y (flows_onto v j x y) ≡ false
dry_around v j x y d =
    or_from _ _ (asked (x + 1) (size v) _ d.east)
    (or_from _ _ (asked (y + 1) (size v) _ d.north) (or_from _ _ (asked 0 x _ d.west) (asked 0 y _ d.south)))
  where
    asked : (m n : ℕ) (t : Bool) → (m < n → t ≡ false) → (ltb m n && t) ≡ false
    asked m n t h = elim (cases_Bool (ltb m n)) [ inl e ↦ and_right (ltb m n) t (h (ltb-true m n e)) | inr e ↦ and_left (ltb m n) t e ]

around_dry : (v : View) (j x y : ℕ) → around (size v) x y (flows_onto v j x y) ≡ false → DrySquare v j x y
around_dry v j x y e =
    let f = flows_onto v j x y in
    let n = size v in
    let p = or_false (ltb (x + 1) n && f (x + 1) y) _ e in
    let q = or_false (ltb (y + 1) n && f x (y + 1)) _ p.1 in
    let r = or_false (ltb 0 x && f (x - 1) y) (ltb 0 y && f x (y - 1)) q.1 in
    record {
      east = λ h. not_and _ _ p.0 (lt-ltb _ _ h);
      north = λ h. not_and _ _ q.0 (lt-ltb _ _ h);
      west = λ h. not_and _ _ r.0 (lt-ltb _ _ h);
      south = λ h. not_and _ _ r.1 (lt-ltb _ _ h);
    }

-- the block of level k stays dry as leaves of level j
pub flood_told : (v : View) (k j x y : ℕ) (w : Window) (r : Bool) → k ≤ v.L → x < size v → y < size v → BlockWindow v k x y w
    → Decides r (DryWindow v j w) → would_flood v k j x y ≡ not r
flood_told v k j x y w r deep a b is d =
    told (would_flood v k j x y) r d
    (λ e p q h.
    let i = block_inside v k x y w deep a b is in
    let c : p < size v = omega (arith, h.east, i.0) in
    let e' : q < size v = omega (arith, h.north, i.1) in
    around_dry v j p q (sym (edges_around (size v) p q c e' (flows_onto v j p q)) ∙ is_none (size v) (λ p' q'. edge p q p' q' && flows_onto v j p q p' q')
    (λ p' q' c' d'. not_and _ _ (none_pair (size v) (λ p q p' q'. same_block v k x y p q && (edge p q p' q' && flows_onto v j p q p' q'))
    e p q p' q' c e' c' d') (seen_same v k x y w is p q h))))
    (λ f. is_none_pair (size v) (λ p q p' q'. same_block v k x y p q && (edge p q p' q' && flows_onto v j p q p' q')) (λ p q p' q' c d c' d'.
    elim (cases_Bool (same_block v k x y p q)) [
      | inl t ↦ and_right (same_block v k x y p q) _ (none (size v) (λ p' q'. edge p q p' q' && flows_onto v j p q p' q')
          (edges_around (size v) p q c d (flows_onto v j p q) ∙ dry_around v j p q (f p q (same_seen v k x y w is p q t))) p' q' c' d')
      | inr t ↦ and_left _ _ t
    ]))
