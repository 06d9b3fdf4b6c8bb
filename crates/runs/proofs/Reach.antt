-- Tests on pairs of squares need only look around a block, and at no more than four squares across an edge.
use Rattle.std.proofs.Common.{◌≡◌, ℕ, ◌+◌, ◌-◌, ◌*◌, ◌/◌, ◌<◌, ◌≤◌, Bool, true, ◌&&◌, eqb, ltb, leb, ◌⊎◌, sym, refl, ap, ◌∙◌, inl, inr, mod-lt, div-add-mod', arith}
use lib.Arith.{digits_div}
use Rattle.std.proofs.lemmas.Bool.{or_cases, or_left, or_right, cases_lt, eqb-true, leb-true, ltb-true}
use Rattle.basin.specs.Squares.{same_block, next, touch, edge, around, some_square, some_pair}
use Rattle.basin.specs.Views.{View, size, side_of}
use Rattle.basin.proofs.Found.{is_some, found}
use Rattle.basin.proofs.Sizes.{side_pos}
use Rattle.basin.proofs.Tests.{and_true, true_and, same_bool, from_same_block, to_same_block, to_touch, from_touch, le_leb}
use Rattle.runs.proofs.Sounds.{inside}
use Rattle.runs.proofs.Standing.{edge_turn, edge_east, edge_north}
use Rattle.runs.proofs.WaterCalls.{block_in}

-- ---- the squares that touch a block are those of the box around it
abbrev pub by_block : View → ℕ → ℕ → ℕ → Bool
by_block v k x p = leb (x / side_of v k * side_of v k) (p + 1) && leb p (x / side_of v k * side_of v k + side_of v k)

clamp : (m s p : ℕ) → 0 < s → m ≤ p + 1 → p ≤ m + s → (i : ℕ) × (i < s) × (m + i ≤ p + 1) × (p ≤ m + i + 1)
clamp m s p z a b =
    elim (cases_lt p m) [
      | inl h ↦ (0, z, omega arith, omega arith)
      | inr h ↦ elim (cases_lt p (m + s)) [
        | inl g ↦ (p - m, omega arith, omega arith, omega arith)
        | inr g ↦ (s - 1, omega arith, omega arith, omega arith)
      ]
    ]

module _ (v : View) (k x y : ℕ) (h : k ≤ v.L) (a : x < size v) (b : y < size v) where
  from_box : (x p q : ℕ) → x / side_of v k ≡ p / side_of v k → p ≤ q + 1 → q ≤ p + 1 → by_block v k x q ≡ true
  from_box x p q e c d =
      let s = side_of v k in
      let dm = div-add-mod' p s in
      let r = mod-lt p (side_pos (v.L - k)) in
      let m = ap (λ n. n * s) e in
      true_and _ _ (le_leb (x / s * s) (q + 1) (omega arith)) (le_leb q (x / s * s + s) (omega arith))

  pub reach : (U : ℕ → ℕ → Bool)
      → some_pair (size v) (λ p q p' q'. same_block v k x y p q && (touch p q p' q' && U p' q'))
      ≡ some_square (size v) (λ p q. by_block v k x p && (by_block v k y q && U p q))
  reach U =
      same_bool _ _
      (λ t.
      let r = found (size v) (λ p q. some_square (size v) (λ p' q'. same_block v k x y p q && (touch p q p' q' && U p' q'))) t in
      let f = found (size v) (λ p' q'. same_block v k x y r.0 r.1 && (touch r.0 r.1 p' q' && U p' q')) r.4 in
      let u = and_true (same_block v k x y r.0 r.1) (touch r.0 r.1 f.0 f.1 && U f.0 f.1) f.4 in
      let w = and_true (touch r.0 r.1 f.0 f.1) (U f.0 f.1) u.1 in
      let e = from_same_block v k x y r.0 r.1 u.0 in
      let o = from_touch r.0 r.1 f.0 f.1 w.0 in
      is_some (size v) (λ p q. by_block v k x p && (by_block v k y q && U p q)) f.0 f.1 f.2 f.3
      (true_and _ _ (from_box x r.0 f.0 e.0 o.0 o.1) (true_and _ _ (from_box y r.1 f.1 e.1 o.2 o.3) w.1)))
      (λ t.
      let s = side_of v k in
      let z = side_pos (v.L - k) in
      let f = found (size v) (λ p q. by_block v k x p && (by_block v k y q && U p q)) t in
      let u = and_true (by_block v k x f.0) (by_block v k y f.1 && U f.0 f.1) f.4 in
      let w = and_true (by_block v k y f.1) (U f.0 f.1) u.1 in
      let bx = and_true (leb (x / s * s) (f.0 + 1)) (leb f.0 (x / s * s + s)) u.0 in
      let by = and_true (leb (y / s * s) (f.1 + 1)) (leb f.1 (y / s * s + s)) w.0 in
      let cx = clamp (x / s * s) s f.0 z (leb-true _ _ bx.0) (leb-true _ _ bx.1) in
      let cy = clamp (y / s * s) s f.1 z (leb-true _ _ by.0) (leb-true _ _ by.1) in
      let P = x / s * s + cx.0 in
      let Q = y / s * s + cy.0 in
      let px = inside v.L k (x / s) cx.0 h (block_in v k x h a) cx.1 in
      let qy = inside v.L k (y / s) cy.0 h (block_in v k y h b) cy.1 in
      is_some (size v) (λ p q. some_square (size v) (λ p' q'. same_block v k x y p q && (touch p q p' q' && U p' q'))) P Q px qy
      (is_some (size v) (λ p' q'. same_block v k x y P Q && (touch P Q p' q' && U p' q')) f.0 f.1 f.2 f.3
      (true_and (same_block v k x y P Q) (touch P Q f.0 f.1 && U f.0 f.1)
      (to_same_block v k x y P Q (sym (digits_div (x / s) cx.1)) (sym (digits_div (y / s) cy.1)))
      (true_and (touch P Q f.0 f.1) (U f.0 f.1) (to_touch P Q f.0 f.1 cx.2 cx.3 cy.2 cy.3) w.1))))

-- ---- the squares across an edge are four at most
less : (m n : ℕ) → m < n → ltb m n ≡ true
less m n h = grind arith

pub edges_around : (n a b : ℕ) → a < n → b < n → (P : ℕ → ℕ → Bool) → some_square n (λ p q. edge a b p q && P p q) ≡ around n a b P
edges_around n a b i j P =
    same_bool _ _
    (λ t.
    let f = found n (λ p q. edge a b p q && P p q) t in
    let u = and_true (edge a b f.0 f.1) (P f.0 f.1) f.4 in
    to f.0 f.1 f.2 f.3 u.1 (or_cases (eqb a f.0 && next b f.1) (eqb b f.1 && next a f.0) u.0))
    (λ t.
    elim (or_cases (ltb (a + 1) n && P (a + 1) b) _ t) [
      | inl e ↦ let u = and_true (ltb (a + 1) n) (P (a + 1) b) e in at (a + 1) b (ltb-true (a + 1) n u.0) j (edge_east a (a + 1) b refl) u.1
      | inr e ↦ elim (or_cases (ltb (b + 1) n && P a (b + 1)) _ e) [
        | inl e ↦ let u = and_true (ltb (b + 1) n) (P a (b + 1)) e in at a (b + 1) i (ltb-true (b + 1) n u.0) (edge_north b (b + 1) a refl) u.1
        | inr e ↦ elim (or_cases (ltb 0 a && P (a - 1) b) (ltb 0 b && P a (b - 1)) e) [
          | inl e ↦
              let u = and_true (ltb 0 a) (P (a - 1) b) e in
              let z = ltb-true 0 a u.0 in
              at (a - 1) b (omega arith) j (edge_turn a b (a - 1) b ∙ edge_east (a - 1) a b (omega arith)) u.1
          | inr e ↦
              let u = and_true (ltb 0 b) (P a (b - 1)) e in
              let z = ltb-true 0 b u.0 in
              at a (b - 1) i (omega arith) (edge_turn a b a (b - 1) ∙ edge_north (b - 1) b a (omega arith)) u.1
        ]
      ]
    ])
  where
    at : (p q : ℕ) → p < n → q < n → edge a b p q ≡ true → P p q ≡ true → some_square n (λ p q. edge a b p q && P p q) ≡ true
    at p q c d e f = is_some n (λ p q. edge a b p q && P p q) p q c d (true_and (edge a b p q) (P p q) e f)

    same_place : (p q p' q' : ℕ) → p ≡ p' → q ≡ q' → P p q ≡ true → P p' q' ≡ true
    same_place p q p' q' e f h = sym (λ i. P (e i) (f i)) ∙ h

    to : (p q : ℕ) → p < n → q < n → P p q ≡ true → ((eqb a p && next b q) ≡ true) ⊎ ((eqb b q && next a p) ≡ true) → around n a b P ≡ true
    to p q c d h (inl e) =
        let u = and_true (eqb a p) (next b q) e in
        let s = eqb-true a p u.0 in
        elim (or_cases (eqb b (q + 1)) (eqb q (b + 1)) u.1) [
          | inl g ↦
              let m = eqb-true b (q + 1) g in
              or_right (ltb (a + 1) n && P (a + 1) b) _
              (or_right (ltb (b + 1) n && P a (b + 1)) _
              (or_right (ltb 0 a && P (a - 1) b) _ (true_and (ltb 0 b) (P a (b - 1)) (less 0 b (omega arith))
              (same_place p q a (b - 1) (sym s) (omega arith) h))))
          | inr g ↦
              let m = eqb-true q (b + 1) g in
              or_right (ltb (a + 1) n && P (a + 1) b) _
              (or_left (ltb (b + 1) n && P a (b + 1)) _
              (true_and (ltb (b + 1) n) (P a (b + 1)) (less (b + 1) n (omega arith)) (same_place p q a (b + 1) (sym s) m h)))
        ]
    to p q c d h (inr e) =
        let u = and_true (eqb b q) (next a p) e in
        let s = eqb-true b q u.0 in
        elim (or_cases (eqb a (p + 1)) (eqb p (a + 1)) u.1) [
          | inl g ↦
              let m = eqb-true a (p + 1) g in
              or_right (ltb (a + 1) n && P (a + 1) b) _
              (or_right (ltb (b + 1) n && P a (b + 1)) _
              (or_left (ltb 0 a && P (a - 1) b) _ (true_and (ltb 0 a) (P (a - 1) b) (less 0 a (omega arith))
              (same_place p q (a - 1) b (omega arith) (sym s) h))))
          | inr g ↦
              let m = eqb-true p (a + 1) g in
              or_left (ltb (a + 1) n && P (a + 1) b) _ (true_and (ltb (a + 1) n) (P (a + 1) b) (less (a + 1) n (omega arith))
              (same_place p q (a + 1) b m (sym s) h))
        ]
