-- The four quarters of a block.
use Rattle.std.proofs.Common.{◌≡◌, ℕ, suc, ◌+◌, ◌-◌, ◌*◌, ◌/◌, ◌%◌, ◌<◌, Bool, true, cond, ◌&&◌, ◌||◌, eqb, ◌⊎◌, sym, ap, ◌∙◌, inl, inr, mul-div_cancel, arith}
use native.Mathlib.Nat.{div-div-eq-div-mul}
use Rattle.std.proofs.lemmas.Bool.{cases_eq, or_cases, or_left, or_right}
use Rattle.basin.specs.Squares.{same_block, some_square}
use Rattle.basin.specs.Views.{View, size, side_of}
use Rattle.basin.proofs.Found.{is_some, found}
use Rattle.basin.proofs.Sizes.{side_pos}
use Rattle.basin.proofs.Tests.{and_true, true_and, same_bool, from_same_block, to_same_block}
use Rattle.runs.proofs.Sounds.{inside, twice}
use Rattle.runs.proofs.WaterCalls.{block_in}

-- a number whose half is X is twice X, or one more
halves : (X A : ℕ) → X ≡ A / 2 → (A ≡ X * 2) ⊎ (A ≡ X * 2 + 1)
halves X A e = elim (cases_eq (A % 2) 0) [ inl h ↦ inl (omega arith) | inr h ↦ inr (omega arith) ]

-- a block of twice the side
pub half_div : (v : View) (k p : ℕ) → k < v.L → p / side_of v k ≡ p / side_of v (suc k) / 2
half_div v k p h = ap (λ n. p / n) (twice v.L k h) ∙ sym (div-div-eq-div-mul p (side_of v (suc k)) 2)

module _ (v : View) (k x y : ℕ) (deep : k < v.L) (a : x < size v) (b : y < size v) where
  abbrev X : ℕ
  X = x / side_of v k

  abbrev Y : ℕ
  Y = y / side_of v k

  -- a test that is the same all over each quarter
  pub quarters_some : (P : ℕ → ℕ → Bool)
      → some_square (size v) (λ p q. same_block v k x y p q && P (p / side_of v (suc k)) (q / side_of v (suc k)))
      ≡ (P (X * 2) (Y * 2) || (P (X * 2 + 1) (Y * 2) || (P (X * 2) (Y * 2 + 1) || P (X * 2 + 1) (Y * 2 + 1))))
  quarters_some P =
      let s = side_of v (suc k) in
      same_bool _ _
      (λ t.
      let f = found (size v) (λ p q. same_block v k x y p q && P (p / s) (q / s)) t in
      let u = and_true (same_block v k x y f.0 f.1) (P (f.0 / s) (f.1 / s)) f.4 in
      let e = from_same_block v k x y f.0 f.1 u.0 in
      to (f.0 / s) (f.1 / s) u.1 (halves X (f.0 / s) (e.0 ∙ half_div v k f.0 deep)) (halves Y (f.1 / s) (e.1 ∙ half_div v k f.1 deep)))
      (λ t.
      elim (or_cases (P (X * 2) (Y * 2)) _ t) [
        | inl e ↦ at (X * 2) (Y * 2) (omega arith) (omega arith) e
        | inr e ↦ elim (or_cases (P (X * 2 + 1) (Y * 2)) _ e) [
          | inl e ↦ at (X * 2 + 1) (Y * 2) (omega arith) (omega arith) e
          | inr e ↦ elim (or_cases (P (X * 2) (Y * 2 + 1)) (P (X * 2 + 1) (Y * 2 + 1)) e) [
            | inl e ↦ at (X * 2) (Y * 2 + 1) (omega arith) (omega arith) e
            | inr e ↦ at (X * 2 + 1) (Y * 2 + 1) (omega arith) (omega arith) e
          ]
        ]
      ])
    where
      to : (A B : ℕ) → P A B ≡ true → (A ≡ X * 2) ⊎ (A ≡ X * 2 + 1) → (B ≡ Y * 2) ⊎ (B ≡ Y * 2 + 1)
          → (P (X * 2) (Y * 2) || (P (X * 2 + 1) (Y * 2) || (P (X * 2) (Y * 2 + 1) || P (X * 2 + 1) (Y * 2 + 1)))) ≡ true
      to A B h (inl e) (inl f) = or_left (P (X * 2) (Y * 2)) _ (sym (λ i. P (e i) (f i)) ∙ h)
      to A B h (inr e) (inl f) = or_right (P (X * 2) (Y * 2)) _ (or_left (P (X * 2 + 1) (Y * 2)) _ (sym (λ i. P (e i) (f i)) ∙ h))
      to A B h (inl e) (inr f) =
          or_right (P (X * 2) (Y * 2)) _ (or_right (P (X * 2 + 1) (Y * 2)) _ (or_left (P (X * 2) (Y * 2 + 1)) _ (sym (λ i. P (e i) (f i)) ∙ h)))
      to A B h (inr e) (inr f) =
          or_right (P (X * 2) (Y * 2)) _ (or_right (P (X * 2 + 1) (Y * 2)) _ (or_right (P (X * 2) (Y * 2 + 1)) _ (sym (λ i. P (e i) (f i)) ∙ h)))

      -- the south-west square of the quarter (A, B)
      at : (A B : ℕ) → A / 2 ≡ X → B / 2 ≡ Y → P A B ≡ true
          → some_square (size v) (λ p q. same_block v k x y p q && P (p / side_of v (suc k)) (q / side_of v (suc k))) ≡ true
      at A B e f h =
          let s = side_of v (suc k) in
          let z = side_pos (v.L - suc k) in
          let east = block_in v k x (omega arith) a in
          let north = block_in v k y (omega arith) b in
          let p : A * s < size v = omega (arith, inside v.L (suc k) A 0 deep (omega arith) z) in
          let q : B * s < size v = omega (arith, inside v.L (suc k) B 0 deep (omega arith) z) in
          let c = mul-div_cancel A z in
          let d = mul-div_cancel B z in
          is_some (size v) (λ p q. same_block v k x y p q && P (p / s) (q / s)) (A * s) (B * s) p q
          (true_and (same_block v k x y (A * s) (B * s)) (P (A * s / s) (B * s / s))
          (to_same_block v k x y (A * s) (B * s) (sym (half_div v k (A * s) deep ∙ ap (λ n. n / 2) c ∙ e)) (sym (half_div v k (B * s) deep ∙ ap (λ n. n / 2) d ∙ f)))
          ((λ i. P (c i) (d i)) ∙ h))

-- one after another on each of the four quarters (X * 2, Y * 2) .. is the same as one thing on the block (X, Y)
pub four_quarters : {A : Type 0} (X Y P Q : ℕ) (f : ℕ → ℕ → A) (old : A)
    → cond (eqb (X * 2 + 1) P && eqb (Y * 2 + 1) Q) (f (X * 2 + 1) (Y * 2 + 1))
    (cond (eqb (X * 2) P && eqb (Y * 2 + 1) Q) (f (X * 2) (Y * 2 + 1))
    (cond (eqb (X * 2 + 1) P && eqb (Y * 2) Q) (f (X * 2 + 1) (Y * 2))
    (cond (eqb (X * 2) P && eqb (Y * 2) Q) (f (X * 2) (Y * 2)) old)))
    ≡ cond (eqb X (P / 2) && eqb Y (Q / 2)) (f P Q) old
four_quarters X Y P Q f old = grind arith
