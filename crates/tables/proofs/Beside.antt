-- A table is balanced where each square fits beside its neighbours to the east and the north.
use Rattle.std.proofs.Common.{◌≡◌, ℕ, ◌+◌, ◌-◌, ◌<◌, ◌≤◌, Bool, true, false, not, Decides, sym, refl, ap, inl, inr, arith}
use Rattle.std.proofs.lemmas.Bool.{cases_Bool, cases_order, and_left, and_right, le-ltb, ltb-false}
use Rattle.basin.specs.Squares.{touch, unbalanced}
use Rattle.basin.proofs.Found.{none_pair, is_none_pair}
use Rattle.basin.proofs.Tests.{differ, to_touch, from_touch, not_and}
use Rattle.tables.specs.Beside.{Close, RowsFit}

flip : (a b : ℕ) → Close a b → Close b a
flip a b h = (h.1, h.0)

module _ (n : ℕ) (level : ℕ → ℕ → ℕ) (fit : RowsFit n level n) where
  -- squares of one row
  along : (x y p : ℕ) → x < n → y < n → p < n → x ≤ p + 1 → p ≤ x + 1 → Close (level x y) (level p y)
  along x y p a b c d e =
      elim (cases_order p x) [
        | inl same ↦ rw same (omega arith, omega arith)
        | inr (inl west) ↦ let k : x ≡ p + 1 = omega arith in rw k (flip _ _ ((fit y b p c).east (omega arith)))
        | inr (inr east) ↦ let k : p ≡ x + 1 = omega arith in rw k ((fit y b x a).east (omega arith))
      ]

  -- squares of a row and of the row above it
  above : (x y p : ℕ) → x < n → y + 1 < n → p < n → x ≤ p + 1 → p ≤ x + 1 → Close (level x y) (level p (y + 1))
  above x y p a b c d e =
      let h = fit y (omega arith) x a in
      elim (cases_order p x) [
        | inl same ↦ rw same (h.north b)
        | inr (inl west) ↦ let k : p ≡ x - 1 = omega arith in rw k (h.north_west (omega arith) b)
        | inr (inr east) ↦ let k : p ≡ x + 1 = omega arith in rw k (h.north_east (omega arith) b)
      ]

  touching : (x y p q : ℕ) → x < n → y < n → p < n → q < n → touch x y p q ≡ true → Close (level x y) (level p q)
  touching x y p q a b c d t =
      let u = from_touch x y p q t in
      elim (cases_order q y) [
        | inl same ↦ rw same (along x y p a b c u.0 u.1)
        | inr (inl south) ↦ let k : y ≡ q + 1 = omega arith in rw k (flip _ _ (above p q x c (omega arith) a u.1 u.0))
        | inr (inr north) ↦ let k : q ≡ y + 1 = omega arith in rw k (above x y p a (omega arith) c u.0 u.1)
      ]

  balanced : unbalanced n level ≡ false
  unfolding unbalanced
  balanced =
      is_none_pair n _ (λ x y p q a b c d.
      elim (cases_Bool (touch x y p q)) [
        | inl t ↦ and_right _ _ (le-ltb _ _ (touching x y p q a b c d t).0)
        | inr t ↦ and_left _ _ t
      ])

module _ (n : ℕ) (level : ℕ → ℕ → ℕ) (h : unbalanced n level ≡ false) where
  at_most : (x y p q : ℕ) → x < n → y < n → p < n → q < n → touch x y p q ≡ true → level x y ≤ level p q + 1
  unfolding unbalanced
  at_most x y p q a b c d t =
      ltb-false (level p q + 1) (level x y) (not_and _ _ (none_pair n _ h x y p q a b c d) t)

  close : (x y p q : ℕ) → x < n → y < n → p < n → q < n → x ≤ p + 1 → p ≤ x + 1 → y ≤ q + 1 → q ≤ y + 1 → Close (level x y) (level p q)
  close x y p q a b c d e f i j =
      (at_most x y p q a b c d (to_touch x y p q e f i j), at_most p q x y c d a b (to_touch p q x y f e j i))

  fit : RowsFit n level n
  fit y b x a =
      record {
        east = λ c. close x y (x + 1) y a b c b (omega arith) (omega arith) (omega arith) (omega arith);
        north = λ d. close x y x (y + 1) a b a d (omega arith) (omega arith) (omega arith) (omega arith);
        north_east = λ c d. close x y (x + 1) (y + 1) a b c d (omega arith) (omega arith) (omega arith) (omega arith);
        north_west = λ c d. close x y (x - 1) (y + 1) a b (omega arith) d (omega arith) (omega arith) (omega arith) (omega arith);
      }

-- what decides whether all squares fit decides whether the table is balanced
pub balance_decided : (n : ℕ) (level : ℕ → ℕ → ℕ) (r : Bool) → Decides r (RowsFit n level n) → r ≡ not (unbalanced n level)
balance_decided n level true d = sym (ap not (balanced n level (d.0 refl)))
balance_decided n level false d =
    elim (cases_Bool (unbalanced n level)) [ inl e ↦ sym (ap not e) | inr e ↦ absurd (differ false (d.1 (fit n level e)) refl) ]
