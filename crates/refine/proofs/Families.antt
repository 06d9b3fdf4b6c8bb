-- The four siblings: the squares of their block, and their records added up.
use Rattle.std.proofs.Common.{◌≡◌, ℕ, suc, pred, ◌+◌, ◌-◌, ◌/◌, ◌%◌, ◌<◌, ◌≤◌, Bool, true, false, cond, not, ◌&&◌, ◌||◌, eqb, ltb, ◌⊎◌, sym, refl, ap, ◌∙◌, inl, inr, arith}
use borrow.Author.Differences.{ints}
use Rattle.std.proofs.lemmas.Bool.{cases_eq, or_cases, or_left, or_right}
use Rattle.basin.specs.declared.leaf.Leaf.{Leaf}
use Rattle.basin.specs.Basins.{Valid}
use Rattle.basin.specs.Squares.{same_block}
use Rattle.basin.specs.Views.{View, size, side_of}
use Rattle.basin.proofs.Found.{is_some, found}
use Rattle.basin.proofs.Sizes.{side_pos}
use Rattle.basin.proofs.Tests.{and_true, true_and, same_bool, differ, from_same_block, to_same_block}
use Rattle.runs.specs.Calls.{mixed, no_siblings}
use Rattle.runs.specs.Changes.{twin, both}
use Rattle.runs.proofs.CallsKeep.{above, sibling, twin_x, twin_y, half_x, half_y, twin_div}
use Rattle.refine.specs.declared.parts.Siblings.{Siblings}
use Rattle.refine.specs.Siblings.{Slow, unlike, some_mixed}
use Rattle.refine.proofs.Quarters.{half_div}

-- records added up are as slow as the slower
pub both_slow : (a b : Leaf) → Slow a → Slow b → Slow (both a b)
both_slow a b s t =
    record { east = omega (arith, ints, s.east, t.east); north = omega (arith, ints, s.north, t.north) }

-- a record is like itself
unlike_self : (l : Leaf) → unlike l l ≡ false
unlike_self l = go (ltb 0 l.water)
  where
    go : (t : Bool) → cond t (not t) t ≡ false
    go true = refl
    go false = refl

-- two numbers with one half are one or neighbours
paired : (q r : ℕ) → r / 2 ≡ q / 2 → (q ≡ r) ⊎ (q ≡ cond (eqb (r % 2) 0) (r + 1) (r - 1))
paired q r e = elim (cases_eq q r) [ inl h ↦ inl h | inr h ↦ inr (grind arith) ]

module _ (v : View) (good : Valid v) (x y : ℕ) (a : x < size v) (b : y < size v) (t₅ : (eqb (v.level x y) 0 || no_siblings v x y) ≡ false) where
  abbrev k : ℕ
  k = v.level x y

  abbrev s : ℕ
  s = side_of v k

  deep : k ≤ v.L
  deep = good.quadtree.shallow x y a b

  some_above : 0 < k
  some_above = above v good x y a b t₅

  -- twice the side one level higher
  half_up : (p : ℕ) → p / side_of v (pred k) ≡ p / s / 2
  half_up p =
      let z = some_above in
      let up : suc (pred k) ≡ k = omega arith in
      half_div v (pred k) p (omega (arith, deep)) ∙ ap (λ j. p / side_of v j / 2) up

  -- a place of the block above is in the leaf's own half or in the other
  which : (x p : ℕ) → x / side_of v (pred k) ≡ p / side_of v (pred k) → (x / s ≡ p / s) ⊎ (twin s x / s ≡ p / s)
  which x p e = elim (paired (p / s) (x / s) (sym (half_up x) ∙ e ∙ half_up p)) [
    | inl h ↦ inl (sym h)
    | inr h ↦ inr (twin_div s x (side_pos (v.L - k)) ∙ sym h)
  ]

  -- squares of one sibling have one record
  same_leaf : (p q p' q' : ℕ) → p < size v → q < size v → p' < size v → q' < size v → same_block v (pred k) x y p q ≡ true
      → p / s ≡ p' / s → q / s ≡ q' / s → v.leaf p' q' ≡ v.leaf p q
  same_leaf p q p' q' c d c' d' t e f =
      let level = sibling v good x y a b t₅ p q c d t in
      (good.quadtree.uniform p q p' q' c d c' d' (rw level e) (rw level f)).1

  -- the four squares that stand for the siblings
  own_in : same_block v (pred k) x y x y ≡ true
  own_in = to_same_block v (pred k) x y x y refl refl

  beside_in : same_block v (pred k) x y (twin s x) y ≡ true
  beside_in = to_same_block v (pred k) x y (twin s x) y (half_x v good x y a b t₅) refl

  above_in : same_block v (pred k) x y x (twin s y) ≡ true
  above_in = to_same_block v (pred k) x y x (twin s y) refl (half_y v good x y a b t₅)

  across_in : same_block v (pred k) x y (twin s x) (twin s y) ≡ true
  across_in = to_same_block v (pred k) x y (twin s x) (twin s y) (half_x v good x y a b t₅) (half_y v good x y a b t₅)

  abbrev family : Siblings
  family = record { own = v.leaf x y; beside = v.leaf (twin s x) y; above = v.leaf x (twin s y); across = v.leaf (twin s x) (twin s y) }

  pub mixed_is : mixed v x y ≡ some_mixed family
  mixed_is =
      let n = size v in
      same_bool _ _
      (λ t.
      let f = found n (λ p q. same_block v (pred k) x y p q && unlike (v.leaf x y) (v.leaf p q)) t in
      let u = and_true (same_block v (pred k) x y f.0 f.1) (unlike (v.leaf x y) (v.leaf f.0 f.1)) f.4 in
      let e = from_same_block v (pred k) x y f.0 f.1 u.0 in
      to f.0 f.1 f.2 f.3 u.1 (which x f.0 e.0) (which y f.1 e.1))
      (λ t.
      elim (or_cases (unlike (v.leaf x y) (v.leaf (twin s x) y)) _ t) [
        | inl e ↦ at (twin s x) y (twin_x v good x y a b t₅) b beside_in e
        | inr e ↦ elim (or_cases (unlike (v.leaf x y) (v.leaf x (twin s y))) (unlike (v.leaf x y) (v.leaf (twin s x) (twin s y))) e) [
          | inl e ↦ at x (twin s y) a (twin_y v good x y a b t₅) above_in e
          | inr e ↦ at (twin s x) (twin s y) (twin_x v good x y a b t₅) (twin_y v good x y a b t₅) across_in e
        ]
      ])
    where
      at : (p q : ℕ) → p < size v → q < size v → same_block v (pred k) x y p q ≡ true → unlike (v.leaf x y) (v.leaf p q) ≡ true → mixed v x y ≡ true
      at p q c d t e = is_some (size v) (λ p q. same_block v (pred k) x y p q && unlike (v.leaf x y) (v.leaf p q)) p q c d (true_and _ _ t e)

      with : (p q p' q' : ℕ) → p < size v → q < size v → p' < size v → q' < size v → same_block v (pred k) x y p q ≡ true → p / s ≡ p' / s → q / s ≡ q' / s
          → unlike (v.leaf x y) (v.leaf p' q') ≡ true → unlike (v.leaf x y) (v.leaf p q) ≡ true
      with p q p' q' c d c' d' t e f h = sym (ap (unlike (v.leaf x y)) (same_leaf p q p' q' c d c' d' t e f)) ∙ h

      to : (p q : ℕ) → p < size v → q < size v → unlike (v.leaf x y) (v.leaf p q) ≡ true → (x / s ≡ p / s) ⊎ (twin s x / s ≡ p / s)
          → (y / s ≡ q / s) ⊎ (twin s y / s ≡ q / s) → some_mixed family ≡ true
      to p q c d h (inl e) (inl f) = differ (unlike (v.leaf x y) (v.leaf x y)) (with x y p q a b c d own_in e f h) (unlike_self (v.leaf x y))
      to p q c d h (inr e) (inl f) = or_left (unlike (v.leaf x y) (v.leaf (twin s x) y)) _ (with (twin s x) y p q (twin_x v good x y a b t₅) b c d beside_in e f h)
      to p q c d h (inl e) (inr f) =
          or_right (unlike (v.leaf x y) (v.leaf (twin s x) y)) _ (or_left (unlike (v.leaf x y) (v.leaf x (twin s y))) _
          (with x (twin s y) p q a (twin_y v good x y a b t₅) c d above_in e f h))
      to p q c d h (inr e) (inr f) =
          or_right (unlike (v.leaf x y) (v.leaf (twin s x) y)) _ (or_right (unlike (v.leaf x y) (v.leaf x (twin s y))) _
          (with (twin s x) (twin s y) p q (twin_x v good x y a b t₅) (twin_y v good x y a b t₅) c d across_in e f h))
