-- The eight turns of a place.
use Rattle.std.proofs.Common.{◌≡◌, ℕ, zero, suc, ◌-◌, ◌/◌, ◌%◌, ◌<◌, ◌≤◌, false, cond, ◌&&◌, nat_lt, ◌⊎◌, Ok, Err, sym, refl, ap, ◌∙◌, arith}
use Rattle.std.proofs.lemmas.Bool.Decides.{nat_tests}
use Rattle.basin.specs.declared.refusal.Refusal.TheVariants.{OutOfRange}
use Rattle.runs.specs.Turns.{Place, place, flip_place, quarter_place, times, turn_place}
use Rattle.turns.specs.Turns.{turned_place_of}
use Rattle.turns.specs.Composing.{Acting}

-- a place inside a grid of n by n
pub record Inside (n : ℕ) (p : Place) : Type 0 where
  pub east : p.x < n
  pub north : p.y < n

-- what one step keeps, several keep
pub times_keeps : {A : Type 0} (P : A → Type 0) (step : A → A) → ((a : A) → P a → P (step a)) → (k : ℕ) (a : A) → P a → P (times k step a)
times_keeps P step keeps zero a h = h
times_keeps P step keeps (suc k) a h = keeps (times k step a) (times_keeps P step keeps k a h)

-- and what one step leaves
times_stay : {A : Type 0} (step : A → A) (a : A) → step a ≡ a → (k : ℕ) → times k step a ≡ a
times_stay step a e zero = refl
times_stay step a e (suc k) = ap step (times_stay step a e k) ∙ e

module _ (n : ℕ) where
  pub flip_inside : (p : Place) → Inside n p → flip_place n p ≡ place (n - 1 - p.x) p.y
  flip_inside p h = grind (arith, nat_tests)

  pub quarter_inside : (p : Place) → Inside n p → quarter_place n p ≡ place (n - 1 - p.y) p.x
  quarter_inside p h = grind (arith, nat_tests)

  pub flip_keeps : (p : Place) → Inside n p → Inside n (flip_place n p)
  flip_keeps p h = rw (flip_inside p h) (record { east = omega (arith, h.east); north = h.north })

  pub quarter_keeps : (p : Place) → Inside n p → Inside n (quarter_place n p)
  quarter_keeps p h = rw (quarter_inside p h) (record { east = omega (arith, h.north); north = h.east })

  pub turn_keeps : (f r : ℕ) (p : Place) → Inside n p → Inside n (turn_place n f r p)
  turn_keeps f r p h = times_keeps (Inside n) (quarter_place n) quarter_keeps r _ (times_keeps (Inside n) (flip_place n) flip_keeps f p h)

  pub places_turn : Acting (flip_place n) (quarter_place n)
  places_turn = record { flip_twice = λ p. grind (arith, nat_tests); four_quarters = λ p. grind (arith, nat_tests); flip_after = λ p. grind (arith, nat_tests) }

  -- two and three quarter turns of a place inside
  module _ (p : Place) (h : Inside n p) where
    pub half : quarter_place n (quarter_place n p) ≡ place (n - 1 - p.x) (n - 1 - p.y)
    half = ap (quarter_place n) (quarter_inside p h) ∙ quarter_inside (place (n - 1 - p.y) p.x) (record { east = omega (arith, h.north); north = h.east })

    pub thrice : quarter_place n (quarter_place n (quarter_place n p)) ≡ place p.y (n - 1 - p.x)
    thrice =
        let back : n - 1 - (n - 1 - p.y) ≡ p.y = omega (arith, h.north) in
        ap (quarter_place n) half
        ∙ quarter_inside (place (n - 1 - p.x) (n - 1 - p.y)) (record { east = omega (arith, h.east); north = omega (arith, h.north) })
        ∙ (λ i. place (back i) (n - 1 - p.x))

  -- a place outside turns into itself
  turn_outside : (f r : ℕ) (p : Place) → (nat_lt p.x n && nat_lt p.y n) ≡ false → turn_place n f r p ≡ p
  turn_outside f r p e =
      let flipped : flip_place n p ≡ p = ap (λ t. cond t (place (n - 1 - p.x) p.y) p) e in
      let quartered : quarter_place n p ≡ p = ap (λ t. cond t (place (n - 1 - p.y) p.x) p) e in
      ap (times r (quarter_place n)) (times_stay (flip_place n) p flipped f) ∙ times_stay (quarter_place n) p quartered r

  pub place_outside : (x y t : ℕ) → t ≤ 7 → (n ≤ x) ⊎ ((x < n) × (n ≤ y)) → Ok (x, y) ≡ turned_place_of n x y t
  place_outside x y t h off =
      let test : (nat_lt x n && nat_lt y n) ≡ false = grind (arith, nat_tests) in
      let turns : nat_lt 7 t ≡ false = grind (arith, nat_tests) in
      let same = turn_outside (t / 4) (t % 4) (place x y) test in
      sym (λ i. cond (turns i) (Err OutOfRange) (Ok ((same i).x, (same i).y)))
