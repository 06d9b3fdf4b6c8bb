-- The tests tell the valid basins.
use Rattle.std.proofs.Common.{◌≡◌, ℕ, ◌+◌, ◌*◌, ◌/◌, ◌<◌, ◌≤◌, Bool, true, false, cond, not, ◌||◌, eqb, ltb, ◌⊎◌, List, length, Ok, Err, Result, sym, refl, ap, ◌∙◌, inl, inr, arith}
use Rattle.std.proofs.lemmas.Bool.{cases_Bool, and_left, and_right, or_from, le-ltb, ltb-false, eqb-true, eq-eqb}
use Rattle.basin.specs.declared.head.Head.{Head}
use Rattle.basin.specs.declared.refusal.Refusal.{Refusal}
use Rattle.basin.specs.declared.refusal.Refusal.TheVariants.{TableLength, NotABasin}
use Rattle.basin.specs.Basins.{Heading, heading, Tables, Basin, side, view, Valid, Heads, Full, ValidBasin}
use Rattle.basin.specs.Flaws.{same_record, bad_record, flaw_at, flaw_between, flawed, no_head, unfit, misfit, no_basin, validity, TellsBasins}
use Rattle.basin.specs.Records.{may_hold, may_run, InRange}
use Rattle.basin.specs.Squares.{area, same_block, some_square, some_pair, touch, unbalanced}
use Rattle.basin.specs.Views.{View, size, side_of}
use Rattle.basin.proofs.Found.{none, is_none, none_pair, is_none_pair}
use Rattle.basin.proofs.Tests.{or_false, not_and, not_true, true_and, and_true, to_touch, from_touch, to_same_block, from_same_block, same_record_true, same_record_refl}

-- ---- a square's own numbers
record GoodSquare (v : View) (x y : ℕ) : Type 0 where
  pub shallow : v.level x y ≤ v.L
  pub low_bed : v.bed x y ≤ 30000
  pub in_range : InRange (area v (v.level x y)) (v.leaf x y)

good_square : (v : View) (x y : ℕ) → flaw_at v x y ≡ false → GoodSquare v x y
good_square v x y e =
    let a = area v (v.level x y) in
    let l = v.leaf x y in
    let p = or_false (ltb v.L (v.level x y)) (ltb 30000 (v.bed x y) || bad_record a l) e in
    let q = or_false (ltb 30000 (v.bed x y)) (bad_record a l) p.1 in
    let r = or_false (not (may_hold a l.water)) (not (may_run l.water l.east) || not (may_run l.water l.north)) q.1 in
    let s = or_false (not (may_run l.water l.east)) (not (may_run l.water l.north)) r.1 in
    record {
      shallow = ltb-false v.L (v.level x y) p.0;
      low_bed = ltb-false 30000 (v.bed x y) q.0;
      in_range = record { room = not_true _ r.0; east = not_true _ s.0; north = not_true _ s.1 };
    }

good_squares : (v : View) → some_square (size v) (flaw_at v) ≡ false → (x y : ℕ) → x < size v → y < size v → GoodSquare v x y
good_squares v e x y a b = good_square v x y (none (size v) (flaw_at v) e x y a b)

no_flaw_at : (v : View) (x y : ℕ) → GoodSquare v x y → flaw_at v x y ≡ false
no_flaw_at v x y g =
    or_from _ _ (le-ltb v.L (v.level x y) g.shallow)
    (or_from _ _ (le-ltb 30000 (v.bed x y) g.low_bed)
    (or_from _ _ (ap not g.in_range.room) (or_from _ _ (ap not g.in_range.east) (ap not g.in_range.north))))

-- ---- two squares of one leaf
pub alike : (v : View) (x y p q : ℕ) → flaw_between v x y p q ≡ false
    → x / side_of v (v.level x y) ≡ p / side_of v (v.level x y) → y / side_of v (v.level x y) ≡ q / side_of v (v.level x y)
    → (v.level p q ≡ v.level x y) × (v.leaf p q ≡ v.leaf x y)
alike v x y p q e f g =
    let t = not_true _ (not_and (same_block v (v.level x y) x y p q) _ e (to_same_block v (v.level x y) x y p q f g)) in
    let u = and_true (eqb (v.level p q) (v.level x y)) (same_record (v.leaf p q) (v.leaf x y)) t in
    (eqb-true (v.level p q) (v.level x y) u.0, same_record_true (v.leaf p q) (v.leaf x y) u.1)

pub no_flaw_between : (v : View) (x y p q : ℕ)
    → (x / side_of v (v.level x y) ≡ p / side_of v (v.level x y) → y / side_of v (v.level x y) ≡ q / side_of v (v.level x y)
    → (v.level p q ≡ v.level x y) × (v.leaf p q ≡ v.leaf x y))
    → flaw_between v x y p q ≡ false
no_flaw_between v x y p q h =
    elim (cases_Bool (same_block v (v.level x y) x y p q)) [
      | inl t ↦
          let e = from_same_block v (v.level x y) x y p q t in
          let u = h e.0 e.1 in
          let r = ap (λ l. same_record l (v.leaf x y)) u.1 ∙ same_record_refl (v.leaf x y) in
          and_right _ _ (ap not (true_and _ _ (eq-eqb (v.level p q) (v.level x y) u.0) r))
      | inr t ↦ and_left _ _ t
    ]

-- ---- all squares
module _ (v : View) (good : Valid v) where
  no_unbalance : unbalanced (size v) v.level ≡ false
  unfolding unbalanced
  no_unbalance =
      is_none_pair (size v) _ (λ x y p q a b c d.
      elim (cases_Bool (touch x y p q)) [
        | inl t ↦
            let u = from_touch x y p q t in
            and_right _ _ (le-ltb (v.level p q + 1) (v.level x y) (good.quadtree.balanced x y p q a b c d u.0 u.1 u.2 u.3))
        | inr t ↦ and_left _ _ t
      ])

  pub no_flaw : flawed v ≡ false
  unfolding flawed
  no_flaw =
      let own = is_none (size v) (flaw_at v) (λ x y a b. no_flaw_at v x y (numbers x y a b)) in
      let same = good.quadtree.uniform in
      let between = is_none_pair (size v) (flaw_between v) (λ x y p q a b c d. no_flaw_between v x y p q (same x y p q a b c d)) in
      or_from _ _ own (or_from _ _ between no_unbalance)
    where
      numbers : (x y : ℕ) → x < size v → y < size v → GoodSquare v x y
      numbers x y a b =
          record { shallow = good.quadtree.shallow x y a b; low_bed = good.low_beds x y a b; in_range = good.in_range x y a b }

pub flawless : (v : View) → flawed v ≡ false → Valid v
unfolding flawed unbalanced
flawless v e =
    let p = or_false (some_square (size v) (flaw_at v)) (some_pair (size v) (flaw_between v) || unbalanced (size v) v.level) e in
    let q = or_false (some_pair (size v) (flaw_between v)) (unbalanced (size v) v.level) p.1 in
    let own = good_squares v p.0 in
    record {
      quadtree =
          record {
            shallow = λ x y a b. (own x y a b).shallow;
            uniform = λ x y f g a b c d. alike v x y f g (none_pair (size v) (flaw_between v) q.0 x y f g a b c d);
            balanced = λ x y f g a b c d h i j k.
                ltb-false (v.level f g + 1) (v.level x y)
                (not_and (touch x y f g) _ (none_pair (size v) _ q.1 x y f g a b c d) (to_touch x y f g h i j k));
          };
      low_beds = λ x y a b. (own x y a b).low_bed;
      in_range = λ x y a b. (own x y a b).in_range;
    }

-- ---- head and lengths
pub head_in_range : (h : Head) → Heads (heading h)
head_in_range h = record { levels = omega arith; width_least = omega arith; width_most = omega arith; loose = omega arith }

good_head : (h : Heading) → no_head h ≡ false → Heads h
good_head h e =
    let p = or_false (ltb 6 h.L) (ltb h.d 1 || (ltb 1000 h.d || ltb 1000000 h.loose)) e in
    let q = or_false (ltb h.d 1) (ltb 1000 h.d || ltb 1000000 h.loose) p.1 in
    let r = or_false (ltb 1000 h.d) (ltb 1000000 h.loose) q.1 in
    record {
      levels = ltb-false 6 h.L p.0;
      width_least = ltb-false h.d 1 q.0;
      width_most = ltb-false 1000 h.d r.0;
      loose = ltb-false 1000000 h.loose r.1;
    }

pub no_bad_head : (h : Heading) → Heads h → no_head h ≡ false
no_bad_head h g =
    or_from _ _ (le-ltb 6 h.L g.levels)
    (or_from _ _ (le-ltb h.d 1 g.width_least)
    (or_from _ _ (le-ltb 1000 h.d g.width_most) (le-ltb 1000000 h.loose g.loose)))

fit : {A : Type 0} (h : Heading) (xs : List A) → unfit h xs ≡ false → length xs ≡ side h * side h
fit h xs e = eqb-true (length xs) (side h * side h) (not_true _ e)

not_unfit : {A : Type 0} (h : Heading) (xs : List A) → length xs ≡ side h * side h → unfit h xs ≡ false
not_unfit h xs e = ap not (eq-eqb (length xs) (side h * side h) e)

pub full : (h : Heading) (t : Tables) → misfit h t ≡ false → Full h t
unfolding misfit
full h t e =
    let p = or_false (unfit h t.levels) (unfit h t.beds || unfit h t.leaves) e in
    let q = or_false (unfit h t.beds) (unfit h t.leaves) p.1 in
    record { levels = fit h t.levels p.0; beds = fit h t.beds q.0; leaves = fit h t.leaves q.1 }

pub no_misfit : (h : Heading) (t : Tables) → Full h t → misfit h t ≡ false
unfolding misfit
no_misfit h t f =
    or_from _ _ (not_unfit h t.levels f.levels)
    (or_from _ _ (not_unfit h t.beds f.beds) (not_unfit h t.leaves f.leaves))

-- the same by the lengths, against the entries n that a table should have
pub are_full : (h : Heading) (t : Tables) (n : ℕ) → n ≡ side h * side h
    → length t.levels ≡ n → length t.beds ≡ n → length t.leaves ≡ n → Full h t
are_full h t n e l b r = record { levels = l ∙ e; beds = b ∙ e; leaves = r ∙ e }

pub not_full : (h : Heading) (t : Tables) (n : ℕ) → n ≡ side h * side h
    → (length t.levels ≡ n → ⊥) ⊎ ((length t.levels ≡ n) × (length t.beds ≡ n → ⊥)) ⊎ ((length t.levels ≡ n) × (length t.beds ≡ n) × (length t.leaves ≡ n → ⊥))
    → Full h t → ⊥
not_full h t n e (inl w) f = w (f.levels ∙ sym e)
not_full h t n e (inr (inl w)) f = w.1 (f.beds ∙ sym e)
not_full h t n e (inr (inr w)) f = w.2 (f.leaves ∙ sym e)

pub is_misfit : (h : Heading) (t : Tables) → (Full h t → ⊥) → misfit h t ≡ true
is_misfit h t n = elim (cases_Bool (misfit h t)) [ inl e ↦ e | inr e ↦ absurd (n (full h t e)) ]

-- ---- the whole basin
valid_basin : (b : Basin) → (misfit b.head b.tables ≡ false) × (no_basin b ≡ false) → ValidBasin b
unfolding no_basin
valid_basin b e =
    let p = or_false (no_head b.head) (flawed (view b)) e.1 in
    record { head = good_head b.head p.0; full = full b.head b.tables e.0; squares = flawless (view b) p.1 }

no_flaws : (b : Basin) → ValidBasin b → (misfit b.head b.tables ≡ false) × (no_basin b ≡ false)
unfolding no_basin
no_flaws b g =
    (no_misfit b.head b.tables g.full, or_from _ _ (no_bad_head b.head g.head) (no_flaw (view b) g.squares))

pub tells_basins : TellsBasins
tells_basins = (valid_basin, no_flaws)

-- the first two refusals are spoken of no valid basin, and of nothing else
pub misfit_validity : (b : Basin) → (Full b.head b.tables → ⊥) → validity b ≡ Err TableLength
unfolding validity
misfit_validity b n = rw (is_misfit b.head b.tables n) refl

pub full_validity : (b : Basin) → Full b.head b.tables → validity b ≡ cond (no_basin b) (Err NotABasin) (Ok tt)
unfolding validity
full_validity b f = rw (no_misfit b.head b.tables f) refl

pub valid_told : (b : Basin) → ValidBasin b → validity b ≡ Ok tt
unfolding validity
valid_told b v = let t = tells_basins.1 b v in rw (t.0, t.1) refl

pub told_is_valid : (b : Basin) → validity b ≡ Ok tt → ValidBasin b
unfolding validity
told_is_valid b h = tells_basins.0 b (both (misfit b.head b.tables) (no_basin b) h)
  where
    both : (short flaw : Bool) → ◌≡◌ {A = Result (Unit {0}) Refusal} (cond short (Err TableLength) (cond flaw (Err NotABasin) (Ok tt))) (Ok tt)
        → (short ≡ false) × (flaw ≡ false)
    both true flaw e = let z : ◌≡◌ {A = ℕ} 0 1 = cc in absurd (omega arith)
    both false true e = let z : ◌≡◌ {A = ℕ} 0 1 = cc in absurd (omega arith)
    both false false e = (refl, refl)
