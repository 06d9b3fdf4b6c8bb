-- The turns of a grid that undo themselves: identity, transposition and flip.
use Rattle.std.proofs.Common.{◌≡◌, ℕ, zero, suc, ◌+◌, ◌-◌, ◌*◌, ◌/◌, ◌%◌, ◌^◌, ◌<◌, ◌≤◌, max, Bool, true, false, not, ◌&&◌, ◌||◌, eqb, ltb, ℤ, pos, ◌+ℤ◌, neg_ℤ, nat_abs, sym, refl, ap, ◌∙◌, inl, inr, mod-lt, div-lt_iff_lt-mul, pow-suc, div-add-mod', arith}
use lib.Arith.{digits_lt}
use lib.Signed.{quot_z}
use borrow.Author.Differences.{ints}
use Rattle.std.proofs.lemmas.Bool.{cases_eq}
use Rattle.basin.specs.declared.leaf.Leaf.{Leaf}
use Rattle.basin.specs.Blocks.{block, block_sum}
use Rattle.basin.specs.Records.{dry}
use Rattle.basin.specs.Squares.{near, next, touch, edge, some_square}
use Rattle.basin.specs.Sums.{grid, only}
use Rattle.basin.proofs.Sizes.{side_pos, side_times}
use Rattle.runs.specs.Changes.{twin, both}
use Rattle.basin.specs.Finish.{clipped, finish}
use Rattle.runs.specs.Turns.{flip_leaf, transpose_leaf}
use Rattle.runs.proofs.Limits.{abs_negate}
use Rattle.runs.proofs.Sounds.{inside}
use Rattle.runs.proofs.Sums.{grid_cong, grid_flip, grid_across}
use Rattle.runs.proofs.Turns.{neg_add, clip_neg, quot_neg}
use Rattle.runs.proofs.Views.{flip_digits, flip_div}

-- ---- tests over the grid
pub some_square_cong : (n : ℕ) (P Q : ℕ → ℕ → Bool) → ((x y : ℕ) → x < n → y < n → P x y ≡ Q x y) → some_square n P ≡ some_square n Q
some_square_cong n P Q h = ap (λ m. ltb 0 m) (grid_cong n (λ x y. only (P x y) 1) (λ x y. only (Q x y) 1) (λ x y a b. ap (λ z. only z 1) (h x y a b)))

abbrev fourfold : ℕ → (ℕ → ℕ → Leaf) → ℕ → ℕ → Leaf
fourfold s g x y = both (both (g x y) (g (twin s x) y)) (both (g x (twin s y)) (g (twin s x) (twin s y)))

abbrev tog : ℕ → ℕ → ℕ → ℕ → ℕ → ℕ → Bool
tog L k x y x' y' = eqb (x / 2 ^ (L - k)) (x' / 2 ^ (L - k)) && eqb (y / 2 ^ (L - k)) (y' / 2 ^ (L - k))

-- a turn of the places that undoes itself, with what it does to a record
pub record Symmetry (L : ℕ) (fx fy : ℕ → ℕ → ℕ) (ρ : Leaf → Leaf) : Type 0 where
  pub in_x : (x y : ℕ) → x < 2 ^ L → y < 2 ^ L → fx x y < 2 ^ L
  pub in_y : (x y : ℕ) → x < 2 ^ L → y < 2 ^ L → fy x y < 2 ^ L
  pub back_x : (x y : ℕ) → x < 2 ^ L → y < 2 ^ L → fx (fx x y) (fy x y) ≡ x
  pub back_y : (x y : ℕ) → x < 2 ^ L → y < 2 ^ L → fy (fx x y) (fy x y) ≡ y
  pub blocks : (k x y x' y' : ℕ) → k ≤ L → x < 2 ^ L → y < 2 ^ L → x' < 2 ^ L → y' < 2 ^ L
      → tog L k x y x' y' ≡ tog L k (fx x y) (fy x y) (fx x' y') (fy x' y')
  pub touches : (x y x' y' : ℕ) → x < 2 ^ L → y < 2 ^ L → x' < 2 ^ L → y' < 2 ^ L → touch x y x' y' ≡ touch (fx x y) (fy x y) (fx x' y') (fy x' y')
  pub edges : (x y x' y' : ℕ) → x < 2 ^ L → y < 2 ^ L → x' < 2 ^ L → y' < 2 ^ L → edge x y x' y' ≡ edge (fx x y) (fy x y) (fx x' y') (fy x' y')
  pub sums : (f : ℕ → ℕ → ℕ) → grid (2 ^ L) (λ x y. f (fx x y) (fy x y)) ≡ grid (2 ^ L) f
  pub patches : (f f' : ℕ → ℕ → ℕ) → ((x y : ℕ) → x < 2 ^ L → y < 2 ^ L → f' x y ≡ f (fx x y) (fy x y))
      → (k x y : ℕ) → k ≤ L → x < 2 ^ L → y < 2 ^ L
      → block_sum L f' (block k (x / 2 ^ (L - k)) (y / 2 ^ (L - k))) ≡ block_sum L f (block k (fx x y / 2 ^ (L - k)) (fy x y / 2 ^ (L - k)))
  pub fours : (k x y : ℕ) → 0 < k → k ≤ L → x < 2 ^ L → y < 2 ^ L → (g : ℕ → ℕ → Leaf)
      → fourfold (2 ^ (L - k)) (λ a b. g (fx a b) (fy a b)) x y ≡ fourfold (2 ^ (L - k)) g (fx x y) (fy x y)
  pub ρ_water : (l : Leaf) → (ρ l).water ≡ l.water
  pub ρ_both : (a b : Leaf) → ρ (both a b) ≡ both (ρ a) (ρ b)
  pub ρ_dry : ρ dry ≡ dry
  pub ρ_finish : (a w : ℕ) (l : Leaf) → finish a w (ρ l).east (ρ l).north ≡ ρ (finish a w l.east l.north)
  pub ρ_share : (a w : ℕ) (l : Leaf) → finish a w (quot_z (ρ l).east (pos 4)) (quot_z (ρ l).north (pos 4))
      ≡ ρ (finish a w (quot_z l.east (pos 4)) (quot_z l.north (pos 4)))
  pub ρ_pace : (w : ℕ) (l : Leaf) → max (nat_abs (ρ l).east / w) (nat_abs (ρ l).north / w) ≡ max (nat_abs l.east / w) (nat_abs l.north / w)
  pub ρ_slow : (m : ℕ) (l : Leaf) → nat_abs l.east ≤ m → nat_abs l.north ≤ m → (nat_abs (ρ l).east ≤ m) × (nat_abs (ρ l).north ≤ m)

-- the place beside x stays on the grid
pub twin_in : (L k x : ℕ) → 0 < k → k ≤ L → x < 2 ^ L → twin (2 ^ (L - k)) x < 2 ^ L
twin_in L zero x z h a = absurd (omega arith)
twin_in L (suc k) x z h a =
    let s = 2 ^ (L - suc k) in
    let p = side_pos (L - suc k) in
    let e = side_times L (suc k) h in
    let b : x < 2 ^ suc k * s = rw e at a in
    let q : x / s < 2 ^ suc k = (div-lt_iff_lt-mul p).1 b in
    let r : x % s < s = mod-lt x p in
    let dm = div-add-mod' x s in
    elim (cases_eq (x / s % 2) 0) [
      | inl ev ↦
          let t : eqb (x / s % 2) 0 ≡ true = grind arith in
          let up : (x / s + 1) * s + x % s < 2 ^ suc k * s = digits_lt (omega arith) r in
          rw t (omega arith)
      | inr od ↦
          let t : eqb (x / s % 2) 0 ≡ false = grind arith in
          rw t (omega arith)
    ]

-- ---- the place that stays
pub still : (L : ℕ) → Symmetry L (λ x y. x) (λ x y. y) (λ l. l)
still L =
    record {
      in_x = λ x y a b. a;
      in_y = λ x y a b. b;
      back_x = λ x y a b. refl;
      back_y = λ x y a b. refl;
      blocks = λ k x y x' y' h a b a' b'. refl;
      touches = λ x y x' y' a b a' b'. refl;
      edges = λ x y x' y' a b a' b'. refl;
      sums = λ f. refl;
      patches = λ f f' h k x y i a b.
          let s = 2 ^ (L - k) in
          let z = side_pos (L - k) in
          let e = side_times L k i in
          let a' : x < 2 ^ k * s = rw e at a in
          let b' : y < 2 ^ k * s = rw e at b in
          let p : x / s < 2 ^ k = (div-lt_iff_lt-mul z).1 a' in
          let q : y / s < 2 ^ k = (div-lt_iff_lt-mul z).1 b' in
          grid_cong s (λ i j. f' (x / s * s + i) (y / s * s + j)) (λ i j. f (x / s * s + i) (y / s * s + j))
          (λ i' j' c d. h (x / s * s + i') (y / s * s + j') (inside L k (x / s) i' i p c) (inside L k (y / s) j' i q d));
      fours = λ k x y z h a b g. refl;
      ρ_water = λ l. refl;
      ρ_both = λ a b. refl;
      ρ_dry = refl;
      ρ_finish = λ a w l. refl;
      ρ_share = λ a w l. refl;
      ρ_pace = λ w l. refl;
      ρ_slow = λ m l a b. (a, b);
    }

-- ---- the transposition
and_across : (a b : Bool) → (a && b) ≡ (b && a)
and_across true true = refl
and_across true false = refl
and_across false true = refl
and_across false false = refl

pub or_across : (a b : Bool) → (a || b) ≡ (b || a)
or_across true true = refl
or_across true false = refl
or_across false true = refl
or_across false false = refl

middle : (a b c d : ℤ) → a +ℤ b +ℤ (c +ℤ d) ≡ a +ℤ c +ℤ (b +ℤ d)
middle a b c d = omega (arith, ints)

middle_ℕ : (a b c d : ℕ) → a + b + (c + d) ≡ a + c + (b + d)
middle_ℕ a b c d = omega arith

four_across : (a b c d : Leaf) → both (both a b) (both c d) ≡ both (both a c) (both b d)
four_across a b c d = λ i. record {
  water = middle_ℕ a.water b.water c.water d.water i;
  east = middle a.east b.east c.east d.east i;
  north = middle a.north b.north c.north d.north i;
}

max_across : (a b : ℕ) → max a b ≡ max b a
max_across a b = omega arith

pub transposed : (L : ℕ) → Symmetry L (λ x y. y) (λ x y. x) transpose_leaf
transposed L =
    record {
      in_x = λ x y a b. b;
      in_y = λ x y a b. a;
      back_x = λ x y a b. refl;
      back_y = λ x y a b. refl;
      blocks = λ k x y x' y' h a b a' b'. and_across (eqb (x / 2 ^ (L - k)) (x' / 2 ^ (L - k))) (eqb (y / 2 ^ (L - k)) (y' / 2 ^ (L - k)));
      touches = λ x y x' y' a b a' b'. and_across (near x x') (near y y');
      edges = λ x y x' y' a b a' b'. or_across (eqb x x' && next y y') (eqb y y' && next x x');
      sums = λ f. grid_across (2 ^ L) f;
      patches = λ f f' h k x y i a b.
          (still L).patches (λ x y. f y x) f' (λ x y a b. h x y a b) k x y i a b
          ∙ grid_across (2 ^ (L - k)) (λ p q. f (y / 2 ^ (L - k) * 2 ^ (L - k) + p) (x / 2 ^ (L - k) * 2 ^ (L - k) + q));
      fours = λ k x y z h a b g.
          let s = 2 ^ (L - k) in four_across (g y x) (g y (twin s x)) (g (twin s y) x) (g (twin s y) (twin s x));
      ρ_water = λ l. refl;
      ρ_both = λ a b. refl;
      ρ_dry = refl;
      ρ_finish = λ a w l. refl;
      ρ_share = λ a w l. refl;
      ρ_pace = λ w l. max_across (nat_abs l.north / w) (nat_abs l.east / w);
      ρ_slow = λ m l a b. (b, a);
    }

-- ---- the flip
flip_eqb : (m q q' : ℕ) → q < m → q' < m → eqb (m - 1 - q) (m - 1 - q') ≡ eqb q q'
flip_eqb m q q' a b = grind arith

flip_near : (n x x' : ℕ) → x < n → x' < n → near (n - 1 - x) (n - 1 - x') ≡ near x x'
flip_near n x x' a b = grind arith

flip_next : (n x x' : ℕ) → x < n → x' < n → next (n - 1 - x) (n - 1 - x') ≡ next x x'
flip_next n x x' a b = grind arith

flip_parity : (m q : ℕ) → q < m * 2 → eqb ((m * 2 - 1 - q) % 2) 0 ≡ not (eqb (q % 2) 0)
flip_parity m q a = grind arith

place_in : (L k x : ℕ) → k ≤ L → x < 2 ^ L → x / 2 ^ (L - k) < 2 ^ k
place_in L k x h a =
    let e = side_times L k h in
    let b : x < 2 ^ k * 2 ^ (L - k) = rw e at a in
    (div-lt_iff_lt-mul (side_pos (L - k))).1 b

flip_twin : (L k x : ℕ) → 0 < k → k ≤ L → x < 2 ^ L → 2 ^ L - 1 - twin (2 ^ (L - k)) x ≡ twin (2 ^ (L - k)) (2 ^ L - 1 - x)
flip_twin L zero x z h a = absurd (omega arith)
flip_twin L (suc k) x z h a =
    let s = 2 ^ (L - suc k) in
    let q = x / s in
    let i = place_in L (suc k) x h a in
    let t = twin_in L (suc k) x z h a in
    let fd = flip_div L (suc k) x h a in
    let pw = pow-suc 2 k in
    let par : eqb ((2 ^ L - 1 - x) / s % 2) 0 ≡ not (eqb (q % 2) 0) =
    ap (λ m. eqb (m % 2) 0) fd ∙ ap (λ m. eqb ((m - 1 - q) % 2) 0) pw ∙ flip_parity (2 ^ k) q (omega arith) in
    go (eqb (q % 2) 0) refl par t
  where
    go : (e : Bool) → eqb (x / 2 ^ (L - suc k) % 2) 0 ≡ e → eqb ((2 ^ L - 1 - x) / 2 ^ (L - suc k) % 2) 0 ≡ not (eqb (x / 2 ^ (L - suc k) % 2) 0)
        → twin (2 ^ (L - suc k)) x < 2 ^ L
        → 2 ^ L - 1 - twin (2 ^ (L - suc k)) x ≡ twin (2 ^ (L - suc k)) (2 ^ L - 1 - x)
    go true e f t =
        let f' : eqb ((2 ^ L - 1 - x) / 2 ^ (L - suc k) % 2) 0 ≡ false = f ∙ ap not e in
        let t' : x + 2 ^ (L - suc k) < 2 ^ L = rw e at t in
        rw (e, f') (omega arith)
    go false e f t =
        let f' : eqb ((2 ^ L - 1 - x) / 2 ^ (L - suc k) % 2) 0 ≡ true = f ∙ ap not e in
        let odd : x / 2 ^ (L - suc k) % 2 ≡ 1 = grind arith in
        let dm = div-add-mod' x (2 ^ (L - suc k)) in
        let big : 1 * 2 ^ (L - suc k) ≤ x / 2 ^ (L - suc k) * 2 ^ (L - suc k) = native.Mathlib.Nat.mul-le-mul_right (2 ^ (L - suc k)) (omega arith) in
        rw (e, f') (omega arith)

neg_quot : (z : ℤ) → quot_z (neg_ℤ z) (pos 4) ≡ neg_ℤ (quot_z z (pos 4))
neg_quot z = quot_neg z 4

pub flipped : (L : ℕ) → Symmetry L (λ x y. 2 ^ L - 1 - x) (λ x y. y) flip_leaf
flipped L =
    record {
      in_x = λ x y a b. omega arith;
      in_y = λ x y a b. b;
      back_x = λ x y a b. omega arith;
      back_y = λ x y a b. refl;
      blocks = λ k x y x' y' h a b a' b'.
          let e : eqb (x / 2 ^ (L - k)) (x' / 2 ^ (L - k)) ≡ eqb ((2 ^ L - 1 - x) / 2 ^ (L - k)) ((2 ^ L - 1 - x') / 2 ^ (L - k)) =
          sym (flip_eqb (2 ^ k) (x / 2 ^ (L - k)) (x' / 2 ^ (L - k)) (place_in L k x h a) (place_in L k x' h a'))
          ∙ sym (λ i. eqb (flip_div L k x h a i) (flip_div L k x' h a' i)) in
          λ i. e i && eqb (y / 2 ^ (L - k)) (y' / 2 ^ (L - k));
      touches = λ x y x' y' a b a' b'. λ i. sym (flip_near (2 ^ L) x x' a a') i && near y y';
      edges = λ x y x' y' a b a' b'. λ i. (sym (flip_eqb (2 ^ L) x x' a a') i && next y y') || (eqb y y' && sym (flip_next (2 ^ L) x x' a a') i);
      sums = λ f. grid_flip (2 ^ L) f;
      patches = λ f f' h k x y i a b.
          let s = 2 ^ (L - k) in
          let p = place_in L k x i a in
          let q = place_in L k y i b in
          grid_cong s (λ i j. f' (x / s * s + i) (y / s * s + j)) (λ i j. f ((2 ^ k - 1 - x / s) * s + (s - 1 - i)) (y / s * s + j))
          (λ i' j' c d. h (x / s * s + i') (y / s * s + j') (inside L k (x / s) i' i p c) (inside L k (y / s) j' i q d)
          ∙ ap (λ m. f m (y / s * s + j')) (flip_digits (2 ^ L) (2 ^ k) s (x / s) i' (side_times L k i) p c))
          ∙ grid_flip s (λ i j. f ((2 ^ k - 1 - x / s) * s + i) (y / s * s + j))
          ∙ ap (λ m. block_sum L f (block k m (y / s))) (sym (flip_div L k x i a));
      fours = λ k x y z h a b g.
          let s = 2 ^ (L - k) in
          ap (λ m. both (both (g (2 ^ L - 1 - x) y) (g m y)) (both (g (2 ^ L - 1 - x) (twin s y)) (g m (twin s y)))) (flip_twin L k x z h a);
      ρ_water = λ l. refl;
      ρ_both = λ a b. λ i. record { water = a.water + b.water; east = neg_add a.east b.east i; north = a.north +ℤ b.north };
      ρ_dry = refl;
      ρ_finish = λ a w l. λ i. record { water = w; east = clip_neg (10000 * w) l.east i; north = clipped (10000 * w) l.north };
      ρ_share = λ a w l. λ i. record {
        water = w;
        east = (ap (clipped (10000 * w)) (neg_quot l.east)
            ∙ clip_neg (10000 * w) (quot_z l.east (pos 4))) i;
        north = clipped (10000 * w) (quot_z l.north (pos 4));
      };
      ρ_pace = λ w l. ap (λ m. max (m / w) (nat_abs l.north / w)) (abs_negate l.east);
      ρ_slow = λ m l a b. (omega (arith, abs_negate l.east), b);
    }
