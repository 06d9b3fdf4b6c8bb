-- Rows and blocks of a table, filled one entry at a time, and what stands in them then.
use Rattle.std.proofs.Common.{◌≡◌, ℕ, zero, suc, ◌+◌, ◌*◌, ◌/◌, ◌%◌, ◌<◌, ◌≤◌, Bool, true, false, cond, ◌&&◌, eqb, ◌≢◌, List, length, get_or, set, sym, refl, ap, ◌∙◌, ⊎_elim, mul-le-mul_right, mod-lt, add-mul, one-mul, div-add-mod', add-one, arith, length-set, get_or-set_other, get_or-set_same}
use lib.Arith.{digits_mod, digits_div}
use Rattle.std.proofs.lemmas.Bool.{cases_eq, eqb-true, eq-eqb}
use borrow.Rule.Slice.PartMut.{put_mid, post_of}
use Rattle.std.proofs.lemmas.List.{set-append_left, set-append_right, take-append-drop, length-take, length-take-le, length-drop}
use Rattle.std.proofs.Common.{take, drop, ◌-◌, ◌++◌}
use Rattle.basin.specs.Fills.{row, square}
use Rattle.basin.specs.Tables.{entry}
use Rattle.basin.proofs.Tests.{and_true, true_and, differ}

-- ---- one entry more
-- row j of a square lies in the table
pub inside : (corner j wide n len : ℕ) → j < wide → corner + wide * n + wide ≤ len + n → corner + j * n + wide ≤ len
inside corner j wide n len h k =
    let m : j + 1 ≤ wide = omega arith in
    omega (arith, mul-le-mul_right n m, add-mul j 1 n, one-mul n)

pub row_none : {A : Type 0} (p : ℕ) (v : A) (t : List A) → t ≡ row 0 p v t
unfolding row
row_none p v t = refl

pub row_more : {A : Type 0} (i p : ℕ) (v : A) (t : List A) → set (row i p v t) (p + i) v ≡ row (i + 1) p v t
unfolding row
row_more i p v t = rw add-one refl

pub row_first_more : {A : Type 0} (i : ℕ) (v : A) (t : List A) → set (row i 0 v t) i v ≡ row (i + 1) 0 v t
unfolding row
row_first_more i v t =
    let e : i ≡ 0 + i = omega arith in
    rw add-one (ap (λ k. set (row i 0 v t) k v) e)

pub square_none : {A : Type 0} (n wide p : ℕ) (v : A) (t : List A) → t ≡ square 0 n wide p v t
unfolding square
square_none n wide p v t = refl

pub square_more : {A : Type 0} (j n wide p : ℕ) (v : A) (t : List A) → row wide (p + j * n) v (square j n wide p v t) ≡ square (j + 1) n wide p v t
unfolding square
square_more j n wide p v t = rw add-one refl

-- ---- lengths
pub length_row : {A : Type 0} (i p : ℕ) (v : A) (t : List A) → length (row i p v t) ≡ length t
unfolding row
length_row zero p v t = refl
length_row (suc i) p v t = length-set (row i p v t) (p + i) v ∙ length_row i p v t

pub length_square : {A : Type 0} (j n w p : ℕ) (v : A) (t : List A) → length (square j n w p v t) ≡ length t
unfolding square
length_square zero n w p v t = refl
length_square (suc j) n w p v t = length_row w (p + j * n) v (square j n w p v t) ∙ length_square j n w p v t

-- ---- a row as a part of the table
set_put_back : {A : Type 0} (k a n : ℕ) (v : A) (t b : List A) → a ≤ length t → k < length b → put_mid a n t (set b k v) ≡ set (put_mid a n t b) (a + k) v
set_put_back k a n v t b h m =
    let e : a + k - a ≡ k = omega arith in
    sym (set-append_right (take a t) (b ++ post_of a n t) a (a + k) v (length-take-le a t h) (omega arith) ∙ ap (λ z. take a t ++ z) (rw e (set-append_left b (post_of a n t) k v m)))

-- the entries of a part
pub length_part : {A : Type 0} (a n : ℕ) (t : List A) → a + n ≤ length t → length (take (a + n - a) (drop a t)) ≡ n
length_part a n t h = rw (length-take (a + n - a) (drop a t), length-drop a t) (omega arith)

-- the part's first entries filled, and the part put back
pub row_put_back : {A : Type 0} (k a n : ℕ) (v : A) (t : List A) → k ≤ n → a + n ≤ length t → put_mid a n t (row k 0 v (take n (drop a t))) ≡ row k a v t
unfolding row
row_put_back zero a n v t h m = ap (λ z. take a t ++ z) (take-append-drop n (drop a t)) ∙ take-append-drop a t
row_put_back (suc k) a n v t h m =
    let z : 0 + k ≡ k = omega arith in
    let long : k < length (row k 0 v (take n (drop a t))) = rw (length_row k 0 v (take n (drop a t)), length-take n (drop a t), length-drop a t) (omega arith) in
    rw z (set_put_back k a n v t _ (omega arith) long ∙ ap (λ u. set u (a + k) v) (row_put_back k a n v t (omega arith) m))

-- ---- outside a block
-- place k lies in a block of rows by wide entries at p
abbrev pub In : (rows wide n p k : ℕ) → Type 0
In rows wide n p k = (j : ℕ) × (i : ℕ) × (j < rows) × (i < wide) × (k ≡ p + j * n + i)

row_out : {A : Type 0} (w p k : ℕ) (v d : A) (t : List A) → ((i : ℕ) → i < w → k ≡ p + i → ⊥) → get_or (row w p v t) k d ≡ get_or t k d
unfolding row
row_out zero p k v d t out = refl
row_out (suc w) p k v d t out =
    let ne : k ≢ p + w = λ e. out w (omega arith) e in
    rw (get_or-set_other) (row_out w p k v d t (λ i h e. out i (omega arith) e))

pub square_out : {A : Type 0} (rows n w p k : ℕ) (v d : A) (t : List A) → (In rows w n p k → ⊥) → get_or (square rows n w p v t) k d ≡ get_or t k d
unfolding square
square_out zero n w p k v d t out = refl
square_out (suc rows) n w p k v d t out =
    row_out w (p + rows * n) k v d (square rows n w p v t) (λ i h e. out (rows, i, omega arith, h, e))
    ∙ square_out rows n w p k v d t (λ h. out (h.0, h.1, omega arith, h.3, h.4))

-- ---- inside a block
row_in : {A : Type 0} (w p i : ℕ) (v d : A) (t : List A) → i < w → p + w ≤ length t → get_or (row w p v t) (p + i) d ≡ v
unfolding row
row_in zero p i v d t h l = absurd (omega arith)
row_in (suc w) p i v d t h l = ⊎_elim
    (λ (e : i ≡ w). let q : p + w < length (row w p v t) = omega (arith, length_row w p v t) in rw (e, get_or-set_same (row w p v t) (p + w) v d q))
    (λ (n : i ≡ w → ⊥). let ne : p + i ≢ p + w = λ e. n (omega arith) in rw get_or-set_other (row_in w p i v d t (omega arith) (omega arith)))
    (cases_eq i w)

pub square_in : {A : Type 0} (rows n w p j i : ℕ) (v d : A) (t : List A) → j < rows → i < w → w ≤ n → p + rows * n + w ≤ length t + n
    → get_or (square rows n w p v t) (p + j * n + i) d ≡ v
unfolding square
square_in zero n w p j i v d t r h m l = absurd (omega arith)
square_in (suc rows) n w p j i v d t r h m l =
    let more : suc rows * n ≡ rows * n + n = omega arith in
    ⊎_elim
    (λ (e : j ≡ rows).
    let at : j * n ≡ rows * n = ap (λ k. k * n) e in
    let q = row_in w (p + rows * n) i v d (square rows n w p v t) h (omega (arith, length_square rows n w p v t)) in
    rw at q)
    (λ (e : j ≡ rows → ⊥).
    let below : j + 1 ≤ rows = omega arith in
    let far = mul-le-mul_right n below in
    row_out w (p + rows * n) (p + j * n + i) v d (square rows n w p v t) (λ k b q. omega (arith, far, add-mul j 1 n, one-mul n))
    ∙ square_in rows n w p j i v d t (omega arith) h m (omega arith))
    (cases_eq j rows)

-- a place has one row and one column
pub same_column : (n p j i j' i' : ℕ) → i < n → i' < n → p + j * n + i ≡ p + j' * n + i' → (i ≡ i') × (j * n ≡ j' * n)
same_column n p j i j' i' h h' e =
    let f : j * n + i ≡ j' * n + i' = omega arith in
    let g : i ≡ i' = sym (digits_mod j h) ∙ (ap (λ x. x % n) f ∙ digits_mod j' h') in
    (g, omega arith)

-- ---- the squares of a basin
-- the block that is the X-th eastward and the Y-th northward of those of side s, of which m lie along a side of the basin
module _ {A : Type 0} (n m s X Y : ℕ) (e : n ≡ m * s) (z : 0 < s) (hX : X < m) (hY : Y < m) (v d : A) (t : List A) (all : length t ≡ n * n) where
  -- the block lies in the table
  pub block_fits : Y * s * n + X * s + s * n + s ≤ length t + n
  block_fits =
      let east : X + 1 ≤ m = omega arith in
      let north : Y + 1 ≤ m = omega arith in
      let a : X * s + s ≤ n = omega (arith, mul-le-mul_right s east, add-mul X 1 s, one-mul s) in
      let b : Y * s + s ≤ n = omega (arith, mul-le-mul_right s north, add-mul Y 1 s, one-mul s) in
      omega (arith, mul-le-mul_right n b, add-mul (Y * s) s n)

  -- v stands on the squares of the block, and what was there on the others
  pub filled_entry : (p q : ℕ) → p < n → q < n
      → entry n d (square s n s (Y * s * n + X * s) v t) p q ≡ cond (eqb X (p / s) && eqb Y (q / s)) v (entry n d t p q)
  filled_entry p q a b = go (eqb X (p / s) && eqb Y (q / s)) refl
    where
      wide : s ≤ n
      wide = let one : 1 ≤ m = omega arith in omega (arith, mul-le-mul_right s one, one-mul s)

      go : (b : Bool) → (eqb X (p / s) && eqb Y (q / s)) ≡ b → entry n d (square s n s (Y * s * n + X * s) v t) p q ≡ cond b v (entry n d t p q)
      go true h =
          let u = and_true (eqb X (p / s)) (eqb Y (q / s)) h in
          let x : X ≡ p / s = eqb-true X (p / s) u.0 in
          let y : Y ≡ q / s = eqb-true Y (q / s) u.1 in
          let at : q * n + p ≡ Y * s * n + X * s + q % s * n + p % s =
          ap (λ k. k * n + p) (sym (div-add-mod' q s)) ∙ omega (arith, add-mul (q / s * s) (q % s) n, div-add-mod' p s, ap (λ k. k * s) x, ap (λ k. k * s * n) y) in
          ap (λ k. get_or (square s n s (Y * s * n + X * s) v t) k d) at
          ∙ square_in s n s (Y * s * n + X * s) (q % s) (p % s) v d t (mod-lt q z) (mod-lt p z) wide block_fits
      go false h = square_out s n s (Y * s * n + X * s) (q * n + p) v d t (λ r.
          let east : X + 1 ≤ m = omega arith in
          let inside : X * s + r.1 < n = omega (arith, mul-le-mul_right s east, add-mul X 1 s, one-mul s, r.3) in
          let same : q * n + p ≡ (Y * s + r.0) * n + (X * s + r.1) = omega (arith, r.4, add-mul (Y * s) r.0 n) in
          let across : p ≡ X * s + r.1 = sym (digits_mod q a) ∙ ap (λ k. k % n) same ∙ digits_mod (Y * s + r.0) inside in
          let up : q ≡ Y * s + r.0 = sym (digits_div q a) ∙ ap (λ k. k / n) same ∙ digits_div (Y * s + r.0) inside in
          let x : X ≡ p / s = sym (ap (λ k. k / s) across ∙ digits_div X r.3) in
          let y : Y ≡ q / s = sym (ap (λ k. k / s) up ∙ digits_div Y r.2) in
          differ (eqb X (p / s) && eqb Y (q / s)) (true_and _ _ (eq-eqb X (p / s) x) (eq-eqb Y (q / s) y)) h)
