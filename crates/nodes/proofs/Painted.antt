-- A painted table has on each square of the tree's block the entry of the leaf that the square lies in, and elsewhere what it had.
use Rattle.std.proofs.Common.{◌≡◌, ℕ, zero, suc, pred, ◌+◌, ◌-◌, ◌*◌, ◌^◌, ◌<◌, ◌≤◌, List, length, get_or, sym, refl, ap, ◌∙◌, ⊎_elim, mul-le-mul_right, add-mul, one-mul, pow-suc, arith}
use Rattle.std.proofs.lemmas.Bool.{lt-ltb, le-ltb, cases_lt}
use Rattle.basin.specs.declared.leaf.Leaf.{Leaf}
use Rattle.basin.specs.Tables.{table}
use Rattle.basin.proofs.Fills.{length_square, In, square_out, square_in, same_column}
use Rattle.basin.proofs.Tabled.{tabled}
use Rattle.nodes.specs.Trees.{Tree, one, four, side, found, Sound}
use Rattle.nodes.specs.Paint.{painted}

pub length_painted : {A : Type 0} (pick : ℕ → Leaf → A) (n h : ℕ) (x : Tree) (p : ℕ) (t : List A) → length (painted pick n h x p t) ≡ length t
unfolding painted
length_painted pick n h (one l) p t = length_square (side h) n (side h) p (pick h l) t
length_painted pick n h (four a b c d) p t =
    length_painted pick n (pred h) d _ _
    ∙ (length_painted pick n (pred h) c _ _ ∙ (length_painted pick n (pred h) b _ _ ∙ length_painted pick n (pred h) a p t))

painted_out : {A : Type 0} (pick : ℕ → Leaf → A) (n h : ℕ) (x : Tree) (p k : ℕ) (d : A) (t : List A) → Sound h x
    → (In (side h) (side h) n p k → ⊥) → get_or (painted pick n h x p t) k d ≡ get_or t k d
unfolding painted
painted_out pick n h (one l) p k d t v out = square_out (side h) n (side h) p k (pick h l) d t out
painted_out pick n zero (four a b c e) p k d t v out = absurd (omega (arith, v.0))
painted_out pick n (suc m) (four a b c e) p k d t v out =
    let big : 2 ^ suc m ≡ 2 ^ m * 2 = pow-suc 2 m in
    painted_out pick n m e _ k d _ v.4 (λ q. out (side m + q.0, side m + q.1, omega arith, omega arith, omega (arith, q.4, add-mul (side m) q.0 n)))
    ∙ (painted_out pick n m c _ k d _ v.3 (λ q. out (side m + q.0, q.1, omega arith, omega arith, omega (arith, q.4, add-mul (side m) q.0 n)))
    ∙ (painted_out pick n m b _ k d _ v.2 (λ q. out (q.0, side m + q.1, omega arith, omega arith, omega (arith, q.4)))
    ∙ painted_out pick n m a p k d t v.1 (λ q. out (q.0, q.1, omega arith, omega arith, q.4))))

-- ---- the four quarters
-- rows from lowJ to highJ and columns from lowI to highI, counted from p
abbrev Part : (lowJ highJ lowI highI n p k : ℕ) → Type 0
Part lowJ highJ lowI highI n p k = (j : ℕ) × (i : ℕ) × (lowJ ≤ j) × (j < highJ) × (lowI ≤ i) × (i < highI) × (k ≡ p + j * n + i)

in_sw : (h n p k : ℕ) → In h h n p k → Part 0 h 0 h n p k
in_sw h n p k q = (q.0, q.1, omega arith, omega arith, omega arith, omega arith, q.4)

in_se : (h n p k : ℕ) → In h h n (p + h) k → Part 0 h h (h + h) n p k
in_se h n p k q = (q.0, h + q.1, omega arith, omega arith, omega arith, omega arith, omega (arith, q.4))

in_nw : (h n p k : ℕ) → In h h n (p + h * n) k → Part h (h + h) 0 h n p k
in_nw h n p k q = (h + q.0, q.1, omega arith, omega arith, omega arith, omega arith, omega (arith, q.4, add-mul h q.0 n))

in_ne : (h n p k : ℕ) → In h h n (p + h * n + h) k → Part h (h + h) h (h + h) n p k
in_ne h n p k q = (h + q.0, h + q.1, omega arith, omega arith, omega arith, omega arith, omega (arith, q.4, add-mul h q.0 n))

rows_apart : (n j j' : ℕ) → 0 < n → j < j' → j * n ≡ j' * n → ⊥
rows_apart n j j' p h e = let m : j + 1 ≤ j' = omega arith in omega (arith, mul-le-mul_right n m, add-mul j 1 n, one-mul n)

columns_apart : (a b c d e f g i n p k : ℕ) → d ≤ n → i ≤ n → d ≤ g → Part a b c d n p k → Part e f g i n p k → ⊥
columns_apart a b c d e f g i n p k u w o q r =
    let s = same_column n p q.0 q.1 r.0 r.1 (omega arith) (omega arith) (sym q.6 ∙ r.6) in
    omega arith

parts_apart : (a b c d e f g i n p k : ℕ) → d ≤ n → i ≤ n → b ≤ e → Part a b c d n p k → Part e f g i n p k → ⊥
parts_apart a b c d e f g i n p k u w o q r =
    let s = same_column n p q.0 q.1 r.0 r.1 (omega arith) (omega arith) (sym q.6 ∙ r.6) in
    rows_apart n q.0 r.0 (omega arith) (omega arith) s.1

-- what is painted on later quarters leaves the earlier ones
module _ {A : Type 0} (pick : ℕ → Leaf → A) (n m p : ℕ) (z : A) (wide : side m + side m ≤ n) where
  past_ne : (d : Tree) (u : List A) (k : ℕ) → Sound m d → In (side m) (side m) n (p + side m * n) k
      → get_or (painted pick n m d (p + side m * n + side m) u) k z ≡ get_or u k z
  past_ne d u k v q = painted_out pick n m d (p + side m * n + side m) k z u v
      (λ r. columns_apart _ _ _ _ _ _ _ _ n p k (omega arith) wide (omega arith) (in_nw (side m) n p k q) (in_ne (side m) n p k r))

  past_north : (c d : Tree) (u : List A) (k : ℕ) → Sound m c → Sound m d → In (side m) (side m) n (p + side m) k
      → get_or (painted pick n m d (p + side m * n + side m) (painted pick n m c (p + side m * n) u)) k z ≡ get_or u k z
  past_north c d u k v w q =
      painted_out pick n m d (p + side m * n + side m) k z _ w (λ r. parts_apart _ _ _ _ _ _ _ _ n p k wide wide (omega arith) (in_se (side m) n p k q) (in_ne (side m) n p k r))
      ∙ painted_out pick n m c (p + side m * n) k z u v (λ r. parts_apart _ _ _ _ _ _ _ _ n p k wide (omega arith) (omega arith) (in_se (side m) n p k q) (in_nw (side m) n p k r))

  past_three : (b c d : Tree) (u : List A) (k : ℕ) → Sound m b → Sound m c → Sound m d → In (side m) (side m) n p k
      → get_or (painted pick n m d (p + side m * n + side m) (painted pick n m c (p + side m * n) (painted pick n m b (p + side m) u))) k z ≡ get_or u k z
  past_three b c d u k v w x q =
      painted_out pick n m d (p + side m * n + side m) k z _ x (λ r. parts_apart _ _ _ _ _ _ _ _ n p k (omega arith) wide (omega arith) (in_sw (side m) n p k q) (in_ne (side m) n p k r))
      ∙ (painted_out pick n m c (p + side m * n) k z _ w (λ r. parts_apart _ _ _ _ _ _ _ _ n p k (omega arith) (omega arith) (omega arith) (in_sw (side m) n p k q) (in_nw (side m) n p k r))
      ∙ painted_out pick n m b (p + side m) k z u v (λ r. columns_apart _ _ _ _ _ _ _ _ n p k (omega arith) wide (omega arith) (in_sw (side m) n p k q) (in_se (side m) n p k r)))

-- ---- the entry on each square
module _ {A : Type 0} (pick : ℕ → Leaf → A) (n : ℕ) (d : A) where
  -- the entry of the leaf that a square lies in
  abbrev shown : ℕ → Tree → ℕ → ℕ → A
  shown h t x y = pick (found h t x y).height (found h t x y).leaf

  abbrev Shows : ℕ → Tree → Type 0
  Shows h t = (p x y : ℕ) (u : List A) → x < side h → y < side h → side h ≤ n → p + side h * n + side h ≤ length u + n
      → get_or (painted pick n h t p u) (p + y * n + x) d ≡ shown h t x y

  shows_one : (h : ℕ) (l : Leaf) → Shows h (one l)
  unfolding painted found
  shows_one h l p x y u a b w r = square_in (side h) n (side h) p y x (pick h l) d u b a w r

  module _ (m : ℕ) (sw se nw ne : Tree) (v : Sound (suc m) (four sw se nw ne)) where
    shows_four : Shows m sw → Shows m se → Shows m nw → Shows m ne → Shows (suc m) (four sw se nw ne)
    unfolding painted found
    shows_four ia ib ic id p x y u a b w r =
        let s = side m in
        let big : 2 ^ suc m ≡ 2 ^ m * 2 = pow-suc 2 m in
        let wide : side m + side m ≤ n = omega arith in
        let all : p + (s + s) * n + (s + s) ≤ length u + n = omega (arith, ap (λ k. k * n) big) in
        let twice : (s + s) * n ≡ s * n + s * n = add-mul s s n in
        let ta = painted pick n m sw p u in
        let tb = painted pick n m se (p + s) ta in
        let tc = painted pick n m nw (p + s * n) tb in
        let la = length_painted pick n m sw p u in
        let lb = length_painted pick n m se (p + s) ta in
        let lc = length_painted pick n m nw (p + s * n) tb in
        ⊎_elim
        (λ (north : y < s). ⊎_elim
        (λ (east : x < s).
        rw (lt-ltb y s north, lt-ltb x s east)
        (past_three pick n m p d wide se nw ne ta (p + y * n + x) v.2 v.3 v.4 (y, x, north, east, refl)
        ∙ ia p x y u east north (omega arith) (omega arith)))
        (λ (east : s ≤ x).
        let k : p + y * n + x ≡ p + s + y * n + (x - s) = omega arith in
        rw (lt-ltb y s north, le-ltb x s east, k)
        (past_north pick n m p d wide nw ne tb (p + s + y * n + (x - s)) v.3 v.4 (y, x - s, north, omega arith, refl)
        ∙ ib (p + s) (x - s) y ta (omega arith) north (omega arith) (omega arith)))
        (cases_lt x s))
        (λ (north : s ≤ y).
        let rows : y * n ≡ s * n + (y - s) * n = ap (λ k. k * n) (split y s north) ∙ add-mul s (y - s) n in
        ⊎_elim
        (λ (east : x < s).
        let k : p + y * n + x ≡ p + s * n + (y - s) * n + x = omega arith in
        rw (le-ltb y s north, lt-ltb x s east, k)
        (past_ne pick n m p d wide ne tc (p + s * n + (y - s) * n + x) v.4 (y - s, x, omega arith, east, refl)
        ∙ ic (p + s * n) x (y - s) tb east (omega arith) (omega arith) (omega arith)))
        (λ (east : s ≤ x).
        let k : p + y * n + x ≡ p + s * n + s + (y - s) * n + (x - s) = omega arith in
        rw (le-ltb y s north, le-ltb x s east, k)
        (id (p + s * n + s) (x - s) (y - s) tc (omega arith) (omega arith) (omega arith) (omega arith)))
        (cases_lt x s))
        (cases_lt y s)
      where
        split : (y s : ℕ) → s ≤ y → y ≡ s + (y - s)
        split y s h = omega arith

  shows : (h : ℕ) (t : Tree) → Sound h t → Shows h t
  shows h (one l) v = shows_one h l
  shows zero (four a b c e) v = absurd (omega (arith, v.0))
  shows (suc m) (four a b c e) v =
      shows_four m a b c e v (shows m a v.1) (shows m b v.2) (shows m c v.3) (shows m e v.4)

-- a whole table, painted, is the table of the leaves that its squares lie in
pub painted_table : {A : Type 0} (pick : ℕ → Leaf → A) (h : ℕ) (t : Tree) (d : A) (u : List A) → Sound h t → length u ≡ side h * side h
    → painted pick (side h) h t 0 u ≡ table (side h) (λ x y. pick (found h t x y).height (found h t x y).leaf)
painted_table pick h t d u v e =
    tabled (side h) (painted pick (side h) h t 0 u) d _ (length_painted pick (side h) h t 0 u ∙ e)
    (λ x y a b.
    let z : 0 + y * side h + x ≡ y * side h + x = omega arith in
    rw z at (shows pick (side h) d h t v 0 x y u a b (omega arith) (omega arith)))
