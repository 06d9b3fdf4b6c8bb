-- Tables and their entries.
use Rattle.std.proofs.Common.{◌≡◌, ℕ, zero, suc, ◌+◌, ◌*◌, ◌/◌, ◌%◌, ◌<◌, List, [], ◌∷◌, length, get_or, sym, refl, ap, ◌∙◌, mod-lt, div-lt_iff_lt-mul, div-add-mod', arith}
use lib.Arith.{digits_mod, digits_div, digits_lt}
use Rattle.basin.specs.Tables.{listed, table, entry}

pub length_listed : {A : Type 0} (m : ℕ) (g : ℕ → A) → length (listed m g) ≡ m
length_listed zero g = refl
length_listed (suc m) g = ap suc (length_listed m (λ i. g (suc i)))

pub length_table : {A : Type 0} (n : ℕ) (f : ℕ → ℕ → A) → length (table n f) ≡ n * n
unfolding table
length_table n f = length_listed (n * n) (λ i. f (i % n) (i / n))

pub getD_listed : {A : Type 0} (m : ℕ) (g : ℕ → A) (i : ℕ) (d : A) → i < m → get_or (listed m g) i d ≡ g i
getD_listed zero g i d h = absurd (omega arith)
getD_listed (suc m) g zero d h = refl
getD_listed (suc m) g (suc i) d h = getD_listed m (λ i. g (suc i)) i d (omega arith)

pub listed_cong : {A : Type 0} (m : ℕ) (f g : ℕ → A) → ((i : ℕ) → i < m → f i ≡ g i) → listed m f ≡ listed m g
listed_cong zero f g h = refl
listed_cong (suc m) f g h = cc (h 0 (omega arith), listed_cong m (λ i. f (suc i)) (λ i. g (suc i)) (λ i b. h (suc i) (omega arith)))

pub listed_getD : {A : Type 0} (m : ℕ) (xs : List A) (d : A) → length xs ≡ m → listed m (λ i. get_or xs i d) ≡ xs
listed_getD zero [] d e = refl
listed_getD zero (x ∷ xs) d e = absurd (omega arith)
listed_getD (suc m) [] d e = absurd (omega arith)
listed_getD (suc m) (x ∷ xs) d e = ap (λ ys. x ∷ ys) (listed_getD m xs d (omega arith))

pub entry_table : {A : Type 0} (n : ℕ) (f : ℕ → ℕ → A) (d : A) (x y : ℕ) → x < n → y < n → entry n d (table n f) x y ≡ f x y
unfolding table
entry_table n f d x y a b =
    getD_listed (n * n) (λ i. f (i % n) (i / n)) (y * n + x) d (digits_lt b a)
    ∙ ap (λ z. f z ((y * n + x) / n)) (digits_mod y a) ∙ ap (λ z. f x z) (digits_div y a)

pub table_cong : {A : Type 0} (n : ℕ) (f g : ℕ → ℕ → A) → ((x y : ℕ) → x < n → y < n → f x y ≡ g x y) → table n f ≡ table n g
unfolding table
table_cong zero f g h = refl
table_cong (suc n) f g h =
    listed_cong (suc n * suc n) (λ i. f (i % suc n) (i / suc n)) (λ i. g (i % suc n) (i / suc n))
    (λ i b. let z : 0 < suc n = omega arith in h (i % suc n) (i / suc n) (mod-lt i z) ((div-lt_iff_lt-mul z).1 b))

-- a list of n × n entries is the table of its entries
pub table_entry : {A : Type 0} (n : ℕ) (xs : List A) (d : A) → length xs ≡ n * n → table n (λ x y. entry n d xs x y) ≡ xs
unfolding table
table_entry n xs d e =
    listed_cong (n * n) (λ i. get_or xs (i / n * n + i % n) d) (λ i. get_or xs i d) (λ i b. ap (λ j. get_or xs j d) (div-add-mod' i n))
    ∙ listed_getD (n * n) xs d e

-- so a list is the table of a function that gives its entries
pub tabled : {A : Type 0} (n : ℕ) (xs : List A) (d : A) (f : ℕ → ℕ → A) → length xs ≡ n * n
    → ((x y : ℕ) → x < n → y < n → entry n d xs x y ≡ f x y) → xs ≡ table n f
tabled n xs d f e h = sym (table_entry n xs d e) ∙ table_cong n (λ x y. entry n d xs x y) f h
