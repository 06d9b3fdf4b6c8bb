-- The beds, one after another.
use Rattle.std.proofs.Common.{◌≡◌, ℕ, ◌+◌, ◌*◌, ◌<◌, ◌≤◌, List, [], ◌∷◌, ◌++◌, length, get_or, take, drop, sym, refl, ap, ◌∙◌, add-one, append_assoc, arith, length-append, drop-cons}
use Rattle.std.specs.List.{sum_by}
use Rattle.std.proofs.lemmas.List.Sums.{sum_by-cons}
use Rattle.std.proofs.lemmas.List.{append-nil, take_more, take-append-drop}
use Rattle.numbers.specs.Numbers.{number}
use Rattle.encode.specs.Bytes.{beds_bytes}
use Rattle.encode.specs.declared.writer.Writer.{Writer}
use Rattle.encode.specs.Writers.{Puts}
use Rattle.encode.proofs.Nodes.{groups_few}

bytes_append : (xs ys : List ℕ) → beds_bytes (xs ++ ys) ≡ beds_bytes xs ++ beds_bytes ys
unfolding beds_bytes
bytes_append [] ys = refl
bytes_append (x ∷ xs) ys = rw (bytes_append xs ys, append_assoc) refl

-- the first i beds, the next, and the others
pub bytes_cut : (beds : List ℕ) (i : ℕ) → i < length beds
    → beds_bytes beds ≡ beds_bytes (take i beds) ++ (number (get_or beds i 0) ++ beds_bytes (drop (i + 1) beds))
unfolding beds_bytes
bytes_cut beds i h =
    let e : take i beds ++ (get_or beds i 0 ∷ drop (i + 1) beds) ≡ beds =
    rw (add-one, ← drop-cons beds i 0 h) (take-append-drop i beds) in
    ap beds_bytes (sym e) ∙ bytes_append (take i beds) (get_or beds i 0 ∷ drop (i + 1) beds)

pub bytes_more : (beds : List ℕ) (i : ℕ) → i < length beds → beds_bytes (take (i + 1) beds) ≡ beds_bytes (take i beds) ++ number (get_or beds i 0)
unfolding beds_bytes
bytes_more beds i h = rw (take_more beds i 0 h) (bytes_append (take i beds) (get_or beds i 0 ∷ []) ∙ ap (λ t. beds_bytes (take i beds) ++ t) (append-nil (number (get_or beds i 0))))

pub bytes_none : (w : Writer) → Puts (beds_bytes []) w w
unfolding beds_bytes
bytes_none w = record { same = refl; place = omega arith; written = refl }

-- the bytes of all beds are as many as those of each together, which are six at most
pub bytes_sum : (beds : List ℕ) → length (beds_bytes beds) ≡ sum_by (λ b. length (number b)) beds
unfolding beds_bytes
bytes_sum [] = refl
bytes_sum (b ∷ beds) =
    length-append (number b) (beds_bytes beds)
    ∙ (ap (λ n. length (number b) + n) (bytes_sum beds) ∙ sym (sum_by-cons (λ b. length (number b)) b beds))

pub bytes_few : (beds : List ℕ) → length (beds_bytes beds) ≤ 6 * length beds
unfolding beds_bytes
bytes_few [] = omega arith
bytes_few (b ∷ beds) = omega (arith, length-append (number b) (beds_bytes beds), groups_few 6 b, bytes_few beds)
