-- Turned tables: filling one, entry by entry, and two turns of one.
use Rattle.std.proofs.Common.{◌≡◌, ℕ, zero, suc, ◌+◌, ◌*◌, ◌/◌, ◌%◌, ◌<◌, ◌≤◌, List, length, get_or, sym, ap, ◌∙◌, div-add-mod', arith}
use lib.Arith.{digits_lt, digits_mod, digits_div}
use Rattle.std.proofs.lemmas.Nat.{mod_below, div_below}
use Rattle.std.proofs.lemmas.List.{same_lists}
use Rattle.basin.specs.Tables.{entry}
use Rattle.runs.specs.Turns.{Place, place, flip_place, quarter_place}
use Rattle.turns.specs.declared.eight.Turn.{Turn}
use Rattle.turns.specs.Eight.{number_of}
use Rattle.turns.specs.Laws.{TableStays, TableTurnsCompose}
use Rattle.turns.specs.Turns.{composite_of, undoing, turned_place, TurnedTable}
use Rattle.turns.specs.Composing.{two_turns, undone_last}
use Rattle.turns.proofs.Places.{turn_keeps, places_turn}

pub known : (t : Turn) → number_of t < 8
known t = grind arith

-- a turned table, by equal numbers and entries
pub turned_alike : {A : Type 0} (act : ℕ → A → A) (n n' t t' : ℕ) (xs xs' ys : List A) → n ≡ n' → t ≡ t' → xs ≡ xs'
    → TurnedTable act n t xs ys → TurnedTable act n' t' xs' ys
turned_alike act n n' t t' xs xs' ys e f g h = rw (← e, ← f, ← g) h

-- ---- filling
-- the square whose entry comes to stand at entry k after turn t
abbrev pub source : (n t k : ℕ) → Place
source n t k = turned_place n (undoing t) (place (k % n) (k / n))

-- the first i entries of ys are written
pub record Written {A : Type 0} (act : ℕ → A → A) (n t : ℕ) (xs ys : List A) (i : ℕ) : Type 0 where
  pub done : (k : ℕ) (d : A) → k < i → get_or ys k d ≡ act t (entry n d xs (source n t k).x (source n t k).y)

pub written_all : {A : Type 0} (act : ℕ → A → A) (n t : ℕ) (xs ys : List A) (i : ℕ) → t < 8 → length ys ≡ n * n → n * n ≤ i → Written act n t xs ys i → TurnedTable act n t xs ys
written_all act n t xs ys i h full all w =
    record {
      full = full;
      entries = λ x y d a b.
          let p = turned_place n t (place x y) in
          let inside = turn_keeps n (t / 4) (t % 4) (place x y) (record { east = a; north = b }) in
          let below : p.y * n + p.x < n * n = digits_lt inside.north inside.east in
          let east = digits_mod p.y inside.east in
          let north = digits_div p.y inside.east in
          w.done (p.y * n + p.x) d (omega arith)
          ∙ ap (λ q. act t (entry n d xs q.x q.y))
          ((λ i. turned_place n (undoing t) (place (east i) (north i))) ∙ undone_last (flip_place n) (quarter_place n) (places_turn n) t h (place x y));
    }

-- ---- two turns, of whatever entries turns act on
module _ {A : Type 0} (act : ℕ → A → A) where
  pub table_stays : ((a : A) → act 0 a ≡ a) → TableStays act
  table_stays none n xs ys e t =
      same_lists ys xs (t.full ∙ sym e)
      (λ k d h.
      let below : k < n * n = omega (arith, t.full) in
      let some = positive n k below in
      ap (λ i. get_or ys i d) (sym (div-add-mod' k n))
      ∙ t.entries (k % n) (k / n) d (mod_below k n some) (div_below k n n some below)
      ∙ none (entry n d xs (k % n) (k / n))
      ∙ ap (λ i. get_or xs i d) (div-add-mod' k n))
    where
      positive : (n k : ℕ) → k < n * n → 0 < n
      positive zero k h = absurd (omega arith)
      positive (suc n) k h = omega arith

  pub table_turns_compose : ((s t : ℕ) → s < 8 → t < 8 → (a : A) → act t (act s a) ≡ act (composite_of s t) a) → TableTurnsCompose act
  table_turns_compose twice n s t xs ys zs hs ht first second =
      record {
        full = second.full;
        entries = λ x y d a b.
            let p = turned_place n s (place x y) in
            let inside = turn_keeps n (s / 4) (s % 4) (place x y) (record { east = a; north = b }) in
            ap (λ q. entry n d zs q.x q.y) (sym (two_turns (flip_place n) (quarter_place n) (places_turn n) s t hs ht (place x y)))
            ∙ second.entries p.x p.y d inside.east inside.north
            ∙ ap (act t) (first.entries x y d a b)
            ∙ twice s t hs ht (entry n d xs x y);
      }
