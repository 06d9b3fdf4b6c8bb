-- The ways through a write.
use Rattle.std.proofs.Common.{◌≡◌, ℕ, ◌+◌, ◌<◌, ◌≤◌, List, length, Ok, Err, refl, arith, length-append}
use lib.Seq.{sets}
use Rattle.std.proofs.lemmas.Bool.{lt-ltb, le-ltb}
use Rattle.basin.specs.declared.refusal.Refusal.{Refusal}
use Rattle.basin.specs.declared.refusal.Refusal.TheVariants.{OutputShort}
use Rattle.basin.specs.Basins.{Basin, view}
use Rattle.basin.specs.Flaws.{validity}
use Rattle.numbers.specs.Numbers.{number}
use Rattle.encode.specs.declared.writer.Writer.{Writer}
use Rattle.encode.specs.Writers.{Room}
use Rattle.encode.specs.Bytes.{node_bytes, beds_bytes, file_bytes, write_of}

pub file_parts : (b : Basin) → length (file_bytes b)
    ≡ length (number b.head.L) + length (number b.head.d) + length (number b.head.loose)
    + length (node_bytes (view b) b.head.L 0 0) + length (beds_bytes b.tables.beds)
file_parts b = simp length-append (omega arith)

pub file_room : (b : Basin) (w : Writer) → w.at ≡ 0 → length (file_bytes b) ≤ length w.out.now → Room (file_bytes b) w
file_room b w e r = record { fits = omega arith }

module _ (b : Basin) (out : List ℕ) where
  pub write_refused : (e : Refusal) → Err e ≡ validity b → (Err e, out) ≡ write_of b out
  unfolding write_of
  write_refused e v = rw (← v) refl

  module _ (n : ℕ) (v : Ok tt ≡ validity b) (e : n ≡ length (file_bytes b)) where
    pub write_short : length out < n → (Err OutputShort, out) ≡ write_of b out
    unfolding write_of
    write_short h = rw (← v, lt-ltb (length out) (length (file_bytes b)) (omega arith)) refl

    pub write_granted : (after : List ℕ) → n ≤ length out → after ≡ sets out 0 (file_bytes b) → (Ok n, after) ≡ write_of b out
    unfolding write_of
    write_granted after h f = rw (← v, le-ltb (length out) (length (file_bytes b)) (omega arith)) (λ i. (Ok (e i), f i))
