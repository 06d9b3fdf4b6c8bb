-- A number has one form.
use Rattle.std.specs.Prelude.{◌≡◌, ℕ, ◌+◌, ◌^◌, ◌<◌, List, ◌++◌, length, drop, ℤ, Ok, slice_index}
use Rattle.numbers.specs.Numbers.{number_at, number, signed, coded}

-- a list of bytes
abbrev pub Bytes : List ℕ → Type 0
Bytes bs = (i : ℕ) → slice_index bs i < 256

-- where a number is written it is read, and what follows it follows
abbrev pub WrittenIsRead : Type 0
WrittenIsRead = (bs post : List ℕ) (at v : ℕ) → v < 2 ^ 42 → drop at bs ≡ number v ++ post
    → (number_at bs at ≡ Ok (v, at + length (number v))) × (drop (at + length (number v)) bs ≡ post)

-- where a number is read it is written, in no other form
abbrev pub ReadWasWritten : Type 0
ReadWasWritten = (bs : List ℕ) (at v q : ℕ) → Bytes bs → number_at bs at ≡ Ok (v, q) → drop at bs ≡ number v ++ drop q bs

-- numbers stand for signed numbers one to one
abbrev pub SignedIsCoded : Type 0
SignedIsCoded = ((z : ℤ) → signed (coded z) ≡ z) × ((u : ℕ) → coded (signed u) ≡ u)
