-- What is read where a reader stands, and where the reader then stands.
use Rattle.std.specs.Prelude.{◌≡◌, ℕ, List, Ok, Err, Result}
use Rattle.numbers.specs.declared.reader.Reader.{Reader}
use Rattle.numbers.specs.Steps.{place}

-- an answer with the place after what was read
abbrev pub placed : {A E : Type 0} → Result A E → ℕ → Result (A × ℕ) E
placed (Ok x) p = Ok (x, p)
placed (Err e) p = Err e

-- the reader r, which then is s, answers what f reads of its bytes where it stands
abbrev pub Reads : {A E : Type 0} → (List ℕ → ℕ → Result (A × ℕ) E) → Reader → Reader → Result A E → Type 0
Reads f r s x = (s.bytes ≡ r.bytes) × (placed x s.at ≡ f r.bytes.now r.at)

-- the place after what was put elsewhere
abbrev pub ended : {E : Type 0} → Result (Unit {0}) E → ℕ → Result ℕ E
ended (Ok x) p = Ok p
ended (Err e) p = Err e

-- the reader r, which then is s, goes past what f reads of its bytes where it stands
abbrev pub Passes : {A E : Type 0} → (List ℕ → ℕ → Result (A × ℕ) E) → Reader → Reader → Result (Unit {0}) E → Type 0
Passes f r s x = (s.bytes ≡ r.bytes) × (ended x s.at ≡ place (f r.bytes.now r.at))
