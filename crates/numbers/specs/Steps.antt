-- Reading one thing after another.
use Rattle.std.specs.Prelude.{ℕ, Ok, Err, Result}

-- what comes after a result, unless that is a fault
abbrev pub after : {A B E : Type 0} → Result A E → (A → Result B E) → Result B E
after (Ok x) f = f x
after (Err e) f = Err e

-- the place after what was read
abbrev pub place : {A E : Type 0} → Result (A × ℕ) E → Result ℕ E
place (Ok r) = Ok r.1
place (Err e) = Err e
