-- The numbers of the refusals.
use Rattle.std.specs.Prelude.{ℕ}
use Rattle.basin.specs.declared.refusal.Refusal.{Refusal}
use Rattle.basin.specs.declared.refusal.Refusal.TheVariants.{TableLength, NotABasin, OffGrid, OutOfRange, NotDivisible, Unbalanced, WetDry, Overdrawn, StepTooLong, LeafFull, LooseFull, FileEnded, NumberForm, FileRange, TrailingBytes, OutputShort}

abbrev pub number_of : Refusal → ℕ
number_of TableLength = 1
number_of NotABasin = 2
number_of OffGrid = 3
number_of OutOfRange = 4
number_of NotDivisible = 5
number_of Unbalanced = 6
number_of WetDry = 7
number_of Overdrawn = 8
number_of StepTooLong = 9
number_of LeafFull = 10
number_of LooseFull = 11
number_of FileEnded = 12
number_of NumberForm = 13
number_of FileRange = 14
number_of TrailingBytes = 15
number_of OutputShort = 16
