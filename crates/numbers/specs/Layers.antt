-- The layers and their numbers, and a report.
use Rattle.std.specs.Prelude.{ℕ}
use Rattle.basin.specs.declared.refusal.Refusal.{Refusal}
use Rattle.numbers.specs.declared.report.Layer.{Layer}
use Rattle.numbers.specs.declared.report.Layer.TheVariants.{Numbers, Tree, File}
use Rattle.numbers.specs.declared.report.Report.{Report}

abbrev pub layer_number : Layer → ℕ
layer_number Numbers = 1
layer_number Tree = 2
layer_number File = 3

abbrev pub report : Refusal → ℕ → Layer → Report
report refusal byte layer = record { refusal = refusal; byte = byte; layer = layer }
