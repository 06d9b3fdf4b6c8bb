-- How a file's fault is reported.
use Rattle.basin.specs.declared.refusal.Refusal.TheVariants.{FileRange, TrailingBytes}
use Rattle.basin.specs.declared.refusal.Refusal
use Rattle.numbers.specs.declared.report.Layer.TheVariants.{File}
use Rattle.numbers.specs.Layers.{report}
use Rattle.numbers.specs.declared.report.Report.{Report}
use Rattle.nodes.specs.Reports.{tree_report}
use Rattle.codec.specs.declared.fault.FileFault.{FileFault}
use Rattle.codec.specs.declared.fault.FileFault.TheVariants.{Tree, Range, Trailing, TableLength}

abbrev pub file_report : FileFault → Report
file_report (Tree f) = tree_report f
file_report (Range b) = report FileRange b File
file_report (Trailing b) = report TrailingBytes b File
file_report (TableLength b) = report Rattle.basin.specs.declared.refusal.Refusal.TheVariants.TableLength b File
