-- How a tree's fault is reported.
use Rattle.basin.specs.declared.refusal.Refusal.TheVariants.{NotABasin, FileRange}
use Rattle.numbers.specs.declared.report.Layer.TheVariants.{Tree}
use Rattle.numbers.specs.Layers.{report}
use Rattle.numbers.specs.declared.report.Report.{Report}
use Rattle.numbers.specs.Reports.{number_report}
use Rattle.nodes.specs.declared.fault.TreeFault.{TreeFault}
use Rattle.nodes.specs.declared.fault.TreeFault.TheVariants.{Number, Range, Unbalanced}

abbrev pub tree_report : TreeFault → Report
tree_report (Number f) = number_report f
tree_report (Range b) = report FileRange b Tree
tree_report (Unbalanced b) = report NotABasin b Tree
