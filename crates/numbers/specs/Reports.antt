-- How a number's fault is reported.
use Rattle.basin.specs.declared.refusal.Refusal.TheVariants.{FileEnded, NumberForm}
use Rattle.numbers.specs.declared.fault.NumberFault.{NumberFault}
use Rattle.numbers.specs.declared.fault.NumberFault.TheVariants.{Ended, Malformed}
use Rattle.numbers.specs.declared.report.Layer.TheVariants.{Numbers}
use Rattle.numbers.specs.Layers.{report}
use Rattle.numbers.specs.declared.report.Report.{Report}

abbrev pub number_report : NumberFault → Report
number_report (Ended b) = report FileEnded b Numbers
number_report (Malformed b) = report NumberForm b Numbers
