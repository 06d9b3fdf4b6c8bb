-- The rule that is chosen by its name.
use Rattle.runs.specs.Rules.{Rule}
use Rattle.flow.specs.declared.rules.Rules.{Rules}
use Rattle.flow.specs.declared.rules.Rules.TheVariants.{Central, Pond}
use Rattle.flow.specs.Centrals.{central}
use Rattle.flow.specs.Ponds.{pond}

abbrev pub chosen : Rules → Rule
chosen Central = central
chosen Pond = pond
