-- The block of the square's leaf holds its water.
use Rattle.std.proofs.Common.{ap, ◌∙◌}
use Rattle.looks.proofs.Beds.{surface_is}
use Rattle.tables.specs.Surveys.{surveyed}
use Rattle.looks.proofs.surface.surface_at.Goals as goal

pub returns : goal.returns
returns c =
    c.surface_of.ensures
    ∙ surface_is (surveyed c.args.survey.now) _ _ _ _ _ c.block-plot.ensures c.level.ensures.value (ap (λ l. l.water) c.leaf.ensures)
