use Rattle.std.proofs.Common.{◌/◌, ◌∙◌}
use Rattle.tables.specs.Surveys.{surveyed}
use Rattle.refine.proofs.Floods.{bed_number_is}
use Rattle.refine.proofs.flood.bed_number.Goals as goal

pub returns : goal.returns
returns c =
    (λ i. c.plot_beds.ensures.value i / c.area.ensures.value i)
    ∙ bed_number_is (surveyed c.args.survey.now) c.args.level c.args.square.x c.args.square.y c.block-plot.result c.block-plot.ensures
