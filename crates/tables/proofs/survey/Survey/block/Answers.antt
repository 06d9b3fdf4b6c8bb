-- Blocks of a level cover the basin.
use Rattle.std.proofs.Common.{◌^◌, sym}
use Rattle.basin.proofs.Sizes.{side_times}
use Rattle.tables.proofs.survey.Survey.block.Goals as goal

pub plot-requires : goal.plot-requires
plot-requires c = (
  c.side.ensures.least,
  (
    2 ^ c.args.level,
    rw (c.side.ensures.value, c.requires.on) (sym (side_times c.args.self.now.head.levels c.args.level c.requires.deep)),
  ),
)
