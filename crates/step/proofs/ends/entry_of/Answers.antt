-- The leaf's corner lies in the table.
use Rattle.blocks.proofs.Lying.{lies_at}
use Rattle.step.proofs.Finishing.{home_within}
use Rattle.step.proofs.ends.entry_of.Goals as goal

pub corner-requires : goal.corner-requires
corner-requires c =
    lies_at c.home.result _ c.args.head.in_range.0 c.home.ensures
    (home_within c.args.head.levels c.args.levels.now c.args.i (c.requires.shaped.shallow c.args.i c.requires.within) c.requires.within)
