-- The blocks grow smaller.
use Rattle.sheet.proofs.list.+list_block.Given as goal

abbrev pub decreases-list_block : goal.decreases-list_block
decreases-list_block l = l.node.spot.height
