-- The blocks grow smaller.
use Rattle.encode.proofs.node.+put_node.Given as goal

abbrev pub decreases-put_node : goal.decreases-put_node
decreases-put_node l = l.node.spot.height
