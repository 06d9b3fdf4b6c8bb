-- std's root is the root, as there is but one.
use Rattle.runs.specs.Roots.{square_root}
use Rattle.runs.proofs.Rooted.{roots, root_unique}
use Rattle.flow.proofs.root.root.Goals as goal

pub returns : goal.returns
returns c =
    let k = c.args.k in
    let e = c.isqrt.ensures in
    root_unique k c.isqrt.result (square_root k) (e.square_le, e.next_square_gt) (roots k)
