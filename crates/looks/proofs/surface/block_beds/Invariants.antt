-- The rows passed so far are summed.
use Rattle.std.proofs.Common.{◌≡◌, ◌+◌, ◌*◌, ◌≤◌}
use Rattle.basin.specs.Sums.{sum_below}
use Rattle.basin.specs.Tables.{entry}
use Rattle.looks.proofs.surface.block_beds.Given as goal

abbrev pub invariant-loop-j : goal.invariant-loop-j
invariant-loop-j l =
    (l.sum ≡ sum_below l.j (λ j. sum_below l.count (λ i. entry l.n 0 l.beds (l.x + i) (l.y + j))))
    × (l.sum ≤ 65535 * (64 * l.j))
