-- The groups that are left follow those that are written.
use Rattle.std.proofs.Common.{◌≡◌, length}
use Rattle.encode.proofs.Groups.{Putting}
use Rattle.encode.proofs.writer.Writer.number.Given as goal

abbrev pub invariant-loop-rest : goal.invariant-loop-rest
invariant-loop-rest l =
    (l.self.out.ghost_name ≡ l.initial.self.out.ghost_name)
    × (length l.self.out.now ≡ length l.initial.self.out.now)
    × Putting l.initial.self.at l.value l.self.at l.rest l.initial.self.out.now l.self.out.now

abbrev pub decreases-loop-rest : goal.decreases-loop-rest
decreases-loop-rest l = l.rest
