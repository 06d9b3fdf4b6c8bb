-- The groups that are left follow those that are counted.
use Rattle.encode.proofs.Groups.{Left}
use Rattle.encode.proofs.number.number_length.Given as goal

abbrev pub invariant-loop-rest : goal.invariant-loop-rest
invariant-loop-rest l = Left 1 l.value l.length l.rest

abbrev pub decreases-loop-rest : goal.decreases-loop-rest
decreases-loop-rest l = l.rest
