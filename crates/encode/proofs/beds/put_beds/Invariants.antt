-- The beds passed so far are written.
use Rattle.std.proofs.Common.{take}
use Rattle.encode.specs.Bytes.{beds_bytes}
use Rattle.encode.specs.Writers.{Puts}
use Rattle.encode.proofs.beds.put_beds.Given as goal

abbrev pub invariant-loop-bed : goal.invariant-loop-bed
invariant-loop-bed l = Puts (beds_bytes (take l.bed-index l.beds)) l.initial.writer l.writer
