use Rattle.std.proofs.Common.{◌≡◌, ◌-◌, length, take}
use Rattle.codec.specs.Files.{beds_at, beds_from}
use Rattle.codec.proofs.beds.read_beds.Given as goal

abbrev pub invariant-loop-bed : goal.invariant-loop-bed
invariant-loop-bed l =
    (l.reader.bytes ≡ l.initial.reader.bytes)
    × (beds_at (length l.initial.beds) l.initial.reader.bytes.now l.initial.reader.at
    ≡ beds_from (length l.initial.beds - l.bed-index) l.initial.reader.bytes.now l.reader.at (take l.bed-index l.beds))
