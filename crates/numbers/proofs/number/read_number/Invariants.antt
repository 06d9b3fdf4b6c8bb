use Rattle.std.proofs.Common.{◌≡◌, ◌+◌, ◌-◌, ◌^◌, ◌<◌}
use Rattle.numbers.specs.Numbers.{groups_at, number_at}
use Rattle.numbers.proofs.Groups.{First}
use Rattle.numbers.proofs.number.read_number.Given as goal

abbrev pub invariant-loop-k : goal.invariant-loop-k
invariant-loop-k l =
    (number_at l.bytes l.at ≡ groups_at (6 - l.k) l.bytes l.at (l.at + l.k) l.value l.unit)
    × (l.value < l.unit) × (l.unit ≡ 128 ^ l.k) × First l.bytes l.at l.groups
