-- A block's area is at most that of the largest basin.
use Rattle.std.proofs.Common.{mul-le-mul}
use Rattle.tables.proofs.validity.in_range.Goals as goal

pub may_hold-requires : goal.may_hold-requires
may_hold-requires c = mul-le-mul c.side-s.ensures.most c.side-s.ensures.most
