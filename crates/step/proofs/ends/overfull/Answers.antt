-- A leaf that holds too much is found at one of its squares.
use Rattle.std.proofs.Common.{◌-◌, ◌^◌, not, get_or, sym, ap, ◌∙◌, arith}
use Rattle.basin.proofs.Sizes.{side_pos, area_small}
use Rattle.step.specs.Ends.{overfull_in}
use Rattle.step.proofs.Finishing.{overfull_told}
use Rattle.step.proofs.Squared.{no_entry, some_entry}
use Rattle.step.proofs.ends.overfull.Goals as goal

pub may_hold-requires : goal.may_hold-requires
may_hold-requires c = area_small (c.args.head.levels - get_or c.args.levels.now c.loop-i.i 0) _ (omega (arith, c.args.head.in_range.0)) c.side-s.ensures.value

pub returns-then-not-may_hold : goal.returns-then-not-may_hold
returns-then-not-may_hold c =
    let L = c.args.head.levels in
    let told = overfull_told L c.args.levels.now c.args.work.now c.loop-i.i _ _ _ c.side-s.ensures.value c.entry_of.ensures c.may_hold.ensures in
    some_entry (2 ^ L) (overfull_in L c.args.levels.now c.args.work.now) c.loop-i.i (side_pos L) (omega (arith, c.requires.full_levels))
    (sym told ∙ ap not c.if-not-may_hold.true)

pub returns : goal.returns
returns c =
    let L = c.args.head.levels in
    no_entry (2 ^ L) _ (overfull_in L c.args.levels.now c.args.work.now) (sym c.requires.full_levels) (λ i h. c.loop-i.invariant i (omega arith))
