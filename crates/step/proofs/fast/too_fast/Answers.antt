-- A leaf that is too fast is found at one of its squares.
use Rattle.std.proofs.Common.{◌^◌, sym, ◌∙◌, arith, below_more}
use Rattle.basin.proofs.Sizes.{side_pos}
use Rattle.step.specs.Speeds.{fast_in}
use Rattle.step.proofs.Paces.{fast_told}
use Rattle.step.proofs.Squared.{no_entry, some_entry}
use Rattle.step.proofs.fast.too_fast.Goals as goal

pub returns-then-is_fast : goal.returns-then-is_fast
returns-then-is_fast c =
    let L = c.args.head.levels in
    let told = fast_told L c.args.head.width c.args.levels.now c.args.leaves.now c.args.time c.loop-i.i _ _ c.side-s.ensures.value c.is_fast.ensures in
    some_entry (2 ^ L) (fast_in L c.args.head.width c.args.levels.now c.args.leaves.now c.args.time) c.loop-i.i (side_pos L) (omega (arith, c.requires.levels))
    (sym told ∙ c.if-is_fast.true)

pub loop-i-preserved : goal.loop-i-preserved
loop-i-preserved c =
    let L = c.args.head.levels in
    let told = fast_told L c.args.head.width c.args.levels.now c.args.leaves.now c.args.time c.loop-i.i _ _ c.side-s.ensures.value c.is_fast.ensures in
    below_more _ _ c.loop-i.invariant (sym told ∙ c.if-is_fast.false)

pub returns : goal.returns
returns c =
    let L = c.args.head.levels in
    no_entry (2 ^ L) _ (fast_in L c.args.head.width c.args.levels.now c.args.leaves.now c.args.time) (sym c.requires.levels) (λ i h. c.loop-i.invariant i (omega arith))
