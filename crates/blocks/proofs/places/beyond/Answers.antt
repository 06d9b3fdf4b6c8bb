-- The next block is the one defined, and lies in the basin.
use Rattle.std.proofs.Common.{sym, ap}
use Rattle.runs.specs.Trees.{beyond}
use Rattle.blocks.specs.Places.{as_block}
use Rattle.blocks.proofs.Lying.{beyond_lies}
use Rattle.blocks.proofs.places.beyond.Goals as goal

pub returns-in-East : goal.returns-in-East
returns-in-East c =
    let e = ap (λ p. beyond p (as_block c.args.block)) (sym c.in-East.is) in
    record { value = e; lies = beyond_lies c.args.block _ c.args.dir c.args.head.in_range.0 c.requires.0 c.requires.1 e }

pub returns-in-North : goal.returns-in-North
returns-in-North c =
    let e = ap (λ p. beyond p (as_block c.args.block)) (sym c.in-North.is) in
    record { value = e; lies = beyond_lies c.args.block _ c.args.dir c.args.head.in_range.0 c.requires.0 c.requires.1 e }
