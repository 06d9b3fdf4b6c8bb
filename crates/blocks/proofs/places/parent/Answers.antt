-- The parent is the one defined, and lies in the basin.
use Prim.Native.Nat.{◌/◌}
use mathlib.Core.Path.{ap}
use native.Mathlib.Numerals.{sub-one}
use Rattle.basin.specs.Blocks.{block}
use Rattle.blocks.proofs.Lying.{parent_lies}
use Rattle.blocks.proofs.places.parent.Goals as goal

pub returns : goal.returns
returns c =
    let a = c.args.block in
    let e = ap (λ k. block k (a.x / 2) (a.y / 2)) (sub-one a.level) in
    record { value = e; lies = parent_lies a _ c.args.head.in_range.0 c.requires.0 e }
