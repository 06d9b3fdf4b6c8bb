-- The corner lies in the table, since the block lies in the basin.
use Prim.Native.Nat.{◌*◌}
use mathlib.Core.Path.{ap, ◌∙◌}
use native.Mathlib.Omega.{arith}
use Rattle.blocks.proofs.Lying.{corner_east, corner_north}
use Rattle.blocks.proofs.places.corner.Goals as goal

pub place-requires : goal.place-requires
place-requires c =
    let a = c.args.block in
    let s = c.side-s.ensures.value in
    record {
      small = c.side.ensures.most;
      east = omega (arith, corner_east c.requires, ap (λ s. a.x * s) s, c.side.ensures.value);
      north = omega (arith, corner_north c.requires, ap (λ s. a.y * s) s, c.side.ensures.value);
    }

pub returns : goal.returns
returns c =
    let s = c.side-s.ensures.value in
    let n = c.side.ensures.value in
    let squares = ap (λ n. n * n) n in
    record { value = c.place.ensures.value ∙ cc; within = omega (arith, c.place.ensures.within, squares) }
