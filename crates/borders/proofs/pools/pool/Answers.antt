-- The block's beds lie in the table, and the numbers are those defined.
use Rattle.std.proofs.Common.{◌*◌, get_or, pos, sym, refl, ap, ◌∙◌, mul-le-mul, w64, SFits, rules}
use lib.Signed.{quot_z}
use Rattle.flow.specs.Whole.{back}
use Rattle.basin.specs.Records.{dry}
use Rattle.borders.specs.Pools.{pool_by}
use Rattle.borders.proofs.Reading.{room_east, room_north, with_speeds, pool_is}
use Rattle.borders.proofs.pools.pool.Goals as goal

pub block_beds-ground-requires : goal.block_beds-ground-requires
block_beds-ground-requires c =
    let s = c.side-s in
    let n = c.side-n in
    record {
      few = s.ensures.most;
      full = c.requires.beds ∙ ap (λ n. n * n) (sym n.ensures.value);
      east = room_east c.requires.lies s.result n.result s.ensures.value n.ensures.value;
      north = room_north c.requires.lies s.result n.result s.ensures.value n.ensures.value;
    }

pub nonzero_div-result : goal.nonzero_div-result
nonzero_div-result c = mul-le-mul c.side-s.ensures.least c.side-s.ensures.least

pub nonzero_div-result-2 : goal.nonzero_div-result-2
nonzero_div-result-2 c = mul-le-mul c.side-s.ensures.least c.side-s.ensures.least

pub returns : goal.returns
returns c =
    let s = c.side-s in
    let n = c.side-n in
    let leaf = get_or c.args.leaves.now c.corner.result dry in
    let fe : SFits w64 leaf.east = search rules in
    let fn : SFits w64 leaf.north = search rules in
    let f1 : SFits w64 c.speed.result = record { sfits = c.speed.type_inv } in
    let f2 : SFits w64 c.speed-2.result = record { sfits = c.speed-2.type_inv } in
    let e1 = back _ _ f1 (c.speed.ensures ∙ ap (λ z. quot_z z (pos leaf.water)) (back _ _ fe refl)) in
    let e2 = back _ _ f2 (c.speed-2.ensures ∙ ap (λ z. quot_z z (pos leaf.water)) (back _ _ fn refl)) in
    with_speeds (pool_by s.result c.block_beds-ground.result leaf) _ _ e1 e2
    ∙ pool_is c.requires.lies s.result n.result s.ensures.value n.ensures.value c.args.beds.now c.args.leaves.now
    leaf c.block_beds-ground.result (ap (λ i. get_or c.args.leaves.now i dry) c.corner.ensures.value) c.block_beds-ground.ensures.value
