-- One more row is summed.
use Rattle.std.proofs.Common.{◌+◌, refl, ◌∙◌, arith}
use Rattle.basin.specs.Sums.{sum_below}
use Rattle.basin.specs.Tables.{entry}
use Rattle.basin.proofs.Fills.{length_part}
use Rattle.looks.proofs.Beds.{sum_more, row_is, row_in}
use Rattle.looks.proofs.surface.block_beds.Goals as goal

pub row_beds-sum-requires : goal.row_beds-sum-requires
row_beds-sum-requires c =
    let a = c.args in
    let r = c.requires in
    omega (arith, length_part _ a.count a.beds.now (row_in a.n a.x a.y c.loop-j.j a.count _ r.full r.east r.north c.loop-j-test.true))

pub loop-j-preserved : goal.loop-j-preserved
loop-j-preserved c =
    let a = c.args in
    let r = c.requires in
    let in_table = row_in a.n a.x a.y c.loop-j.j a.count _ r.full r.east r.north c.loop-j-test.true in (
      sum_more c.loop-j.j (λ j. sum_below a.count (λ i. entry a.n 0 a.beds.now (a.x + i) (a.y + j))) _ _
          c.loop-j.invariant.0 (c.row_beds-sum.ensures.value ∙ row_is a.beds.now a.n a.x a.y c.loop-j.j a.count _ refl in_table),
      omega (arith, c.row_beds-sum.ensures.most, length_part _ a.count a.beds.now in_table),
    )
