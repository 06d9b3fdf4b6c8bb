use Rattle.std.proofs.Common.{◌≡◌, ◌+◌, ◌-◌, ◌*◌, ◌≤◌, length, ◌∙◌, arith}
use Rattle.basin.proofs.Fills.{inside, length_part, row_none, row_first_more, row_put_back, square_none, square_more}
use Rattle.basin.proofs.fill.fill_block.Goals as goal

pub loop-j-init : goal.loop-j-init
loop-j-init g c = square_none _ _ _ _ _

pub overflow_mul-start : goal.overflow_mul-start
overflow_mul-start g c = omega (arith, inside c.args.corner c.loop-j.j c.args.side c.args.stride (length c.args.table.now) (omega arith) c.requires)

pub overflow_add-start : goal.overflow_add-start
overflow_add-start g c = omega (arith, inside c.args.corner c.loop-j.j c.args.side c.args.stride (length c.args.table.now) (omega arith) c.requires)

pub loop-entry-init : goal.loop-entry-init
loop-entry-init g c = row_none _ _ _

pub loop-entry-preserved : goal.loop-entry-preserved
loop-entry-preserved g c = rw c.loop-entry.invariant (row_first_more _ _ _)

pub loop-j-preserved : goal.loop-j-preserved
loop-j-preserved g c =
    let room : c.args.corner + c.loop-j.j * c.args.stride + c.args.side ≤ length c.loop-j.table =
    omega (arith, c.loop-j.auto.table, inside c.args.corner c.loop-j.j c.args.side c.args.stride (length c.args.table.now) (omega arith) c.requires) in
    let part : c.args.corner + c.loop-j.j * c.args.stride + c.args.side - (c.args.corner + c.loop-j.j * c.args.stride) ≡ c.args.side = omega arith in
    let e : c.loop-entry.entry-index ≡ c.args.side = omega (arith, length_part (c.args.corner + c.loop-j.j * c.args.stride) c.args.side c.loop-j.table room) in
    rw (c.loop-entry.invariant, part, e) (row_put_back c.args.side _ _ _ _ (omega arith) room ∙ rw c.loop-j.invariant (square_more _ _ _ _ _ _))
