-- Each refusal strikes in its turn, and what is granted is the draw.
use Rattle.std.proofs.Common.{sym, ◌∙◌}
use Rattle.std.proofs.lemmas.Result.{err_from_is_err_and}
use Rattle.basin.specs.Basins.{basin_of}
use Rattle.calls.proofs.Refilled.{beds_long, leaves_long, plot_some, square_in}
use Rattle.calls.proofs.Watered.{draw_refused, draw_out, draw_over, draw_granted_by_table}
use Rattle.calls.proofs.water.draw.Goals as goal

pub returns-in_err-spot : goal.returns-in_err-spot
returns-in_err-spot c =
    let p = err_from_is_err_and c.from_residual.result c.from_residual.ensures.1 in
    rw (p.1, p.2) (draw_refused (basin_of c.args.head c.args.levels.now c.args.beds.now c.args.leaves.now) _ _ _ c.in_err-spot.ensures c.args.amount)

pub returns-then-out_of_range : goal.returns-then-out_of_range
returns-then-out_of_range c =
    draw_out (basin_of c.args.head c.args.levels.now c.args.beds.now c.args.leaves.now) _ _ _
    c.in_ok-spot.ensures _ (sym c.out_of_range.ensures ∙ c.if-out_of_range.true)

pub returns-then-amount-water : goal.returns-then-amount-water
returns-then-amount-water c =
    draw_over (basin_of c.args.head c.args.levels.now c.args.beds.now c.args.leaves.now) _ _ _
    c.in_ok-spot.ensures _ (sym c.out_of_range.ensures ∙ c.if-out_of_range.false) c.if-amount-water.true

pub refill_by_table-requires : goal.refill_by_table-requires
refill_by_table-requires c =
    let b = basin_of c.args.head c.args.levels.now c.args.beds.now c.args.leaves.now in
    record { beds = beds_long b _ _ _ c.in_ok-spot.ensures; leaves = leaves_long b _ _ _ c.in_ok-spot.ensures; some = plot_some b _ _ _ c.in_ok-spot.ensures; inside = square_in b _ _ _ c.in_ok-spot.ensures }

pub returns : goal.returns
returns c =
    draw_granted_by_table (basin_of c.args.head c.args.levels.now c.args.beds.now c.args.leaves.now) _ _ _
    c.in_ok-spot.ensures _ (sym c.out_of_range.ensures ∙ c.if-out_of_range.false) c.if-amount-water.false _ _ c.refill_by_table.ensures.leaves c.refill_by_table.ensures.surface
