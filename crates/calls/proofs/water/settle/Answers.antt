-- Each refusal strikes in its turn, and what is granted is the settling.
use Rattle.std.proofs.Common.{◌+◌, ap, ◌∙◌}
use Rattle.std.proofs.lemmas.Result.{err_from_is_err_and}
use Rattle.basin.specs.Basins.{basin_of}
use Rattle.basin.specs.Records.{may_hold}
use Rattle.calls.proofs.Refilled.{beds_long, leaves_long, plot_some, square_in}
use Rattle.calls.proofs.Watered.{settle_refused, settle_full, settle_granted_by_table}
use Rattle.calls.proofs.water.settle.Goals as goal

pub returns-in_err-spot : goal.returns-in_err-spot
returns-in_err-spot c =
    let p = err_from_is_err_and c.from_residual.result c.from_residual.ensures.1 in
    rw (p.1, p.2) (settle_refused (basin_of c.args.head.now c.args.levels.now c.args.beds.now c.args.leaves.now) _ _ _ c.in_err-spot.ensures)

pub returns-then-not-may_hold : goal.returns-then-not-may_hold
returns-then-not-may_hold c =
    settle_full (basin_of c.args.head.now c.args.levels.now c.args.beds.now c.args.leaves.now) _ _ _
    c.in_ok-spot.ensures _ (c.may_hold.ensures ∙ ap (λ a. may_hold a (c.in_ok-spot.spot.leaf.water + c.args.head.now.loose)) c.area.ensures.value) c.if-not-may_hold.true

pub refill_by_table-requires : goal.refill_by_table-requires
refill_by_table-requires c =
    let b = basin_of c.args.head.now c.args.levels.now c.args.beds.now c.args.leaves.now in
    record { beds = beds_long b _ _ _ c.in_ok-spot.ensures; leaves = leaves_long b _ _ _ c.in_ok-spot.ensures; some = plot_some b _ _ _ c.in_ok-spot.ensures; inside = square_in b _ _ _ c.in_ok-spot.ensures }

pub returns : goal.returns
returns c =
    settle_granted_by_table (basin_of c.args.head.now c.args.levels.now c.args.beds.now c.args.leaves.now) _ _ _
    c.in_ok-spot.ensures _ (c.may_hold.ensures ∙ ap (λ a. may_hold a (c.in_ok-spot.spot.leaf.water + c.args.head.now.loose)) c.area.ensures.value) c.if-not-may_hold.false _ c.refill_by_table.ensures.leaves
