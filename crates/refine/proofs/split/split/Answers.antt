-- Each refusal strikes in its turn, and what is granted is the split.
use Rattle.std.proofs.Common.{◌≡◌, ◌+◌, Bool, true, Decides, ◌⊎◌, inl, inr}
use Rattle.std.proofs.lemmas.Result.{err_from_is_err_and}
use Rattle.basin.specs.Basins.{basin_of, view}
use Rattle.calls.proofs.Placing.{placing_refused, placed_in, located_in}
use Rattle.refine.specs.Floods.{DryWindow}
use Rattle.refine.proofs.Splitting.{split_refused, split_bottom, split_unbalanced, split_flooded, split_undivided, split_granted}
use Rattle.refine.proofs.Spotted.{dry_in}
use Rattle.refine.proofs.split.split.Goals as goal
use Rattle.refine.proofs.split.split.Goals.{else-spot-eq0-via-then-spot-eq0+else-not-stays_dry, else-spot-eq0-via-else-spot-eq0}

pub returns-in_err-survey : goal.returns-in_err-survey
returns-in_err-survey c =
    let p = err_from_is_err_and c.from_residual.result c.from_residual.ensures.1 in
    let b = basin_of c.args.head.now c.args.levels.now c.args.beds.now c.args.leaves.now in
    rw (p.1, p.2) (split_refused b _ _ _ (placing_refused b _ _ _ c.in_err-survey.ensures))

pub returns-in_err-spot : goal.returns-in_err-spot
returns-in_err-spot c =
    let b = basin_of c.args.head.now c.args.levels.now c.args.beds.now c.args.leaves.now in
    let p = err_from_is_err_and c.from_residual-in_err-spot.result c.from_residual-in_err-spot.ensures.1 in
    rw (p.1, p.2) (split_refused b _ _ _ (placed_in _ b _ _ _ c.in_ok-survey.ensures.0 c.in_err-spot.ensures))

pub returns-then-spot-head : goal.returns-then-spot-head
returns-then-spot-head c =
    let b = basin_of c.args.head.now c.args.levels.now c.args.beds.now c.args.leaves.now in
    let e = c.in_ok-survey.ensures.0 in
    let l = located_in _ b _ _ _ e c.in_ok-spot.ensures in
    split_bottom b _ _ _ l c.if-spot-head.true

pub returns-then-not-all_between : goal.returns-then-not-all_between
returns-then-not-all_between c =
    let b = basin_of c.args.head.now c.args.levels.now c.args.beds.now c.args.leaves.now in
    let e = c.in_ok-survey.ensures.0 in
    let l = located_in _ b _ _ _ e c.in_ok-spot.ensures in
    split_unbalanced b _ _ _ l c.if-spot-head.false _ _ c.window-block.ensures c.ring.ensures _ c.all_between.ensures c.if-not-all_between.true

pub returns-then-not-stays_dry : goal.returns-then-not-stays_dry
returns-then-not-stays_dry c =
    let b = basin_of c.args.head.now c.args.levels.now c.args.beds.now c.args.leaves.now in
    let e = c.in_ok-survey.ensures.0 in
    let l = located_in _ b _ _ _ e c.in_ok-spot.ensures in
    let dry = dry_in _ b _ _ _ e c.stays_dry.ensures in
    split_flooded b _ _ _ l c.if-spot-head.false _ _ c.window-block.ensures c.ring.ensures _ c.all_between.ensures c.if-not-all_between.false
    _ dry c.if-spot-eq0.true c.if-not-stays_dry.true

pub returns-in_err-division : goal.returns-in_err-division
returns-in_err-division c =
    let p = err_from_is_err_and c.from_residual-in_err-division.result c.from_residual-in_err-division.ensures.1 in
    let b = basin_of c.args.head.now c.args.levels.now c.args.beds.now c.args.leaves.now in
    let e = c.in_ok-survey.ensures.0 in
    let l = located_in _ b _ _ _ e c.in_ok-spot.ensures in
    let seen : (c.in_ok-spot.spot.leaf.water ≡ 0 → ⊥) ⊎ ((f : Bool) × Decides f (DryWindow (view (basin_of c.args.head.now c.args.levels.now c.args.beds.now c.args.leaves.now)) (c.in_ok-spot.spot.level + 1) c.window-block.result) × (f ≡ true)) = elim c.else-spot-eq0.branch [
      | else-spot-eq0-via-then-spot-eq0+else-not-stays_dry w ↦ inr (w.stays_dry.result, dry_in _ b _ _ _ e w.stays_dry.ensures, w.if-not-stays_dry.false)
      | else-spot-eq0-via-else-spot-eq0 w ↦ inl w.if-spot-eq0.false
    ] in
    rw (p.1, p.2) (split_undivided b _ _ _ l c.if-spot-head.false _ _ c.window-block.ensures c.ring.ensures _ c.all_between.ensures c.if-not-all_between.false
    seen _ c.in_err-division.ensures.value)

pub returns : goal.returns
returns c =
    let b = basin_of c.args.head.now c.args.levels.now c.args.beds.now c.args.leaves.now in
    let e = c.in_ok-survey.ensures.0 in
    let l = located_in _ b _ _ _ e c.in_ok-spot.ensures in
    let seen : (c.in_ok-spot.spot.leaf.water ≡ 0 → ⊥) ⊎ ((f : Bool) × Decides f (DryWindow (view (basin_of c.args.head.now c.args.levels.now c.args.beds.now c.args.leaves.now)) (c.in_ok-spot.spot.level + 1) c.window-block.result) × (f ≡ true)) = elim c.else-spot-eq0.branch [
      | else-spot-eq0-via-then-spot-eq0+else-not-stays_dry w ↦ inr (w.stays_dry.result, dry_in _ b _ _ _ e w.stays_dry.ensures, w.if-not-stays_dry.false)
      | else-spot-eq0-via-else-spot-eq0 w ↦ inl w.if-spot-eq0.false
    ] in
    split_granted b _ _ _ l c.if-spot-head.false _ _ c.window-block.ensures c.ring.ensures _ c.all_between.ensures c.if-not-all_between.false
    seen c.in_ok-division.division c.in_ok-division.ensures.value _ _ c.cut.ensures.levels c.cut.ensures.leaves
