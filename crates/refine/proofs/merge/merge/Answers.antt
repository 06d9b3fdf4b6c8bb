-- Each refusal strikes in its turn, and what is granted is the merge.
use Rattle.std.proofs.Common.{◌≡◌, ◌-◌, Bool, true, Decides, ◌⊎◌, inl, inr}
use Rattle.std.proofs.lemmas.Result.{err_from_is_err_and}
use Rattle.basin.specs.Basins.{basin_of, view}
use Rattle.calls.proofs.Placing.{placing_refused, placed_in, located_in}
use Rattle.refine.specs.Floods.{DryWindow}
use Rattle.refine.proofs.Merging.{merge_refused, merge_alone, merge_unequal, merge_unbalanced, merge_mixed, merge_flooded, merge_granted, twins, summable, above_deep}
use Rattle.refine.proofs.Spotted.{block_at, dry_in}
use Rattle.refine.proofs.merge.merge.Goals as goal
use Rattle.refine.proofs.merge.merge.Goals.{else-family-eq0-via-then-family-eq0+else-not-stays_dry, else-family-eq0-via-else-family-eq0}

pub returns-in_err-survey : goal.returns-in_err-survey
returns-in_err-survey c =
    let p = err_from_is_err_and c.from_residual.result c.from_residual.ensures.1 in
    let b = basin_of c.args.head c.args.levels.now c.args.beds.now c.args.leaves.now in
    rw (p.1, p.2) (merge_refused b _ _ _ (placing_refused b _ _ _ c.in_err-survey.ensures))

pub returns-in_err-spot : goal.returns-in_err-spot
returns-in_err-spot c =
    let b = basin_of c.args.head c.args.levels.now c.args.beds.now c.args.leaves.now in
    let p = err_from_is_err_and c.from_residual-in_err-spot.result c.from_residual-in_err-spot.ensures.1 in
    rw (p.1, p.2) (merge_refused b _ _ _ (placed_in _ b _ _ _ c.in_ok-survey.ensures.0 c.in_err-spot.ensures))

pub returns-then-spot-eq0 : goal.returns-then-spot-eq0
returns-then-spot-eq0 c =
    let b = basin_of c.args.head c.args.levels.now c.args.beds.now c.args.leaves.now in
    let e = c.in_ok-survey.ensures.0 in
    let l = located_in _ b _ _ _ e c.in_ok-spot.ensures in
    merge_alone b _ _ _ l c.if-spot-eq0.true

pub returns-then-not-all_between : goal.returns-then-not-all_between
returns-then-not-all_between c =
    let b = basin_of c.args.head c.args.levels.now c.args.beds.now c.args.leaves.now in
    let e = c.in_ok-survey.ensures.0 in
    let l = located_in _ b _ _ _ e c.in_ok-spot.ensures in
    let is = block_at _ b _ _ _ _ e c.block-parent.ensures in
    merge_unequal b _ _ _ l c.if-spot-eq0.false _ is _ c.window-block.ensures _ c.all_between.ensures c.if-not-all_between.true

pub returns-then-not-all_between-2 : goal.returns-then-not-all_between-2
returns-then-not-all_between-2 c =
    let b = basin_of c.args.head c.args.levels.now c.args.beds.now c.args.leaves.now in
    let e = c.in_ok-survey.ensures.0 in
    let l = located_in _ b _ _ _ e c.in_ok-spot.ensures in
    let is = block_at _ b _ _ _ _ e c.block-parent.ensures in
    merge_unbalanced b _ _ _ l c.if-spot-eq0.false _ is _ c.window-block.ensures _ c.all_between.ensures c.if-not-all_between.false _ c.ring.ensures _ c.all_between-2.ensures c.if-not-all_between-2.true

pub siblings-family-requires-clause-twin_east : goal.siblings-family-requires-clause-twin_east
siblings-family-requires-clause-twin_east c =
    let b = basin_of c.args.head c.args.levels.now c.args.beds.now c.args.leaves.now in
    let e = c.in_ok-survey.ensures.0 in
    let l = located_in _ b _ _ _ e c.in_ok-spot.ensures in
    let is = block_at _ b _ _ _ _ e c.block-parent.ensures in
    (twins b _ _ _ l c.if-spot-eq0.false _ is _ c.window-block.ensures _ c.all_between.ensures c.if-not-all_between.false).east

pub siblings-family-requires-clause-twin_north : goal.siblings-family-requires-clause-twin_north
siblings-family-requires-clause-twin_north c =
    let b = basin_of c.args.head c.args.levels.now c.args.beds.now c.args.leaves.now in
    let e = c.in_ok-survey.ensures.0 in
    let l = located_in _ b _ _ _ e c.in_ok-spot.ensures in
    let is = block_at _ b _ _ _ _ e c.block-parent.ensures in
    (twins b _ _ _ l c.if-spot-eq0.false _ is _ c.window-block.ensures _ c.all_between.ensures c.if-not-all_between.false).north

pub returns-then-mixed : goal.returns-then-mixed
returns-then-mixed c =
    let b = basin_of c.args.head c.args.levels.now c.args.beds.now c.args.leaves.now in
    let e = c.in_ok-survey.ensures.0 in
    let l = located_in _ b _ _ _ e c.in_ok-spot.ensures in
    let is = block_at _ b _ _ _ _ e c.block-parent.ensures in
    merge_mixed b _ _ _ l c.if-spot-eq0.false _ is _ c.window-block.ensures _ c.all_between.ensures c.if-not-all_between.false _ c.ring.ensures _ c.all_between-2.ensures c.if-not-all_between-2.false _ c.siblings-family.ensures _ c.mixed.ensures c.if-mixed.true

pub returns-then-not-stays_dry : goal.returns-then-not-stays_dry
returns-then-not-stays_dry c =
    let b = basin_of c.args.head c.args.levels.now c.args.beds.now c.args.leaves.now in
    let e = c.in_ok-survey.ensures.0 in
    let l = located_in _ b _ _ _ e c.in_ok-spot.ensures in
    let is = block_at _ b _ _ _ _ e c.block-parent.ensures in
    let dry = dry_in _ b _ _ _ e c.stays_dry.ensures in
    merge_flooded b _ _ _ l c.if-spot-eq0.false _ is _ c.window-block.ensures _ c.all_between.ensures c.if-not-all_between.false _ c.ring.ensures _ c.all_between-2.ensures c.if-not-all_between-2.false _ c.siblings-family.ensures _ c.mixed.ensures c.if-mixed.false _ dry c.if-family-eq0.true c.if-not-stays_dry.true

pub stays_dry-requires-clause-deep : goal.stays_dry-requires-clause-deep
stays_dry-requires-clause-deep c = above_deep _ _ _ _ c.in_ok-spot.ensures c.if-spot-eq0.false

pub joined-requires : goal.joined-requires
joined-requires c =
    let b = basin_of c.args.head c.args.levels.now c.args.beds.now c.args.leaves.now in
    let e = c.in_ok-survey.ensures.0 in
    let l = located_in _ b _ _ _ e c.in_ok-spot.ensures in
    let is = block_at _ b _ _ _ _ e c.block-parent.ensures in
    let s = summable b _ _ _ l c.if-spot-eq0.false _ is _ c.window-block.ensures _ c.all_between.ensures c.if-not-all_between.false _ c.ring.ensures _ c.all_between-2.ensures c.if-not-all_between-2.false _ c.siblings-family.ensures in
    record { few = s.few; own = s.own; beside = s.beside; above = s.above; across = s.across }

pub returns : goal.returns
returns c =
    let b = basin_of c.args.head c.args.levels.now c.args.beds.now c.args.leaves.now in
    let e = c.in_ok-survey.ensures.0 in
    let l = located_in _ b _ _ _ e c.in_ok-spot.ensures in
    let is = block_at _ b _ _ _ _ e c.block-parent.ensures in
    let seen : (c.siblings-family.result.own.water ≡ 0 → ⊥) ⊎ ((g : Bool) × Decides g (DryWindow (view (basin_of c.args.head c.args.levels.now c.args.beds.now c.args.leaves.now)) (c.in_ok-spot.spot.level - 1) c.window-block.result) × (g ≡ true)) = elim c.else-family-eq0.branch [
      | else-family-eq0-via-then-family-eq0+else-not-stays_dry w ↦ inr (w.stays_dry.result, dry_in _ b _ _ _ e w.stays_dry.ensures, w.if-not-stays_dry.false)
      | else-family-eq0-via-else-family-eq0 w ↦ inl w.if-family-eq0.false
    ] in
    merge_granted b _ _ _ l c.if-spot-eq0.false _ is _ c.window-block.ensures _ c.all_between.ensures c.if-not-all_between.false _ c.ring.ensures _ c.all_between-2.ensures c.if-not-all_between-2.false _ c.siblings-family.ensures _ c.mixed.ensures c.if-mixed.false seen _ c.joined.ensures _ _ _ c.join.ensures.levels c.join.ensures.leaves c.join.ensures.surface
