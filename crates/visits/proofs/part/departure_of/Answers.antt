-- The leaf and those beside it keep their limits, and what leaves is what the step says.
use Rattle.std.proofs.Common.{◌≡◌, nat_abs, ap, ◌∙◌, arith, w64, SFits, rules}
use Rattle.basin.specs.declared.dir.Dir.TheVariants.{East, North, West, South}
use Rattle.tables.specs.Surveys.{surveyed}
use Rattle.blocks.specs.Places.{as_block}
use Rattle.borders.specs.Borders.{borders_of}
use Rattle.flow.specs.Whole.{back}
use Rattle.visits.specs.Departures.{outflow_by, SmallOutflow}
use Rattle.visits.proofs.Leaving.{departure_is}
use Rattle.visits.proofs.Limits.{kept, most_discharge, leaves_beside}
use Rattle.visits.proofs.part.departure_of.Goals as goal

pub borders-around-requires : goal.borders-around-requires
borders-around-requires g c =
    let b = surveyed c.args.motion.now.survey in
    let m = as_block c.args.block in
    let ok = c.args.motion.now.survey.valid in
    let s = c.args.sides in
    record {
      kept = rw c.pool-near.ensures (kept b ok m c.requires.leaf);
      east = leaves_beside b ok East m s.east c.requires.leaf c.requires.around.east;
      north = leaves_beside b ok North m s.north c.requires.leaf c.requires.around.north;
      west = leaves_beside b ok West m s.west c.requires.leaf c.requires.around.west;
      south = leaves_beside b ok South m s.south c.requires.leaf c.requires.around.south;
      beds = ok.full.beds;
      leaves = ok.full.leaves;
    }

pub driven-after-requires : goal.driven-after-requires
driven-after-requires g c =
    let b = surveyed c.args.motion.now.survey in
    let k = most_discharge b c.args.motion.now.survey.valid (as_block c.args.block) c.requires.leaf in
    let e = ap (λ n. nat_abs n.leaf.east) c.pool-near.ensures in
    let n = ap (λ n. nat_abs n.leaf.north) c.pool-near.ensures in
    record { small = c.borders-around.ensures.small; east = omega (arith, e, k.0); north = omega (arith, n, k.1) }

pub returns : goal.returns
returns g c =
    let R = g.R.FlowRule.meaning c.args.motion.now.rule.now in
    let T = c.args.motion.now.pace.time in
    let b = surveyed c.args.motion.now.survey in
    let near = c.pool-near.result in
    let s = c.args.sides in
    let fx : SFits w64 c.driven-after.result.east = search rules in
    let fy : SFits w64 c.driven-after.result.north = search rules in
    let are = c.borders-around.ensures.value ∙ ap (λ d. borders_of R T d b.head.L b.tables.beds b.tables.leaves near s) c.args.motion.now.width in
    let of = c.map-outflows.ensures in
    let east : c.map-outflows.result.east ≡ outflow_by c.pool-near.result.leaf.water c.wishes-all.result c.borders-around.result.east = search (rules, of.east) in
    let small_east : SmallOutflow c.map-outflows.result.east = search (rules, of.east) in
    let north : c.map-outflows.result.north ≡ outflow_by c.pool-near.result.leaf.water c.wishes-all.result c.borders-around.result.north = search (rules, of.north) in
    let small_north : SmallOutflow c.map-outflows.result.north = search (rules, of.north) in
    let west : c.map-outflows.result.west ≡ outflow_by c.pool-near.result.leaf.water c.wishes-all.result c.borders-around.result.west = search (rules, of.west) in
    let small_west : SmallOutflow c.map-outflows.result.west = search (rules, of.west) in
    let south : c.map-outflows.result.south ≡ outflow_by c.pool-near.result.leaf.water c.wishes-all.result c.borders-around.result.south = search (rules, of.south) in
    let small_south : SmallOutflow c.map-outflows.result.south = search (rules, of.south) in
    let out = c.map-outflows.result in
    record {
      value = departure_is R T b (as_block c.args.block) near s c.borders-around.result
          (record { near_is = c.pool-near.ensures; around = c.requires.around; borders_are = are })
          c.wishes-all.result out.west out.east out.south out.north _ _
          c.wishes-all.ensures.value west east south north
          (back _ _ fx c.driven-after.ensures.east) (back _ _ fy c.driven-after.ensures.north);
      small = record { east = small_east; north = small_north; west = small_west; south = small_south };
    }
