-- The work table has room for each send, and the visit is the one that the step says.
use Rattle.std.proofs.Common.{arith}
use Rattle.tables.specs.Surveys.{surveyed}
use Rattle.blocks.specs.Places.{as_block}
use Rattle.visits.proofs.Limits.{shallow}
use Rattle.visits.proofs.Stages.{total_is, east_fits, north_fits, west_fits, south_fits, visited}
use Rattle.visits.proofs.visit.visit.Goals as goal

pub sides-around-requires : goal.sides-around-requires
sides-around-requires g c =
    let b = surveyed c.args.motion.now.survey in
    record { lies = c.requires.lies; full = c.args.motion.now.survey.valid.full.levels; shallow = shallow b c.args.motion.now.survey.valid }

pub take-requires : goal.take-requires
take-requires g c =
    let is = c.departure_of-departure.ensures in
    let total = total_is (surveyed c.args.motion.now.survey) c.args.motion.now.survey.valid (as_block c.args.block) c.requires.leaf (g.R.FlowRule.meaning c.args.motion.now.rule.now) c.args.motion.now.pace.time _ c.sides-around.ensures _ is.value is.small in
    record { lies = c.requires.lies; full = c.requires.full; enough = omega (arith, total, c.requires.enough) }

pub send-requires : goal.send-requires
send-requires g c =
    let is = c.departure_of-departure.ensures in
    let fits = east_fits (surveyed c.args.motion.now.survey) c.args.motion.now.survey.valid (as_block c.args.block) c.requires.leaf (g.R.FlowRule.meaning c.args.motion.now.rule.now) c.args.motion.now.pace.time _ c.sides-around.ensures _ is.value is.small
    _ _ c.requires.full c.requires.room c.requires.enough c.take.ensures in
    record { full = fits.full; room = fits.room }

pub send-requires-2 : goal.send-requires-2
send-requires-2 g c =
    let is = c.departure_of-departure.ensures in
    let fits = north_fits (surveyed c.args.motion.now.survey) c.args.motion.now.survey.valid (as_block c.args.block) c.requires.leaf (g.R.FlowRule.meaning c.args.motion.now.rule.now) c.args.motion.now.pace.time _ c.sides-around.ensures _ is.value is.small
    _ _ c.requires.full c.requires.room c.requires.enough c.take.ensures _ c.send.ensures in
    record { full = fits.full; room = fits.room }

pub send-requires-3 : goal.send-requires-3
send-requires-3 g c =
    let is = c.departure_of-departure.ensures in
    let fits = west_fits (surveyed c.args.motion.now.survey) c.args.motion.now.survey.valid (as_block c.args.block) c.requires.leaf (g.R.FlowRule.meaning c.args.motion.now.rule.now) c.args.motion.now.pace.time _ c.sides-around.ensures _ is.value is.small
    _ _ c.requires.full c.requires.room c.requires.enough c.take.ensures _ c.send.ensures _ c.send-2.ensures in
    record { full = fits.full; room = fits.room }

pub send-requires-4 : goal.send-requires-4
send-requires-4 g c =
    let is = c.departure_of-departure.ensures in
    let fits = south_fits (surveyed c.args.motion.now.survey) c.args.motion.now.survey.valid (as_block c.args.block) c.requires.leaf (g.R.FlowRule.meaning c.args.motion.now.rule.now) c.args.motion.now.pace.time _ c.sides-around.ensures _ is.value is.small
    _ _ c.requires.full c.requires.room c.requires.enough c.take.ensures _ c.send.ensures _ c.send-2.ensures _ c.send-3.ensures in
    record { full = fits.full; room = fits.room }

pub returns : goal.returns
returns g c =
    let is = c.departure_of-departure.ensures in
    record {
      moved = total_is (surveyed c.args.motion.now.survey) c.args.motion.now.survey.valid (as_block c.args.block) c.requires.leaf (g.R.FlowRule.meaning c.args.motion.now.rule.now) c.args.motion.now.pace.time _ c.sides-around.ensures _ is.value is.small;
      visited = visited (surveyed c.args.motion.now.survey) c.args.motion.now.survey.valid (as_block c.args.block) c.requires.leaf (g.R.FlowRule.meaning c.args.motion.now.rule.now) c.args.motion.now.pace.time _ c.sides-around.ensures _ is.value is.small
          _ _ c.requires.full c.requires.room c.requires.enough c.take.ensures _ c.send.ensures _ c.send-2.ensures _ c.send-3.ensures _ c.send-4.ensures;
    }
