-- Each refusal strikes in its turn, and what is granted is the step.
use Rattle.std.proofs.Common.{length, sym, refl, ◌∙◌}
use Rattle.basin.specs.Basins.{basin_of}
use Rattle.visits.proofs.Limits.{shallow}
use Rattle.step.proofs.Finishing.{shaped, all_in_range, overfull_is, leaves_are}
use Rattle.step.proofs.Paces.{fast_is}
use Rattle.step.proofs.Verdicts.{inside_where, too_long, too_full, grants}
use Rattle.step.proofs.step.advance.Goals as goal

pub too_fast-requires : goal.too_fast-requires
too_fast-requires g c =
    let b = basin_of c.args.head c.args.levels.now c.args.beds.now c.args.leaves.now in
    let ok = c.requires.valid in
    record { levels = ok.full.levels; leaves = ok.full.leaves; shallow = shallow b ok; range = all_in_range b ok; time = c.args.pace.in_range.1 }

pub returns-then-too_fast : goal.returns-then-too_fast
returns-then-too_fast g c =
    let b = basin_of c.args.head c.args.levels.now c.args.beds.now c.args.leaves.now in
    let R = g.R.FlowRule.meaning c.args.rule.now in
    let T = c.args.pace.time in
    let in-time = inside_where T c.args.pace.in_range.0 c.args.pace.in_range.1 in
    record { step = too_long R T (length c.args.work.now) b c.requires.work c.requires.valid in-time (fast_is b c.requires.valid T ∙ sym c.too_fast.ensures ∙ c.if-too_fast.true); late = refl }

pub overfull-requires : goal.overfull-requires
overfull-requires g c =
    let b = basin_of c.args.head c.args.levels.now c.args.beds.now c.args.leaves.now in
    shaped b c.requires.valid c.walk-moved.new.work (c.walk-moved.auto.work ∙ c.copy_from_slice.ensures.len ∙ c.requires.work)

pub returns-then-overfull : goal.returns-then-overfull
returns-then-overfull g c =
    let b = basin_of c.args.head c.args.levels.now c.args.beds.now c.args.leaves.now in
    let R = g.R.FlowRule.meaning c.args.rule.now in
    let T = c.args.pace.time in
    let in-time = inside_where T c.args.pace.in_range.0 c.args.pace.in_range.1 in
    let full = sym (overfull_is b c.requires.valid R T c.walk-moved.new.work c.walk-moved.ensures.walked) ∙ sym c.overfull.ensures ∙ c.if-overfull.true in
    record { step = too_full R T (length c.args.work.now) b c.requires.work c.requires.valid in-time (fast_is b c.requires.valid T ∙ sym c.too_fast.ensures ∙ c.if-too_fast.false) full; late = refl }

pub spread-requires : goal.spread-requires
spread-requires g c =
    let b = basin_of c.args.head c.args.levels.now c.args.beds.now c.args.leaves.now in
    record {
      shaped = shaped b c.requires.valid c.walk-moved.new.work (c.walk-moved.auto.work ∙ c.copy_from_slice.ensures.len ∙ c.requires.work);
      leaves = c.requires.valid.full.leaves;
    }

pub returns : goal.returns
returns g c =
    let b = basin_of c.args.head c.args.levels.now c.args.beds.now c.args.leaves.now in
    let R = g.R.FlowRule.meaning c.args.rule.now in
    let T = c.args.pace.time in
    let ok = c.requires.valid in
    let work = c.walk-moved.new.work in
    let walked = c.walk-moved.ensures.walked in
    let in-time = inside_where T c.args.pace.in_range.0 c.args.pace.in_range.1 in
    let room = sym (overfull_is b ok R T work walked) ∙ sym c.overfull.ensures ∙ c.if-overfull.false in
    record {
      step = grants R T (length c.args.work.now) b c.requires.work ok in-time (fast_is b c.requires.valid T ∙ sym c.too_fast.ensures ∙ c.if-too_fast.false) room
          c.walk-moved.result c.spread.new.leaves c.walk-moved.ensures.moved
          (leaves_are b ok R T work walked c.spread.new.leaves (c.spread.auto.leaves ∙ ok.full.leaves) c.spread.ensures);
      late = refl;
    }
