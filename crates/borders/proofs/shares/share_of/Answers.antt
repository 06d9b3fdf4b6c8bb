-- Toward east and north the near side is side 1, toward west and south it is side 2.
use Rattle.std.proofs.Common.{sym, ap, ◌∙◌, arith, w64, SFits, rules}
use borrow.Author.Differences.{up}
use Rattle.flow.specs.Whole.{back}
use Rattle.flow.specs.States.{state_of}
use Rattle.borders.specs.Shares.{face_of}
use Rattle.borders.proofs.Seeing.{is_ahead, is_back, wish_ahead, across_ahead, along_ahead, wish_back, across_back, along_back, neg_back, abs_back, abs_neg_back}
use Rattle.borders.proofs.shares.share_of.Goals as goal

pub returns-in-East : goal.returns-in-East
returns-in-East g c =
    let R = g.R.FlowRule.meaning c.args.rule.now in
    let T = c.args.pace.time in
    let d = c.args.pace.width in
    let F = face_of (state_of c.args.near) (state_of c.args.far) c.args.length in
    let h = is_ahead c.args.dir c.in-East.is in
    let a = c.cross-ahead.ensures in
    let fw : SFits w64 c.cross-ahead.result.wish = search rules in
    let ff : SFits w64 c.cross-ahead.result.fall = search rules in
    let fs : SFits w64 c.cross-ahead.result.drift = search rules in
    record {
      wish = c.outward.ensures.value ∙ ap up (back _ _ fw a.wish) ∙ sym (wish_ahead R T d c.args.dir F h);
      across = neg_back _ _ ff a.small.fall_small a.fall ∙ sym (across_ahead R T d c.args.dir F h);
      along = neg_back _ _ fs a.small.drift_small a.drift ∙ sym (along_ahead R T d c.args.dir F h);
      small = record {
        wish = c.outward.ensures.small;
        across = abs_neg_back c.cross-ahead.result.fall _ ff a.small.fall_small (omega arith);
        along = abs_neg_back c.cross-ahead.result.drift _ fs a.small.drift_small (omega arith);
      };
    }

pub returns-in-West : goal.returns-in-West
returns-in-West g c =
    let R = g.R.FlowRule.meaning c.args.rule.now in
    let T = c.args.pace.time in
    let d = c.args.pace.width in
    let F = face_of (state_of c.args.near) (state_of c.args.far) c.args.length in
    let h = is_back c.args.dir c.in-West.is in
    let a = c.cross-back.ensures in
    let fw : SFits w64 c.cross-back.result.wish = search rules in
    let ff : SFits w64 c.cross-back.result.rise = search rules in
    let fs : SFits w64 c.cross-back.result.drift = search rules in
    record {
      wish = c.outward-in-West.ensures.value ∙ ap up (neg_back _ _ fw (omega (arith, a.small.wish_small)) a.wish) ∙ sym (wish_back R T d c.args.dir F h);
      across = back _ _ ff a.rise ∙ sym (across_back R T d c.args.dir F h);
      along = back _ _ fs a.drift ∙ sym (along_back R T d c.args.dir F h);
      small = record {
        wish = c.outward-in-West.ensures.small;
        across = abs_back c.cross-back.result.rise _ ff a.small.rise_small;
        along = abs_back c.cross-back.result.drift _ fs a.small.drift_small;
      };
    }

pub outward-requires-in-West : goal.outward-requires-in-West
outward-requires-in-West g c =
    let fw : SFits w64 c.cross-back.result.wish = search rules in
    abs_neg_back c.cross-back.result.wish _ fw c.cross-back.ensures.small.wish_small (omega arith)
