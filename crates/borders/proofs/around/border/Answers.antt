-- A border is the sum of its faces.
use Rattle.std.proofs.Common.{sym, refl, ap, ◌∙◌, arith, w64, SFits, rules}
use Rattle.flow.specs.Whole.{back}
use Rattle.borders.proofs.Seeing.{abs_back}
use Rattle.borders.specs.Shares.{wish_by, across_by, along_by, face_between}
use Rattle.blocks.specs.Places.{as_side}
use Rattle.borders.specs.Borders.{border_of}
use Rattle.borders.proofs.Adding.{same_border, add_back, add_back_small, add_fits}
use Rattle.borders.proofs.around.border.Goals as goal

pub overflow_add-result : goal.overflow_add-result
overflow_add-result g c =
    let fa : SFits w64 c.between-one-in-Two.result.across = search rules in
    let fb : SFits w64 c.between-two.result.across = search rules in
    add_fits _ _ fa fb c.between-one-in-Two.ensures.small.across c.between-two.ensures.small.across

pub overflow_add-result-in-Two : goal.overflow_add-result-in-Two
overflow_add-result-in-Two g c =
    let fa : SFits w64 c.between-one-in-Two.result.along = search rules in
    let fb : SFits w64 c.between-two.result.along = search rules in
    add_fits _ _ fa fb c.between-one-in-Two.ensures.small.along c.between-two.ensures.small.along

pub returns-in-Wall : goal.returns-in-Wall
unfolding border_of
returns-in-Wall g c =
    let R = g.R.FlowRule.meaning c.args.rule.now in
    let a = c.at_wall-wall.ensures in
    let ft : SFits w64 c.at_wall-wall.result.across = search rules in
    let fd : SFits w64 c.at_wall-wall.result.along = search rules in
    record {
      value = same_border _ _ _ _ refl refl (back _ _ ft a.across) (back _ _ fd a.along)
          ∙ ap (λ e. border_of R c.args.pace.time c.args.pace.width c.args.head.levels c.args.beds.now c.args.leaves.now c.args.dir c.args.near (as_side e)) (sym c.in-Wall.is);
      small = record { first = omega arith; second = omega arith; across = abs_back c.at_wall-wall.result.across _ ft (omega (arith, a.small.across)); along = abs_back c.at_wall-wall.result.along _ fd (omega (arith, a.small.along)) };
    }

pub returns-in-One : goal.returns-in-One
unfolding border_of
returns-in-One g c =
    let R = g.R.FlowRule.meaning c.args.rule.now in
    let T = c.args.pace.time in
    let d = c.args.pace.width in
    let p = c.args.dir in
    let near = c.args.near in
    let a = c.between-one.ensures in
    let e = c.pool.ensures in
    let ft : SFits w64 c.between-one.result.across = search rules in
    let fd : SFits w64 c.between-one.result.along = search rules in
    record {
      value = same_border _ _ _ _ (a.wish ∙ ap (λ q. wish_by R T d p (face_between p near q)) e) refl
          (back _ _ ft (a.across ∙ ap (λ q. across_by R T d p (face_between p near q)) e))
          (back _ _ fd (a.along ∙ ap (λ q. along_by R T d p (face_between p near q)) e))
          ∙ ap (λ e. border_of R T d c.args.head.levels c.args.beds.now c.args.leaves.now p near (as_side e)) (sym c.in-One.is);
      small = record { first = a.small.wish; second = omega arith; across = abs_back c.between-one.result.across _ ft (omega (arith, a.small.across)); along = abs_back c.between-one.result.along _ fd (omega (arith, a.small.along)) };
    }

pub returns-in-Two : goal.returns-in-Two
unfolding border_of
returns-in-Two g c =
    let R = g.R.FlowRule.meaning c.args.rule.now in
    let T = c.args.pace.time in
    let d = c.args.pace.width in
    let p = c.args.dir in
    let near = c.args.near in
    let a = c.between-one-in-Two.ensures in
    let b = c.between-two.ensures in
    let e = c.pool-in-Two.ensures in
    let f = c.pool-in-Two-2.ensures in
    let at : SFits w64 c.between-one-in-Two.result.across = search rules in
    let ad : SFits w64 c.between-one-in-Two.result.along = search rules in
    let bt : SFits w64 c.between-two.result.across = search rules in
    let bd : SFits w64 c.between-two.result.along = search rules in
    record {
      value = same_border _ _ _ _ (a.wish ∙ ap (λ q. wish_by R T d p (face_between p near q)) e) (b.wish ∙ ap (λ q. wish_by R T d p (face_between p near q)) f)
          (add_back _ _ at bt a.small.across b.small.across _ _ (a.across ∙ ap (λ q. across_by R T d p (face_between p near q)) e) (b.across ∙ ap (λ q. across_by R T d p (face_between p near q)) f))
          (add_back _ _ ad bd a.small.along b.small.along _ _ (a.along ∙ ap (λ q. along_by R T d p (face_between p near q)) e) (b.along ∙ ap (λ q. along_by R T d p (face_between p near q)) f))
          ∙ ap (λ e. border_of R T d c.args.head.levels c.args.beds.now c.args.leaves.now p near (as_side e)) (sym c.in-Two.is);
      small = record {
        first = a.small.wish;
        second = b.small.wish;
        across = add_back_small c.between-one-in-Two.result.across c.between-two.result.across at bt a.small.across b.small.across;
        along = add_back_small c.between-one-in-Two.result.along c.between-two.result.along ad bd a.small.along b.small.along;
      };
    }
