-- Each refusal strikes in its turn; the work table is dry where the time was found in range.
use Rattle.std.proofs.Common.{◌≡◌, length, replicate, sym, refl, ap, ◌∙◌, rules}
use Rattle.std.proofs.lemmas.Result.{err_from_is_err_and}
use Rattle.basin.specs.Basins.{basin_of}
use Rattle.basin.specs.Records.{dry}
use Rattle.step.proofs.Verdicts.{outside_where, short, invalid, out_of_time, work_kept}
use Rattle.step.proofs.step.step.Goals as goal

pub returns-then-work-squares : goal.returns-then-work-squares
returns-then-work-squares g c =
    let b = basin_of c.args.head c.args.levels.now c.args.beds.now c.args.leaves.now in
    let R = g.R.FlowRule.meaning c.args.rule.now in
    record { step = short R c.args.time (length c.args.work.now) b (λ e. c.if-work-squares.true (e ∙ sym c.squares.ensures.value)); work = refl }

pub returns-in_err-validate : goal.returns-in_err-validate
returns-in_err-validate g c =
    let b = basin_of c.args.head c.args.levels.now c.args.beds.now c.args.leaves.now in
    let R = g.R.FlowRule.meaning c.args.rule.now in
    let full = c.if-work-squares.false ∙ c.squares.ensures.value in
    let p = err_from_is_err_and c.from_residual.result c.from_residual.ensures.1 in
    let h = sym c.in_err-validate.ensures.verdict in
    rw (p.1, p.2) (record { step = invalid R c.args.time (length c.args.work.now) b full _ h; work = work_kept b _ c.args.work.now h })

pub returns-then-time-lt1 : goal.returns-then-time-lt1
returns-then-time-lt1 g c =
    let b = basin_of c.args.head c.args.levels.now c.args.beds.now c.args.leaves.now in
    let R = g.R.FlowRule.meaning c.args.rule.now in
    let full = c.if-work-squares.false ∙ c.squares.ensures.value in
    record {
      step = out_of_time R c.args.time (length c.args.work.now) b full c.in_ok-validate.ensures.valid (outside_where c.args.time c.then-time-lt1.either);
      work = refl;
    }

pub returns : goal.returns
returns g c =
    let filled : c.fill.new.self ≡ replicate (length c.advance-moved.new.work) dry = search rules in
    record {
      step = c.advance-moved.ensures.step;
      work = filled ∙ ap (λ n. replicate n dry) c.advance-moved.auto.work ∙ sym c.advance-moved.ensures.late;
    }
