-- A refusal leaves the second tables as they were, and what is granted is the turned basin.
use Rattle.std.proofs.Common.{◌≡◌, ◌<◌, sym, ap, ◌∙◌, subst, arith}
use Rattle.std.proofs.lemmas.Bool.Decides.{not_from_Decides}
use Rattle.std.proofs.lemmas.Result.{err_from_is_err_and}
use Rattle.basin.specs.Basins.{basin, basin_of, tables, ValidBasin}
use Rattle.basin.specs.Totals.{total}
use Rattle.turns.specs.Eight.{number_of}
use Rattle.turns.specs.Records.{reversible}
use Rattle.turns.specs.Turns.{turned_basin, turned_leaf}
use Rattle.turns.proofs.Basins.{turned_is, turned_valid}
use Rattle.turns.proofs.Calls.{turn_misfit, turn_refused, turn_unknown, turn_granted}
use Rattle.turns.proofs.Tables.{turned_alike}
use Rattle.turns.proofs.Waters.{turned_total}
use Rattle.turns.proofs.turn.turn.Goals as goal

pub returns-then-not-fits-clause-turned : goal.returns-then-not-fits-clause-turned
returns-then-not-fits-clause-turned c = turn_misfit _ _ _ (not_from_Decides _ c.fits.ensures c.if-not-fits.true)

pub returns-in_err-survey-clause-turned : goal.returns-in_err-survey-clause-turned
returns-in_err-survey-clause-turned c =
    let p = err_from_is_err_and c.from_residual.result c.from_residual.ensures.1 in
    rw (p.1, p.2)
    (turn_refused _ _ _ (c.fits.ensures.0 c.if-not-fits.false) _ c.in_err-survey.ensures)

pub returns-in_err-turn-clause-turned : goal.returns-in_err-turn-clause-turned
returns-in_err-turn-clause-turned c =
    let p = err_from_is_err_and c.from_residual-in_err-turn.result c.from_residual-in_err-turn.ensures.1 in
    rw (p.1, p.2, c.in_err-turn.ensures.0)
    (turn_unknown _ _ _ (c.fits.ensures.0 c.if-not-fits.false) c.in_ok-survey.ensures.1 c.in_err-turn.ensures.1)

pub turn_table-requires-3-clause-can : goal.turn_table-requires-3-clause-can
turn_table-requires-3-clause-can c = reversible _ c.in_ok-survey.survey.valid

pub returns : goal.returns
returns c =
    let b = basin_of c.args.head c.args.levels.now c.args.beds.now c.args.leaves.now in
    let second = tables c.turn_table.new.to c.turn_table-2.new.to c.turn_table-3.new.to in
    let s = c.in_ok-survey.survey in
    let same = c.in_ok-survey.ensures.0 in
    let right : ValidBasin b = subst ValidBasin same s.valid in
    let n = c.side-n.ensures.value in
    let t : number_of c.in_ok-turn.turn ≡ c.args.turn = c.in_ok-turn.ensures in
    let known : c.args.turn < 8 = grind (arith, t) in
    let is : basin b.head second ≡ turned_basin c.args.turn b =
    turned_is b second c.args.turn right.full known
    (turned_alike (λ t m. m) _ _ _ _ s.levels.now b.tables.levels second.levels n t (ap (λ b. b.tables.levels) same) c.turn_table.ensures.turned)
    (turned_alike (λ t m. m) _ _ _ _ s.beds.now b.tables.beds second.beds n t (ap (λ b. b.tables.beds) same) c.turn_table-2.ensures.turned)
    (turned_alike turned_leaf _ _ _ _ s.leaves.now b.tables.leaves second.leaves n t (ap (λ b. b.tables.leaves) same) c.turn_table-3.ensures.turned) in
    record {
      turned =
          turn_granted b (tables c.args.second_levels.now c.args.second_beds.now c.args.second_leaves.now) _ (c.fits.ensures.0 c.if-not-fits.false) second
          c.in_ok-survey.ensures.1 (omega arith) is;
      valid = subst ValidBasin (sym is) (turned_valid c.args.turn b right);
      total = ap total is ∙ turned_total c.args.turn b right;
    }
