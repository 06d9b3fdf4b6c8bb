-- Head and tables are a valid basin where each square is valid and the levels are balanced, and are not where a square is not.
use Rattle.std.proofs.Common.{rules, not, ap, ◌∙◌, Decides}
use Rattle.basin.specs.Basins.{basin_of, heading, side}
use Rattle.basin.specs.Squares.{unbalanced}
use Rattle.basin.specs.Tables.{entry}
use Rattle.basin.proofs.Telling.{head_in_range}
use Rattle.basin.proofs.Windows.{decided_by_rows}
use Rattle.tables.specs.Alike.{SquareValid, RowsValid}
use Rattle.tables.proofs.Valid.{valid_where_decided, invalid_where_decided}
use Rattle.tables.proofs.validity.is_valid.Goals as goal
use Rattle.tables.proofs.validity.is_valid.Goals.{After-passes-valid, at-returns-then-valid, at-returns-else-valid}

decided : (c : After-passes-valid) → Decides c.passes-valid.result
    (RowsValid (basin_of c.args.head c.args.levels.now c.args.beds.now c.args.leaves.now) (side (heading c.args.head)))
decided c =
    decided_by_rows (side (heading c.args.head)) (SquareValid (basin_of c.args.head c.args.levels.now c.args.beds.now c.args.leaves.now)) c.passes-valid.result
    c.whole.result (rw (← c.side-n.ensures.value) c.whole.ensures) c.passes-valid.ensures
    (λ x y a b p. search rules) (λ x y a b p. search rules)

pub returns-then-valid : goal.returns-then-valid
returns-then-valid c =
    c.is_balanced.ensures
    ∙ ap (λ n. not (unbalanced n (λ x y. entry n 0 c.args.levels.now x y))) c.side-n.ensures.value
    ∙ valid_where_decided _ _ (head_in_range c.args.head) (decided (at-returns-then-valid c).After-passes-valid) c.if-valid.true

pub returns-else-valid : goal.returns-else-valid
returns-else-valid c = invalid_where_decided _ _ (decided (at-returns-else-valid c).After-passes-valid) c.if-valid.false
