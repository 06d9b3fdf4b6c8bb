-- The first two refusals strike where head and tables are no valid basin, and only there.
use Rattle.std.proofs.lemmas.Bool.Decides.{not_from_Decides}
use Rattle.basin.specs.Basins.{basin_of}
use Rattle.tables.proofs.Valid.{told_misfit, told_valid, told_invalid}
use Rattle.tables.proofs.validity.validate.Goals as goal

pub returns-then-not-fits : goal.returns-then-not-fits
returns-then-not-fits c =
    let t = told_misfit (basin_of c.args.head c.args.levels.now c.args.beds.now c.args.leaves.now)
    (not_from_Decides _ c.fits.ensures c.if-not-fits.true) in
    record { verdict = t.0; valid = t.1 }

pub returns-then-is_valid : goal.returns-then-is_valid
returns-then-is_valid c =
    let t = told_valid (basin_of c.args.head c.args.levels.now c.args.beds.now c.args.leaves.now) _
    (c.fits.ensures.0 c.if-not-fits.false) c.is_valid.ensures c.if-is_valid.true in
    record { verdict = t.0; valid = t.1 }

pub returns-else-is_valid : goal.returns-else-is_valid
returns-else-is_valid c =
    let t = told_invalid (basin_of c.args.head c.args.levels.now c.args.beds.now c.args.leaves.now) _
    (c.fits.ensures.0 c.if-not-fits.false) c.is_valid.ensures c.if-is_valid.false in
    record { verdict = t.0; valid = t.1 }
