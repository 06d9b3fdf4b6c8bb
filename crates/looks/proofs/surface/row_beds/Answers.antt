use Rattle.std.proofs.Common.{rules, arith}
use Rattle.looks.proofs.Beds.{row_most}
use Rattle.looks.proofs.surface.row_beds.Goals as goal

pub returns-clause-most : goal.returns-clause-most
returns-clause-most c = search (rules, row_most c.args.row.now (λ i. omega (arith, c.type_inv.row i)))
