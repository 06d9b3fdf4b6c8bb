-- The share fits, since it is no more than the water.
use Rattle.std.proofs.Common.{arith, rules}
use Rattle.std.proofs.lemmas.Bool.Decides.{nat_tests}
use Rattle.borders.proofs.Adding.{share_of_water, share_of_wish}
use Rattle.borders.proofs.drain.drained.Goals as goal

pub overflow_cast-result-else-all-water-2 : goal.overflow_cast-result-else-all-water-2
overflow_cast-result-else-all-water-2 c = let h = share_of_water c.args.wish c.args.water c.args.all (omega arith) in search rules

pub returns-else-all-water : goal.returns-else-all-water
returns-else-all-water c =
    let h = share_of_wish c.args.wish c.args.water c.args.all (omega arith) in
    record { value = grind (arith, nat_tests); small = h }
