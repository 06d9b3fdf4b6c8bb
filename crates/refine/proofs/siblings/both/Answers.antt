use borrow.Author.Differences.{ints}
use Rattle.std.proofs.Common.{◌+ℤ◌, arith, w64, SFits, rules}
use Rattle.std.proofs.lemmas.Int.{to_z-of_z}
use Rattle.refine.proofs.siblings.both.Goals as goal

pub returns : goal.returns
returns c =
    let a = c.args.a in
    let b = c.args.b in
    let ae : SFits w64 c.args.a.east = search rules in
    let be : SFits w64 c.args.b.east = search rules in
    let an : SFits w64 c.args.a.north = search rules in
    let bn : SFits w64 c.args.b.north = search rules in
    let e : SFits w64 (c.args.a.east +ℤ c.args.b.east) = omega (arith, ints, c.requires.first.east, c.requires.second.east) in
    let n : SFits w64 (c.args.a.north +ℤ c.args.b.north) = omega (arith, ints, c.requires.first.north, c.requires.second.north) in
    simp to_z-of_z
