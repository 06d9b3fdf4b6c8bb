-- The numbers of a record, one after another.
use Rattle.std.proofs.Common.{◌≡◌, ap, ◌∙◌, w64, SFits, rules}
use Rattle.std.proofs.lemmas.Int.{to_z-of_z}
use Rattle.numbers.specs.Numbers.{coded}
use Rattle.encode.proofs.Puts.{then, first, second}
use Rattle.encode.proofs.Ranges.{small}
use Rattle.encode.proofs.record.put_leaf.Goals as goal
use Rattle.encode.proofs.record.put_leaf.Goals.{After-to_coded, After-to_coded-2, at-number-requires-3, at-returns}

east_is : (c : After-to_coded) → c.to_coded.result ≡ coded c.args.leaf.east
east_is c =
    let f : SFits w64 c.args.leaf.east = search rules in
    c.to_coded.ensures ∙ ap coded (to_z-of_z w64 c.args.leaf.east f)

north_is : (c : After-to_coded-2) → c.to_coded-2.result ≡ coded c.args.leaf.north
north_is c =
    let f : SFits w64 c.args.leaf.north = search rules in
    c.to_coded-2.ensures ∙ ap coded (to_z-of_z w64 c.args.leaf.north f)

pub number-requires-2 : goal.number-requires-2
number-requires-2 c =
    rw (east_is c) (record { small = (small c.args.leaf c.requires.small).east; room = first _ (second c.requires.room c.number.ensures) })

pub number-requires-3 : goal.number-requires-3
number-requires-3 c =
    let east = rw (east_is (at-number-requires-3 c).After-to_coded) at c.number-2.ensures in
    rw (north_is c) (record { small = (small c.args.leaf c.requires.small).north; room = second (second c.requires.room c.number.ensures) east })

pub returns : goal.returns
returns c =
    let east = rw (east_is (at-returns c).After-to_coded) at c.number-2.ensures in
    let north = rw (north_is (at-returns c).After-to_coded-2) at c.number-3.ensures in
    then c.number.ensures (then east north)
