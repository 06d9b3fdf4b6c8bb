-- The parts of the file, one after another.
use Rattle.std.proofs.Common.{refl, rules}
use Rattle.encode.proofs.Nodes.{whole_is}
use Rattle.tables.specs.Surveys.{surveyed}
use Rattle.encode.proofs.Whole.{file_room}
use Rattle.encode.proofs.Puts.{then, first, second}
use Rattle.encode.proofs.file.put_file.Goals as goal

pub number-requires-2-clause-room : goal.number-requires-2-clause-room
number-requires-2-clause-room c = first _ (second (file_room (surveyed c.args.survey.now) _ refl c.requires) c.number.ensures)

pub number-requires-3-clause-room : goal.number-requires-3-clause-room
number-requires-3-clause-room c = first _ (second (second (file_room (surveyed c.args.survey.now) _ refl c.requires) c.number.ensures) c.number-2.ensures)

pub put_node-requires : goal.put_node-requires
put_node-requires c =
    rw (whole_is c.args.survey c.whole.result c.whole.ensures.survey c.whole.ensures.spot)
    (first _ (second (second (second (file_room (surveyed c.args.survey.now) _ refl c.requires) c.number.ensures) c.number-2.ensures) c.number-3.ensures))

pub put_beds-requires : goal.put_beds-requires
put_beds-requires c =
    let tree = rw (whole_is c.args.survey c.whole.result c.whole.ensures.survey c.whole.ensures.spot) at c.put_node.ensures in
    second (second (second (second (file_room (surveyed c.args.survey.now) _ refl c.requires) c.number.ensures) c.number-2.ensures) c.number-3.ensures) tree

pub returns : goal.returns
returns c =
    let tree = rw (whole_is c.args.survey c.whole.result c.whole.ensures.survey c.whole.ensures.spot) at c.put_node.ensures in
    let all = then c.number.ensures (then c.number-2.ensures (then c.number-3.ensures (then tree c.put_beds.ensures))) in
    let same = all.same in
    let written = all.written in
    search rules
