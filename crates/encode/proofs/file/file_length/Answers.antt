-- The file takes the bytes of its parts.
use Rattle.std.proofs.Common.{refl, arith}
use Rattle.basin.proofs.Sizes.{area_small}
use Rattle.tables.specs.Surveys.{surveyed}
use Rattle.encode.proofs.Nodes.{whole_is}
use Rattle.encode.proofs.Whole.{file_parts}
use Rattle.encode.proofs.file.file_length.Goals as goal

pub beds_length-requires : goal.beds_length-requires
beds_length-requires c =
    let valid = c.args.survey.now.valid in
    omega (arith, valid.full.beds, area_small c.args.survey.now.head.levels _ (omega (arith, valid.head.levels)) refl)

pub returns : goal.returns
returns c =
    let tree = rw (whole_is c.args.survey c.whole.result c.whole.ensures.survey c.whole.ensures.spot) at c.node_length-tree_length.ensures.value in
    omega (arith, file_parts (surveyed c.args.survey.now), tree)
