use Rattle.std.proofs.Common.{refl}
use Rattle.basin.specs.Squares.{unbalanced}
use Rattle.basin.specs.Tables.{table}
use Rattle.numbers.specs.Numbers.{groups, groups_at}
use Rattle.nodes.specs.Trees.{node_at, found}
use Rattle.codec.specs.Files.{beds_from, body_at, file_at}
use Rattle.kaftanore.proofs.worked_examples.Goals as goal

pub returns : goal.returns
unfolding unbalanced table groups groups_at node_at found beds_from body_at file_at
returns c = record { three_hundred = refl; padded_zero = refl; padded_zero_number = refl; padded_zero_layer = refl; dry_file = refl }
