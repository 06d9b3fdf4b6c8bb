-- A node takes its mark and the bytes of its quarters or of its record.
use Rattle.std.proofs.Common.{arith}
use Rattle.encode.proofs.Nodes.{small_at, few_at, cut_length, leaf_length}
use Rattle.encode.proofs.node.+node_length.Goals as goal

pub leaf_length-requires : goal.leaf_length-requires
leaf_length-requires t c = rw c.leaf.ensures (small_at c.args.node)

pub returns-in-Some : goal.returns-in-Some
returns-in-Some t c =
    let all = cut_length c.args.node c.in-Some.ensures in
    let sw = c.node_length.ensures.value in
    let se = c.node_length-in-Some.ensures.value in
    let nw = c.node_length-in-Some-2.ensures.value in
    let ne = c.node_length-in-Some-3.ensures.value in
    record { value = omega (arith, all, sw, se, nw, ne); most = omega (arith, all, sw, se, nw, ne, few_at c.args.node) }

pub returns-in-None : goal.returns-in-None
returns-in-None t c =
    let all = leaf_length c.args.node c.in-None.ensures in
    let leaf = rw c.leaf.ensures at c.leaf_length.ensures.value in
    record { value = omega (arith, all, leaf); most = omega (arith, c.leaf_length.ensures.most) }
