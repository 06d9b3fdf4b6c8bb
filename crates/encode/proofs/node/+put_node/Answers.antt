-- A node is its mark, and then its quarters or its record.
use Rattle.std.proofs.Common.{arith, lit<}
use Rattle.encode.proofs.Nodes.{small_at, cut_is, leaf_is}
use Rattle.encode.proofs.Puts.{then, first, second}
use Rattle.encode.proofs.node.+put_node.Goals as goal

pub number-requires : goal.number-requires
number-requires t c =
    record { small = lit< tt; room = first _ (rw (cut_is c.args.node c.in-Some.ensures) at c.requires) }

pub put_node-requires : goal.put_node-requires
put_node-requires t c =
    let h = c.in-Some.ensures in
    let room = rw (cut_is c.args.node h) at c.requires in
    (omega (arith, h.sw.spot.height), first _ (second room c.number.ensures))

pub put_node-requires-in-Some : goal.put_node-requires-in-Some
put_node-requires-in-Some t c =
    let h = c.in-Some.ensures in
    let room = rw (cut_is c.args.node h) at c.requires in
    (omega (arith, h.se.spot.height), first _ (second (second room c.number.ensures) c.put_node.ensures))

pub put_node-requires-in-Some-2 : goal.put_node-requires-in-Some-2
put_node-requires-in-Some-2 t c =
    let h = c.in-Some.ensures in
    let room = rw (cut_is c.args.node h) at c.requires in
    (omega (arith, h.nw.spot.height), first _ (second (second (second room c.number.ensures) c.put_node.ensures) c.put_node-in-Some.ensures))

pub put_node-requires-in-Some-3 : goal.put_node-requires-in-Some-3
put_node-requires-in-Some-3 t c =
    let h = c.in-Some.ensures in
    let room = rw (cut_is c.args.node h) at c.requires in (
      omega (arith, h.ne.spot.height),
      second (second (second (second room c.number.ensures) c.put_node.ensures) c.put_node-in-Some.ensures) c.put_node-in-Some-2.ensures,
    )

pub number-requires-in-None : goal.number-requires-in-None
number-requires-in-None t c =
    record { small = lit< tt; room = first _ (rw (leaf_is c.args.node c.in-None.ensures) at c.requires) }

pub put_leaf-requires : goal.put_leaf-requires
put_leaf-requires t c =
    let room = rw (leaf_is c.args.node c.in-None.ensures) at c.requires in
    rw c.leaf.ensures (record { small = small_at c.args.node; room = second room c.number-in-None.ensures })

pub returns-in-Some : goal.returns-in-Some
returns-in-Some t c =
    rw (cut_is c.args.node c.in-Some.ensures)
    (then c.number.ensures (then c.put_node.ensures (then c.put_node-in-Some.ensures (then c.put_node-in-Some-2.ensures c.put_node-in-Some-3.ensures))))

pub returns-in-None : goal.returns-in-None
returns-in-None t c =
    rw (leaf_is c.args.node c.in-None.ensures) (then c.number-in-None.ensures (rw c.leaf.ensures at c.put_leaf.ensures))
