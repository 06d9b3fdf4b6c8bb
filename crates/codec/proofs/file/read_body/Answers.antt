use Rattle.std.proofs.Common.{refl, rules}
use Rattle.basin.specs.Basins.{heading}
use Rattle.nodes.proofs.Quarters.{whole_left}
use Rattle.codec.proofs.Whole.{body_no_tree, body_no_beds, body_trailing, body_charts}
use Rattle.codec.proofs.file.read_body.Goals as goal

pub returns-in_err-read_node : goal.returns-in_err-read_node
returns-in_err-read_node c =
    let e = body_no_tree c.args.head.levels c.args.reader.now.bytes.now c.args.reader.now.at _ refl _ (rw c.whole.ensures.2 at c.in_err-read_node.ensures.next.1) in
    record { whether = rw e (search rules); tables = rw e tt }

pub returns-in_err-read_beds : goal.returns-in_err-read_beds
returns-in_err-read_beds c =
    let tree = c.in_ok-read_node.ensures.next in
    let beds = c.in_err-read_beds.ensures.next in
    let e =
    body_no_beds c.args.head.levels c.args.reader.now.bytes.now c.args.reader.now.at _ c.requires.beds
    _ (rw c.whole.ensures.2 at tree.1) _ (rw tree.0 at beds.1) in
    record { whether = rw e (search rules); tables = rw e tt }

pub returns-then-reader : goal.returns-then-reader
returns-then-reader c =
    let tree = c.in_ok-read_node.ensures in
    let beds = c.in_ok-read_beds.ensures in
    let same = tree.next.0 in
    let left = whole_left c.whole.result c.whole.ensures _ _ _ _ _ _ _ _ (record { next = tree.next.1; levels = tree.levels; leaves = tree.leaves }) in
    let r =
    body_charts (heading c.args.head) c.args.reader.now.bytes.now c.args.reader.now.at _ _ _ _ _ _ _ _
    c.args.reader.now.fit c.requires.levels c.requires.beds c.requires.leaves
    left (rw same at beds.next.1) (rw same at beds.beds) (rw (beds.next.0, same) at c.if-reader.true) in
    record { whether = r.0; tables = r.1 }

pub returns-else-reader : goal.returns-else-reader
returns-else-reader c =
    let tree = c.in_ok-read_node.ensures.next in
    let beds = c.in_ok-read_beds.ensures.next in
    let e =
    body_trailing c.args.head.levels c.args.reader.now.bytes.now c.args.reader.now.at _ c.requires.beds
    _ (rw c.whole.ensures.2 at tree.1) _ (rw tree.0 at beds.1) (rw (beds.0, tree.0) at c.if-reader.false) in
    record { whether = rw e refl; tables = rw e tt }
