use Rattle.std.proofs.Common.{◌≡◌, ℕ, ◌-◌, sym, refl, ◌∙◌, inl, inr, arith, rules}
use Rattle.nodes.specs.Trees.{node_at, quarters_at}
use Rattle.nodes.specs.Paint.{level_of, record_of}
use Rattle.nodes.proofs.Ways.{node_cut, node_wrong, drawn_err, drawn_ok, painted_one, leaf_drawn}
use Rattle.nodes.proofs.Quarters.{quarter_lies, quarters_fit, quarter_left, leaf_is, cut_is, four_left, fault_sw, fault_se, fault_nw}
use Rattle.nodes.proofs.node.+read_node.Goals as goal
use Rattle.nodes.proofs.node.+read_node.Goals.{In-Some, at-returns-in_err-read_node-in-Ok-Cut, at-returns-in_err-read_node-in-Ok-Cut-2, at-returns-in_err-read_node-in-Ok-Cut-3, at-returns-in_ok-read_node-in-Ok-Cut-3}

pub returns-in_err-number : goal.returns-in_err-number
returns-in_err-number t c =
    let e = node_cut c.args.target.height c.args.reader.now.bytes.now c.args.reader.now.at _ c.in_err-number.ensures.1 in
    record { next = (c.in_err-number.ensures.0, rw e (search rules)); levels = drawn_err _ _ _ _ _ _ e; leaves = drawn_err _ _ _ _ _ _ e }

pub returns-in-Err : goal.returns-in-Err
returns-in-Err t c =
    let e =
    node_wrong c.args.target.height c.args.reader.now.bytes.now c.args.reader.now.at _ _ c.in_ok-number.ensures.1
    (λ z. omega (arith, c.in-Err.ensures.1)) (inr (λ z. omega (arith, c.in-Err.ensures.1))) in
    record { next = (c.in_ok-number.ensures.0, rw e refl); levels = drawn_err _ _ _ _ _ _ e; leaves = drawn_err _ _ _ _ _ _ e }

pub returns-in_err-leaf-in-Ok-Leaf : goal.returns-in_err-leaf-in-Ok-Leaf
returns-in_err-leaf-in-Ok-Leaf t c =
    let bs = c.args.reader.now.bytes in
    let zero = sym (rw c.in-Ok-Leaf.field-0-is at c.in-Ok-Leaf.ensures) in
    let e = leaf_is c.args.target bs _ c.in_ok-number.ensures.0 c.args.reader.now.at _ _ _ _ _ c.in_ok-number.ensures.1 zero c.side.ensures.value c.side-in-Ok-Leaf.ensures.value c.in_err-leaf-in-Ok-Leaf.ensures.1 in
    record { next = (c.in_err-leaf-in-Ok-Leaf.ensures.0 ∙ c.in_ok-number.ensures.0, rw e (search rules)); levels = drawn_err _ _ _ _ _ _ e; leaves = drawn_err _ _ _ _ _ _ e }

pub returns-in_ok-leaf-in-Ok-Leaf : goal.returns-in_ok-leaf-in-Ok-Leaf
returns-in_ok-leaf-in-Ok-Leaf t c =
    let s = c.args.target in
    let bs = c.args.reader.now.bytes in
    let zero = sym (rw c.in-Ok-Leaf.field-0-is at c.in-Ok-Leaf.ensures) in
    let e = leaf_is s bs _ c.in_ok-number.ensures.0 c.args.reader.now.at _ _ _ _ _ c.in_ok-number.ensures.1 zero c.side.ensures.value c.side-in-Ok-Leaf.ensures.value c.in_ok-leaf-in-Ok-Leaf.ensures.1 in
    record {
      next = (c.in_ok-leaf-in-Ok-Leaf.ensures.0 ∙ c.in_ok-number.ensures.0, rw e refl);
      levels = drawn_ok _ _ _ _ _ _ e (c.fill.ensures ∙ painted_one (level_of s.levels) _ s.height _ _ _ _ refl);
      leaves = leaf_drawn record_of _ s.height _ _ _ e (search rules);
    }

pub returns-in_default : goal.returns-in_default
returns-in_default t c =
    let one = sym (rw c.in-Ok-Cut.field-0-is at c.in-Ok-Cut.ensures) in
    let e = node_wrong c.args.target.height c.args.reader.now.bytes.now c.args.reader.now.at _ _ c.in_ok-number.ensures.1 (λ z. omega arith) (inl (one, omega (arith, c.in_default.ensures))) in
    record { next = (c.in_ok-number.ensures.0, rw e refl); levels = drawn_err _ _ _ _ _ _ e; leaves = drawn_err _ _ _ _ _ _ e }

pub read_node-requires-in-Ok-Cut-2 : goal.read_node-requires-in-Ok-Cut-2
read_node-requires-in-Ok-Cut-2 t c =
    let q = c.in-Some.ensures in
    let fits = quarters_fit q in
    (search rules, (quarter_lies q.nw _ fits.0 fits.1 (search rules), quarter_lies q.nw _ fits.0 fits.1 (search rules)))

pub read_node-requires-in-Ok-Cut-3 : goal.read_node-requires-in-Ok-Cut-3
read_node-requires-in-Ok-Cut-3 t c =
    let q = c.in-Some.ensures in
    let fits = quarters_fit q in
    (search rules, (quarter_lies q.ne _ fits.2 fits.3 (search rules), quarter_lies q.ne _ fits.2 fits.3 (search rules)))

-- the node is cut
cut : (t : ℕ) (c : In-Some t)
    → node_at c.args.target.height c.args.reader.now.bytes.now c.args.reader.now.at
    ≡ quarters_at (c.args.target.height - 1) c.args.reader.now.bytes.now c.number.new.self.at
cut t c = cut_is c.in-Some.ensures.sw _ _ _ _ c.in_ok-number.ensures.1 (sym (rw c.in-Ok-Cut.field-0-is at c.in-Ok-Cut.ensures))

pub returns-in_err-read_node-in-Ok-Cut : goal.returns-in_err-read_node-in-Ok-Cut
returns-in_err-read_node-in-Ok-Cut t c =
    let first = c.in_ok-number.ensures.0 in
    let sw = c.in_err-read_node-in-Ok-Cut.ensures.next in
    let e = fault_sw c.in-Some.ensures c.args.reader.now.bytes _ first _ _ (cut t (at-returns-in_err-read_node-in-Ok-Cut t c).In-Some) _ sw.1 in
    record { next = (sw.0 ∙ first, rw e (search rules)); levels = drawn_err _ _ _ _ _ _ e; leaves = drawn_err _ _ _ _ _ _ e }

pub returns-in_err-read_node-in-Ok-Cut-2 : goal.returns-in_err-read_node-in-Ok-Cut-2
returns-in_err-read_node-in-Ok-Cut-2 t c =
    let first = c.in_ok-number.ensures.0 in
    let sw = c.in_ok-read_node-in-Ok-Cut.ensures.next in
    let se = c.in_err-read_node-in-Ok-Cut-2.ensures.next in
    let e = fault_se c.in-Some.ensures c.args.reader.now.bytes _ first _ _ (cut t (at-returns-in_err-read_node-in-Ok-Cut-2 t c).In-Some) _ _ _ sw se.1 in
    record { next = (se.0 ∙ (sw.0 ∙ first), rw e (search rules)); levels = drawn_err _ _ _ _ _ _ e; leaves = drawn_err _ _ _ _ _ _ e }

pub returns-in_err-read_node-in-Ok-Cut-3 : goal.returns-in_err-read_node-in-Ok-Cut-3
returns-in_err-read_node-in-Ok-Cut-3 t c =
    let first = c.in_ok-number.ensures.0 in
    let sw = c.in_ok-read_node-in-Ok-Cut.ensures.next in
    let se = c.in_ok-read_node-in-Ok-Cut-2.ensures.next in
    let nw = c.in_err-read_node-in-Ok-Cut-3.ensures.next in
    let e = fault_nw c.in-Some.ensures c.args.reader.now.bytes _ first _ _ (cut t (at-returns-in_err-read_node-in-Ok-Cut-3 t c).In-Some) _ _ _ sw _ _ se nw.1 in
    record { next = (nw.0 ∙ (se.0 ∙ (sw.0 ∙ first)), rw e (search rules)); levels = drawn_err _ _ _ _ _ _ e; leaves = drawn_err _ _ _ _ _ _ e }

pub returns-in_ok-read_node-in-Ok-Cut-3 : goal.returns-in_ok-read_node-in-Ok-Cut-3
returns-in_ok-read_node-in-Ok-Cut-3 t c =
    let bs = c.args.reader.now.bytes in
    let h = c.in-Some.ensures in
    let first = c.in_ok-number.ensures.0 in
    let sw = c.in_ok-read_node-in-Ok-Cut.ensures in
    let se = c.in_ok-read_node-in-Ok-Cut-2.ensures in
    let nw = c.in_ok-read_node-in-Ok-Cut-3.ensures in
    let ne = c.read_node-in-Ok-Cut-3.ensures in
    let e₁ = sw.next.0 ∙ first in
    let e₂ = se.next.0 ∙ e₁ in
    let e₃ = nw.next.0 ∙ e₂ in
    let all =
    four_left c.args.target c.in-Some.quarters h bs.now c.args.reader.now.at _ _ _ _ _ _ _ _ _ _ _ _ _ _ _ _
    (cut t (at-returns-in_ok-read_node-in-Ok-Cut-3 t c).In-Some)
    (quarter_left h.sw bs _ first _ (omega arith) _ _ _ _ _ _ _ (record { next = sw.next.1; levels = sw.levels; leaves = sw.leaves }))
    (quarter_left h.se bs _ e₁ _ (omega arith) _ _ _ _ _ _ _ (record { next = se.next.1; levels = se.levels; leaves = se.leaves }))
    (quarter_left h.nw bs _ e₂ _ (omega arith) _ _ _ _ _ _ _ (record { next = nw.next.1; levels = nw.levels; leaves = nw.leaves }))
    (quarter_left h.ne bs _ e₃ _ (omega arith) _ _ _ _ _ _ _ (record { next = ne.next.1; levels = ne.levels; leaves = ne.leaves })) in
    record { next = (ne.next.0 ∙ e₃, all.next); levels = all.levels; leaves = all.leaves }
