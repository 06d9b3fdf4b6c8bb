-- Each square's leaf is found, visited at its corner, and passed over elsewhere.
use Rattle.std.proofs.Common.{◌≡◌, ℕ, ◌+◌, ◌*◌, ◌^◌, ◌<◌, List, length, sym, ap, ◌∙◌, subst, arith, rules}
use Rattle.basin.specs.declared.leaf.Leaf.{Leaf}
use Rattle.basin.specs.Basins.{view}
use Rattle.tables.specs.Surveys.{surveyed}
use Rattle.basin.specs.Blocks.{Block}
use Rattle.runs.specs.Homes.{tree}
use Rattle.runs.specs.Step.{out_of}
use Rattle.blocks.specs.Places.{as_block, corner_entry, LeafAt, home_at}
use Rattle.blocks.proofs.Lying.{lies_at}
use Rattle.visits.proofs.Limits.{shallow}
use Rattle.walks.specs.Walks.{leaf_sum, Walked}
use Rattle.walks.proofs.Summing.{moved_is}
use Rattle.walks.proofs.Walking.{leaf_home, walked_start, walked_skip, walked_more, walked_room, walked_enough, sum_start, sum_more, sum_skip}
use Rattle.walks.proofs.walk.walk.Goals as goal
use Rattle.walks.proofs.walk.walk.Goals.{then-corner-i, else-corner-i}

pub loop-i-init : goal.loop-i-init
loop-i-init g c =
    let b = surveyed c.args.motion.now.survey in
    let R = g.R.FlowRule.meaning c.args.motion.now.rule.now in
    let ok = c.args.motion.now.survey.valid in (
      ap length c.requires ∙ ok.full.leaves,
      walked_start b ok R c.args.motion.now.pace.time c.args.work.now c.requires,
      sum_start b.head.L c.args.motion.now.survey.levels.now _,
      omega arith,
    )

pub home-block-requires : goal.home-block-requires
home-block-requires g c =
    let b = surveyed c.args.motion.now.survey in
    let ok = c.args.motion.now.survey.valid in
    let inside : c.loop-i.i < 2 ^ b.head.L * 2 ^ b.head.L = omega (arith, c.squares-i-end.ensures.value) in
    record { within = omega (arith, ok.full.levels); shallow = shallow b ok c.loop-i.i inside }

pub corner-requires : goal.corner-requires
corner-requires g c =
    let b = surveyed c.args.motion.now.survey in
    let ok = c.args.motion.now.survey.valid in
    let inside : c.loop-i.i < 2 ^ b.head.L * 2 ^ b.head.L = omega (arith, c.squares-i-end.ensures.value) in
    lies_at c.home-block.result _ ok.head.levels c.home-block.ensures (leaf_home b ok c.loop-i.i inside).0

pub visit-requires : goal.visit-requires
visit-requires g c =
    let b = surveyed c.args.motion.now.survey in
    let R = g.R.FlowRule.meaning c.args.motion.now.rule.now in
    let T = c.args.motion.now.pace.time in
    let L = b.head.L in
    let i = c.loop-i.i in
    let ok = c.args.motion.now.survey.valid in
    let inside : i < 2 ^ L * 2 ^ L = omega (arith, c.squares-i-end.ensures.value) in
    let leaf = leaf_home b ok i inside in
    let P : Block → Type 0 = λ q. LeafAt L c.args.motion.now.survey.levels.now q in
    let here : LeafAt L c.args.motion.now.survey.levels.now (as_block c.home-block.result) = subst P (sym c.home-block.ensures) leaf in
    let at : corner_entry L (as_block c.home-block.result) ≡ i = sym c.corner.ensures.value ∙ c.if-corner-i.true in
    record {
      lies = lies_at c.home-block.result _ ok.head.levels c.home-block.ensures leaf.0;
      leaf = here;
      full = c.loop-i.invariant.0;
      room = walked_room b ok R T i c.loop-i.work c.loop-i.invariant.1;
      enough = walked_enough b ok R T i c.loop-i.work (as_block c.home-block.result) here at c.loop-i.invariant.1;
    }

pub loop-i-preserved : goal.loop-i-preserved
loop-i-preserved g c =
    let b = surveyed c.args.motion.now.survey in
    let R = g.R.FlowRule.meaning c.args.motion.now.rule.now in
    let T = c.args.motion.now.pace.time in
    let L = b.head.L in
    let levels = c.args.motion.now.survey.levels.now in
    let i = c.loop-i.i in
    let ok = c.args.motion.now.survey.valid in
    let inside : i < 2 ^ L * 2 ^ L = omega (arith, c.squares-i-end.ensures.value) in
    let P : Block → Type 0 = λ q. LeafAt L levels q in
    let here : LeafAt L levels (as_block c.home-block.result) = subst P (sym c.home-block.ensures) (leaf_home b ok i inside) in
    let f = out_of R T (tree (view b)) in
    let same = ap (corner_entry L) c.home-block.ensures in
    let inv = c.loop-i.invariant in
    let Q : List Leaf → Type 0 = λ k. Walked R T b (i + 1) k in
    elim c.if-corner-i.branch [
      | then-corner-i w ↦
          let at : corner_entry L (as_block c.home-block.result) ≡ i = sym c.corner.ensures.value ∙ w.if-corner-i.true in
          let m = sum_more L levels f i (sym same ∙ at) in
          let o = w.visit.ensures.moved ∙ ap f c.home-block.ensures in
          let mi = w.moved-is in (
            search rules,
            subst Q (sym w.work-is) (walked_more b ok R T i c.loop-i.work w.visit.new.work (as_block c.home-block.result) here at inv.1 w.visit.ensures.visited),
            omega (arith, m, o, mi, inv.2),
            omega (arith, mi, inv.3, w.visit.type_inv),
          )
      | else-corner-i w ↦
          let n : corner_entry L (home_at L levels i) ≡ i → ⊥ = λ h. w.if-corner-i.false (c.corner.ensures.value ∙ same ∙ h) in
          let m = sum_skip L levels f i n in
          let mi = w.moved-is in
          (search rules, subst Q (sym w.work-is) (walked_skip b ok R T i c.loop-i.work n inv.1), omega (arith, m, mi, inv.2), omega (arith, mi, inv.3))
    ]

pub returns : goal.returns
returns g c =
    let b = surveyed c.args.motion.now.survey in
    let R = g.R.FlowRule.meaning c.args.motion.now.rule.now in
    let T = c.args.motion.now.pace.time in
    let L = b.head.L in
    let inv = c.loop-i.invariant in
    let end : c.loop-i.i ≡ 2 ^ L * 2 ^ L = omega (arith, c.squares-i-end.ensures.value) in
    let Q : ℕ → Type 0 = λ i. Walked R T b i c.loop-i.work in
    record {
      moved = moved_is b c.args.motion.now.survey.valid R T c.loop-i.moved (inv.2 ∙ ap (leaf_sum L c.args.motion.now.survey.levels.now (out_of R T (tree (view b)))) end);
      walked = subst Q end inv.1;
    }
