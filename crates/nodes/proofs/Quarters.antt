-- The quarters of a node, and what reading them leaves.
use Rattle.std.proofs.Common.{◌≡◌, ℕ, suc, ◌+◌, ◌-◌, ◌*◌, ◌^◌, ◌≤◌, List, Ok, Err, Result, Bor, sym, ap, ◌∙◌, add-mul, pow-suc, mul-le-mul_right, arith}
use Rattle.basin.specs.declared.leaf.Leaf.{Leaf}
use Rattle.numbers.specs.Numbers.{number_at}
use Rattle.numbers.specs.Readers.{ended}
use Rattle.numbers.specs.Steps.{after, place}
use Rattle.nodes.specs.declared.fault.TreeFault.{TreeFault}
use Rattle.nodes.specs.declared.target.Target.{Target}
use Rattle.basin.specs.declared.quarters.Quarters.{Quarters}
use Rattle.nodes.specs.Trees.{Tree, one, leaf_at, node_at, quarters_at}
use Rattle.nodes.specs.Paint.{Drawn, level_of, record_of}
use Rattle.nodes.specs.Targets.{LiesIn, TargetQuarter, TargetQuarters, WholeTarget}
use Rattle.nodes.proofs.Ways.{node_leaf, node_fork, no_sw, no_se, no_nw, drawn_four, place_four}

-- reading a node of a basin of L levels into tables with rows of n entries, with this many levels below it and its corner at place p, leads from
-- place a of the bytes to place b with the answer x, and from two tables to the next two
pub record Left (L n height p : ℕ) (bs : List ℕ) (a : ℕ) (x : Result (Unit {0}) TreeFault) (b : ℕ) (shape shape' : List ℕ) (records records' : List Leaf) : Type 0 where
  pub next : ended x b ≡ place (node_at height bs a)
  pub levels : Drawn (level_of L) n height p (node_at height bs a) shape shape'
  pub leaves : Drawn record_of n height p (node_at height bs a) records records'

-- a quarter lies in the tables that its block lies in
pub quarter_lies : {s q : Target} {east north : ℕ} → TargetQuarter s east north q → (entries : ℕ)
    → east + 2 ^ q.height ≤ 2 ^ s.height → north + 2 ^ q.height ≤ 2 ^ s.height → LiesIn s entries → LiesIn q entries
quarter_lies {s} {q} {east} {north} h entries he hn l =
    let rows : (north + 2 ^ q.height) * s.stride ≤ 2 ^ s.height * s.stride = mul-le-mul_right s.stride hn in
    rw (h.corner, h.stride) (omega (arith, rows, add-mul north (2 ^ q.height) s.stride, l, he))

-- the northern quarters lie within the block
pub quarters_fit : {s : Target} {q : Quarters Target} → TargetQuarters s q
    → (0 + 2 ^ q.nw.height ≤ 2 ^ s.height) × (2 ^ q.sw.height + 2 ^ q.nw.height ≤ 2 ^ s.height)
    × (2 ^ q.sw.height + 2 ^ q.ne.height ≤ 2 ^ s.height) × (2 ^ q.sw.height + 2 ^ q.ne.height ≤ 2 ^ s.height)
quarters_fit {s} {q} h =
    let up : s.height ≡ suc q.sw.height = omega (arith, h.sw.height) in
    let whole : 2 ^ s.height ≡ 2 ^ q.sw.height * 2 = ap (λ k. 2 ^ k) up ∙ pow-suc 2 q.sw.height in
    let nw : 2 ^ q.nw.height ≡ 2 ^ q.sw.height = ap (λ k. 2 ^ k) (omega (arith, h.sw.height, h.nw.height)) in
    let ne : 2 ^ q.ne.height ≡ 2 ^ q.sw.height = ap (λ k. 2 ^ k) (omega (arith, h.sw.height, h.ne.height)) in
    (omega (arith, whole, nw), omega (arith, whole, nw), omega (arith, whole, ne), omega (arith, whole, ne))

-- the node of a quarter
module _ {s q : Target} {east north : ℕ} (h : TargetQuarter s east north q) where
  quarter_next : (bs cs : Bor (List ℕ)) → cs ≡ bs → (a : ℕ) (r : Result ℕ TreeFault)
      → r ≡ place (node_at q.height cs.now a) → r ≡ place (node_at (s.height - 1) bs.now a)
  quarter_next bs cs e a r l =
      let k : q.height ≡ s.height - 1 = omega (arith, h.height) in
      coe 0 1 (i. r ≡ place (node_at (k i) (e i).now a)) l

  pub quarter_left : (bs cs : Bor (List ℕ)) → cs ≡ bs → (p : ℕ) → p ≡ s.corner + north * s.stride + east
      → (a : ℕ) (x : Result (Unit {0}) TreeFault) (b : ℕ) (shape shape' : List ℕ) (records records' : List Leaf)
      → Left q.levels q.stride q.height q.corner cs.now a x b shape shape' records records'
      → Left s.levels s.stride (s.height - 1) p bs.now a x b shape shape' records records'
  quarter_left bs cs e p ep a x b shape shape' records records' l =
      let k : q.height ≡ s.height - 1 = omega (arith, h.height) in
      let c : q.corner ≡ p = h.corner ∙ sym ep in
      coe 0 1 (i. Left (h.levels i) (h.stride i) (k i) (c i) (e i).now a x b shape shape' records records') l

  pub cut_is : (bs : List ℕ) (at mark next : ℕ) → Ok (mark, next) ≡ number_at bs at → mark ≡ 1
      → node_at s.height bs at ≡ quarters_at (s.height - 1) bs next
  cut_is bs at mark next e z = node_fork s.height bs at mark next e z (omega (arith, h.height))

-- the node of a leaf
pub leaf_is : (s : Target) (bs cs : Bor (List ℕ)) → cs ≡ bs → (at mark next w v : ℕ) (r : Result (Leaf × ℕ) TreeFault)
    → Ok (mark, next) ≡ number_at bs.now at → mark ≡ 0 → w ≡ 2 ^ s.height → v ≡ 2 ^ s.height → r ≡ leaf_at cs.now next (w * v)
    → node_at s.height bs.now at ≡ after r (λ l. Ok (one l.0, l.1))
leaf_is s bs cs e at mark next w v r n z ew ev l =
    let same : v ≡ w = ev ∙ sym ew in
    node_leaf s.height bs.now at mark next w r n z ew (coe 0 1 (i. r ≡ leaf_at (e i).now next (w * same i)) l)

-- four quarters in turn
pub four_left : (s : Target) (q : Quarters Target) → TargetQuarters s q → (bs : List ℕ) (at a b c d e : ℕ) (x : Result (Unit {0}) TreeFault)
    (l₀ l₁ l₂ l₃ l₄ : List ℕ) (r₀ r₁ r₂ r₃ r₄ : List Leaf)
    → node_at s.height bs at ≡ quarters_at (s.height - 1) bs a
    → Left s.levels s.stride (s.height - 1) s.corner bs a (Ok tt) b l₀ l₁ r₀ r₁
    → Left s.levels s.stride (s.height - 1) (s.corner + 2 ^ q.sw.height) bs b (Ok tt) c l₁ l₂ r₁ r₂
    → Left s.levels s.stride (s.height - 1) (s.corner + 2 ^ q.sw.height * s.stride) bs c (Ok tt) d l₂ l₃ r₂ r₃
    → Left s.levels s.stride (s.height - 1) (s.corner + 2 ^ q.sw.height * s.stride + 2 ^ q.sw.height) bs d x e l₃ l₄ r₃ r₄
    → Left s.levels s.stride s.height s.corner bs at x e l₀ l₄ r₀ r₄
four_left s q h bs at a b c d e x l₀ l₁ l₂ l₃ l₄ r₀ r₁ r₂ r₃ r₄ cut sw se nw ne =
    let node : ℕ → Result (Tree × ℕ) TreeFault = λ p. node_at (s.height - 1) bs p in
    let below : q.sw.height ≡ s.height - 1 = omega (arith, h.sw.height) in
    let half = ap (λ k. 2 ^ k) below in
    let up : s.height - 1 + 1 ≡ s.height = omega (arith, h.sw.height) in
    let levels =
    drawn_four (level_of s.levels) s.stride (s.height - 1) (2 ^ q.sw.height) s.corner node a b c d l₀ l₁ l₂ l₃ l₄
    half sw.next se.next nw.next sw.levels se.levels nw.levels ne.levels in
    let leaves =
    drawn_four record_of s.stride (s.height - 1) (2 ^ q.sw.height) s.corner node a b c d r₀ r₁ r₂ r₃ r₄
    half sw.next se.next nw.next sw.leaves se.leaves nw.leaves ne.leaves in
    record {
      next = rw cut (place_four node a b c d (ended x e) sw.next se.next nw.next ne.next);
      levels = rw cut (rw up at levels);
      leaves = rw cut (rw up at leaves);
    }

-- the node of a whole basin
pub whole_left : {L : ℕ} (s : Target) → WholeTarget L s → (bs : List ℕ) (a : ℕ) (x : Result (Unit {0}) TreeFault) (b : ℕ) (shape shape' : List ℕ) (records records' : List Leaf)
    → Left s.levels s.stride s.height s.corner bs a x b shape shape' records records' → Left L (2 ^ L) L 0 bs a x b shape shape' records records'
whole_left {L} s h bs a x b shape shape' records records' l =
    coe 0 1 (i. Left (h.3 i) (h.1 i) (h.2 i) (h.0 i) bs a x b shape shape' records records') l

-- a fault in a quarter is the node's: each quarter is read from where the one before it ends, of the same bytes
module _ {s : Target} {q : Quarters Target} (h : TargetQuarters s q) (bs b₁ : Bor (List ℕ)) (e₁ : b₁ ≡ bs) (at a₁ : ℕ)
    (cut : node_at s.height bs.now at ≡ quarters_at (s.height - 1) bs.now a₁) (f : TreeFault) where
  pub fault_sw : Err f ≡ place (node_at q.sw.height b₁.now a₁) → node_at s.height bs.now at ≡ Err f
  fault_sw e = cut ∙ no_sw (s.height - 1) bs.now a₁ f (quarter_next h.sw bs b₁ e₁ a₁ _ e)

  module _ (b₂ : Bor (List ℕ)) (a₂ : ℕ) (sw : (b₂ ≡ b₁) × (Ok a₂ ≡ place (node_at q.sw.height b₁.now a₁))) where
    pub fault_se : Err f ≡ place (node_at q.se.height b₂.now a₂) → node_at s.height bs.now at ≡ Err f
    fault_se e =
        cut ∙ no_se (s.height - 1) bs.now a₁ f a₂ (quarter_next h.sw bs b₁ e₁ a₁ _ sw.1) (quarter_next h.se bs b₂ (sw.0 ∙ e₁) a₂ _ e)

    module _ (b₃ : Bor (List ℕ)) (a₃ : ℕ) (se : (b₃ ≡ b₂) × (Ok a₃ ≡ place (node_at q.se.height b₂.now a₂))) where
      pub fault_nw : Err f ≡ place (node_at q.nw.height b₃.now a₃) → node_at s.height bs.now at ≡ Err f
      fault_nw e =
          cut ∙ no_nw (s.height - 1) bs.now a₁ f a₂ a₃
          (quarter_next h.sw bs b₁ e₁ a₁ _ sw.1) (quarter_next h.se bs b₂ (sw.0 ∙ e₁) a₂ _ se.1) (quarter_next h.nw bs b₃ (se.0 ∙ (sw.0 ∙ e₁)) a₃ _ e)
