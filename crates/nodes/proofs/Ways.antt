-- The ways through a node, and what each leaves of the tables.
use Rattle.std.proofs.Common.{◌≡◌, ℕ, zero, suc, ◌+◌, ◌-◌, ◌*◌, ◌^◌, ◌<◌, ◌≤◌, ◌⊎◌, List, Ok, Err, Result, refl, ◌∙◌, inl, inr, add-one, arith}
use Rattle.std.proofs.lemmas.Bool.{ne_eqb}
use Rattle.numbers.specs.declared.fault.NumberFault.{NumberFault}
use Rattle.numbers.specs.Numbers.{number_at}
use Rattle.numbers.proofs.Steps.{placed, not_placed}
use Rattle.nodes.specs.declared.fault.TreeFault.{TreeFault}
use Rattle.nodes.specs.declared.fault.TreeFault.TheVariants.{Number, Range}
use Rattle.basin.specs.declared.leaf.Leaf.{Leaf}
use Rattle.numbers.specs.Steps.{after, place}
use Rattle.nodes.specs.Trees.{Tree, one, four, side, leaf_at, node_by, node_at, quarters_at, quarters_by}
use Rattle.basin.specs.Fills.{square}
use Rattle.nodes.specs.Paint.{painted, Drawn}

-- what a mark 1 leads to
abbrev pub fork_at : ℕ → List ℕ → ℕ → ℕ → Result (Tree × ℕ) TreeFault
fork_at zero bs mark next = Err (Range mark)
fork_at (suc height) bs mark next = quarters_at height bs next

pub node_is : (height : ℕ) (bs : List ℕ) (at : ℕ) → node_at height bs at ≡ node_by (λ mark next. fork_at height bs mark next) (side height * side height) bs at
unfolding node_at
node_is zero bs at = refl
node_is (suc height) bs at = refl

pub fork_is : (height : ℕ) (bs : List ℕ) (mark next : ℕ) → 0 < height → fork_at height bs mark next ≡ quarters_at (height - 1) bs next
fork_is zero bs mark next h = absurd (omega arith)
fork_is (suc height) bs mark next h = let e : suc height - 1 ≡ height = omega arith in rw e refl

-- the ways through a node
pub node_cut : (height : ℕ) (bs : List ℕ) (at : ℕ) (f : NumberFault) → Err f ≡ number_at bs at → node_at height bs at ≡ Err (Number f)
node_cut height bs at f e = rw (node_is height bs at, ← e) refl

pub node_leaf : (height : ℕ) (bs : List ℕ) (at mark next w : ℕ) (r : Result (Leaf × ℕ) TreeFault)
    → Ok (mark, next) ≡ number_at bs at → mark ≡ 0 → w ≡ 2 ^ height → r ≡ leaf_at bs next (w * w)
    → node_at height bs at ≡ after r (λ l. Ok (one l.0, l.1))
node_leaf height bs at mark next w r e z h l = rw (node_is height bs at, ← e, z, ← h, ← l) refl

pub node_fork : (height : ℕ) (bs : List ℕ) (at mark next : ℕ)
    → Ok (mark, next) ≡ number_at bs at → mark ≡ 1 → 0 < height → node_at height bs at ≡ quarters_at (height - 1) bs next
node_fork height bs at mark next e z h = rw (node_is height bs at, ← e, z) (fork_is height bs at next h)

pub node_wrong : (height : ℕ) (bs : List ℕ) (at mark next : ℕ)
    → Ok (mark, next) ≡ number_at bs at → (mark ≡ 0 → ⊥) → ((mark ≡ 1) × (height ≤ 0)) ⊎ (mark ≡ 1 → ⊥) → node_at height bs at ≡ Err (Range at)
node_wrong height bs at mark next e z (inl w) =
    let l : height ≡ 0 = omega arith in
    rw (node_is height bs at, ← e, w.0, l) refl
node_wrong height bs at mark next e z (inr w) = rw (node_is height bs at, ← e, ne_eqb mark 0 z, ne_eqb mark 1 w) refl

pub drawn_err : {A : Type 0} (pick : ℕ → Leaf → A) (n height p : ℕ) {f : TreeFault} (t u : List A) {r : Result (Tree × ℕ) TreeFault}
    → r ≡ Err f → Drawn pick n height p r t u
drawn_err pick n height p t u e = rw e tt

pub drawn_ok : {A : Type 0} (pick : ℕ → Leaf → A) (n height p : ℕ) {a : ℕ} {x : Tree} (t u : List A) {r : Result (Tree × ℕ) TreeFault}
    → r ≡ Ok (x, a) → u ≡ painted pick n height x p t → Drawn pick n height p r t u
drawn_ok pick n height p t u e h = rw e h

pub painted_one : {A : Type 0} (pick : ℕ → Leaf → A) (n height w : ℕ) (l : Leaf) (p : ℕ) (t : List A) → w ≡ 2 ^ height
    → square w n w p (pick height l) t ≡ painted pick n height (one l) p t
unfolding painted
painted_one pick n height w l p t e = rw e refl

-- a leaf is drawn where its block has its value
pub leaf_drawn : {A : Type 0} (pick : ℕ → Leaf → A) (n height p : ℕ) {a : ℕ} {l : Leaf} (t u : List A) {r : Result (Tree × ℕ) TreeFault}
    → r ≡ Ok (one l, a) → u ≡ square (2 ^ height) n (2 ^ height) p (pick height l) t → Drawn pick n height p r t u
leaf_drawn pick n height p t u e h = drawn_ok pick n height p t u e (h ∙ painted_one pick n height (2 ^ height) _ p t refl)

painted_four : {A : Type 0} (pick : ℕ → Leaf → A) (n height p : ℕ) (x y z : Tree) (r : Result (Tree × ℕ) TreeFault) (t₀ t₁ t₂ t₃ t₄ : List A)
    → t₁ ≡ painted pick n height x p t₀
    → t₂ ≡ painted pick n height y (p + side height) t₁
    → t₃ ≡ painted pick n height z (p + side height * n) t₂
    → Drawn pick n height (p + side height * n + side height) r t₃ t₄
    → Drawn pick n (suc height) p (after r (λ d. Ok (four x y z d.0, d.1))) t₀ t₄
unfolding painted
painted_four pick n height p x y z (Ok d) t₀ t₁ t₂ t₃ t₄ e₁ e₂ e₃ h = h ∙ simp (e₃, e₂, e₁)
painted_four pick n height p x y z (Err f) t₀ t₁ t₂ t₃ t₄ e₁ e₂ e₃ h = tt

-- four tables in turn
pub drawn_four : {A : Type 0} (pick : ℕ → Leaf → A) (n height w p : ℕ) (node : ℕ → Result (Tree × ℕ) TreeFault) (at a b c : ℕ) (t₀ t₁ t₂ t₃ t₄ : List A)
    → w ≡ 2 ^ height
    → Ok a ≡ place (node at) → Ok b ≡ place (node a) → Ok c ≡ place (node b)
    → Drawn pick n height p (node at) t₀ t₁
    → Drawn pick n height (p + w) (node a) t₁ t₂
    → Drawn pick n height (p + w * n) (node b) t₂ t₃
    → Drawn pick n height (p + w * n + w) (node c) t₃ t₄
    → Drawn pick n (height + 1) p (quarters_by node at) t₀ t₄
drawn_four pick n height w p node at a b c t₀ t₁ t₂ t₃ t₄ ew ea eb ec d₁ d₂ d₃ d₄ =
    let q₁ = placed (node at) a ea in
    let q₂ = placed (node a) b eb in
    let q₃ = placed (node b) c ec in
    rw (add-one, q₁.1, q₂.1, q₃.1)
    (painted_four pick n height p q₁.0 q₂.0 q₃.0 (node c) t₀ t₁ t₂ t₃ t₄
    (rw q₁.1 at d₁) (rw (q₂.1, ew) at d₂) (rw (q₃.1, ew) at d₃) (rw ew at d₄))

place_last : (x y z : Tree) (r : Result (Tree × ℕ) TreeFault) → place r ≡ place (after r (λ d. Ok (four x y z d.0, d.1)))
place_last x y z (Ok d) = refl
place_last x y z (Err f) = refl

pub place_four : (node : ℕ → Result (Tree × ℕ) TreeFault) (at a b c : ℕ) (r : Result ℕ TreeFault)
    → Ok a ≡ place (node at) → Ok b ≡ place (node a) → Ok c ≡ place (node b) → r ≡ place (node c) → r ≡ place (quarters_by node at)
place_four node at a b c r ea eb ec e =
    let q₁ = placed (node at) a ea in
    let q₂ = placed (node a) b eb in
    let q₃ = placed (node b) c ec in
    rw (q₁.1, q₂.1, q₃.1) (e ∙ place_last q₁.0 q₂.0 q₃.0 (node c))

-- a fault in a quarter is the node's
module _ (height : ℕ) (bs : List ℕ) (at : ℕ) (f : TreeFault) where
  pub no_sw : Err f ≡ place (node_at height bs at) → quarters_at height bs at ≡ Err f
  no_sw e = rw (not_placed (node_at height bs at) f e) refl

  pub no_se : (a : ℕ) → Ok a ≡ place (node_at height bs at) → Err f ≡ place (node_at height bs a) → quarters_at height bs at ≡ Err f
  no_se a ea e = rw ((placed (node_at height bs at) a ea).1, not_placed (node_at height bs a) f e) refl

  pub no_nw : (a b : ℕ) → Ok a ≡ place (node_at height bs at) → Ok b ≡ place (node_at height bs a) → Err f ≡ place (node_at height bs b)
      → quarters_at height bs at ≡ Err f
  no_nw a b ea eb e =
      rw ((placed (node_at height bs at) a ea).1, (placed (node_at height bs a) b eb).1, not_placed (node_at height bs b) f e) refl
