-- The ways through a file, and what each leaves.
use Rattle.std.proofs.Common.{◌≡◌, ℕ, ◌*◌, ◌^◌, Bool, true, false, cond, not, List, length, IfOk, Ok, Err, Result, sym, refl, ap, ◌∙◌, arith}
use Rattle.std.proofs.lemmas.Bool.{eq-eqb, ne_eqb}
use Rattle.basin.specs.declared.leaf.Leaf.{Leaf}
use Rattle.basin.specs.Basins.{Heading, Tables, tables, Basin, basin, side, view}
use Rattle.basin.specs.Records.{dry}
use Rattle.basin.specs.Flaws.{misfit}
use Rattle.basin.specs.Squares.{unbalanced}
use Rattle.basin.specs.Tables.{table, entry}
use Rattle.numbers.specs.Laws.{Bytes}
use Rattle.numbers.specs.Steps.{place}
use Rattle.numbers.proofs.Steps.{placed, not_placed}
use Rattle.nodes.specs.declared.fault.TreeFault.{TreeFault}
use Rattle.nodes.specs.declared.fault.TreeFault.TheVariants.{Unbalanced}
use Rattle.nodes.specs.Paint.{painted, Drawn, level_of, record_of}
use Rattle.nodes.specs.Trees as trees
use Rattle.nodes.specs.Trees.{node_at, found}
use Rattle.nodes.proofs.Forms.{tree_was_written}
use Rattle.nodes.proofs.Painted.{painted_table}
use Rattle.nodes.proofs.Quarters.{Left}
use Rattle.codec.specs.declared.fault.FileFault.{FileFault}
use Rattle.codec.specs.declared.fault.FileFault.TheVariants.{Tree, Trailing, TableLength}
use Rattle.codec.specs.Files.{head_at, beds_at, body_at, charted, balanced_in, file_at, read_of}
use Rattle.codec.specs.Seen.{whether, Charts}

-- ---- the body
module _ (L : ℕ) (bs : List ℕ) (at count : ℕ) (all : count ≡ trees.side L * trees.side L) where
  pub body_no_tree : (f : TreeFault) → Err f ≡ place (node_at L bs at) → body_at L bs at ≡ Err (Tree f)
  unfolding body_at
  body_no_tree f e = rw (not_placed (node_at L bs at) f e) refl

  module _ (p : ℕ) (e : Ok p ≡ place (node_at L bs at)) where
    pub body_no_beds : (f : FileFault) → Err f ≡ place (beds_at count bs p) → body_at L bs at ≡ Err f
    unfolding body_at
    body_no_beds f g = rw ((placed (node_at L bs at) p e).1, ← all, not_placed (beds_at count bs p) f g) refl

    pub body_trailing : (q : ℕ) → Ok q ≡ place (beds_at count bs p) → (q ≡ length bs → ⊥) → body_at L bs at ≡ Err (Trailing q)
    unfolding body_at
    body_trailing q g ne =
        let b = placed (beds_at count bs p) q g in
        rw ((placed (node_at L bs at) p e).1, ← all, b.1, ne_eqb q (length bs) ne) refl

  pub body_read : (t : trees.Tree) (b : List ℕ) (p q : ℕ) → node_at L bs at ≡ Ok (t, p) → beds_at count bs p ≡ Ok (b, q) → q ≡ length bs
      → body_at L bs at ≡ Ok (t, b)
  unfolding body_at
  body_read t b p q e g end = rw (e, ← all, g, eq-eqb q (length bs) end) refl

-- a table that was drawn is the table of the tree's leaves
drawn_table : {A : Type 0} (pick : ℕ → Leaf → A) (d : A) (L : ℕ) (bs : List ℕ) (at p : ℕ) (t : trees.Tree) (u w : List A)
    → Bytes bs → length u ≡ trees.side L * trees.side L → node_at L bs at ≡ Ok (t, p)
    → Drawn pick (trees.side L) L 0 (node_at L bs at) u w
    → w ≡ table (trees.side L) (λ x y. pick (found L t x y).height (found L t x y).leaf)
drawn_table pick d L bs at p t u w small eu e drawn =
    let painting : w ≡ painted pick (trees.side L) L t 0 u = rw e at drawn in
    painting ∙ painted_table pick L t d u (tree_was_written L bs at t p small e).1 eu

pub body_charts : (h : Heading) (bs : List ℕ) (at p q : ℕ) (levels levels' beds beds' : List ℕ) (leaves leaves' : List Leaf)
    → Bytes bs
    → length levels ≡ side h * side h → length beds ≡ side h * side h → length leaves ≡ side h * side h
    → Left h.L (2 ^ h.L) h.L 0 bs at (Ok tt) p levels levels' leaves leaves'
    → Ok q ≡ place (beds_at (length beds) bs p) → IfOk (beds_at (length beds) bs p) (λ b. beds' ≡ b.0)
    → q ≡ length bs
    → (Ok tt ≡ whether (body_at h.L bs at)) × Charts h (body_at h.L bs at) (tables levels' beds' leaves')
body_charts h bs at p q levels levels' beds beds' leaves leaves' small el eb ef tree ed cb end =
    let t = placed (node_at h.L bs at) p tree.next in
    let b = placed (beds_at (length beds) bs p) q ed in
    let e = body_read h.L bs at (length beds) eb t.0 b.0 p q t.1 b.1 end in
    let il = drawn_table (level_of h.L) 0 h.L bs at p t.0 levels levels' small el t.1 tree.levels in
    let ir = drawn_table record_of dry h.L bs at p t.0 leaves leaves' small ef t.1 tree.leaves in
    let ib : beds' ≡ b.0 = rw b.1 at cb in
    rw e (refl, λ i. tables (il i) (ib i) (ir i))

-- ---- the file
pub file_no_head : (bs : List ℕ) (f : FileFault) → head_at bs ≡ Err f → file_at bs ≡ Err f
unfolding file_at
file_no_head bs f e = rw e refl

pub file_no_body : (bs : List ℕ) (h : Heading) (at : ℕ) (f : FileFault) → head_at bs ≡ Ok (h, at) → body_at h.L bs at ≡ Err f → file_at bs ≡ Err f
unfolding file_at
file_no_body bs h at f e b = rw (e, b) refl

-- a body's fault
pub no_body : (r : Result (trees.Tree × List ℕ) FileFault) (f : FileFault) → Err f ≡ whether r → r ≡ Err f
no_body (Ok b) f e = let z : ◌≡◌ {A = ℕ} 0 1 = cc in absurd (omega arith)
no_body (Err g) f e = let h : g ≡ f = cc in rw h refl

-- a body that was read, and its basin's tables
some_body : (h : Heading) (r : Result (trees.Tree × List ℕ) FileFault) (t : Tables) → Ok tt ≡ whether r → Charts h r t
    → (b : trees.Tree × List ℕ) × (r ≡ Ok b) × (t ≡ (charted h b.0 b.1).tables)
some_body h (Ok b) t e c = (b, refl, c)
some_body h (Err f) t e c = let z : ◌≡◌ {A = ℕ} 0 1 = cc in absurd (omega arith)

balance_told : (bs : List ℕ) (b : Basin) (u r : Bool) → r ≡ not u
    → cond {A = Result Basin FileFault} u (Err (Tree (Unbalanced (length bs)))) (Ok b) ≡ cond r (Ok b) (Err (Tree (Unbalanced (length bs))))
balance_told bs b true r e = rw e refl
balance_told bs b false r e = rw e refl

-- the tables t were read after the head h, and r says whether they are balanced
pub file_told : (bs : List ℕ) (h : Heading) (at n : ℕ) (t : Tables) (r : Bool)
    → head_at bs ≡ Ok (h, at) → Ok tt ≡ whether (body_at h.L bs at) → Charts h (body_at h.L bs at) t
    → n ≡ side h → r ≡ not (unbalanced n (λ x y. entry n 0 t.levels x y))
    → file_at bs ≡ cond r (Ok (basin h t)) (Err (Tree (Unbalanced (length bs))))
unfolding file_at
file_told bs h at n t r eh eb charts en er =
    let b = some_body h (body_at h.L bs at) t eb charts in
    let told : r ≡ not (unbalanced (side h) (view (basin h t)).level) = er ∙ ap (λ k. not (unbalanced k (λ x y. entry k 0 t.levels x y))) en in
    rw (eh, b.1)
    (ap (λ u. balanced_in bs (basin h u)) (sym b.2)
    ∙ balance_told bs (basin h t) (unbalanced (side h) (view (basin h t)).level) r told)

-- ---- what is answered and left
pub read_refused : (bs : List ℕ) (t : Tables) (f : FileFault) → file_at bs ≡ Err f → (Err f, t) ≡ read_of bs t
read_refused bs t f e = rw e refl

pub read_misfit : (bs : List ℕ) (t : Tables) (b : Basin) → file_at bs ≡ Ok b → misfit b.head t ≡ true → (Err (TableLength (length bs)), t) ≡ read_of bs t
read_misfit bs t b e f = rw (e, f) refl

pub read_granted : (bs : List ℕ) (t : Tables) (b : Basin) → file_at bs ≡ Ok b → misfit b.head t ≡ false → (Ok b.head, b.tables) ≡ read_of bs t
read_granted bs t b e f = rw (e, f) refl
