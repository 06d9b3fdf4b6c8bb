-- The basin that a file holds is valid.
use Rattle.std.proofs.Common.{◌≡◌, ℕ, zero, suc, ◌+◌, ◌-◌, ◌*◌, ◌/◌, ◌^◌, ◌<◌, ◌≤◌, false, cond, ◌&&◌, eqb, ltb, leb, List, [], ◌∷◌, ◌++◌, length, get_or, IfOk, Ok, Err, Result, sym, refl, ap, ◌∙◌, arith, length-append}
use Rattle.std.proofs.lemmas.Bool.{leb-true, ltb-false}
use Rattle.basin.specs.declared.head.Head.{Head}
use Rattle.basin.specs.Basins.{Heading, heading, Tables, Basin, basin, side, view, Valid, Heads, ValidBasin}
use Rattle.basin.specs.Flaws.{misfit}
use Rattle.basin.specs.Records.{dry, InRange}
use Rattle.basin.specs.Squares.{touch, unbalanced}
use Rattle.basin.proofs.Found.{none_pair}
use Rattle.basin.proofs.Tabled.{length_table, entry_table}
use Rattle.basin.proofs.Tests.{and_true, not_and, to_touch}
use Rattle.numbers.specs.Laws.{Bytes}
use Rattle.numbers.specs.Numbers.{number_at}
use Rattle.numbers.specs.Steps.{after}
use Rattle.numbers.proofs.Steps.{after_ok, when, unless}
use Rattle.nodes.specs.Trees as trees
use Rattle.nodes.specs.Trees.{node_at, Found, found, Sound}
use Rattle.nodes.proofs.Forms.{tree_was_written}
use Rattle.nodes.proofs.Leaves.{leaf_of, one_leaf}
use Rattle.codec.specs.declared.fault.FileFault.{FileFault}
use Rattle.codec.specs.declared.fault.FileFault.TheVariants.{Range, Trailing, TableLength}
use Rattle.codec.specs.Files.{of_number, of_tree, ranged_at, head_at, beds_from, beds_at, body_at, charted, file_at, granted, read_of}
use Rattle.codec.specs.Seen.{seen}

-- ---- numbers in their ranges
pub ranged : (bs : List ℕ) (at least most : ℕ) (v : ℕ × ℕ) → ranged_at bs at least most ≡ Ok v → (least ≤ v.0) × (v.0 ≤ most)
ranged bs at least most v e =
    let a = after_ok (of_number (number_at bs at)) _ v e in
    let t = when (leb least a.0.0 && leb a.0.0 most) (Range at) (Ok a.0) v a.2 in
    let u = and_true (leb least a.0.0) (leb a.0.0 most) t.0 in
    let same : a.0 ≡ v = cc t.1 in
    let first : a.0.0 ≡ v.0 = ap (λ (w : ℕ × ℕ). w.0) same in
    (omega (arith, leb-true least a.0.0 u.0), omega (arith, leb-true a.0.0 most u.1))

heads : (bs : List ℕ) (h : Heading × ℕ) → head_at bs ≡ Ok h → Heads h.0
heads bs h e =
    let l = after_ok (ranged_at bs 0 0 6) _ h e in
    let d = after_ok (ranged_at bs l.0.1 1 1000) _ h l.2 in
    let w = after_ok (ranged_at bs d.0.1 0 1000000) _ h d.2 in
    let rl = ranged bs 0 0 6 l.0 l.1 in
    let rd = ranged bs l.0.1 1 1000 d.0 d.1 in
    let rw' = ranged bs d.0.1 0 1000000 w.0 w.1 in
    by l.0.0 d.0.0 w.0.0 w.0.1 h w.2 rl.1 rd.0 rd.1 rw'.1
  where
    by : (L d loose q : ℕ) (h : Heading × ℕ) → ◌≡◌ {A = Result (Heading × ℕ) FileFault} (Ok (record { L = L; d = d; loose = loose }, q)) (Ok h)
        → L ≤ 6 → 1 ≤ d → d ≤ 1000 → loose ≤ 1000000 → Heads h.0
    by L d loose q h o a b c e =
        let same : ◌≡◌ {A = Heading × ℕ} (record { L = L; d = d; loose = loose }, q) h = cc in
        let first : ◌≡◌ {A = Heading} (record { L = L; d = d; loose = loose }) h.0 = ap (λ (p : Heading × ℕ). p.0) same in
        rw (← first) (record { levels = a; width_least = b; width_most = c; loose = e })

-- ---- beds
abbrev Low : List ℕ → Type 0
Low beds = (i : ℕ) → get_or beds i 0 ≤ 30000

low_more : (got : List ℕ) (h : ℕ) → Low got → h ≤ 30000 → Low (got ++ (h ∷ []))
low_more [] h low l zero = l
low_more [] h low l (suc i) = omega arith
low_more (g ∷ got) h low l zero = low 0
low_more (g ∷ got) h low l (suc i) = low_more got h (λ j. low (suc j)) l i

beds_low : (more : ℕ) (bs : List ℕ) (at : ℕ) (got : List ℕ) (b : List ℕ × ℕ) → beds_from more bs at got ≡ Ok b → Low got
    → Low b.0 × (length b.0 ≡ length got + more)
unfolding beds_from
beds_low zero bs at got b e low =
    let same : ◌≡◌ {A = List ℕ × ℕ} (got, at) b = cc in
    let first : got ≡ b.0 = ap (λ (w : List ℕ × ℕ). w.0) same in
    rw (← first) (low, omega arith)
beds_low (suc more) bs at got b e low =
    let h = after_ok (ranged_at bs at 0 30000) _ b e in
    let r = ranged bs at 0 30000 h.0 h.1 in
    let i = beds_low more bs h.0.1 (got ++ (h.0.0 ∷ [])) b h.2 (low_more got h.0.0 low r.1) in
    (i.0, omega (arith, i.1, length-append got (h.0.0 ∷ [])))

-- ---- the squares
module _ (h : Heading) (t : trees.Tree) (beds : List ℕ) (sound : Sound h.L t) (low : Low beds)
    (balance : unbalanced (side h) (view (charted h t beds)).level ≡ false) where
  -- what the tables have on a square
  level_is : (x y : ℕ) → x < side h → y < side h → (view (charted h t beds)).level x y ≡ h.L - (found h.L t x y).height
  level_is x y a b = entry_table (side h) (λ x y. h.L - (found h.L t x y).height) 0 x y a b

  leaf_is : (x y : ℕ) → x < side h → y < side h → (view (charted h t beds)).leaf x y ≡ (found h.L t x y).leaf
  leaf_is x y a b = entry_table (side h) (λ x y. (found h.L t x y).leaf) dry x y a b

  -- the levels below a square's leaf
  height_is : (x y : ℕ) → x < side h → y < side h → h.L - (view (charted h t beds)).level x y ≡ (found h.L t x y).height
  height_is x y a b = omega (arith, level_is x y a b, (leaf_of h.L t sound x y).low)

  uniform : (x y p q : ℕ) → x < side h → y < side h → p < side h → q < side h
      → x / 2 ^ (h.L - (view (charted h t beds)).level x y) ≡ p / 2 ^ (h.L - (view (charted h t beds)).level x y)
      → y / 2 ^ (h.L - (view (charted h t beds)).level x y) ≡ q / 2 ^ (h.L - (view (charted h t beds)).level x y)
      → ((view (charted h t beds)).level p q ≡ (view (charted h t beds)).level x y) × ((view (charted h t beds)).leaf p q ≡ (view (charted h t beds)).leaf x y)
  uniform x y p q a b c d e f =
      let same = one_leaf h.L t sound x y p q (h.L - (view (charted h t beds)).level x y) (sym (height_is x y a b)) e f in (
        level_is p q c d ∙ (ap (λ (g : Found). h.L - g.height) same ∙ sym (level_is x y a b)),
        leaf_is p q c d ∙ (ap (λ (g : Found). g.leaf) same ∙ sym (leaf_is x y a b)),
      )

  balanced : (x y p q : ℕ) → x < side h → y < side h → p < side h → q < side h
      → x ≤ p + 1 → p ≤ x + 1 → y ≤ q + 1 → q ≤ y + 1 → (view (charted h t beds)).level x y ≤ (view (charted h t beds)).level p q + 1
  unfolding unbalanced
  balanced x y p q a b c d e f g i =
      let level = (view (charted h t beds)).level in
      let n = none_pair (side h) (λ x y p q. touch x y p q && ltb (level p q + 1) (level x y)) balance x y p q a b c d in
      ltb-false (level p q + 1) (level x y) (not_and (touch x y p q) (ltb (level p q + 1) (level x y)) n (to_touch x y p q e f g i))

  in_range : (x y : ℕ) → x < side h → y < side h
      → InRange (2 ^ (h.L - (view (charted h t beds)).level x y) * 2 ^ (h.L - (view (charted h t beds)).level x y)) ((view (charted h t beds)).leaf x y)
  in_range x y a b = rw (height_is x y a b, leaf_is x y a b) (leaf_of h.L t sound x y).in_range

  squares : Valid (view (charted h t beds))
  squares =
      record {
        quadtree =
            record {
              shallow = λ x y a b. omega (arith, level_is x y a b);
              uniform = uniform;
              balanced = balanced;
            };
        low_beds = λ x y a b. low (y * side h + x);
        in_range = in_range;
      }

-- ---- the file
charted_valid : (bs : List ℕ) (h : Heading × ℕ) (b : trees.Tree × List ℕ) → Bytes bs → head_at bs ≡ Ok h → body_at h.0.L bs h.1 ≡ Ok b
    → unbalanced (side h.0) (view (charted h.0 b.0 b.1)).level ≡ false → ValidBasin (charted h.0 b.0 b.1)
unfolding body_at
charted_valid bs h b small eh eb balance =
    let n = side h.0 in
    let t = after_ok (of_tree (node_at h.0.L bs h.1)) _ b eb in
    let d = after_ok (beds_at (n * n) bs t.0.1) _ b t.2 in
    let end = when (eqb d.0.1 (length bs)) (Trailing d.0.1) (Ok (t.0.0, d.0.0)) b d.2 in
    let same : ◌≡◌ {A = trees.Tree × List ℕ} (t.0.0, d.0.0) b = cc end.1 in
    let tree : t.0.0 ≡ b.0 = ap (λ (w : trees.Tree × List ℕ). w.0) same in
    let beds : d.0.0 ≡ b.1 = ap (λ (w : trees.Tree × List ℕ). w.1) same in
    let low = beds_low (n * n) bs t.0.1 [] d.0 d.1 (λ i. omega arith) in
    let sound = (tree_was_written h.0.L bs h.1 t.0.0 t.0.1 small (of_tree_ok (node_at h.0.L bs h.1) t.0 t.1)).1 in
    record {
      head = heads bs h eh;
      full = record { levels = length_table n _; beds = rw (← beds) (omega (arith, low.1)); leaves = length_table n _ };
      squares = squares h.0 b.0 b.1 (rw (← tree) sound) (rw (← beds) low.0) balance;
    }
  where
    of_tree_ok : {A : Type 0} (r : Result A Rattle.nodes.specs.declared.fault.TreeFault.TreeFault) (x : A) → of_tree r ≡ Ok x → r ≡ Ok x
    of_tree_ok (Ok y) x e = let k : y ≡ x = cc in rw k refl
    of_tree_ok (Err f) x e = let z : ◌≡◌ {A = ℕ} 0 1 = cc in absurd (omega arith)

pub file_valid : (bs : List ℕ) (b : Basin) → Bytes bs → file_at bs ≡ Ok b → ValidBasin b
unfolding file_at
file_valid bs b small e =
    let h = after_ok (head_at bs) _ b e in
    let d = after_ok (body_at h.0.0.L bs h.0.1) _ b h.2 in
    let u = unless (unbalanced (side h.0.0) (view (charted h.0.0 d.0.0 d.0.1)).level) _ (Ok (charted h.0.0 d.0.0 d.0.1)) b d.2 in
    let same : charted h.0.0 d.0.0 d.0.1 ≡ b = cc u.1 in
    rw (← same) (charted_valid bs h.0 d.0 small h.1 d.1 u.0)

-- ---- what a read grants
pub read_valid : (bs : List ℕ) (t u : Tables) (r : Result Head FileFault) → Bytes bs → (seen r, u) ≡ read_of bs t
    → IfOk r (λ h. ValidBasin (basin (heading h) u))
read_valid bs t u (Err f) small e = tt
read_valid bs t u (Ok h) small e = go (after (file_at bs) (λ b. cond (misfit b.head t) (Err (TableLength (length bs))) (Ok b))) refl e
  where
    go : (g : Result Basin FileFault) → after (file_at bs) (λ b. cond (misfit b.head t) (Err (TableLength (length bs))) (Ok b)) ≡ g
        → ◌≡◌ {A = Result Heading FileFault × Tables} (Ok (heading h), u) (granted g t) → ValidBasin (basin (heading h) u)
    go (Ok b) k o =
        let a = after_ok (file_at bs) _ b k in
        let w = unless (misfit a.0.head t) (TableLength (length bs)) (Ok a.0) b a.2 in
        let same : a.0 ≡ b = cc w.1 in
        let v = file_valid bs a.0 small a.1 in
        let head : ◌≡◌ {A = Result Heading FileFault} (Ok (heading h)) (Ok b.head) = ap (λ (p : Result Heading FileFault × Tables). p.0) o in
        let hh : heading h ≡ b.head = cc in
        let ut : u ≡ b.tables = ap (λ (p : Result Heading FileFault × Tables). p.1) o in
        let v' : ValidBasin b = rw (← same) v in
        rw (hh, ut) (record { head = v'.head; full = v'.full; squares = v'.squares })
    go (Err f) k o =
        let bad : ◌≡◌ {A = Result Heading FileFault} (Ok (heading h)) (Err f) = ap (λ (p : Result Heading FileFault × Tables). p.0) o in
        let z : ◌≡◌ {A = ℕ} 0 1 = cc in absurd (omega arith)
