-- What is written is read back, and what is read was written so.
use Rattle.std.proofs.Common.{◌≡◌, ℕ, zero, suc, ◌+◌, ◌-◌, ◌*◌, ◌/◌, ◌%◌, ◌^◌, ◌<◌, ◌≤◌, false, ◌&&◌, eqb, leb, List, [], ◌∷◌, ◌++◌, length, get_or, drop, Ok, Err, Result, sym, refl, ap, ◌∙◌, append_assoc, append-nil, mod-lt, div-lt_iff_lt-mul, div-add-mod', zero-add, arith, length-append}
use lib.Seq.{drop-length}
use Rattle.std.proofs.lemmas.Bool.{le-leb, eqb-true}
use Rattle.basin.specs.Basins.{Heading, tables, Basin, basin, side, view, ValidBasin}
use Rattle.basin.specs.Flaws.{flaw_at, flaw_between, flawed}
use Rattle.basin.specs.Records.{dry}
use Rattle.basin.specs.Squares.{some_square, some_pair, unbalanced}
use Rattle.basin.specs.Views.{size}
use Rattle.basin.proofs.Sizes.{side_pos}
use Rattle.basin.proofs.Tabled.{tabled, entry_table}
use Rattle.basin.proofs.Telling.{no_flaw}
use Rattle.basin.proofs.Tests.{or_false}
use Rattle.numbers.specs.declared.fault.NumberFault.{NumberFault}
use Rattle.numbers.specs.Laws.{Bytes}
use Rattle.numbers.specs.Numbers.{number_at, number}
use Rattle.numbers.proofs.Forms.{written_is_read, read_was_written}
use Rattle.numbers.proofs.Steps.{after_ok, when, unless}
use Rattle.nodes.specs.declared.fault.TreeFault.{TreeFault}
use Rattle.nodes.specs.Trees as trees
use Rattle.nodes.specs.Trees.{node_at, Found, found, Sound}
use Rattle.nodes.specs.Written.{tree_bytes}
use Rattle.nodes.proofs.Forms.{tree_is_read, tree_was_written}
use Rattle.codec.specs.declared.fault.FileFault.TheVariants.{Range, Trailing}
use Rattle.codec.specs.Files.{of_number, of_tree, ranged_at, head_at, beds_from, beds_at, body_at, charted, balanced_in, file_at}
use Rattle.codec.proofs.Whole.{body_read}
use Rattle.encode.specs.Bytes.{tree_of, node_bytes, beds_bytes, file_bytes}
use Rattle.encode.specs.Trips.{WrittenBasinIsRead, ReadFileIsWritten}
use Rattle.encode.proofs.Again.{again}
use Rattle.encode.proofs.Blocks.{whole_sound, whole_shows}
use Rattle.encode.proofs.Whole.{file_parts}

-- ---- written, then read
ranged_back : (bs post : List ℕ) (at v least most : ℕ) → v < 2 ^ 42 → least ≤ v → v ≤ most → drop at bs ≡ number v ++ post
    → (ranged_at bs at least most ≡ Ok (v, at + length (number v))) × (drop (at + length (number v)) bs ≡ post)
ranged_back bs post at v least most h l m e =
    let n = written_is_read bs post at v h e in
    (rw (n.0, le-leb least v l, le-leb v most m) refl, n.1)

abbrev Low : List ℕ → Type 0
Low beds = (i : ℕ) → i < length beds → get_or beds i 0 ≤ 30000

beds_back : (beds bs post : List ℕ) (at : ℕ) (got : List ℕ) → Low beds → drop at bs ≡ beds_bytes beds ++ post
    → (beds_from (length beds) bs at got ≡ Ok (got ++ beds, at + length (beds_bytes beds))) × (drop (at + length (beds_bytes beds)) bs ≡ post)
unfolding beds_from beds_bytes
beds_back [] bs post at got low e =
    let z : at + 0 ≡ at = omega arith in
    rw (z, append-nil got) (refl, e)
beds_back (h ∷ hs) bs post at got low e =
    let small : h ≤ 30000 = low 0 (omega arith) in
    let r = ranged_back bs (beds_bytes hs ++ post) at h 0 30000 (omega arith) (omega arith) small (simp append_assoc at e) in
    let i = beds_back hs bs post (at + length (number h)) (got ++ (h ∷ [])) (λ j l. low (suc j) (omega arith)) r.1 in
    let end : at + length (number h) + length (beds_bytes hs) ≡ at + length (number h ++ beds_bytes hs) = simp length-append (omega arith) in
    let all : (got ++ (h ∷ [])) ++ hs ≡ got ++ (h ∷ hs) = append_assoc got (h ∷ []) hs in
    (rw r.0 (rw (end, all) at i.0), rw end at i.1)

-- ---- a valid basin is the basin of its head, its tree and its beds
module _ (b : Basin) (valid : ValidBasin b) where
  low_beds : Low b.tables.beds
  low_beds i h =
      let n = side b.head in
      let z : 0 < n = side_pos b.head.L in
      let l : i < n * n = omega (arith, valid.full.beds) in
      rw div-add-mod' at (valid.squares.low_beds (i % n) (i / n) (mod-lt i z) ((div-lt_iff_lt-mul z).1 l))

  charted_same : charted b.head (tree_of (view b) b.head.L 0 0) b.tables.beds ≡ b
  charted_same =
      let n = side b.head in
      let t = tree_of (view b) b.head.L 0 0 in
      let levels = tabled n b.tables.levels 0 (λ x y. b.head.L - (found b.head.L t x y).height) valid.full.levels (λ x y e f.
      let same : (found b.head.L t x y).height ≡ b.head.L - (view b).level x y = ap (λ (g : Found). g.height) (whole_shows (view b) valid.squares x y e f) in
      omega (arith, same, valid.squares.quadtree.shallow x y e f)) in
      let leaves = tabled n b.tables.leaves dry (λ x y. (found b.head.L t x y).leaf) valid.full.leaves (λ x y e f.
      sym (ap (λ (g : Found). g.leaf) (whole_shows (view b) valid.squares x y e f))) in
      λ i. basin b.head (tables (sym levels i) b.tables.beds (sym leaves i))

  balance : unbalanced (side b.head) (view b).level ≡ false
  unfolding flawed
  balance =
      let p = or_false (some_square (size (view b)) (flaw_at (view b))) _ (no_flaw (view b) valid.squares) in
      (or_false (some_pair (size (view b)) (flaw_between (view b))) _ p.1).1

  read_back : file_at (file_bytes b) ≡ Ok b
  unfolding file_at
  read_back =
      let bs = file_bytes b in
      let l = ranged_back bs _ 0 b.head.L 0 6 (omega (arith, valid.head.levels)) (omega arith) valid.head.levels refl in
      let d = ranged_back bs _ (0 + length (number b.head.L)) b.head.d 1 1000 (omega (arith, valid.head.width_most)) valid.head.width_least valid.head.width_most l.1 in
      let w = ranged_back bs _ (0 + length (number b.head.L) + length (number b.head.d)) b.head.loose 0 1000000 (omega (arith, valid.head.loose)) (omega arith) valid.head.loose d.1 in
      let at = 0 + length (number b.head.L) + length (number b.head.d) + length (number b.head.loose) in
      let t = tree_is_read (tree_of (view b) b.head.L 0 0) b.head.L bs _ at valid.head.levels (whole_sound (view b) valid.squares) w.1 in
      let end = at + length (node_bytes (view b) b.head.L 0 0) in
      let m = beds_back b.tables.beds bs [] end [] low_beds (t.1 ∙ sym (append-nil (beds_bytes b.tables.beds))) in
      let head : head_at bs ≡ Ok (b.head, at) = rw (l.0, d.0, w.0) refl in
      let body : body_at b.head.L bs at ≡ Ok (tree_of (view b) b.head.L 0 0, b.tables.beds) =
      body_read b.head.L bs at (length b.tables.beds) valid.full.beds _ _ _ _ t.0 m.0 (omega (arith, file_parts b)) in
      rw (head, body) (ap (balanced_in bs) charted_same ∙ rw balance refl)

pub written_basin_is_read : WrittenBasinIsRead
written_basin_is_read b valid = read_back b valid

-- ---- read, then written
number_ok : {A : Type 0} (r : Result A NumberFault) (x : A) → of_number r ≡ Ok x → r ≡ Ok x
number_ok (Ok y) x e = let k : y ≡ x = cc in rw k refl
number_ok (Err f) x e = let z : ◌≡◌ {A = ℕ} 0 1 = cc in absurd (omega arith)

tree_ok : {A : Type 0} (r : Result A TreeFault) (x : A) → of_tree r ≡ Ok x → r ≡ Ok x
tree_ok (Ok y) x e = let k : y ≡ x = cc in rw k refl
tree_ok (Err f) x e = let z : ◌≡◌ {A = ℕ} 0 1 = cc in absurd (omega arith)

ranged_form : (bs : List ℕ) (at least most : ℕ) (v : ℕ × ℕ) → Bytes bs → ranged_at bs at least most ≡ Ok v
    → drop at bs ≡ number v.0 ++ drop v.1 bs
ranged_form bs at least most v small e =
    let a = after_ok (of_number (number_at bs at)) _ v e in
    let t = when (leb least a.0.0 && leb a.0.0 most) (Range at) (Ok a.0) v a.2 in
    let same : a.0 ≡ v = cc t.1 in
    read_was_written bs at v.0 v.1 small (number_ok (number_at bs at) v (rw same at a.1))

beds_form : (more : ℕ) (bs : List ℕ) (at : ℕ) (got : List ℕ) (b : List ℕ × ℕ) → Bytes bs → beds_from more bs at got ≡ Ok b
    → (hs : List ℕ) × (b.0 ≡ got ++ hs) × (drop at bs ≡ beds_bytes hs ++ drop b.1 bs)
unfolding beds_from beds_bytes
beds_form zero bs at got b small e =
    let same : ◌≡◌ {A = List ℕ × ℕ} (got, at) b = cc in
    rw (← same) ([], sym (append-nil got), refl)
beds_form (suc more) bs at got b small e =
    let h = after_ok (ranged_at bs at 0 30000) _ b e in
    let f = ranged_form bs at 0 30000 h.0 small h.1 in
    let i = beds_form more bs h.0.1 (got ++ (h.0.0 ∷ [])) b small h.2 in (
      h.0.0 ∷ i.0,
      i.1 ∙ append_assoc got (h.0.0 ∷ []) i.0,
      f ∙ (ap (λ r. number h.0.0 ++ r) i.2 ∙ sym (append_assoc (number h.0.0) (beds_bytes i.0) (drop b.1 bs))),
    )

head_form : (bs : List ℕ) (h : Heading × ℕ) → Bytes bs → head_at bs ≡ Ok h
    → bs ≡ number h.0.L ++ (number h.0.d ++ (number h.0.loose ++ drop h.1 bs))
head_form bs h small e =
    let l = after_ok (ranged_at bs 0 0 6) _ h e in
    let d = after_ok (ranged_at bs l.0.1 1 1000) _ h l.2 in
    let w = after_ok (ranged_at bs d.0.1 0 1000000) _ h d.2 in
    let fl = ranged_form bs 0 0 6 l.0 small l.1 in
    let fd = ranged_form bs l.0.1 1 1000 d.0 small d.1 in
    let fw = ranged_form bs d.0.1 0 1000000 w.0 small w.1 in
    let same : ◌≡◌ {A = Heading × ℕ} (record { L = l.0.0; d = d.0.0; loose = w.0.0 }, w.0.1) h = cc w.2 in
    rw (← same) (fl ∙ ap (λ r. number l.0.0 ++ r) (fd ∙ ap (λ r. number d.0.0 ++ r) fw))

-- the tables that a sound tree makes hold that tree
tree_again : (h : Heading) (t : trees.Tree) (beds : List ℕ) → Sound h.L t → tree_of (view (charted h t beds)) h.L 0 0 ≡ t
tree_again h t beds sound =
    again (view (charted h t beds)) h.L 0 0 t (omega arith) sound
    (record {
      level = λ i j a b. rw (zero-add i, zero-add j) (entry_table (side h) (λ x y. h.L - (found h.L t x y).height) 0 i j a b);
      leaf = λ i j a b. rw (zero-add i, zero-add j) (entry_table (side h) (λ x y. (found h.L t x y).leaf) dry i j a b);
    })

charted_form : (bs : List ℕ) (h : Heading × ℕ) (b : trees.Tree × List ℕ) → Bytes bs → head_at bs ≡ Ok h → body_at h.0.L bs h.1 ≡ Ok b
    → file_bytes (charted h.0 b.0 b.1) ≡ bs
unfolding body_at
charted_form bs h b small eh eb =
    let n = side h.0 in
    let t = after_ok (of_tree (node_at h.0.L bs h.1)) _ b eb in
    let d = after_ok (beds_at (n * n) bs t.0.1) _ b t.2 in
    let end = when (eqb d.0.1 (length bs)) (Trailing d.0.1) (Ok (t.0.0, d.0.0)) b d.2 in
    let same : ◌≡◌ {A = trees.Tree × List ℕ} (t.0.0, d.0.0) b = cc end.1 in
    let tf = tree_was_written h.0.L bs h.1 t.0.0 t.0.1 small (tree_ok (node_at h.0.L bs h.1) t.0 t.1) in
    let df = beds_form (n * n) bs t.0.1 [] d.0 small d.1 in
    let none : drop d.0.1 bs ≡ [] = ap (λ k. drop k bs) (eqb-true d.0.1 (length bs) end.0) ∙ drop-length bs in
    let rest : drop t.0.1 bs ≡ beds_bytes d.0.0 =
    df.2 ∙ (ap (λ r. beds_bytes df.0 ++ r) none ∙ (append-nil (beds_bytes df.0) ∙ ap beds_bytes (sym df.1))) in
    let tree = tree_again h.0 t.0.0 d.0.0 tf.1 in
    let body : drop h.1 bs ≡ node_bytes (view (charted h.0 t.0.0 d.0.0)) h.0.L 0 0 ++ beds_bytes d.0.0 =
    tf.0 ∙ (λ i. tree_bytes (sym tree i) ++ rest i) in
    rw (← same)
    (sym (head_form bs h small eh ∙ ap (λ r. number h.0.L ++ (number h.0.d ++ (number h.0.loose ++ r))) body))

pub read_file_is_written : ReadFileIsWritten
unfolding file_at
read_file_is_written bs b small e =
    let h = after_ok (head_at bs) _ b e in
    let d = after_ok (body_at h.0.0.L bs h.0.1) _ b h.2 in
    let chart = charted h.0.0 d.0.0 d.0.1 in
    let u = unless (unbalanced (side h.0.0) (view chart).level) _ (Ok chart) b d.2 in
    let same : charted h.0.0 d.0.0 d.0.1 ≡ b = cc u.1 in
    rw (← same) (charted_form bs h.0 d.0 small h.1 d.1)
