-- A tree is read where it is written, and written where it is read.
use Rattle.std.proofs.Common.{◌≡◌, ℕ, zero, suc, ◌+◌, ◌-◌, ◌*◌, ◌≤◌, true, false, cond, eqb, List, ◌++◌, length, drop, ℤ, pos, negsuc, nat_abs, Ok, Err, Result, sym, refl, ap, ◌∙◌, ⊎_elim, append_assoc, arith, lit<, length-append}
use Rattle.std.proofs.lemmas.Bool.{leb-true, eqb-true, cases_Bool}
use Rattle.basin.specs.declared.leaf.Leaf.{Leaf}
use Rattle.basin.specs.Records.{may_hold, may_run, InRange}
use Rattle.basin.proofs.Sizes.{area_small}
use Rattle.numbers.specs.declared.fault.NumberFault.{NumberFault}
use Rattle.numbers.specs.Laws.{Bytes}
use Rattle.numbers.specs.Numbers.{number_at, signed_at, signed, number, coded}
use Rattle.numbers.specs.Steps.{after}
use Rattle.numbers.proofs.Steps.{after_ok, when, ok_parts}
use Rattle.numbers.proofs.Forms.{written_is_read, read_was_written, signed_back, coded_back}
use Rattle.nodes.specs.declared.fault.TreeFault.{TreeFault}
use Rattle.nodes.specs.declared.fault.TreeFault.TheVariants.{Range}
use Rattle.nodes.specs.Trees.{Tree, one, four, side, carried, discharge_at, leaf_at, node_at, quarters_at, Sound}
use Rattle.nodes.specs.Written.{tree_bytes, TreeIsRead, TreeWasWritten}
use Rattle.nodes.proofs.Ways.{node_is, node_leaf, node_fork, fork_at}

-- ---- written, then read
pub coded_small : (z : ℤ) → coded z ≤ 2 * nat_abs z
coded_small (pos q) = omega arith
coded_small (negsuc q) = omega arith

discharge_back : (bs post : List ℕ) (at water : ℕ) (z : ℤ) → water ≤ 122880000 → may_run water z ≡ true → drop at bs ≡ number (coded z) ++ post
    → (discharge_at bs at water ≡ Ok (z, at + length (number (coded z)))) × (drop (at + length (number (coded z))) bs ≡ post)
discharge_back bs post at water z w h e =
    let n = written_is_read bs post at (coded z) (omega (arith, coded_small z, leb-true (nat_abs z) (10000 * water) h)) e in
    (rw (n.0, signed_back z, h) refl, n.1)

leaf_back : (bs post : List ℕ) (at area : ℕ) (l : Leaf) → area ≤ 4096 → InRange area l
    → drop at bs ≡ number l.water ++ (number (coded l.east) ++ (number (coded l.north) ++ post))
    → (q : ℕ) × (leaf_at bs at area ≡ Ok (l, q)) × (drop q bs ≡ post) × (q ≡ at + (length (number l.water) + (length (number (coded l.east)) + length (number (coded l.north)))))
leaf_back bs post at area l a b e =
    let room : l.water ≤ 122880000 = omega (arith, leb-true l.water (30000 * area) b.room) in
    let n = written_is_read bs _ at l.water (omega arith) e in
    let x = discharge_back bs _ (at + length (number l.water)) l.water l.east room b.east n.1 in
    let y = discharge_back bs post (at + length (number l.water) + length (number (coded l.east))) l.water l.north room b.north x.1 in (
      at + length (number l.water) + length (number (coded l.east)) + length (number (coded l.north)),
      rw (n.0, b.room, x.0, y.0) refl,
      y.1,
      omega arith,
    )

pub tree_is_read : TreeIsRead
unfolding tree_bytes
tree_is_read (one l) height bs post at h v e =
    let e' = simp append_assoc at e in
    let m = written_is_read bs _ at 0 (lit< tt) e' in
    let r = leaf_back bs post (at + length (number 0)) (side height * side height) l (area_small height (side height) h refl) v m.1 in
    let k : at + length (tree_bytes (one l)) ≡ r.0 = simp length-append (omega (arith, r.3)) in
    rw k (node_leaf height bs at 0 (at + length (number 0)) (side height) (Ok (l, r.0)) (sym m.0) refl refl (sym r.1), r.2)
tree_is_read (four a b c d) zero bs post at h v e = absurd (omega (arith, v.0))
tree_is_read (four a b c d) (suc n) bs post at h v e =
    let e' = simp append_assoc at e in
    let m = written_is_read bs _ at 1 (lit< tt) e' in
    let ra = tree_is_read a n bs _ (at + length (number 1)) (omega arith) v.1 m.1 in
    let rb = tree_is_read b n bs _ (at + length (number 1) + length (tree_bytes a)) (omega arith) v.2 ra.1 in
    let rc = tree_is_read c n bs _ (at + length (number 1) + length (tree_bytes a) + length (tree_bytes b)) (omega arith) v.3 rb.1 in
    let rd = tree_is_read d n bs post (at + length (number 1) + length (tree_bytes a) + length (tree_bytes b) + length (tree_bytes c)) (omega arith) v.4 rc.1 in
    let k : at + length (tree_bytes (four a b c d)) ≡ at + length (number 1) + length (tree_bytes a) + length (tree_bytes b) + length (tree_bytes c) + length (tree_bytes d) = simp length-append (omega arith) in
    let s : suc n - 1 ≡ n = omega arith in
    let f = node_fork (suc n) bs at 1 (at + length (number 1)) (sym m.0) refl v.0 in
    rw k (rw s at f ∙ rw (ra.0, rb.0, rc.0, rd.0) refl, rd.1)

-- ---- read, then written
carried_ok : {A : Type 0} (r : Result A NumberFault) (x : A) → carried r ≡ Ok x → r ≡ Ok x
carried_ok (Ok y) x e = let h : y ≡ x = cc in rw h refl
carried_ok (Err f) x e = let z : ◌≡◌ {A = ℕ} 0 1 = cc in absurd (omega arith)

number_form : (bs : List ℕ) (at v q : ℕ) → Bytes bs → carried (number_at bs at) ≡ Ok (v, q) → drop at bs ≡ number v ++ drop q bs
number_form bs at v q small e = read_was_written bs at v q small (carried_ok (number_at bs at) (v, q) e)

signed_form : (bs : List ℕ) (at : ℕ) (z : ℤ) (q : ℕ) → Bytes bs → signed_at bs at ≡ Ok (z, q) → drop at bs ≡ number (coded z) ++ drop q bs
signed_form bs at z q small e =
    let a = after_ok (number_at bs at) _ (z, q) e in
    by a.0.0 a.0.1 a.1 a.2
  where
    by : (u p : ℕ) → number_at bs at ≡ Ok (u, p) → ◌≡◌ {A = Result (ℤ × ℕ) NumberFault} (Ok (signed u, p)) (Ok (z, q)) → drop at bs ≡ number (coded z) ++ drop q bs
    by u p n o =
        let s = ok_parts (signed u) z p q o in
        let k : u ≡ coded z = sym (coded_back u) ∙ ap coded s.0 in
        rw (← k, ← s.1) (read_was_written bs at u p small n)

discharge_form : (bs : List ℕ) (at water : ℕ) (z : ℤ) (q : ℕ) → Bytes bs → discharge_at bs at water ≡ Ok (z, q)
    → (drop at bs ≡ number (coded z) ++ drop q bs) × (may_run water z ≡ true)
discharge_form bs at water z q small e =
    let a = after_ok (carried (signed_at bs at)) _ (z, q) e in
    by a.0.0 a.0.1 a.1 a.2
  where
    by : (u : ℤ) (p : ℕ) → carried (signed_at bs at) ≡ Ok (u, p) → cond {A = Result (ℤ × ℕ) TreeFault} (may_run water u) (Ok (u, p)) (Err (Range at)) ≡ Ok (z, q)
        → (drop at bs ≡ number (coded z) ++ drop q bs) × (may_run water z ≡ true)
    by u p n c =
        let t = when (may_run water u) (Range at) (Ok (u, p)) (z, q) c in
        let s = ok_parts u z p q t.1 in
        (rw (← s.0, ← s.1) (signed_form bs at u p small (carried_ok (signed_at bs at) (u, p) n)), rw (← s.0) t.0)

leaf_form : (bs : List ℕ) (at area : ℕ) (l : Leaf) (q : ℕ) → Bytes bs → leaf_at bs at area ≡ Ok (l, q)
    → (drop at bs ≡ number l.water ++ (number (coded l.east) ++ (number (coded l.north) ++ drop q bs))) × InRange area l
leaf_form bs at area l q small e =
    let a = after_ok (carried (number_at bs at)) _ (l, q) e in
    let t = when (may_hold area a.0.0) (Range at) _ (l, q) a.2 in
    let x = after_ok (discharge_at bs a.0.1 a.0.0) _ (l, q) t.1 in
    let y = after_ok (discharge_at bs x.0.1 a.0.0) _ (l, q) x.2 in
    by a.0.0 a.0.1 x.0.0 x.0.1 y.0.0 y.0.1 a.1 t.0 x.1 y.1 y.2
  where
    by : (w p : ℕ) (x : ℤ) (p' : ℕ) (y : ℤ) (p'' : ℕ) → carried (number_at bs at) ≡ Ok (w, p) → may_hold area w ≡ true
        → discharge_at bs p w ≡ Ok (x, p') → discharge_at bs p' w ≡ Ok (y, p'')
        → ◌≡◌ {A = Result (Leaf × ℕ) TreeFault} (Ok (record { water = w; east = x; north = y }, p'')) (Ok (l, q))
        → (drop at bs ≡ number l.water ++ (number (coded l.east) ++ (number (coded l.north) ++ drop q bs))) × InRange area l
    by w p x p' y p'' n t ex ey o =
        let f = number_form bs at w p small n in
        let fx = discharge_form bs p w x p' small ex in
        let fy = discharge_form bs p' w y p'' small ey in
        let s = ok_parts {E = TreeFault} (record { water = w; east = x; north = y }) l p'' q o in
        rw (← s.0, ← s.1) (
          f ∙ ap (λ r. number w ++ r) (fx.0 ∙ ap (λ r. number (coded x) ++ r) fy.0),
          record { room = t; east = fx.1; north = fy.1 },
        )

abbrev Form : ℕ → Type 0
Form height = (bs : List ℕ) (at : ℕ) (t : Tree) (q : ℕ) → Bytes bs → node_at height bs at ≡ Ok (t, q) → (drop at bs ≡ tree_bytes t ++ drop q bs) × Sound height t

leaf_case : (height : ℕ) (bs : List ℕ) (at p : ℕ) (t : Tree) (q : ℕ) → Bytes bs → drop at bs ≡ number 0 ++ drop p bs
    → after {B = Tree × ℕ} (leaf_at bs p (side height * side height)) (λ l. Ok (one l.0, l.1)) ≡ Ok (t, q)
    → (drop at bs ≡ tree_bytes t ++ drop q bs) × Sound height t
unfolding tree_bytes
leaf_case height bs at p t q small f e =
    let a = after_ok {B = Tree × ℕ} (leaf_at bs p (side height * side height)) (λ l. Ok (one l.0, l.1)) (t, q) e in
    by a.0.0 a.0.1 a.1 a.2
  where
    by : (l : Leaf) (p' : ℕ) → leaf_at bs p (side height * side height) ≡ Ok (l, p') → ◌≡◌ {A = Result (Tree × ℕ) TreeFault} (Ok (one l, p')) (Ok (t, q))
        → (drop at bs ≡ tree_bytes t ++ drop q bs) × Sound height t
    by l p' n o =
        let g = leaf_form bs p (side height * side height) l p' small n in
        let s = ok_parts {E = TreeFault} (one l) t p' q o in
        rw (← s.0, ← s.1) (f ∙ (ap (λ r. number 0 ++ r) g.0 ∙ simp append_assoc), g.1)

fork_case : (height : ℕ) → Form height → (bs : List ℕ) (at p : ℕ) (t : Tree) (q : ℕ) → Bytes bs → drop at bs ≡ number 1 ++ drop p bs
    → quarters_at height bs p ≡ Ok (t, q)
    → (drop at bs ≡ tree_bytes t ++ drop q bs) × Sound (suc height) t
unfolding tree_bytes
fork_case height form bs at p t q small f e =
    let node : ℕ → Result (Tree × ℕ) TreeFault = λ n. node_at height bs n in
    let a = after_ok (node p) _ (t, q) e in
    let b = after_ok (node a.0.1) _ (t, q) a.2 in
    let c = after_ok (node b.0.1) _ (t, q) b.2 in
    let d = after_ok (node c.0.1) _ (t, q) c.2 in
    by a.0.0 a.0.1 b.0.0 b.0.1 c.0.0 c.0.1 d.0.0 d.0.1 a.1 b.1 c.1 d.1 d.2
  where
    by : (a : Tree) (pa : ℕ) (b : Tree) (pb : ℕ) (c : Tree) (pc : ℕ) (d : Tree) (pd : ℕ)
        → node_at height bs p ≡ Ok (a, pa) → node_at height bs pa ≡ Ok (b, pb) → node_at height bs pb ≡ Ok (c, pc) → node_at height bs pc ≡ Ok (d, pd)
        → ◌≡◌ {A = Result (Tree × ℕ) TreeFault} (Ok (four a b c d, pd)) (Ok (t, q))
        → (drop at bs ≡ tree_bytes t ++ drop q bs) × Sound (suc height) t
    by a pa b pb c pc d pd ea eb ec ed o =
        let fa = form bs p a pa small ea in
        let fb = form bs pa b pb small eb in
        let fc = form bs pb c pc small ec in
        let fd = form bs pc d pd small ed in
        let s = ok_parts {E = TreeFault} (four a b c d) t pd q o in
        rw (← s.0, ← s.1) (
          f ∙ (ap (λ r. number 1 ++ r) (fa.0 ∙ ap (λ r. tree_bytes a ++ r) (fb.0 ∙ ap (λ r. tree_bytes b ++ r) (fc.0 ∙ ap (λ r. tree_bytes c ++ r) fd.0))) ∙ simp append_assoc),
          (omega arith, fa.1, fb.1, fc.1, fd.1),
        )

node_form : (height : ℕ) → ((bs : List ℕ) (at p : ℕ) (t : Tree) (q : ℕ) → Bytes bs → drop at bs ≡ number 1 ++ drop p bs → fork_at height bs at p ≡ Ok (t, q) → (drop at bs ≡ tree_bytes t ++ drop q bs) × Sound height t) → Form height
node_form height fork bs at t q small e =
    let e' = sym (node_is height bs at) ∙ e in
    let m = after_ok (carried (number_at bs at)) _ (t, q) e' in
    by m.0.0 m.0.1 m.1 m.2
  where
    by : (mark p : ℕ) → carried (number_at bs at) ≡ Ok (mark, p)
        → cond {A = Result (Tree × ℕ) TreeFault} (eqb mark 0) (after (leaf_at bs p (side height * side height)) (λ l. Ok (one l.0, l.1)))
        (cond (eqb mark 1) (fork_at height bs at p) (Err (Range at))) ≡ Ok (t, q)
        → (drop at bs ≡ tree_bytes t ++ drop q bs) × Sound height t
    by mark p n o =
        ⊎_elim
        (λ (z : eqb mark 0 ≡ true). leaf_case height bs at p t q small (rw (eqb-true mark 0 z) at (number_form bs at mark p small n)) (rw z at o))
        (λ (z : eqb mark 0 ≡ false). ⊎_elim
        (λ (y : eqb mark 1 ≡ true). fork bs at p t q small (rw (eqb-true mark 1 y) at (number_form bs at mark p small n)) (rw (z, y) at o))
        (λ (y : eqb mark 1 ≡ false). let w = rw (z, y) at o in let z : ◌≡◌ {A = ℕ} 0 1 = cc w in absurd (omega arith))
        (cases_Bool (eqb mark 1)))
        (cases_Bool (eqb mark 0))

pub tree_was_written : TreeWasWritten
tree_was_written zero = node_form zero (λ bs at p t q small f e. let z : ◌≡◌ {A = ℕ} 0 1 = cc e in absurd (omega arith))
tree_was_written (suc height) = node_form (suc height) (λ bs at p t q small f e. fork_case height (tree_was_written height) bs at p t q small f e)
