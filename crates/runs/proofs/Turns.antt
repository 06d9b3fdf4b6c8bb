-- A step of the turned tree is the turned step.
use Rattle.std.proofs.Common.{◌≡◌, ℕ, zero, suc, ◌+◌, ◌-◌, ◌*◌, ◌/◌, ◌^◌, ◌<◌, min, max, Bool, true, false, ◌⊎◌, ℤ, pos, negsuc, ◌+ℤ◌, ◌-ℤ◌, ◌*ℤ◌, neg_ℤ, sym, refl, ap, ◌∙◌, inl, inr, add_comm, zero-mul, arith}
use native.Mathlib.Nat.{zero-div}
use lib.IntN.{neg_ℤ-neg_ℤ, +ℤ_comm}
use lib.Signed.{quot_z}
use borrow.Author.Differences.{up, ints}
use Rattle.std.proofs.lemmas.Bool.{eqb-false}
use Rattle.basin.specs.declared.dir.Dir.{Dir}
use Rattle.basin.specs.declared.dir.Dir.TheVariants.{East, North, West, South}
use Rattle.basin.specs.declared.leaf.Leaf.{Leaf}
use Rattle.basin.specs.Blocks.{Block, block, Within}
use Rattle.basin.specs.Finish.{clipped}
use Rattle.runs.specs.Rules.{Rule, Lawful, State, mirrored, turned_along, Fine}
use Rattle.runs.specs.Step.{drained, Face, block_side, block_surface, block_bed, speed, state_at, state, face, wall_face, scaled, wish, wishes_of, leaving, out_of, into, new_water, momentum_across, momentum_along, momentum_across_at, momentum_along_at, new_east, new_north, stepped}
use Rattle.runs.specs.Trees.{Tree, Kind, part, whole, cut, Side, wall, one, two, beside, each_by, each, eachℤ, round, opposite, at_edge, beyond, parent, first, second, across}
use Rattle.runs.specs.Turns.{flip_leaf, transpose_leaf}
use Rattle.runs.proofs.Limits.{record_is, Bounded, fine, fine_mirrored}
use Rattle.runs.proofs.Sides.{Sound, side_leads, Leads, within_beyond}

abbrev pub flip : Block → Block
flip c = block c.k (2 ^ c.k - 1 - c.X) c.Y

abbrev pub transpose : Block → Block
transpose c = block c.k c.Y c.X

abbrev pub flip_dir : Dir → Dir
flip_dir East = West
flip_dir North = North
flip_dir West = East
flip_dir South = South

abbrev pub transpose_dir : Dir → Dir
transpose_dir East = North
transpose_dir North = East
transpose_dir West = South
transpose_dir South = West

-- ---- signs
pub quot_neg : (z : ℤ) (n : ℕ) → quot_z (neg_ℤ z) (pos n) ≡ neg_ℤ (quot_z z (pos n))
quot_neg (pos zero) n = rw (zero-div n) refl
quot_neg (pos (suc a)) n = refl
quot_neg (negsuc a) n = sym (neg_ℤ-neg_ℤ (pos (suc a / n)))

times_neg : (z : ℤ) (n : ℕ) → neg_ℤ z *ℤ pos n ≡ neg_ℤ (z *ℤ pos n)
times_neg (pos zero) n = rw zero-mul refl
times_neg (pos (suc a)) n = refl
times_neg (negsuc a) n = sym (neg_ℤ-neg_ℤ (pos (suc a * n)))

scaled_neg : (d T : ℕ) (z : ℤ) (e : ℕ) → scaled d T (neg_ℤ z) e ≡ neg_ℤ (scaled d T z e)
scaled_neg d T z e = ap (λ y. quot_z y (pos (1000000 * d))) (times_neg z (e * T)) ∙ quot_neg (z *ℤ pos (e * T)) (1000000 * d)

pub clip_neg : (m : ℕ) (z : ℤ) → clipped m (neg_ℤ z) ≡ neg_ℤ (clipped m z)
clip_neg m (pos zero) = let e : min 0 m ≡ 0 = omega arith in rw e refl
clip_neg m (pos (suc a)) = refl
clip_neg m (negsuc a) = sym (neg_ℤ-neg_ℤ (pos (min (suc a) m)))

speed_neg : (h : ℕ) (X : ℤ) (V : ℕ) → speed h (neg_ℤ X) V ≡ neg_ℤ (speed h X V)
speed_neg zero X V = refl
speed_neg (suc h) X V = quot_neg X V

-- ---- sides of the flipped tree
pub flip_within : (L : ℕ) (c : Block) → Within L c → Within L (flip c)
flip_within L c w = record { deep = w.deep; east = omega (arith, w.east); north = w.north }

flip_edge : (L : ℕ) (p : Dir) (c : Block) → Within L c → at_edge p c ≡ at_edge (flip_dir p) (flip c)
flip_edge L East c w = grind (arith, w.east)
flip_edge L North c w = refl
flip_edge L West c w = grind (arith, w.east)
flip_edge L South c w = refl

flip_beyond : (L : ℕ) (p : Dir) (c : Block) → Within L c → at_edge p c ≡ false → flip (beyond p c) ≡ beyond (flip_dir p) (flip c)
flip_beyond L East c w e = ap (λ x. block c.k x c.Y) (omega arith)
flip_beyond L North c w e = refl
flip_beyond L West c w e = let inner = eqb-false c.X 0 e in ap (λ x. block c.k x c.Y) (omega (arith, w.east))
flip_beyond L South c w e = refl

flip_parent : (L : ℕ) (b : Block) → Within L b → 0 < b.k → flip (parent b) ≡ parent (flip b)
flip_parent L b w h = go b.k b.X b.Y w.east h
  where
    go : (k X Y : ℕ) → X < 2 ^ k → 0 < k → flip (parent (block k X Y)) ≡ parent (flip (block k X Y))
    go zero X Y a h = absurd (omega arith)
    go (suc k) X Y a h = let e : 2 ^ k - 1 - X / 2 ≡ (2 ^ suc k - 1 - X) / 2 = omega arith in ap (λ x. block k x (Y / 2)) e

-- of a pair of quarters, which is which
flip_quarters : (p : Dir) (b : Block) → b.X < 2 ^ b.k
    → ((flip (first p b) ≡ first (flip_dir p) (flip b)) × (flip (second p b) ≡ second (flip_dir p) (flip b)))
    ⊎ ((flip (first p b) ≡ second (flip_dir p) (flip b)) × (flip (second p b) ≡ first (flip_dir p) (flip b)))
flip_quarters p b w = go p b.k b.X b.Y w
  where
    low : (k X : ℕ) → X < 2 ^ k → 2 ^ suc k - 1 - X * 2 ≡ (2 ^ k - 1 - X) * 2 + 1
    low k X h = omega arith

    high : (k X : ℕ) → X < 2 ^ k → 2 ^ suc k - 1 - (X * 2 + 1) ≡ (2 ^ k - 1 - X) * 2
    high k X h = omega arith

    go : (p : Dir) (k X Y : ℕ) → X < 2 ^ k
        → ((flip (first p (block k X Y)) ≡ first (flip_dir p) (flip (block k X Y))) ×
        (flip (second p (block k X Y)) ≡ second (flip_dir p) (flip (block k X Y))))
        ⊎ ((flip (first p (block k X Y)) ≡ second (flip_dir p) (flip (block k X Y))) ×
        (flip (second p (block k X Y)) ≡ first (flip_dir p) (flip (block k X Y))))
    go East k X Y h = inl (ap (λ x. block (suc k) x (Y * 2)) (low k X h), ap (λ x. block (suc k) x (Y * 2 + 1)) (low k X h))
    go West k X Y h = inl (ap (λ x. block (suc k) x (Y * 2)) (high k X h), ap (λ x. block (suc k) x (Y * 2 + 1)) (high k X h))
    go North k X Y h = inr (ap (λ x. block (suc k) x (Y * 2)) (low k X h), ap (λ x. block (suc k) x (Y * 2)) (high k X h))
    go South k X Y h = inr (ap (λ x. block (suc k) x (Y * 2 + 1)) (low k X h), ap (λ x. block (suc k) x (Y * 2 + 1)) (high k X h))

-- ---- any turn: τ takes a block of the turned tree to the block that it came from
record Motion (L : ℕ) (τ : Block → Block) (δ : Dir → Dir) : Type 0 where
  level : (c : Block) → (τ c).k ≡ c.k
  within : (c : Block) → Within L c → Within L (τ c)
  edge : (p : Dir) (c : Block) → Within L c → at_edge p c ≡ at_edge (δ p) (τ c)
  next : (p : Dir) (c : Block) → Within L c → at_edge p c ≡ false → τ (beyond p c) ≡ beyond (δ p) (τ c)
  up_one : (b : Block) → Within L b → 0 < b.k → τ (parent b) ≡ parent (τ b)
  quarters : (p : Dir) (b : Block) → Within L b
      → ((τ (first p b) ≡ first (δ p) (τ b)) × (τ (second p b) ≡ second (δ p) (τ b)))
      ⊎ ((τ (first p b) ≡ second (δ p) (τ b)) × (τ (second p b) ≡ first (δ p) (τ b)))
  turns_back : (p : Dir) → δ (opposite p) ≡ opposite (δ p)
  all_round : (f : Dir → ℕ) → round (λ p. f (δ p)) ≡ round f

one_level : (X k : ℕ) → X < 2 ^ k → (X ≡ 0 → ⊥) → 0 < k
one_level X zero h n = absurd (omega arith)
one_level X (suc k) h n = omega arith

edge_level : (L : ℕ) (p : Dir) (c : Block) → Within L c → at_edge p c ≡ false → 0 < (beyond p c).k
edge_level L East c w e = one_level (c.X + 1) c.k (omega (arith, eqb-false (c.X + 1) (2 ^ c.k) e, w.east)) (λ z. omega arith)
edge_level L North c w e = one_level (c.Y + 1) c.k (omega (arith, eqb-false (c.Y + 1) (2 ^ c.k) e, w.north)) (λ z. omega arith)
edge_level L West c w e = one_level c.X c.k w.east (eqb-false c.X 0 e)
edge_level L South c w e = one_level c.Y c.k w.north (eqb-false c.Y 0 e)

abbrev turn_face : (State → State) → Face → Face
turn_face σ a = record { near = σ a.near; far = σ a.far; e = a.e }

record Action (δ : Dir → Dir) (ρ : Leaf → Leaf) (σ : Dir → State → State) (ε ζ : Dir → ℤ → ℤ) (R : Rule) : Type 0 where
  water : (l : Leaf) → (ρ l).water ≡ l.water
  states : (p : Dir) (h : ℕ) (l : Leaf) → state_at p h (ρ l) ≡ σ p (state_at (δ p) h l)
  mirrors : (p : Dir) (s : State) → mirrored (σ p s) ≡ σ p (mirrored s)
  flows : (T : ℕ) (t : Tree) (p : Dir) (a : Face) → Fine a.near → Fine a.far → wish R T t p (turn_face (σ p) a) ≡ wish R T t (δ p) a
  all_across : (T : ℕ) (t : Tree) (p : Dir) (a : Face) → Fine a.near → Fine a.far
      → momentum_across_at R T t p (turn_face (σ p) a) ≡ ε p (momentum_across_at R T t (δ p) a)
  all_along : (T : ℕ) (t : Tree) (p : Dir) (a : Face) → Fine a.near → Fine a.far
      → momentum_along_at R T t p (turn_face (σ p) a) ≡ ζ p (momentum_along_at R T t (δ p) a)
  ε_add : (p : Dir) (x y : ℤ) → ε p (x +ℤ y) ≡ ε p x +ℤ ε p y
  ζ_add : (p : Dir) (x y : ℤ) → ζ p (x +ℤ y) ≡ ζ p x +ℤ ζ p y

each_through : (g : ℤ → ℤ) → ((x y : ℤ) → g (x +ℤ y) ≡ g x +ℤ g y) → (s : Side) (w : ℤ) (f : Block → ℤ) → eachℤ s (g w) (λ b. g (f b)) ≡ g (eachℤ s w f)
each_through g h wall w f = refl
each_through g h (one a) w f = refl
each_through g h (two a b) w f = sym (h (f a) (f b))

drained_same : (V V' Q Q' x x' : ℕ) → V ≡ V' → Q ≡ Q' → x ≡ x' → drained V Q x ≡ drained V' Q' x'
drained_same V V' Q Q' x x' e f g = cc

abbrev pub turned : Tree → (Block → Kind) → (Block → Leaf) → (Block → ℕ) → Tree
turned t kind' leaf' beds' = record { L = t.L; d = t.d; kind = kind'; leaf = leaf'; beds = beds' }

module _ (t : Tree) (kind' : Block → Kind) (leaf' : Block → Leaf) (beds' : Block → ℕ)
    (sound' : Sound (turned t kind' leaf' beds'))
    (τ : Block → Block) (δ : Dir → Dir) (motion : Motion t.L τ δ)
    (kinds : (c : Block) → Within t.L c → kind' c ≡ t.kind (τ c))
  where
    turned_each : {A : Type 0} (plus : A → A → A) → ((x y : A) → plus x y ≡ plus y x)
        → (p : Dir) (c : Block) → Within t.L c → kind' c ≡ whole
        → (w' w : A) (f' f : Block → A) → w' ≡ w → ((a : Block) → Within t.L a → kind' a ≡ whole → f' a ≡ f (τ a))
        → each_by plus (beside (turned t kind' leaf' beds') p c) w' f' ≡ each_by plus (beside t (δ p) (τ c)) w f
    turned_each plus comm p c v h w' w f' f ew ef =
        go (at_edge p c) refl (side_leads (turned t kind' leaf' beds') sound' p c v h)
      where
        across_one : at_edge p c ≡ false → (κ : Kind) → kind' (beyond p c) ≡ κ → Leads (turned t kind' leaf' beds') (across κ p (beyond p c))
            → each_by plus (across κ p (beyond p c)) w' f' ≡ each_by plus (across κ (δ p) (beyond (δ p) (τ c))) w f
        across_one e part g l =
            ef (parent (beyond p c)) l.0 l.1
            ∙ ap f (motion.up_one (beyond p c) (within_beyond t.L p c v e) (edge_level t.L p c v e) ∙ ap parent (motion.next p c v e))
        across_one e whole g l = ef (beyond p c) l.0 l.1 ∙ ap f (motion.next p c v e)
        across_one e cut g l =
            let i = ef (first p (beyond p c)) l.0.0 l.0.1 in
            let j = ef (second p (beyond p c)) l.1.0 l.1.1 in
            let n = motion.next p c v e in
            elim (motion.quarters p (beyond p c) (within_beyond t.L p c v e)) [
              | inl q ↦ cc (q.0, q.1)
              | inr q ↦ cc (q.0, q.1, comm (f' (first p (beyond p c))) (f' (second p (beyond p c))))
            ]

        go : (z : Bool) → at_edge p c ≡ z → Leads (turned t kind' leaf' beds') (beside (turned t kind' leaf' beds') p c)
            → each_by plus (beside (turned t kind' leaf' beds') p c) w' f' ≡ each_by plus (beside t (δ p) (τ c)) w f
        go true e l =
            let e' : at_edge (δ p) (τ c) ≡ true = sym (motion.edge p c v) ∙ e in
            rw (e, e') ew
        go false e l =
            let e' : at_edge (δ p) (τ c) ≡ false = sym (motion.edge p c v) ∙ e in
            let k' : t.kind (beyond (δ p) (τ c)) ≡ kind' (beyond p c) = ap t.kind (sym (motion.next p c v e))
            ∙ sym (kinds (beyond p c) (within_beyond t.L p c v e)) in
            rw (e, e', k') (across_one e (kind' (beyond p c)) refl (rw e at l))

    module _ (ρ : Leaf → Leaf) (σ : Dir → State → State) (ε ζ : Dir → ℤ → ℤ) (R : Rule) (T : ℕ) (action : Action δ ρ σ ε ζ R)
        (leaves' : (c : Block) → Within t.L c → kind' c ≡ whole → leaf' c ≡ ρ (t.leaf (τ c)))
        (beds'' : (c : Block) → Within t.L c → kind' c ≡ whole → beds' c ≡ t.beds (τ c))
        (bounded : (c : Block) → Within t.L c → t.kind c ≡ whole → Bounded t c)
      where
        bounded_from : (c : Block) → Within t.L c → kind' c ≡ whole → Bounded t (τ c)
        bounded_from c v h = bounded (τ c) (motion.within c v) (sym (kinds c v) ∙ h)

        fine_face : (p : Dir) (c b : Block) → Within t.L c → kind' c ≡ whole → Within t.L b → kind' b ≡ whole
            → Fine (face t (δ p) (τ c) (τ b)).near × Fine (face t (δ p) (τ c) (τ b)).far
        fine_face p c b v h w k =
            let m = max (block_bed t (τ c)) (block_bed t (τ b)) in
            (fine t (δ p) (τ c) m (bounded_from c v h) (omega arith), fine t (δ p) (τ b) m (bounded_from b w k) (omega arith))

        fine_wall : (p : Dir) (c : Block) → Within t.L c → kind' c ≡ whole → Fine (wall_face t (δ p) (τ c)).near × Fine (wall_face t (δ p) (τ c)).far
        fine_wall p c v h =
            let f = fine t (δ p) (τ c) (block_bed t (τ c)) (bounded_from c v h) (omega arith) in
            (f, fine_mirrored (state t (δ p) (τ c) (block_bed t (τ c))) f)

        abbrev t' : Tree
        t' = turned t kind' leaf' beds'

        turn_width : (c : Block) → block_side t' c ≡ block_side t (τ c)
        turn_width c = ap (λ k. 2 ^ (t.L - k)) (sym (motion.level c))

        turn_bed : (c : Block) → Within t.L c → kind' c ≡ whole → block_bed t' c ≡ block_bed t (τ c)
        turn_bed c v h = cc (turn_width c, beds'' c v h)

        turn_water : (c : Block) → Within t.L c → kind' c ≡ whole → (leaf' c).water ≡ (t.leaf (τ c)).water
        turn_water c v h = ap (λ l. l.water) (leaves' c v h) ∙ action.water (t.leaf (τ c))

        turn_surface : (c : Block) → Within t.L c → kind' c ≡ whole → block_surface t' c ≡ block_surface t (τ c)
        turn_surface c v h = cc (turn_width c, beds'' c v h, turn_water c v h)

        turn_state : (p : Dir) (c : Block) (m : ℕ) → Within t.L c → kind' c ≡ whole → state t' p c m ≡ σ p (state t (δ p) (τ c) m)
        turn_state p c m v h = cc (turn_surface c v h, leaves' c v h, action.states p (block_surface t (τ c) - m) (t.leaf (τ c)))

        turn_faces : (p : Dir) (c b : Block) → Within t.L c → kind' c ≡ whole → Within t.L b → kind' b ≡ whole
            → face t' p c b ≡ turn_face (σ p) (face t (δ p) (τ c) (τ b))
        turn_faces p c b v h w k =
            cc (
              turn_state p c (max (block_bed t' c) (block_bed t' b)) v h,
              turn_state p b (max (block_bed t' c) (block_bed t' b)) w k,
              turn_bed c v h,
              turn_bed b w k,
              turn_width c,
              turn_width b,
            )

        turn_walls : (p : Dir) (c : Block) → Within t.L c → kind' c ≡ whole → wall_face t' p c ≡ turn_face (σ p) (wall_face t (δ p) (τ c))
        turn_walls p c v h =
            cc (
              turn_state p c (block_bed t' c) v h,
              turn_bed c v h,
              turn_width c,
              action.mirrors p (state t (δ p) (τ c) (block_bed t (τ c))),
            )

        turn_wish : (p : Dir) (c b : Block) → Within t.L c → kind' c ≡ whole → Within t.L b → kind' b ≡ whole
            → wish R T t' p (face t' p c b) ≡ wish R T t (δ p) (face t (δ p) (τ c) (τ b))
        turn_wish p c b v h w k = ap (wish R T t' p) (turn_faces p c b v h w k)
            ∙ (let q = fine_face p c b v h w k in action.flows T t p (face t (δ p) (τ c) (τ b)) q.0 q.1)

        turn_wishes : (c : Block) → Within t.L c → kind' c ≡ whole → wishes_of R T t' c ≡ wishes_of R T t (τ c)
        turn_wishes c v h = omega (
          arith,
          on East,
          on North,
          on West,
          on South,
          motion.all_round
              (λ p. each (beside t p (τ c)) 0 (λ b. wish R T t p (face t p (τ c) b))),
        )
          where
            on : (p : Dir) → each (beside t' p c) 0 (λ b. wish R T t' p (face t' p c b))
                ≡ each (beside t (δ p) (τ c)) 0 (λ b. wish R T t (δ p) (face t (δ p) (τ c) b))
            on p = turned_each ◌+◌ add_comm p c v h 0 0 (λ b. wish R T t' p (face t' p c b)) (λ b. wish R T t (δ p) (face t (δ p) (τ c) b)) refl
                (λ b w k. turn_wish p c b v h w k)

        turn_leaving : (p : Dir) (c b : Block) → Within t.L c → kind' c ≡ whole → Within t.L b → kind' b ≡ whole
            → leaving R T t' p c b ≡ leaving R T t (δ p) (τ c) (τ b)
        turn_leaving p c b v h w k =
            drained_same (leaf' c).water (t.leaf (τ c)).water (wishes_of R T t' c) (wishes_of R T t (τ c)) (wish R T t' p (face t' p c b))
            (wish R T t (δ p) (face t (δ p) (τ c) (τ b)))
            (turn_water c v h) (turn_wishes c v h) (turn_wish p c b v h w k)

        turn_out : (c : Block) → Within t.L c → kind' c ≡ whole → out_of R T t' c ≡ out_of R T t (τ c)
        turn_out c v h = omega (arith, on East, on North, on West, on South, motion.all_round (λ p. each (beside t p (τ c)) 0 (λ b. leaving R T t p (τ c) b)))
          where
            on : (p : Dir) → each (beside t' p c) 0 (λ b. leaving R T t' p c b) ≡ each (beside t (δ p) (τ c)) 0 (λ b. leaving R T t (δ p) (τ c) b)
            on p = turned_each ◌+◌ add_comm p c v h 0 0 (λ b. leaving R T t' p c b) (λ b. leaving R T t (δ p) (τ c) b) refl
                (λ b w k. turn_leaving p c b v h w k)

        turn_into : (c : Block) → Within t.L c → kind' c ≡ whole → into R T t' c ≡ into R T t (τ c)
        turn_into c v h = omega (
          arith,
          on East,
          on North,
          on West,
          on South,
          motion.all_round
              (λ p. each (beside t p (τ c)) 0 (λ b. leaving R T t (opposite p) b (τ c))),
        )
          where
            on : (p : Dir) → each (beside t' p c) 0 (λ b. leaving R T t' (opposite p) b c)
                ≡ each (beside t (δ p) (τ c)) 0 (λ b. leaving R T t (opposite (δ p)) b (τ c))
            on p = turned_each ◌+◌ add_comm p c v h 0 0 (λ b. leaving R T t' (opposite p) b c) (λ b. leaving R T t (opposite (δ p)) b (τ c)) refl
                (λ b w k. turn_leaving (opposite p) b c w k v h ∙ ap (λ q. leaving R T t q (τ b) (τ c)) (motion.turns_back p))

        turn_new_water : (c : Block) → Within t.L c → kind' c ≡ whole → new_water R T t' c ≡ new_water R T t (τ c)
        turn_new_water c v h = omega (arith, turn_water c v h, turn_out c v h, turn_into c v h)

        turn_across : (p : Dir) (c : Block) → Within t.L c → kind' c ≡ whole → momentum_across R T t' p c ≡ ε p (momentum_across R T t (δ p) (τ c))
        turn_across p c v h =
            turned_each ◌+ℤ◌ +ℤ_comm p c v h (momentum_across_at R T t' p (wall_face t' p c)) (ε p (momentum_across_at R T t (δ p) (wall_face t (δ p) (τ c))))
            (λ b. momentum_across_at R T t' p (face t' p c b)) (λ b. ε p (momentum_across_at R T t (δ p) (face t (δ p) (τ c) b)))
            (ap (momentum_across_at R T t' p) (turn_walls p c v h)
            ∙ action.all_across T t p (wall_face t (δ p) (τ c)) (fine_wall p c v h).0 (fine_wall p c v h).1)
            (λ b w k. ap (momentum_across_at R T t' p) (turn_faces p c b v h w k)
            ∙ action.all_across T t p (face t (δ p) (τ c) (τ b)) (fine_face p c b v h w k).0 (fine_face p c b v h w k).1)
            ∙ each_through (ε p) (action.ε_add p) (beside t (δ p) (τ c)) (momentum_across_at R T t (δ p) (wall_face t (δ p) (τ c)))
            (λ b. momentum_across_at R T t (δ p) (face t (δ p) (τ c) b))

        turn_along : (p : Dir) (c : Block) → Within t.L c → kind' c ≡ whole → momentum_along R T t' p c ≡ ζ p (momentum_along R T t (δ p) (τ c))
        turn_along p c v h =
            turned_each ◌+ℤ◌ +ℤ_comm p c v h (momentum_along_at R T t' p (wall_face t' p c)) (ζ p (momentum_along_at R T t (δ p) (wall_face t (δ p) (τ c))))
            (λ b. momentum_along_at R T t' p (face t' p c b)) (λ b. ζ p (momentum_along_at R T t (δ p) (face t (δ p) (τ c) b)))
            (ap (momentum_along_at R T t' p) (turn_walls p c v h)
            ∙ action.all_along T t p (wall_face t (δ p) (τ c)) (fine_wall p c v h).0 (fine_wall p c v h).1)
            (λ b w k. ap (momentum_along_at R T t' p) (turn_faces p c b v h w k)
            ∙ action.all_along T t p (face t (δ p) (τ c) (τ b)) (fine_face p c b v h w k).0 (fine_face p c b v h w k).1)
            ∙ each_through (ζ p) (action.ζ_add p) (beside t (δ p) (τ c)) (momentum_along_at R T t (δ p) (wall_face t (δ p) (τ c)))
            (λ b. momentum_along_at R T t (δ p) (face t (δ p) (τ c) b))

-- ---- the flip
flip_motion : (L : ℕ) → Motion L flip flip_dir
flip_motion L =
    record {
      level = λ c. refl;
      within = flip_within L;
      edge = flip_edge L;
      next = flip_beyond L;
      up_one = flip_parent L;
      quarters = λ p b w. flip_quarters p b w.east;
      turns_back = elim [ East ↦ refl | North ↦ refl | West ↦ refl | South ↦ refl ];
      all_round = λ f. omega arith;
    }

abbrev flip_state : Dir → State → State
flip_state East s = mirrored s
flip_state North s = turned_along s
flip_state West s = mirrored s
flip_state South s = turned_along s

abbrev flip_across : Dir → ℤ → ℤ
flip_across East z = neg_ℤ z
flip_across North z = z
flip_across West z = neg_ℤ z
flip_across South z = z

abbrev flip_along : Dir → ℤ → ℤ
flip_along East z = z
flip_along North z = neg_ℤ z
flip_along West z = z
flip_along South z = neg_ℤ z

pub neg_add : (x y : ℤ) → neg_ℤ (x +ℤ y) ≡ neg_ℤ x +ℤ neg_ℤ y
neg_add x y = omega (arith, ints)

flip_action : (R : Rule) → Lawful R → Action flip_dir flip_leaf flip_state flip_across flip_along R
flip_action R law =
    record {
      water = λ l. refl;
      states = states;
      mirrors = mirrors;
      flows = flows;
      all_across = all_across;
      all_along = all_along;
      ε_add = elim [ East ↦ neg_add | North ↦ λ x y. refl | West ↦ neg_add | South ↦ λ x y. refl ];
      ζ_add = elim [ East ↦ λ x y. refl | North ↦ neg_add | West ↦ λ x y. refl | South ↦ neg_add ];
    }
  where
    states : (p : Dir) (h : ℕ) (l : Leaf) → state_at p h (flip_leaf l) ≡ flip_state p (state_at (flip_dir p) h l)
    states East h l = rw (speed_neg h l.east l.water) refl
    states North h l = rw (speed_neg h l.east l.water) refl
    states West h l = rw (speed_neg h l.east l.water) refl
    states South h l = rw (speed_neg h l.east l.water) refl

    mirrors : (p : Dir) (s : State) → mirrored (flip_state p s) ≡ flip_state p (mirrored s)
    mirrors East s = refl
    mirrors North s = refl
    mirrors West s = refl
    mirrors South s = refl

    flows : (T : ℕ) (t : Tree) (p : Dir) (a : Face) → Fine a.near → Fine a.far → wish R T t p (turn_face (flip_state p) a) ≡ wish R T t (flip_dir p) a
    flows T t East a fn ff = ap (λ z. up (scaled t.d T z a.e)) (law.mirror_flow a.far a.near ff fn)
        ∙ ap up (scaled_neg t.d T (R.flow a.far a.near) a.e)
    flows T t North a fn ff = ap (λ z. up (scaled t.d T z a.e)) (law.along_flow a.near a.far fn ff)
    flows T t West a fn ff = ap (λ z. up (neg_ℤ (scaled t.d T z a.e))) (law.mirror_flow a.near a.far fn ff)
        ∙ ap (λ z. up (neg_ℤ z)) (scaled_neg t.d T (R.flow a.near a.far) a.e)
        ∙ ap up (neg_ℤ-neg_ℤ (scaled t.d T (R.flow a.near a.far) a.e))
    flows T t South a fn ff = ap (λ z. up (neg_ℤ (scaled t.d T z a.e))) (law.along_flow a.far a.near ff fn)

    all_across : (T : ℕ) (t : Tree) (p : Dir) (a : Face) → Fine a.near → Fine a.far
        → momentum_across_at R T t p (turn_face (flip_state p) a) ≡ flip_across p (momentum_across_at R T t (flip_dir p) a)
    all_across T t East a fn ff = rw (law.mirror_push a.far a.near ff fn)
        (sym (neg_ℤ-neg_ℤ (neg_ℤ (scaled t.d T (R.push a.far a.near -ℤ pos (4905 * a.near.h * a.near.h)) a.e))))
    all_across T t North a fn ff = rw (law.along_push a.near a.far fn ff) refl
    all_across T t West a fn ff = rw (law.mirror_push a.near a.far fn ff) refl
    all_across T t South a fn ff = rw (law.along_push a.far a.near ff fn) refl

    all_along : (T : ℕ) (t : Tree) (p : Dir) (a : Face) → Fine a.near → Fine a.far
        → momentum_along_at R T t p (turn_face (flip_state p) a) ≡ flip_along p (momentum_along_at R T t (flip_dir p) a)
    all_along T t East a fn ff = rw (law.mirror_drift a.far a.near ff fn) (ap neg_ℤ (scaled_neg t.d T (R.drift a.far a.near) a.e))
    all_along T t North a fn ff = rw (law.along_drift a.near a.far fn ff) (ap neg_ℤ (scaled_neg t.d T (R.drift a.near a.far) a.e))
    all_along T t West a fn ff = rw (law.mirror_drift a.near a.far fn ff)
        (ap (λ z. neg_ℤ (neg_ℤ z)) (scaled_neg t.d T (R.drift a.near a.far) a.e) ∙ neg_ℤ-neg_ℤ _)
    all_along T t South a fn ff = rw (law.along_drift a.far a.near ff fn)
        (ap (λ z. neg_ℤ (neg_ℤ z)) (scaled_neg t.d T (R.drift a.far a.near) a.e))

clip_cong : (m m' : ℕ) (x x' : ℤ) → m ≡ m' → x ≡ x' → clipped (10000 * m) x ≡ clipped (10000 * m') x'
clip_cong m m' x x' e f = rw (e, f) refl

-- the step of the flipped tree is the flipped step
pub flip_stepped : (t : Tree) (kind' : Block → Kind) (leaf' : Block → Leaf) (beds' : Block → ℕ)
    → Sound (turned t kind' leaf' beds')
    → ((c : Block) → Within t.L c → kind' c ≡ t.kind (flip c))
    → ((c : Block) → Within t.L c → kind' c ≡ whole → leaf' c ≡ flip_leaf (t.leaf (flip c)))
    → ((c : Block) → Within t.L c → kind' c ≡ whole → beds' c ≡ t.beds (flip c))
    → ((c : Block) → Within t.L c → t.kind c ≡ whole → Bounded t c)
    → (R : Rule) → Lawful R → (T : ℕ) (c : Block) → Within t.L c → kind' c ≡ whole
    → stepped R T (turned t kind' leaf' beds') c ≡ flip_leaf (stepped R T t (flip c))
flip_stepped t kind' leaf' beds' sound' ek el eb bd R law T c v h =
    let motion = flip_motion t.L in
    let action = flip_action R law in
    let water = turn_new_water t kind' leaf' beds' sound' flip flip_dir motion ek flip_leaf flip_state flip_across flip_along R T action el eb bd c v h in
    let all_across = λ (p : Dir). turn_across t kind' leaf' beds' sound' flip flip_dir motion ek flip_leaf flip_state flip_across flip_along R T action el eb bd p c v h in
    let all_along = λ (p : Dir). turn_along t kind' leaf' beds' sound' flip flip_dir motion ek flip_leaf flip_state flip_across flip_along R T action el eb bd p c v h in
    let leaf = el c v h in
    record_is (flip_leaf (stepped R T t (flip c))) (new_water R T (turned t kind' leaf' beds') c) _ _ water
    (clip_cong _ (new_water R T t (flip c)) _ (neg_ℤ (new_east R T t (flip c))) water
    (east_sum _ _ _ _ _ (t.leaf (flip c)).east (momentum_across R T t East (flip c)) (momentum_across R T t West (flip c))
    (momentum_along R T t North (flip c)) (momentum_along R T t South (flip c)) (ap (λ l. l.east) leaf) (all_across East) (all_across West)
    (all_along North) (all_along South))
    ∙ clip_neg (10000 * new_water R T t (flip c)) (new_east R T t (flip c)))
    (clip_cong _ (new_water R T t (flip c)) _ (new_north R T t (flip c)) water
    (north_sum _ _ _ _ _ (t.leaf (flip c)).north (momentum_across R T t North (flip c)) (momentum_across R T t South (flip c))
    (momentum_along R T t East (flip c)) (momentum_along R T t West (flip c)) (ap (λ l. l.north) leaf) (all_across North) (all_across South)
    (all_along East) (all_along West)))
  where
    east_sum : (X' E' W' N' S' X E W N S : ℤ) → X' ≡ neg_ℤ X → E' ≡ neg_ℤ W → W' ≡ neg_ℤ E → N' ≡ neg_ℤ N → S' ≡ neg_ℤ S
        → X' +ℤ (E' +ℤ W') +ℤ (N' +ℤ S') ≡ neg_ℤ (X +ℤ (E +ℤ W) +ℤ (N +ℤ S))
    east_sum X' E' W' N' S' X E W N S a b c d e = omega (arith, ints)

    north_sum : (X' N' S' E' W' X N S E W : ℤ) → X' ≡ X → N' ≡ N → S' ≡ S → E' ≡ W → W' ≡ E
        → X' +ℤ (N' +ℤ S') +ℤ (E' +ℤ W') ≡ X +ℤ (N +ℤ S) +ℤ (E +ℤ W)
    north_sum X' N' S' E' W' X N S E W a b c d e = omega (arith, ints)

-- ---- the transposition
transpose_motion : (L : ℕ) → Motion L transpose transpose_dir
transpose_motion L =
    record {
      level = λ c. refl;
      within = λ c w. record { deep = w.deep; east = w.north; north = w.east };
      edge = elim [ East ↦ λ c w. refl | North ↦ λ c w. refl | West ↦ λ c w. refl | South ↦ λ c w. refl ];
      next = elim [ East ↦ λ c w e. refl | North ↦ λ c w e. refl | West ↦ λ c w e. refl | South ↦ λ c w e. refl ];
      up_one = λ b w h. refl;
      quarters = elim [ East ↦ λ b w. inl (refl, refl) | North ↦ λ b w. inl (refl, refl) | West ↦ λ b w. inl (refl, refl) | South ↦ λ b w. inl (refl, refl) ];
      turns_back = elim [ East ↦ refl | North ↦ refl | West ↦ refl | South ↦ refl ];
      all_round = λ f. omega arith;
    }

transpose_action : (R : Rule) → Action transpose_dir transpose_leaf (λ p s. s) (λ p z. z) (λ p z. z) R
transpose_action R =
    record {
      water = λ l. refl;
      states = elim [ East ↦ λ h l. refl | North ↦ λ h l. refl | West ↦ λ h l. refl | South ↦ λ h l. refl ];
      mirrors = λ p s. refl;
      flows = λ T t. elim [ East ↦ λ a f g. refl | North ↦ λ a f g. refl | West ↦ λ a f g. refl | South ↦ λ a f g. refl ];
      all_across = λ T t. elim [ East ↦ λ a f g. refl | North ↦ λ a f g. refl | West ↦ λ a f g. refl | South ↦ λ a f g. refl ];
      all_along = λ T t. elim [ East ↦ λ a f g. refl | North ↦ λ a f g. refl | West ↦ λ a f g. refl | South ↦ λ a f g. refl ];
      ε_add = λ p x y. refl;
      ζ_add = λ p x y. refl;
    }

pub transpose_stepped : (t : Tree) (kind' : Block → Kind) (leaf' : Block → Leaf) (beds' : Block → ℕ)
    → Sound (turned t kind' leaf' beds')
    → ((c : Block) → Within t.L c → kind' c ≡ t.kind (transpose c))
    → ((c : Block) → Within t.L c → kind' c ≡ whole → leaf' c ≡ transpose_leaf (t.leaf (transpose c)))
    → ((c : Block) → Within t.L c → kind' c ≡ whole → beds' c ≡ t.beds (transpose c))
    → ((c : Block) → Within t.L c → t.kind c ≡ whole → Bounded t c)
    → (R : Rule) (T : ℕ) (c : Block) → Within t.L c → kind' c ≡ whole
    → stepped R T (turned t kind' leaf' beds') c ≡ transpose_leaf (stepped R T t (transpose c))
transpose_stepped t kind' leaf' beds' sound' ek el eb bd R T c v h =
    let motion = transpose_motion t.L in
    let action = transpose_action R in
    let water = turn_new_water t kind' leaf' beds' sound' transpose transpose_dir motion ek transpose_leaf (λ p s. s) (λ p z. z)
    (λ p z. z) R T action el eb bd c v h in
    let all_across = λ (p : Dir). turn_across t kind' leaf' beds' sound' transpose transpose_dir motion ek transpose_leaf (λ p s. s) (λ p z. z)
    (λ p z. z) R T action el eb bd p c v h in
    let all_along = λ (p : Dir). turn_along t kind' leaf' beds' sound' transpose transpose_dir motion ek transpose_leaf (λ p s. s) (λ p z. z)
    (λ p z. z) R T action el eb bd p c v h in
    let leaf = el c v h in
    record_is (transpose_leaf (stepped R T t (transpose c))) (new_water R T (turned t kind' leaf' beds') c) _ _ water
    (clip_cong _ (new_water R T t (transpose c)) _ (new_north R T t (transpose c)) water
    (sums _ _ _ _ _ _ _ _ _ _ (ap (λ l. l.east) leaf) (all_across East) (all_across West) (all_along North) (all_along South)))
    (clip_cong _ (new_water R T t (transpose c)) _ (new_east R T t (transpose c)) water
    (sums _ _ _ _ _ _ _ _ _ _ (ap (λ l. l.north) leaf) (all_across North) (all_across South) (all_along East) (all_along West)))
  where
    sums : (x a b c d x' a' b' c' d' : ℤ) → x ≡ x' → a ≡ a' → b ≡ b' → c ≡ c' → d ≡ d' → x +ℤ (a +ℤ b) +ℤ (c +ℤ d) ≡ x' +ℤ (a' +ℤ b') +ℤ (c' +ℤ d')
    sums x a b c d x' a' b' c' d' e₁ e₂ e₃ e₄ e₅ = cc

-- what leaves a block of the turned tree
pub flip_out : (t : Tree) (kind' : Block → Kind) (leaf' : Block → Leaf) (beds' : Block → ℕ)
    → Sound (turned t kind' leaf' beds')
    → ((c : Block) → Within t.L c → kind' c ≡ t.kind (flip c))
    → ((c : Block) → Within t.L c → kind' c ≡ whole → leaf' c ≡ flip_leaf (t.leaf (flip c)))
    → ((c : Block) → Within t.L c → kind' c ≡ whole → beds' c ≡ t.beds (flip c))
    → ((c : Block) → Within t.L c → t.kind c ≡ whole → Bounded t c)
    → (R : Rule) → Lawful R → (T : ℕ) (c : Block) → Within t.L c → kind' c ≡ whole
    → out_of R T (turned t kind' leaf' beds') c ≡ out_of R T t (flip c)
flip_out t kind' leaf' beds' sound' ek el eb bd R law T c v h =
    turn_out t kind' leaf' beds' sound' flip flip_dir (flip_motion t.L) ek flip_leaf flip_state flip_across flip_along R T (flip_action R law) el eb bd c v h

pub transpose_out : (t : Tree) (kind' : Block → Kind) (leaf' : Block → Leaf) (beds' : Block → ℕ)
    → Sound (turned t kind' leaf' beds')
    → ((c : Block) → Within t.L c → kind' c ≡ t.kind (transpose c))
    → ((c : Block) → Within t.L c → kind' c ≡ whole → leaf' c ≡ transpose_leaf (t.leaf (transpose c)))
    → ((c : Block) → Within t.L c → kind' c ≡ whole → beds' c ≡ t.beds (transpose c))
    → ((c : Block) → Within t.L c → t.kind c ≡ whole → Bounded t c)
    → (R : Rule) (T : ℕ) (c : Block) → Within t.L c → kind' c ≡ whole
    → out_of R T (turned t kind' leaf' beds') c ≡ out_of R T t (transpose c)
transpose_out t kind' leaf' beds' sound' ek el eb bd R T c v h =
    turn_out t kind' leaf' beds' sound' transpose transpose_dir (transpose_motion t.L) ek transpose_leaf (λ p s. s) (λ p z. z) (λ p z. z) R T
    (transpose_action R) el eb bd c v h
