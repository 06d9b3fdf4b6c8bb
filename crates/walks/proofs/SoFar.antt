-- One leaf more: what the visit of a leaf adds to what arrived and departed so far.
use Rattle.std.proofs.Common.{◌≡◌, ℕ, ◌+◌, ltb, List, sym, refl, ap, ◌∙◌, inl, inr, arith}
use Rattle.std.proofs.lemmas.Bool.{cases_eq}
use Rattle.std.proofs.lemmas.Bool.Decides.{eqb_tells}
use Rattle.basin.specs.declared.dir.Dir.{Dir}
use Rattle.basin.specs.declared.dir.Dir.TheVariants.{East, North, West, South}
use Rattle.basin.specs.declared.leaf.Leaf.{Leaf}
use Rattle.basin.specs.Blocks.{Block}
use Rattle.basin.specs.Sums.{only}
use Rattle.basin.specs.Views.{View, Quadtree}
use Rattle.runs.specs.Homes.{tree}
use Rattle.runs.specs.Overs.{here}
use Rattle.runs.specs.Rules.{Rule}
use Rattle.runs.specs.Step.{leaving, new_east, new_north}
use Rattle.runs.specs.Trees.{Side, wall, one, two, beside, each, round, opposite}
use Rattle.runs.proofs.Sides.{met, Leads, side_leads}
use Rattle.runs.proofs.Sounds.{sound}
use Rattle.blocks.specs.Places.{corner_entry}
use Rattle.visits.specs.Visits.{Visited}
use Rattle.visits.proofs.Corners.{here_same, here_other, corners_apart, Leafs}
use Rattle.walks.specs.Walks.{arrived, departed, SoFar}

only_same : (j i x h : ℕ) → i ≡ j → h ≡ x → only (ltb j (i + 1)) x ≡ only (ltb j i) x + h
only_same j i x h e f = grind arith

only_other : (j i x h : ℕ) → (i ≡ j → ⊥) → h ≡ 0 → only (ltb j (i + 1)) x ≡ only (ltb j i) x + h
only_other j i x h e f = grind arith

module _ (v : View) (valid : Quadtree v) where
  -- one more corner is before i + 1
  more_before : (m : Block) → Leafs v m → (b : Block) → Leafs v b → (x : ℕ)
      → only (ltb (corner_entry v.L b) (corner_entry v.L m + 1)) x ≡ only (ltb (corner_entry v.L b) (corner_entry v.L m)) x + here b m x
  more_before m lm b lb x =
      elim (cases_eq (corner_entry v.L m) (corner_entry v.L b)) [
        | inl e ↦ only_same _ _ x _ e (here_same b m x (corners_apart v b m lb lm e))
        | inr n ↦ only_other _ _ x _ n (here_other b m x (λ e. n (ap (corner_entry v.L) e)))
      ]

  here_at : (b m : Block) (f : Block → ℕ) → Leafs v b → Leafs v m → here b m (f b) ≡ here b m (f m)
  here_at b m f lb lm =
      elim (cases_eq (corner_entry v.L m) (corner_entry v.L b)) [
        | inl e ↦ ap (λ c. here b m (f c)) (sym (corners_apart v b m lb lm e))
        | inr n ↦ here_other b m (f b) (λ e. n (ap (corner_entry v.L) e)) ∙ sym (here_other b m (f m) (λ e. n (ap (corner_entry v.L) e)))
      ]

  -- over the leaves of one side
  each_more : (m : Block) → Leafs v m → (s : Side) → Leads (tree v) s → (f : Block → ℕ)
      → each s 0 (λ b. only (ltb (corner_entry v.L b) (corner_entry v.L m + 1)) (f b))
      ≡ each s 0 (λ b. only (ltb (corner_entry v.L b) (corner_entry v.L m)) (f b)) + each s 0 (λ b. here b m (f m))
  each_more m lm wall l f = refl
  each_more m lm (one a) l f = more_before m lm a l (f a) ∙ ap (λ x. only (ltb (corner_entry v.L a) (corner_entry v.L m)) (f a) + x) (here_at a m f l lm)
  each_more m lm (two a b) l f =
      omega (arith, more_before m lm a l.0 (f a), here_at a m f l.0 lm, more_before m lm b l.1 (f b), here_at b m f l.1 lm)

  pub each_here : (c : Block) → Leafs v c → (s : Side) → Leads (tree v) s → (f : Block → ℕ) → each s 0 (λ a. here a c (f c)) ≡ each s 0 (λ a. here a c (f a))
  each_here c lc wall l f = refl
  each_here c lc (one a) l f = sym (here_at a c f l lc)
  each_here c lc (two a b) l f = omega (arith, here_at a c f l.0 lc, here_at b c f l.1 lc)

  module _ (F : Dir → Block → Block → ℕ) (m c : Block) (lm : Leafs v m) (lc : Leafs v c) where
    one_side : (p : Dir) → opposite (opposite p) ≡ p
        → each (beside (tree v) p c) 0 (λ b. only (ltb (corner_entry v.L b) (corner_entry v.L m + 1)) (F (opposite p) b c))
        ≡ each (beside (tree v) p c) 0 (λ b. only (ltb (corner_entry v.L b) (corner_entry v.L m)) (F (opposite p) b c))
        + each (beside (tree v) (opposite p) m) 0 (λ a. here a c (F (opposite p) m a))
    one_side p o =
        each_more m lm (beside (tree v) p c) (side_leads (tree v) (sound v valid) p c lc.0 lc.1) (λ b. F (opposite p) b c)
        ∙ ap (λ x. each (beside (tree v) p c) 0 (λ b. only (ltb (corner_entry v.L b) (corner_entry v.L m)) (F (opposite p) b c)) + x)
        (met (tree v) (sound v valid) c m (F (opposite p) m c) lc.0 lm.0 lc.1 lm.1 p
        ∙ each_here c lc (beside (tree v) (opposite p) m) (side_leads (tree v) (sound v valid) (opposite p) m lm.0 lm.1) (λ a. F (opposite p) m a))

    -- what comes with the leaf m
    pub arrived_more : arrived v.L (tree v) F (corner_entry v.L m + 1) c
        ≡ arrived v.L (tree v) F (corner_entry v.L m) c + round (λ p. each (beside (tree v) p m) 0 (λ a. here a c (F p m a)))
    arrived_more = omega (arith, one_side East refl, one_side North refl, one_side West refl, one_side South refl)

    pub departed_more : departed v.L (tree v) F (corner_entry v.L m + 1) c
        ≡ departed v.L (tree v) F (corner_entry v.L m) c + here m c (round (λ p. each (beside (tree v) p m) 0 (λ b. F p m b)))
    departed_more =
        let total = λ (c : Block). round (λ p. each (beside (tree v) p c) 0 (λ b. F p c b)) in
        elim (cases_eq (corner_entry v.L c) (corner_entry v.L m)) [
          | inl e ↦ let s = corners_apart v m c lm lc e in only_same _ _ (total c) _ (sym e) (here_same m c (total m) s ∙ ap total (sym s))
          | inr n ↦ only_other _ _ (total c) _ (λ e. n (sym e)) (here_other m c (total m) (λ e. n (ap (corner_entry v.L) e)))
        ]

  -- the key step: one leaf more
  pub so_far_more : (R : Rule) (T : ℕ) (m c : Block) → Leafs v m → Leafs v c → (work work' : List Leaf)
      → SoFar v.L R T (tree v) (corner_entry v.L m) work c → Visited v.L R T (tree v) m work work' c
      → SoFar v.L R T (tree v) (corner_entry v.L m + 1) work' c
  so_far_more R T m c lm lc work work' s w =
      let a = arrived_more (leaving R T (tree v)) m c lm lc in
      let d = departed_more (leaving R T (tree v)) m c lm lc in
      let i = corner_entry v.L m in
      let j = corner_entry v.L c in
      record {
        water = omega (arith, a, d, s.water, w.water);
        east = λ h. elim (eqb_tells j i) [
          | inl e ↦ w.east ∙ rw e.0 (ap (new_east R T (tree v)) (sym (corners_apart v m c lm lc e.1)))
          | inr e ↦ w.east ∙ rw e.0 (s.east (omega (arith, e.1)))
        ];
        north = λ h. elim (eqb_tells j i) [
          | inl e ↦ w.north ∙ rw e.0 (ap (new_north R T (tree v)) (sym (corners_apart v m c lm lc e.1)))
          | inr e ↦ w.north ∙ rw e.0 (s.north (omega (arith, e.1)))
        ];
      }
