-- What stands in the entries once water is taken from one and sent to others.
use Rattle.std.proofs.Common.{◌≡◌, ℕ, ◌+◌, ◌-◌, ◌*◌, ◌^◌, ◌<◌, ◌≤◌, cond, eqb, List, length, get_or, set, ℤ, sym, refl, ap, ◌∙◌, inl, inr, arith, length-set, get_or-set_other, get_or-set_same}
use Rattle.std.proofs.lemmas.Bool.{cases_eq}
use Rattle.std.proofs.lemmas.Bool.Decides.{eqb_tells}
use Rattle.basin.specs.declared.dir.Dir.{Dir}
use Rattle.basin.specs.declared.dir.Dir.TheVariants.{East, North, West, South}
use Rattle.basin.specs.declared.leaf.Leaf.{Leaf}
use Rattle.basin.specs.Blocks.{Block}
use Rattle.basin.specs.Records.{dry}
use Rattle.basin.specs.Views.{View}
use Rattle.runs.specs.Homes.{tree}
use Rattle.runs.specs.Overs.{at, here}
use Rattle.runs.specs.Rules.{Rule}
use Rattle.runs.specs.Step.{leaving, out_of, new_east, new_north}
use Rattle.runs.specs.Trees.{Side, wall, one, two, beside, each}
use Rattle.runs.proofs.Sides.{Leads}
use Rattle.blocks.specs.declared.block.Edge.{Edge}
use Rattle.blocks.specs.declared.block.Edge.TheVariants.{Wall, One, Two}
use Rattle.blocks.specs.Places.{corner_entry, as_block, as_side}
use Rattle.blocks.proofs.Lying.{lies}
use Rattle.borders.specs.Borders.{at_first, at_second}
use Rattle.visits.specs.declared.departure.Outflow.{Outflow}
use Rattle.visits.specs.Departures.{SmallOutflow, RoomOn, outflow_from}
use Rattle.visits.specs.Visits.{held, added, sent, taken, with_more, Visited}
use Rattle.visits.proofs.Corners.{here_same, here_other, corners_apart, corner_lt, Leafs}

-- the entry l with v more is l'
pub record Grown (l l' : Leaf) (v : ℕ) : Type 0 where
  pub water : l'.water ≡ l.water + v
  pub east : l'.east ≡ l.east
  pub north : l'.north ≡ l.north

grown_none : (l l' : Leaf) (v : ℕ) → l' ≡ l → v ≡ 0 → Grown l l' v
grown_none l l' v e z = record { water = let w = ap (λ l. l.water) e in omega arith; east = ap (λ l. l.east) e; north = ap (λ l. l.north) e }

grown_more : (l l' : Leaf) (x v : ℕ) → l' ≡ with_more l x → v ≡ x → Grown l l' v
grown_more l l' x v e z = record { water = let w = ap (λ l. l.water) e in omega arith; east = ap (λ l. l.east) e; north = ap (λ l. l.north) e }

grown_twice : (a b c : Leaf) (v w : ℕ) → Grown a b v → Grown b c w → Grown a c (v + w)
grown_twice a b c v w g h = record { water = omega (arith, g.water, h.water); east = h.east ∙ g.east; north = h.north ∙ g.north }

pub here_le : (a c : Block) (x : ℕ) → here a c x ≤ x
here_le a c x = go a.k c.k a.Y c.Y a.X c.X x
  where
    go : (a i b j c k x : ℕ) → at a i (at b j (at c k x)) ≤ x
    go a i b j c k x = grind arith

-- what the leaf c gets of the amounts of a side
abbrev pub on : Side → Block → ℕ → ℕ → ℕ
on wall c x y = 0
on (one a) c x y = here a c x
on (two a b) c x y = here a c x + here b c y

on_le : (s : Side) (c : Block) (x y : ℕ) → on s c x y ≤ x + y
on_le wall c x y = omega arith
on_le (one a) c x y = omega (arith, here_le a c x)
on_le (two a b) c x y = omega (arith, here_le a c x, here_le b c y)

pub on_parts : (s : Side) (c : Block) (f : Block → ℕ) → on s c (at_first s f) (at_second s f) ≡ each s 0 (λ a. here a c (f a))
on_parts wall c f = refl
on_parts (one a) c f = refl
on_parts (two a b) c f = refl

pub length_added : (L : ℕ) (work : List Leaf) (a : Block) (x : ℕ) → length (added L work a x) ≡ length work
unfolding added
length_added L work a x = simp length-set

pub length_sent : (L : ℕ) (work : List Leaf) (s : Side) (x y : ℕ) → length (sent L work s x y) ≡ length work
length_sent L work wall x y = refl
length_sent L work (one a) x y = length_added L work a x
length_sent L work (two a b) x y = length_added L (added L work a x) b y ∙ length_added L work a x

pub length_taken : (L : ℕ) (work : List Leaf) (a : Block) (v : ℕ) (x y : ℤ) → length (taken L work a v x y) ≡ length work
unfolding taken
length_taken L work a v x y = simp length-set

module _ (v : View) where
  added_grows : (work : List Leaf) → length work ≡ 2 ^ v.L * 2 ^ v.L → (a c : Block) → Leafs v a → Leafs v c → (x : ℕ)
      → Grown (held v.L work c) (held v.L (added v.L work a x) c) (here a c x)
  unfolding added
  added_grows work len a c la lc x =
      let i = corner_entry v.L a in
      let j = corner_entry v.L c in
      let lt : i < length work = omega (arith, corner_lt v a la) in
      elim (cases_eq j i) [
        | inl e ↦
            grown_more _ _ x _
            (ap (λ k. get_or (set work i (with_more (held v.L work a) x)) k dry) e ∙ get_or-set_same work i _ dry lt ∙ ap (λ k. with_more (get_or work k dry) x) (sym e))
            (here_same a c x (corners_apart v a c la lc e))
        | inr n ↦ grown_none _ _ _ (get_or-set_other work i j _ dry n) (here_other a c x (λ e. n (ap (corner_entry v.L) e)))
      ]

  pub sent_grows : (work : List Leaf) → length work ≡ 2 ^ v.L * 2 ^ v.L → (s : Side) → Leads (tree v) s → (c : Block) → Leafs v c → (x y : ℕ)
      → Grown (held v.L work c) (held v.L (sent v.L work s x y) c) (on s c x y)
  sent_grows work len wall l c lc x y = grown_none _ _ 0 refl refl
  sent_grows work len (one a) l c lc x y = added_grows work len a c l lc x
  sent_grows work len (two a b) l c lc x y =
      grown_twice (held v.L work c) (held v.L (added v.L work a x) c) _ (here a c x) (here b c y)
      (added_grows work len a c l.0 lc x) (added_grows (added v.L work a x) (length_added v.L work a x ∙ len) b c l.1 lc y)

  pub record Took (m c : Block) (out : ℕ) (x y : ℤ) (l l' : Leaf) : Type 0 where
    pub water : l'.water + here m c out ≡ l.water
    pub east : l'.east ≡ cond (eqb (corner_entry v.L c) (corner_entry v.L m)) x l.east
    pub north : l'.north ≡ cond (eqb (corner_entry v.L c) (corner_entry v.L m)) y l.north

  pub taken_takes : (work : List Leaf) → length work ≡ 2 ^ v.L * 2 ^ v.L → (m c : Block) → Leafs v m → Leafs v c → (out : ℕ) (x y : ℤ)
      → out ≤ (held v.L work m).water → Took m c out x y (held v.L work c) (held v.L (taken v.L work m out x y) c)
  unfolding taken
  taken_takes work len m c lm lc out x y enough =
      let i = corner_entry v.L m in
      let j = corner_entry v.L c in
      let lt : i < length work = omega (arith, corner_lt v m lm) in
      let new : Leaf = record { water = (held v.L work m).water - out; east = x; north = y } in
      elim (eqb_tells j i) [
        | inl e ↦
            let g : get_or (set work i new) j dry ≡ new = ap (λ k. get_or (set work i new) k dry) e.1 ∙ get_or-set_same work i new dry lt in
            let s = here_same m c out (corners_apart v m c lm lc e.1) in
            let w = ap (λ l. l.water) g in
            let h = ap (λ k. (get_or work k dry).water) e.1 in
            record { water = omega arith; east = ap (λ l. l.east) g ∙ rw e.0 refl; north = ap (λ l. l.north) g ∙ rw e.0 refl }
        | inr n ↦
            let g : get_or (set work i new) j dry ≡ get_or work j dry = get_or-set_other work i j new dry n.1 in
            let s = here_other m c out (λ e. n.1 (ap (corner_entry v.L) e)) in
            let w = ap (λ l. l.water) g in
            record { water = omega arith; east = ap (λ l. l.east) g ∙ rw n.0 refl; north = ap (λ l. l.north) g ∙ rw n.0 refl }
      ]

  -- ---- room
  abbrev Below : List Leaf → ℕ → Type 0
  Below work m = (c : Block) → Leafs v c → (held v.L work c).water ≤ m

  pub below_sent : (work : List Leaf) → length work ≡ 2 ^ v.L * 2 ^ v.L → (s : Side) → Leads (tree v) s → (o : Outflow) → SmallOutflow o → (m : ℕ) → Below work m
      → Below (sent v.L work s o.first o.second) (m + 307200000)
  below_sent work len s l o k m b c lc =
      let g = sent_grows work len s l c lc o.first o.second in
      omega (arith, g.water, on_le s c o.first o.second, b c lc, k.first, k.second)

  pub room_on : (few : v.L ≤ 6) (work : List Leaf) → length work ≡ 2 ^ v.L * 2 ^ v.L → (e : Edge) → Leads (tree v) (as_side e) → (o : Outflow) → SmallOutflow o → (m : ℕ) → Below work m → m ≤ 3000000000
      → RoomOn v.L work e o
  room_on few work len Wall l o k m b h = tt
  room_on few work len (One a) l o k m b h = (lies a few l.0, omega (arith, b (as_block a) l, k.first))
  room_on few work len (Two a e) l o k m b h =
      let g = added_grows work len (as_block a) (as_block e) l.0 l.1 o.first in
      let more = here_le (as_block a) (as_block e) o.first in (
        (lies a few l.0.0, omega (arith, b (as_block a) l.0, k.first)),
        (lies e few l.1.0, omega (arith, g.water, more, b (as_block e) l.1, k.first, k.second)),
      )

  pub below_taken : (work : List Leaf) → length work ≡ 2 ^ v.L * 2 ^ v.L → (a : Block) → Leafs v a → (out : ℕ) (x y : ℤ) → out ≤ (held v.L work a).water → (m : ℕ) → Below work m
      → Below (taken v.L work a out x y) m
  below_taken work len a la out x y enough m b c lc = let k = taken_takes work len a c la lc out x y enough in omega (arith, k.water, b c lc)

  -- ---- one leaf's whole visit
  pub visit_is : (R : Rule) (T : ℕ) (m c : Block) → Leafs v m → Leafs v c → (w₀ w₁ w₂ w₃ w₄ w₅ : List Leaf) (out : ℕ) (x y : ℤ)
      → length w₀ ≡ 2 ^ v.L * 2 ^ v.L
      → (lead : (p : Dir) → Leads (tree v) (beside (tree v) p m))
      → out ≡ out_of R T (tree v) m → x ≡ new_east R T (tree v) m → y ≡ new_north R T (tree v) m
      → out ≤ (held v.L w₀ m).water
      → w₁ ≡ taken v.L w₀ m out x y
      → w₂ ≡ sent v.L w₁ (beside (tree v) East m) (outflow_from R T (tree v) East m).first (outflow_from R T (tree v) East m).second
      → w₃ ≡ sent v.L w₂ (beside (tree v) North m) (outflow_from R T (tree v) North m).first (outflow_from R T (tree v) North m).second
      → w₄ ≡ sent v.L w₃ (beside (tree v) West m) (outflow_from R T (tree v) West m).first (outflow_from R T (tree v) West m).second
      → w₅ ≡ sent v.L w₄ (beside (tree v) South m) (outflow_from R T (tree v) South m).first (outflow_from R T (tree v) South m).second
      → Visited v.L R T (tree v) m w₀ w₅ c
  visit_is R T m c lm lc w₀ w₁ w₂ w₃ w₄ w₅ out x y len lead eo ex ey enough e₁ e₂ e₃ e₄ e₅ =
      let l₁ : length w₁ ≡ 2 ^ v.L * 2 ^ v.L = ap length e₁ ∙ length_taken v.L w₀ m out x y ∙ len in
      let l₂ : length w₂ ≡ 2 ^ v.L * 2 ^ v.L = ap length e₂ ∙ length_sent v.L w₁ (beside (tree v) East m) _ _ ∙ l₁ in
      let l₃ : length w₃ ≡ 2 ^ v.L * 2 ^ v.L = ap length e₃ ∙ length_sent v.L w₂ (beside (tree v) North m) _ _ ∙ l₂ in
      let l₄ : length w₄ ≡ 2 ^ v.L * 2 ^ v.L = ap length e₄ ∙ length_sent v.L w₃ (beside (tree v) West m) _ _ ∙ l₃ in
      let k = taken_takes w₀ len m c lm lc out x y enough in
      let h₁ = ap (λ w. held v.L w c) e₁ in
      let g₂ = step w₁ l₁ East w₂ e₂ in
      let g₃ = step w₂ l₂ North w₃ e₃ in
      let g₄ = step w₃ l₃ West w₄ e₄ in
      let g₅ = step w₄ l₄ South w₅ e₅ in
      let o = ap (λ n. here m c n) eo in
      record {
        water = omega (arith, k.water, ap (λ l. l.water) h₁, g₂.water, g₃.water, g₄.water, g₅.water, o);
        east = g₅.east ∙ g₄.east ∙ g₃.east ∙ g₂.east ∙ ap (λ l. l.east) h₁ ∙ k.east ∙ ap (λ z. cond (eqb (corner_entry v.L c) (corner_entry v.L m)) z (held v.L w₀ c).east) ex;
        north = g₅.north ∙ g₄.north ∙ g₃.north ∙ g₂.north ∙ ap (λ l. l.north) h₁ ∙ k.north ∙ ap (λ z. cond (eqb (corner_entry v.L c) (corner_entry v.L m)) z (held v.L w₀ c).north) ey;
      }
    where
      step : (w : List Leaf) → length w ≡ 2 ^ v.L * 2 ^ v.L → (p : Dir) (w' : List Leaf)
          → w' ≡ sent v.L w (beside (tree v) p m) (outflow_from R T (tree v) p m).first (outflow_from R T (tree v) p m).second
          → Grown (held v.L w c) (held v.L w' c) (each (beside (tree v) p m) 0 (λ a. here a c (leaving R T (tree v) p m a)))
      step w l p w' e =
          let g = sent_grows w l (beside (tree v) p m) (lead p) c lc (outflow_from R T (tree v) p m).first (outflow_from R T (tree v) p m).second in
          let h = ap (λ w. held v.L w c) e in
          let o = on_parts (beside (tree v) p m) c (λ b. leaving R T (tree v) p m b) in
          record { water = ap (λ l. l.water) h ∙ g.water ∙ ap (λ n. (held v.L w c).water + n) o; east = ap (λ l. l.east) h ∙ g.east; north = ap (λ l. l.north) h ∙ g.north }
