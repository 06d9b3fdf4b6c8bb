-- A step leaves standing water as it is.
use Rattle.std.proofs.Common.{◌≡◌, ℕ, zero, suc, ◌+◌, ◌-◌, ◌*◌, ◌/◌, ◌<◌, ◌≤◌, max, Bool, true, false, ◌⊎◌, ℤ, pos, ◌-ℤ◌, neg_ℤ, sym, refl, ap, ◌∙◌, inl, inr, le-div_iff_mul-le, zero-mul, mul-div_cancel, arith}
use native.Mathlib.Nat.{zero-div}
use borrow.Author.Differences.{up, ints}
use Rattle.std.proofs.lemmas.Bool.{cases_eq}
use Rattle.basin.specs.declared.dir.Dir.{Dir}
use Rattle.basin.specs.declared.dir.Dir.TheVariants.{East, North, West, South}
use Rattle.basin.specs.declared.leaf.Leaf.{Leaf}
use Rattle.basin.specs.Blocks.{Block, Within}
use Rattle.basin.specs.Finish.{clipped}
use Rattle.runs.specs.Rules.{Rule, Lawful, mirrored, at_rest}
use Rattle.runs.specs.Step.{drained, Face, block_area, block_surface, block_bed, speed, state_at, face, wall_face, by_way, signed, scaled, wish, leaving, out_of, into, new_water, momentum_across, momentum_along, momentum_across_at, momentum_along_at, new_east, new_north, stepped}
use Rattle.runs.specs.Trees.{Tree, whole, Side, wall, one, two, beside, each, eachℤ, opposite, ahead}
use Rattle.runs.proofs.Limits.{record_is, Bounded, block_area_pos, depth_le}
use Rattle.runs.proofs.Sides.{Sound, side_leads, Leads}

abbrev pub Every : Side → (Block → Type 0) → Type 0
Every wall P = Unit
Every (one a) P = P a
Every (two a b) P = P a × P b

pub record Level (t : Tree) (height : Block → ℕ) (c b : Block) : Type 0 where
  pub wet_wet : 0 < (t.leaf c).water → 0 < (t.leaf b).water → height c ≡ height b
  pub wet_dry : 0 < (t.leaf c).water → (t.leaf b).water ≡ 0 → height c * block_area t b ≤ t.beds b
  pub dry_wet : (t.leaf c).water ≡ 0 → 0 < (t.leaf b).water → height b * block_area t c ≤ t.beds c

pub record Calm (t : Tree) (height : Block → ℕ) (c : Block) : Type 0 where
  pub no_east : (t.leaf c).east ≡ pos 0
  pub no_north : (t.leaf c).north ≡ pos 0
  pub full : 0 < (t.leaf c).water → (t.leaf c).water + t.beds c ≡ height c * block_area t c

pub record Still (t : Tree) (height : Block → ℕ) : Type 0 where
  pub calm : (c : Block) → Within t.L c → t.kind c ≡ whole → Calm t height c
  pub level : (c : Block) → Within t.L c → t.kind c ≡ whole → (p : Dir) → Every (beside t p c) (λ b. Level t height c b)

no_speed : (h V : ℕ) (X : ℤ) → X ≡ pos 0 → speed h X V ≡ pos 0
no_speed zero V X e = refl
no_speed (suc h) V X e = rw e (ap pos (zero-div V))

rest_state : (p : Dir) (h : ℕ) (l : Leaf) → l.east ≡ pos 0 → l.north ≡ pos 0 → state_at p h l ≡ at_rest h
rest_state East h l e n = simp (no_speed h l.water l.east e, no_speed h l.water l.north n)
rest_state North h l e n = simp (no_speed h l.water l.east e, no_speed h l.water l.north n)
rest_state West h l e n = simp (no_speed h l.water l.east e, no_speed h l.water l.north n)
rest_state South h l e n = simp (no_speed h l.water l.east e, no_speed h l.water l.north n)

scaled_none : (d T e : ℕ) → scaled d T (pos 0) e ≡ pos 0
scaled_none d T e = simp (zero-mul, zero-div)

drained_none : (V Q : ℕ) → drained V Q 0 ≡ 0
drained_none V Q = simp (zero-mul, zero-div) (grind arith)

module _ (t : Tree) (height : Block → ℕ) where
  dry_surface : (c : Block) → (t.leaf c).water ≡ 0 → block_surface t c ≡ block_bed t c
  dry_surface c e = simp e (ap (λ n. n / block_area t c) (omega arith))

  wet_surface : (c : Block) → Calm t height c → 0 < (t.leaf c).water → block_surface t c ≡ height c
  wet_surface c calm h = ap (λ n. n / block_area t c) (calm.full h) ∙ mul-div_cancel (height c) (block_area_pos t c)

  shore : (h : ℕ) (c : Block) → h * block_area t c ≤ t.beds c → h ≤ block_bed t c
  shore h c e = (le-div_iff_mul-le (block_area_pos t c)).1 e

  same_depth : (c b : Block) → Calm t height c → Calm t height b → Level t height c b
      → block_surface t c - max (block_bed t c) (block_bed t b) ≡ block_surface t b - max (block_bed t c) (block_bed t b)
  same_depth c b cc cb l = go (cases_eq (t.leaf c).water 0) (cases_eq (t.leaf b).water 0)
    where
      go : ((t.leaf c).water ≡ 0) ⊎ ((t.leaf c).water ≡ 0 → ⊥) → ((t.leaf b).water ≡ 0) ⊎ ((t.leaf b).water ≡ 0 → ⊥)
          → block_surface t c - max (block_bed t c) (block_bed t b) ≡ block_surface t b - max (block_bed t c) (block_bed t b)
      go (inl e) (inl f) = omega (arith, dry_surface c e, dry_surface b f)
      go (inl e) (inr f) = let wet : 0 < (t.leaf b).water = omega arith in
          omega (arith, dry_surface c e, wet_surface b cb wet, shore (height b) c (l.dry_wet e wet))
      go (inr e) (inl f) = let wet : 0 < (t.leaf c).water = omega arith in
          omega (arith, dry_surface b f, wet_surface c cc wet, shore (height c) b (l.wet_dry wet f))
      go (inr e) (inr f) = let wet : 0 < (t.leaf c).water = omega arith in let wet' : 0 < (t.leaf b).water = omega arith in
          omega (arith, wet_surface c cc wet, wet_surface b cb wet', l.wet_wet wet wet')

  -- both sides of a face are at rest at one depth
  Quiet : Face → Type 0
  Quiet a = (h : ℕ) × (a.near ≡ at_rest h) × (a.far ≡ at_rest h) × (h ≤ 30000)

  quiet_face : (p : Dir) (c b : Block) → Calm t height c → Calm t height b → Level t height c b → Bounded t c → Quiet (face t p c b)
  unfolding Quiet
  quiet_face p c b cc cb l bc = (
    block_surface t c - max (block_bed t c) (block_bed t b),
    rest_state p (block_surface t c - max (block_bed t c) (block_bed t b)) (t.leaf c) cc.no_east cc.no_north,
    rest_state p (block_surface t b - max (block_bed t c) (block_bed t b)) (t.leaf b) cb.no_east cb.no_north ∙ ap at_rest (sym (same_depth c b cc cb l)),
    omega (arith, depth_le t c bc),
  )

  quiet_wall : (p : Dir) (c : Block) → Calm t height c → Bounded t c → Quiet (wall_face t p c)
  unfolding Quiet
  quiet_wall p c cc bc =
      let r = rest_state p (block_surface t c - block_bed t c) (t.leaf c) cc.no_east cc.no_north in
      (block_surface t c - block_bed t c, r, ap mirrored r, depth_le t c bc)

  module _ (R : Rule) (T : ℕ) (law : Lawful R) where
    no_wish : (p : Dir) (a : Face) → Quiet a → wish R T t p a ≡ 0
    unfolding Quiet
    no_wish p a (h, n, f, l) = go (ahead p)
      where
        go : (b : Bool) → up (signed b (scaled t.d T (by_way R.flow b a) a.e)) ≡ 0
        go true = simp (n, f, law.rest_flow h l) (ap up (scaled_none t.d T a.e))
        go false = simp (n, f, law.rest_flow h l) (ap (λ z. up (neg_ℤ z)) (scaled_none t.d T a.e))

    no_along : (p : Dir) (a : Face) → Quiet a → momentum_along_at R T t p a ≡ pos 0
    unfolding Quiet
    no_along p a (h, n, f, l) = go (ahead p)
      where
        go : (b : Bool) → neg_ℤ (signed b (scaled t.d T (by_way R.drift b a) a.e)) ≡ pos 0
        go true = simp (n, f, law.rest_drift h l) (ap neg_ℤ (scaled_none t.d T a.e))
        go false = simp (n, f, law.rest_drift h l) (ap (λ z. neg_ℤ (neg_ℤ z)) (scaled_none t.d T a.e))

    no_across : (p : Dir) (a : Face) → Quiet a → momentum_across_at R T t p a ≡ pos 0
    unfolding Quiet
    no_across p a (h, n, f, l) = go (ahead p)
      where
        even : (n : ℕ) → pos n -ℤ pos n ≡ pos 0
        even n = omega (arith, ints)

        go : (b : Bool) → neg_ℤ (signed b (scaled t.d T (by_way R.push b a -ℤ pos (4905 * a.near.h * a.near.h)) a.e)) ≡ pos 0
        go true = simp (n, f, law.rest_push h l, even) (ap neg_ℤ (scaled_none t.d T a.e))
        go false = simp (n, f, law.rest_push h l, even) (ap (λ z. neg_ℤ (neg_ℤ z)) (scaled_none t.d T a.e))

    module _ (sound : Sound t) (still : Still t height) (bounded : (c : Block) → Within t.L c → t.kind c ≡ whole → Bounded t c) (c : Block)
        (w : Within t.L c) (h : t.kind c ≡ whole) where
      -- all faces of a side are quiet, from both ends
      Quiets : Dir → Side → Type 0
      Quiets p wall = Quiet (wall_face t p c)
      Quiets p (one a) = Quiet (face t p c a) × Quiet (face t (opposite p) a c)
      Quiets p (two a b) = (Quiet (face t p c a) × Quiet (face t (opposite p) a c)) × (Quiet (face t p c b) × Quiet (face t (opposite p) b c))

      back : (b : Block) → Level t height c b → Level t height b c
      back b l = record { wet_wet = λ x y. sym (l.wet_wet y x); wet_dry = λ x y. l.dry_wet y x; dry_wet = λ x y. l.wet_dry y x }

      quiet_pair : (p : Dir) (b : Block) → Within t.L b → t.kind b ≡ whole → Level t height c b → Quiet (face t p c b) × Quiet (face t (opposite p) b c)
      quiet_pair p b v k l =
          let cc = still.calm c w h in
          let cb = still.calm b v k in
          (quiet_face p c b cc cb l (bounded c w h), quiet_face (opposite p) b c cb cc (back b l) (bounded b v k))

      quiets : (p : Dir) (s : Side) → Leads t s → Every s (λ b. Level t height c b) → Quiets p s
      unfolding Quiets
      quiets p wall l e = quiet_wall p c (still.calm c w h) (bounded c w h)
      quiets p (one a) l e = quiet_pair p a l.0 l.1 e
      quiets p (two a b) l e = (quiet_pair p a l.0.0 l.0.1 e.0, quiet_pair p b l.1.0 l.1.1 e.1)

      no_leave : (p : Dir) (a b : Block) → Quiet (face t p a b) → leaving R T t p a b ≡ 0
      no_leave p a b q = ap (drained _ _) (no_wish p (face t p a b) q) ∙ drained_none _ _

      no_out : (p : Dir) (s : Side) → Quiets p s → each s 0 (λ b. leaving R T t p c b) ≡ 0
      unfolding Quiets
      no_out p wall q = refl
      no_out p (one a) q = no_leave p c a q.0
      no_out p (two a b) q = omega (arith, no_leave p c a q.0.0, no_leave p c b q.1.0)

      no_in : (p : Dir) (s : Side) → Quiets p s → each s 0 (λ b. leaving R T t (opposite p) b c) ≡ 0
      unfolding Quiets
      no_in p wall q = refl
      no_in p (one a) q = no_leave (opposite p) a c q.1
      no_in p (two a b) q = omega (arith, no_leave (opposite p) a c q.0.1, no_leave (opposite p) b c q.1.1)

      all_quiet : (p : Dir) → Quiets p (beside t p c)
      all_quiet p = quiets p (beside t p c) (side_leads t sound p c w h) (still.level c w h p)

      still_across : (p : Dir) → momentum_across R T t p c ≡ pos 0
      unfolding Quiets
      still_across p = go (beside t p c) (all_quiet p)
        where
          go : (s : Side) → Quiets p s → eachℤ s (momentum_across_at R T t p (wall_face t p c)) (λ b. momentum_across_at R T t p (face t p c b)) ≡ pos 0
          go wall q = no_across p (wall_face t p c) q
          go (one a) q = no_across p (face t p c a) q.0
          go (two a b) q = cc (no_across p (face t p c a) q.0.0, no_across p (face t p c b) q.1.0)

      still_along : (p : Dir) → momentum_along R T t p c ≡ pos 0
      unfolding Quiets
      still_along p = go (beside t p c) (all_quiet p)
        where
          go : (s : Side) → Quiets p s → eachℤ s (momentum_along_at R T t p (wall_face t p c)) (λ b. momentum_along_at R T t p (face t p c b)) ≡ pos 0
          go wall q = no_along p (wall_face t p c) q
          go (one a) q = no_along p (face t p c a) q.0
          go (two a b) q = cc (no_along p (face t p c a) q.0.0, no_along p (face t p c b) q.1.0)

      still_out : out_of R T t c ≡ 0
      still_out = omega (
        arith,
        no_out East (beside t East c) (all_quiet East),
        no_out North (beside t North c) (all_quiet North),
        no_out West
            (beside t West c) (all_quiet West),
        no_out South (beside t South c) (all_quiet South),
      )

      still_in : into R T t c ≡ 0
      still_in = omega (
        arith,
        no_in East (beside t East c) (all_quiet East),
        no_in North (beside t North c) (all_quiet North),
        no_in West
            (beside t West c) (all_quiet West),
        no_in South (beside t South c) (all_quiet South),
      )

      still_water : new_water R T t c ≡ (t.leaf c).water
      still_water = omega (arith, still_out, still_in)

      still_east : new_east R T t c ≡ pos 0
      still_east = cc (still_across East, still_across West, still_along North, still_along South, (still.calm c w h).no_east)

      still_north : new_north R T t c ≡ pos 0
      still_north = cc (still_across North, still_across South, still_along East, still_along West, (still.calm c w h).no_north)

      clip_none : (m : ℕ) → clipped m (pos 0) ≡ pos 0
      clip_none m = ap pos (omega arith)

      pub still_stepped : stepped R T t c ≡ t.leaf c
      still_stepped =
          let k = still.calm c w h in
          record_is (t.leaf c) (new_water R T t c) _ _ still_water
          (ap (clipped _) still_east ∙ clip_none _ ∙ sym k.no_east)
          (ap (clipped _) still_north ∙ clip_none _ ∙ sym k.no_north)
