-- A step leaves standing water standing.
use Rattle.std.proofs.Common.{◌≡◌, ℕ, zero, suc, pred, ◌+◌, ◌-◌, ◌*◌, ◌/◌, ◌^◌, ◌<◌, ◌≤◌, Bool, true, false, cond, sym, refl, ap, ◌∙◌, subst₂, mul-div_cancel, arith}
use native.Mathlib.Nat.{div-div-eq-div-mul}
use lib.Arith.{digits_div}
use Rattle.std.proofs.lemmas.Bool.{eqb-false}
use Rattle.basin.specs.declared.dir.Dir.{Dir}
use Rattle.basin.specs.declared.dir.Dir.TheVariants.{East, North, West, South}
use Rattle.basin.specs.Basins.{Valid}
use Rattle.basin.specs.Blocks.{Block, block, block_sum, Within}
use Rattle.basin.specs.Squares.{bed_sum, water, area, surface, edge}
use Rattle.basin.specs.Views.{View, size}
use Rattle.basin.proofs.Sizes.{side_pos}
use Rattle.runs.specs.Homes.{tree, home, after_step}
use Rattle.runs.specs.Rules.{Rule, Lawful}
use Rattle.runs.specs.Runs.{Stands}
use Rattle.runs.specs.Step.{block_surface}
use Rattle.runs.specs.Trees.{Tree, Kind, part, whole, cut, wall, beside, across, at_edge, beyond, parent, first, second, opposite}
use Rattle.runs.proofs.Rest.{Every, Level, Still}
use Rattle.runs.proofs.Sides.{side_leads, Leads, cut_above, within_beyond}
use Rattle.runs.proofs.Sounds.{beyond_level, quarter_levels, sound, inside, twice, at_sort, agree}
use Rattle.runs.proofs.Standing.{edge_turn, edge_east, edge_north}
use Rattle.runs.proofs.Steps.{bounded}
use Rattle.runs.proofs.Views.{step_rests}
use Rattle.runs.proofs.WaterCalls.{corner_leaf}

-- the squares along a side, in the block beyond it
abbrev off_x : Dir → ℕ → ℕ → ℕ
off_x East s j = 0
off_x North s j = j
off_x West s j = s - 1
off_x South s j = j

abbrev off_y : Dir → ℕ → ℕ → ℕ
off_y East s j = j
off_y North s j = 0
off_y West s j = j
off_y South s j = s - 1

off_in : (p : Dir) (s j : ℕ) → j < s → (off_x p s j < s) × (off_y p s j < s)
off_in East s j h = omega arith
off_in North s j h = omega arith
off_in West s j h = omega arith
off_in South s j h = omega arith

-- a square of a side and the one across it share an edge
meets : (p : Dir) (c : Block) (s j : ℕ) → 0 < s → at_edge p c ≡ false
    → edge (c.X * s + off_x (opposite p) s j) (c.Y * s + off_y (opposite p) s j) ((beyond p c).X * s + off_x p s j) ((beyond p c).Y * s + off_y p s j) ≡ true
meets East c s j z e = edge_east (c.X * s + (s - 1)) ((c.X + 1) * s + 0) (c.Y * s + j) (omega arith)
meets North c s j z e = edge_north (c.Y * s + (s - 1)) ((c.Y + 1) * s + 0) (c.X * s + j) (omega arith)
meets West c s j z e =
    let one : c.X ≡ c.X - 1 + 1 = omega (arith, eqb-false c.X 0 e) in
    let m : c.X * s ≡ (c.X - 1) * s + s = ap (λ n. n * s) one ∙ omega arith in
    edge_turn (c.X * s + 0) (c.Y * s + j) ((c.X - 1) * s + (s - 1)) (c.Y * s + j)
    ∙ edge_east ((c.X - 1) * s + (s - 1)) (c.X * s + 0) (c.Y * s + j) (omega arith)
meets South c s j z e =
    let one : c.Y ≡ c.Y - 1 + 1 = omega (arith, eqb-false c.Y 0 e) in
    let m : c.Y * s ≡ (c.Y - 1) * s + s = ap (λ n. n * s) one ∙ omega arith in
    edge_turn (c.X * s + j) (c.Y * s + 0) (c.X * s + j) ((c.Y - 1) * s + (s - 1))
    ∙ edge_north ((c.Y - 1) * s + (s - 1)) (c.Y * s + 0) (c.X * s + j) (omega arith)

half_up : (L k q X : ℕ) → 0 < k → k ≤ L → q / 2 ^ (L - k) ≡ X → q / 2 ^ (L - pred k) ≡ X / 2
half_up L zero q X z h e = absurd (omega arith)
half_up L (suc k) q X z h e = ap (λ n. q / n) (twice L k h) ∙ sym (div-div-eq-div-mul q (2 ^ (L - suc k)) 2) ∙ ap (λ n. n / 2) e

low_half : (s s' X o : ℕ) → s ≡ s' * 2 → o < s' → (X * s + o) / s' ≡ X * 2
low_half s s' X o e h =
    let m : X * s + o ≡ X * 2 * s' + o = omega (arith, ap (λ n. X * n) e) in
    ap (λ n. n / s') m ∙ digits_div (X * 2) h

high_half : (s s' X o : ℕ) → s ≡ s' * 2 → s' ≤ o → o < s → (X * s + o) / s' ≡ X * 2 + 1
high_half s s' X o e h i =
    let m : X * s + o ≡ (X * 2 + 1) * s' + (o - s') = omega (arith, ap (λ n. X * n) e) in
    ap (λ n. n / s') m ∙ digits_div (X * 2 + 1) (omega arith)

firsts : (p : Dir) (b : Block) (s s' : ℕ) → s ≡ s' * 2 → 0 < s'
    → ((b.X * s + off_x p s 0) / s' ≡ (first p b).X) × ((b.Y * s + off_y p s 0) / s' ≡ (first p b).Y)
firsts East b s s' e z = (low_half s s' b.X 0 e z, low_half s s' b.Y 0 e z)
firsts North b s s' e z = (low_half s s' b.X 0 e z, low_half s s' b.Y 0 e z)
firsts West b s s' e z = (high_half s s' b.X (s - 1) e (omega arith) (omega arith), low_half s s' b.Y 0 e z)
firsts South b s s' e z = (low_half s s' b.X 0 e z, high_half s s' b.Y (s - 1) e (omega arith) (omega arith))

seconds : (p : Dir) (b : Block) (s s' : ℕ) → s ≡ s' * 2 → 0 < s'
    → ((b.X * s + off_x p s s') / s' ≡ (second p b).X) × ((b.Y * s + off_y p s s') / s' ≡ (second p b).Y)
seconds East b s s' e z = (low_half s s' b.X 0 e z, high_half s s' b.Y s' e (omega arith) (omega arith))
seconds North b s s' e z = (high_half s s' b.X s' e (omega arith) (omega arith), low_half s s' b.Y 0 e z)
seconds West b s s' e z = (high_half s s' b.X (s - 1) e (omega arith) (omega arith), high_half s s' b.Y s' e (omega arith) (omega arith))
seconds South b s s' e z = (high_half s s' b.X s' e (omega arith) (omega arith), high_half s s' b.Y (s - 1) e (omega arith) (omega arith))

module _ (v : View) (good : Valid v) (st : Stands v) where
  abbrev t : Tree
  t = tree v

  home_leaf : (x y : ℕ) → x < size v → y < size v → t.leaf (home v x y) ≡ v.leaf x y
  home_leaf x y a b = sym (corner_leaf v good x y (v.level x y) a b refl)

  home_surface : (x y : ℕ) → x < size v → y < size v → block_surface t (home v x y) ≡ surface v x y
  home_surface x y a b = ap (λ l. (l.water + bed_sum v (v.level x y) x y) / area v (v.level x y)) (home_leaf x y a b)

  home_level : (x y x' y' : ℕ) → x < size v → y < size v → x' < size v → y' < size v → edge x y x' y' ≡ true
      → Level t (block_surface t) (home v x y) (home v x' y')
  home_level x y x' y' a b a' b' e =
      let w = ap (λ l. l.water) (home_leaf x y a b) in
      let w' = ap (λ l. l.water) (home_leaf x' y' a' b') in
      let s = home_surface x y a b in
      let s' = home_surface x' y' a' b' in
      record {
        wet_wet = λ h h'. s ∙ st.level x y x' y' a b a' b' e (omega (arith, h, w)) (omega (arith, h', w')) ∙ sym s';
        wet_dry = λ h h'. omega (arith, ap (λ n. n * area v (v.level x' y')) s, st.shore x y x' y' a b a' b' e (omega (arith, h, w)) (sym w' ∙ h'));
        dry_wet = λ h h'. omega (
          arith,
          ap (λ n. n * area v (v.level x y)) s',
          st.shore x' y' x y a' b' a b (sym (edge_turn x y x' y') ∙ e)
              (omega (arith, h', w')) (sym w ∙ h),
        );
      }

  in_whole : (c : Block) → Within v.L c → t.kind c ≡ whole → (x y : ℕ) → x < size v → y < size v → x / 2 ^ (v.L - c.k) ≡ c.X
      → y / 2 ^ (v.L - c.k) ≡ c.Y → home v x y ≡ c
  in_whole c w h x y a b e f =
      let s = 2 ^ (v.L - c.k) in
      let z = side_pos (v.L - c.k) in
      let x₀ : c.X * s < size v = omega (arith, inside v.L c.k c.X 0 w.deep w.east z) in
      let y₀ : c.Y * s < size v = omega (arith, inside v.L c.k c.Y 0 w.deep w.north z) in
      let l = at_sort (v.level (c.X * s) (c.Y * s)) c.k h in
      let u = agree v good.quadtree c.k (c.X * s) (c.Y * s) x y w.deep x₀ y₀ a b (mul-div_cancel c.X z ∙ sym e)
      (mul-div_cancel c.Y z ∙ sym f) (omega arith) in
      ap (λ k. block k (x / 2 ^ (v.L - k)) (y / 2 ^ (v.L - k))) (u.0 ∙ l) ∙ (λ i. block c.k (e i) (f i))

  level_of : (c b : Block) → Within v.L c → t.kind c ≡ whole → Within v.L b → t.kind b ≡ whole → (x y x' y' : ℕ) → x < size v → y < size v
      → x' < size v → y' < size v
      → edge x y x' y' ≡ true → x / 2 ^ (v.L - c.k) ≡ c.X → y / 2 ^ (v.L - c.k) ≡ c.Y → x' / 2 ^ (v.L - b.k) ≡ b.X → y' / 2 ^ (v.L - b.k) ≡ b.Y
      → Level t (block_surface t) c b
  level_of c b w h w' h' x y x' y' a o a' o' e f g f' g' =
      subst₂ (λ c b. Level t (block_surface t) c b) (in_whole c w h x y a o f g) (in_whole b w' h' x' y' a' o' f' g') (home_level x y x' y' a o a' o' e)

  levels : (p : Dir) (c : Block) → Within v.L c → t.kind c ≡ whole → Every (beside t p c) (λ b. Level t (block_surface t) c b)
  levels p c w h = go (at_edge p c) refl (side_leads t (sound v good.quadtree) p c w h)
    where
      -- at the j-th square of the side
      at : (j : ℕ) → j < 2 ^ (v.L - c.k) → at_edge p c ≡ false → (b : Block) → Within v.L b → t.kind b ≡ whole
          → ((beyond p c).X * 2 ^ (v.L - c.k) + off_x p (2 ^ (v.L - c.k)) j) / 2 ^ (v.L - b.k) ≡ b.X
          → ((beyond p c).Y * 2 ^ (v.L - c.k) + off_y p (2 ^ (v.L - c.k)) j) / 2 ^ (v.L - b.k) ≡ b.Y
          → Level t (block_surface t) c b
      at j i e b w' h' f g =
          let s = 2 ^ (v.L - c.k) in
          let z = side_pos (v.L - c.k) in
          let wb = within_beyond v.L p c w e in
          let k = beyond_level p c in
          let o = off_in (opposite p) s j i in
          let o' = off_in p s j i in
          let pw = ap (λ k. 2 ^ k) k in
          let east : (beyond p c).X < 2 ^ c.k = omega (arith, wb.east, pw) in
          let north : (beyond p c).Y < 2 ^ c.k = omega (arith, wb.north, pw) in
          level_of c b w h w' h' (c.X * s + off_x (opposite p) s j) (c.Y * s + off_y (opposite p) s j) ((beyond p c).X * s + off_x p s j)
          ((beyond p c).Y * s + off_y p s j)
          (inside v.L c.k c.X (off_x (opposite p) s j) w.deep w.east o.0)
          (inside v.L c.k c.Y (off_y (opposite p) s j) w.deep w.north o.1)
          (inside v.L c.k (beyond p c).X (off_x p s j) w.deep east o'.0)
          (inside v.L c.k (beyond p c).Y (off_y p s j) w.deep north o'.1)
          (meets p c s j z e) (digits_div c.X o.0) (digits_div c.Y o.1) f g

      below : (κ : Kind) → at_edge p c ≡ false → t.kind (beyond p c) ≡ κ → Leads t (across κ p (beyond p c))
          → Every (across κ p (beyond p c)) (λ b. Level t (block_surface t) c b)
      below part e f l =
          let z = side_pos (v.L - c.k) in
          let o' = off_in p (2 ^ (v.L - c.k)) 0 z in
          let k = beyond_level p c in
          let wb = within_beyond v.L p c w e in
          let up : 0 < (beyond p c).k = above (beyond p c) wb f in
          at 0 z e (parent (beyond p c)) l.0 l.1
          (half_up v.L (beyond p c).k _ (beyond p c).X up wb.deep
          (ap (λ k. ((beyond p c).X * 2 ^ (v.L - c.k) + off_x p (2 ^ (v.L - c.k)) 0) / 2 ^ (v.L - k)) k ∙ digits_div (beyond p c).X o'.0))
          (half_up v.L (beyond p c).k _ (beyond p c).Y up wb.deep
          (ap (λ k. ((beyond p c).Y * 2 ^ (v.L - c.k) + off_y p (2 ^ (v.L - c.k)) 0) / 2 ^ (v.L - k)) k ∙ digits_div (beyond p c).Y o'.1))
        where
          above : (b : Block) → Within v.L b → t.kind b ≡ part → 0 < b.k
          above b w f = omega (arith, Rattle.runs.proofs.Sounds.below_sort (v.level (b.X * 2 ^ (v.L - b.k)) (b.Y * 2 ^ (v.L - b.k))) b.k f)
      below whole e f l =
          let z = side_pos (v.L - c.k) in
          let o' = off_in p (2 ^ (v.L - c.k)) 0 z in
          let k = beyond_level p c in
          at 0 z e (beyond p c) l.0 l.1
          (ap (λ k. ((beyond p c).X * 2 ^ (v.L - c.k) + off_x p (2 ^ (v.L - c.k)) 0) / 2 ^ (v.L - k)) k ∙ digits_div (beyond p c).X o'.0)
          (ap (λ k. ((beyond p c).Y * 2 ^ (v.L - c.k) + off_y p (2 ^ (v.L - c.k)) 0) / 2 ^ (v.L - k)) k ∙ digits_div (beyond p c).Y o'.1)
      below cut e f l =
          let z = side_pos (v.L - c.k) in
          let k = beyond_level p c in
          let wb = within_beyond v.L p c w e in
          let deep : (beyond p c).k < v.L = cut_above t (sound v good.quadtree) (beyond p c) wb f in
          let deep' : c.k < v.L = omega arith in
          let tw = twice v.L c.k deep' in
          let z' = side_pos (v.L - suc c.k) in
          let q = quarter_levels p (beyond p c) in
          let k₁ : (first p (beyond p c)).k ≡ suc c.k = q.0 ∙ ap suc k in
          let k₂ : (second p (beyond p c)).k ≡ suc c.k = q.1 ∙ ap suc k in
          let s = 2 ^ (v.L - c.k) in
          let s' = 2 ^ (v.L - suc c.k) in
          let fs = firsts p (beyond p c) s s' tw z' in
          let ss = seconds p (beyond p c) s s' tw z' in (
            at 0 z e (first p (beyond p c)) l.0.0 l.0.1
                (ap (λ k. ((beyond p c).X * s + off_x p s 0) / 2 ^ (v.L - k)) k₁ ∙ fs.0)
                (ap (λ k. ((beyond p c).Y * s + off_y p s 0) / 2 ^ (v.L - k)) k₁ ∙ fs.1),
            at s' (omega arith) e (second p (beyond p c)) l.1.0 l.1.1
                (ap (λ k. ((beyond p c).X * s + off_x p s s') / 2 ^ (v.L - k)) k₂ ∙ ss.0)
                (ap (λ k. ((beyond p c).Y * s + off_y p s s') / 2 ^ (v.L - k)) k₂ ∙ ss.1),
          )

      go : (e : Bool) → at_edge p c ≡ e → Leads t (cond e wall (across (t.kind (beyond p c)) p (beyond p c)))
          → Every (cond e wall (across (t.kind (beyond p c)) p (beyond p c))) (λ b. Level t (block_surface t) c b)
      go true e l = tt
      go false e l = below (t.kind (beyond p c)) e refl l

  pub standing : Still t (block_surface t)
  standing =
      record {
        calm = λ c w h.
            let s = 2 ^ (v.L - c.k) in
            let z = side_pos (v.L - c.k) in
            let x₀ : c.X * s < size v = omega (arith, inside v.L c.k c.X 0 w.deep w.east z) in
            let y₀ : c.Y * s < size v = omega (arith, inside v.L c.k c.Y 0 w.deep w.north z) in
            let l = at_sort (v.level (c.X * s) (c.Y * s)) c.k h in
            let g : bed_sum v (v.level (c.X * s) (c.Y * s)) (c.X * s) (c.Y * s) ≡ t.beds c =
            ap (λ k. bed_sum v k (c.X * s) (c.Y * s)) l
            ∙ (λ i. block_sum v.L v.bed (block c.k (mul-div_cancel c.X z i) (mul-div_cancel c.Y z i))) in
            record {
              no_east = st.no_east (c.X * s) (c.Y * s) x₀ y₀;
              no_north = st.no_north (c.X * s) (c.Y * s) x₀ y₀;
              full = λ wet.
                  ap (λ n. water v (c.X * s) (c.Y * s) + n) (sym g)
                  ∙ st.whole_surface (c.X * s) (c.Y * s) x₀ y₀ wet
                  ∙ (λ i. (water v (c.X * s) (c.Y * s) + g i) / area v (l i) * area v (l i));
            };
        level = λ c w h p. levels p c w h;
      }

  -- a step leaves standing water as it is
  pub step_stands : (R : Rule) → Lawful R → (T x y : ℕ) → x < size v → y < size v → (after_step R T v).leaf x y ≡ v.leaf x y
  step_stands R law T x y a b = step_rests v good.quadtree (block_surface t) standing (bounded v good) R law T x y a b
