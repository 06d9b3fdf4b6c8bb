-- Each call on a valid basin leaves a valid basin and keeps the water, and so does each list of calls.
use Rattle.std.proofs.Common.{◌≡◌, ℕ, suc, ◌+◌, ◌-◌, ◌^◌, ◌<◌, ◌≤◌, false, cond, ◌&&◌, ◌||◌, eqb, ltb, leb, List, [], ◌∷◌, Ok, Err, Result, sym, refl, ap, ◌∙◌, arith}
use Rattle.std.proofs.lemmas.Bool.{ltb-true, ltb-false}
use Rattle.std.specs.List.{AllByRecursion}
use Rattle.basin.specs.declared.refusal.Refusal.{Refusal}
use Rattle.basin.specs.declared.refusal.Refusal.TheVariants.{TableLength, NotABasin}
use Rattle.basin.specs.Basins.{Heads, ValidBasin, basin, tables, Basin, side, view, Valid}
use Rattle.basin.specs.Blocks.{Block}
use Rattle.basin.specs.Flaws.{misfit, no_basin}
use Rattle.basin.specs.Records.{dry}
use Rattle.basin.specs.Squares.{water, wet, area}
use Rattle.basin.specs.Sums.{only}
use Rattle.basin.specs.Totals.{all_water, is_corner, corner_of, total}
use Rattle.basin.specs.Views.{View, size}
use Rattle.basin.proofs.Tabled.{length_table, entry_table, table_entry}
use Rattle.basin.proofs.Telling.{tells_basins}
use Rattle.basin.proofs.Tests.{and_true, not_true}
use Rattle.runs.specs.Calls.{short_work, pack, Call, pour, draw, settle, step, split, merge, granted, refused, first_of, off, outside, full, too_fast, would_flood, beside_coarser, beside_finer, bare, brimming, no_siblings, overfull, tests, made, kept, answer, verdict, outcome, perform, run}
use Rattle.runs.specs.Changes.{remainder}
use Rattle.basin.specs.Finish.{finish}
use Rattle.runs.specs.Homes.{after_step, tree}
use Rattle.runs.specs.Rules.{Rule}
use Rattle.runs.specs.Runs.{Ruled, poured, drawn, summed, last}
use Rattle.runs.specs.Step.{out_of, wish, face}
use Rattle.runs.specs.Trees.{beside}
use Rattle.runs.proofs.CallsKeep.{pour_valid, draw_valid, split_valid, merge_valid, step_valid}
use Rattle.runs.proofs.Keeps.{pass, valid_turns}
use Rattle.runs.proofs.Sums.{grid_cong}
use Rattle.runs.proofs.Symmetry.{still}
use Rattle.runs.proofs.Turning.{Turned}
use Rattle.runs.proofs.Views.{step_keeps}
use Rattle.runs.proofs.Water.{drain_le}
use Rattle.runs.proofs.WaterCalls.{put_water, split_water, merge_water}

-- ---- packing keeps the squares
pub packing : (l : ℕ) (w : View) → Turned w (view (pack l w)).level (view (pack l w)).bed (view (pack l w)).leaf (λ x y. x) (λ x y. y) (λ r. r)
packing l w =
    record {
      levels = λ x y a b. entry_table (size w) w.level 0 x y a b;
      beds = λ x y a b. entry_table (size w) w.bed 0 x y a b;
      leaves = λ x y a b. entry_table (size w) w.leaf dry x y a b;
    }

pub packed_squares : (l : ℕ) (w : View) → Valid w → Valid (view (pack l w))
packed_squares l w g = valid_turns w (view (pack l w)).level (view (pack l w)).bed (view (pack l w)).leaf (λ x y. x) (λ x y. y) (λ r. r)
    (still w.L) (packing l w) g

pub packed_water : (l : ℕ) (w : View) → all_water (view (pack l w)) ≡ all_water w
packed_water l w =
    grid_cong (size w) (λ x y. only (is_corner (view (pack l w)) x y) (water (view (pack l w)) x y)) (λ x y. only (is_corner w x y) (water w x y))
    (λ x y a b. λ i. only (corner_of (2 ^ (w.L - (packing l w).levels x y a b i)) x y) ((packing l w).leaves x y a b i).water)

pub packed_valid : (l : ℕ) (w : View) → Heads (pack l w).head → Valid w → ValidBasin (pack l w)
packed_valid l w h g =
    record {
      head = h;
      full = record { levels = length_table (size w) w.level; beds = length_table (size w) w.bed; leaves = length_table (size w) w.leaf };
      squares = packed_squares l w g;
    }

-- a basin is what its tables say
pub repacked : (b : Basin) → ValidBasin b → pack b.head.loose (view b) ≡ b
repacked b r =
    let n = side b.head in
    let levels = table_entry n b.tables.levels 0 r.full.levels in
    let beds = table_entry n b.tables.beds 0 r.full.beds in
    let leaves = table_entry n b.tables.leaves dry r.full.leaves in
    λ i. basin b.head (tables (levels i) (beds i) (leaves i))

-- ---- on the grid
pub on : (v : View) (x y : ℕ) → off v x y ≡ false → (x < size v) × (y < size v)
on v x y t =
    let u = and_true (ltb x (size v)) (ltb y (size v)) (not_true _ t) in
    (ltb-true x (size v) u.0, ltb-true y (size v) u.1)

-- ---- one call
module _ (loose : ℕ) (v : View) (good : Valid v) where
  pub made_valid : (c : Call) → first_of (tests loose v c) ≡ Ok tt → Valid (made loose v c)
  made_valid (pour x y m) e =
      let p₃ = pass (off v x y) _ _ e in
      let p₄ = pass (outside 1 122880000 m) _ _ p₃.1 in
      let p₁₀ = pass (full v x y (water v x y + m)) _ _ p₄.1 in
      let o = on v x y p₃.0 in
      pour_valid v good x y o.0 o.1 m p₁₀.0
  made_valid (draw x y m) e =
      let p₃ = pass (off v x y) _ _ e in
      let o = on v x y p₃.0 in
      draw_valid v good x y o.0 o.1 m
  made_valid (settle x y) e =
      let p₃ = pass (off v x y) _ _ e in
      let p₁₀ = pass (full v x y (water v x y + loose)) _ _ p₃.1 in
      let o = on v x y p₃.0 in
      pour_valid v good x y o.0 o.1 loose p₁₀.0
  made_valid (step T R m) e =
      let p₄ = pass (outside 1 2000 T) _ _ e in
      let p₉ = pass (too_fast v T) _ _ p₄.1 in
      let p₁₀ = pass (overfull (after_step R T v)) _ _ p₉.1 in
      step_valid v good R T p₁₀.0
  made_valid (split x y) e =
      let p₃ = pass (off v x y) _ _ e in
      let p₅ = pass (leb v.L (v.level x y)) _ _ p₃.1 in
      let p₆ = pass (beside_coarser v x y) _ _ p₅.1 in
      let p₇ = pass (cond (wet v x y) (bare v x y) (would_flood v (v.level x y) (suc (v.level x y)) x y)) _ _ p₆.1 in
      let p₁₀ = pass (wet v x y && brimming v x y) _ _ p₇.1 in
      let o = on v x y p₃.0 in
      split_valid v good x y o.0 o.1 p₅.0 p₆.0 p₁₀.0
  made_valid (merge x y) e =
      let p₃ = pass (off v x y) _ _ e in
      let p₅ = pass (eqb (v.level x y) 0 || no_siblings v x y) _ _ p₃.1 in
      let p₆ = pass (beside_finer v x y) _ _ p₅.1 in
      let o = on v x y p₃.0 in
      merge_valid v good x y o.0 o.1 p₅.0 p₆.0

  pub kept_fits : (c : Call) → loose ≤ 1000000 → first_of (tests loose v c) ≡ Ok tt → kept loose v c ≤ 1000000
  kept_fits (pour x y m) h e = h
  kept_fits (draw x y m) h e = h
  kept_fits (settle x y) h e = omega arith
  kept_fits (step T R m) h e = h
  kept_fits (split x y) h e =
      let p₃ = pass (off v x y) _ _ e in
      let p₅ = pass (leb v.L (v.level x y)) _ _ p₃.1 in
      let p₆ = pass (beside_coarser v x y) _ _ p₅.1 in
      let p₇ = pass (cond (wet v x y) (bare v x y) (would_flood v (v.level x y) (suc (v.level x y)) x y)) _ _ p₆.1 in
      let p₁₀ = pass (wet v x y && brimming v x y) _ _ p₇.1 in
      let p₁₁ = pass (ltb 1000000 (loose + remainder v x y)) _ _ p₁₀.1 in
      ltb-false 1000000 (loose + remainder v x y) p₁₁.0
  kept_fits (merge x y) h e = h

  pub made_water : (c : Call) → first_of (tests loose v c) ≡ Ok tt
      → all_water (made loose v c) + kept loose v c + drawn c (granted (answer loose v c)) ≡ all_water v + loose + poured c (granted (answer loose v c))
  made_water (pour x y m) e =
      let p₃ = pass (off v x y) _ _ e in
      let o = on v x y p₃.0 in
      omega (arith, put_water v good x y o.0 o.1 (finish (area v (v.level x y)) (water v x y + m) (v.leaf x y).east (v.leaf x y).north))
  made_water (draw x y m) e =
      let p₃ = pass (off v x y) _ _ e in
      let p₄ = pass (outside 1 122880000 m) _ _ p₃.1 in
      let p₈ = pass (ltb (water v x y) m) _ _ p₄.1 in
      let o = on v x y p₃.0 in
      omega (
        arith,
        put_water v good x y o.0 o.1
            (finish (area v (v.level x y)) (water v x y - m) (v.leaf x y).east (v.leaf x y).north),
        ltb-false (water v x y) m p₈.0,
      )
  made_water (settle x y) e =
      let p₃ = pass (off v x y) _ _ e in
      let o = on v x y p₃.0 in
      omega (arith, put_water v good x y o.0 o.1 (finish (area v (v.level x y)) (water v x y + loose) (v.leaf x y).east (v.leaf x y).north))
  made_water (step T R m) e = omega (arith, step_keeps v good.quadtree R T)
  made_water (split x y) e =
      let p₃ = pass (off v x y) _ _ e in
      let p₅ = pass (leb v.L (v.level x y)) _ _ p₃.1 in
      let p₆ = pass (beside_coarser v x y) _ _ p₅.1 in
      let p₇ = pass (cond (wet v x y) (bare v x y) (would_flood v (v.level x y) (suc (v.level x y)) x y)) _ _ p₆.1 in
      let o = on v x y p₃.0 in
      omega (
        arith,
        split_water v good x y o.0 o.1 p₅.0
            (λ u. sym (ap (λ t. cond t (bare v x y) (would_flood v (v.level x y) (suc (v.level x y)) x y)) u) ∙ p₇.0),
      )
  made_water (merge x y) e =
      let p₃ = pass (off v x y) _ _ e in
      let p₅ = pass (eqb (v.level x y) 0 || no_siblings v x y) _ _ p₃.1 in
      let o = on v x y p₃.0 in
      omega (arith, merge_water v good x y o.0 o.1 p₅.0)

made_size : (loose : ℕ) (v : View) (c : Call) → ((made loose v c).L ≡ v.L) × ((made loose v c).d ≡ v.d)
made_size loose v (pour x y m) = (refl, refl)
made_size loose v (draw x y m) = (refl, refl)
made_size loose v (settle x y) = (refl, refl)
made_size loose v (step T R m) = (refl, refl)
made_size loose v (split x y) = (refl, refl)
made_size loose v (merge x y) = (refl, refl)

no_refusal : (c : Call) (i : Refusal) → (poured c (refused i) ≡ 0) × (drawn c (refused i) ≡ 0)
no_refusal (pour x y m) i = (refl, refl)
no_refusal (draw x y m) i = (refl, refl)
no_refusal (settle x y) i = (refl, refl)
no_refusal (step T R m) i = (refl, refl)
no_refusal (split x y) i = (refl, refl)
no_refusal (merge x y) i = (refl, refl)

-- ---- the verdict: where it is good, all tests were passed; on a valid basin it is that of the squares, or the work table is short
pub passed : (c : Call) (b : Basin) → verdict c b ≡ Ok tt → first_of (tests b.head.loose (view b) c) ≡ Ok tt
unfolding verdict
passed c b e =
    let p₁ = pass (misfit b.head b.tables) _ _ e in
    let p₂ = pass (short_work c (side b.head)) _ _ p₁.1 in
    (pass (no_basin b) _ _ p₂.1).1

pub judged : (c : Call) (b : Basin) → ValidBasin b
    → verdict c b ≡ cond (short_work c (side b.head)) (Err TableLength) (first_of (tests b.head.loose (view b) c))
unfolding verdict
judged c b r =
    let t = tells_basins.1 b r in
    λ i. cond (t.0 i) (Err TableLength) (cond (short_work c (side b.head)) (Err TableLength)
    (cond (t.1 i) (Err NotABasin) (first_of (tests b.head.loose (view b) c))))

module _ (b : Basin) (right : ValidBasin b) (c : Call) where
  after_valid : (n : Result (Unit {0}) Refusal) → verdict c b ≡ n → ValidBasin (outcome n c b).1
  after_valid (Ok t) e =
      let s = made_size b.head.loose (view b) c in
      let p = passed c b e in
      packed_valid (kept b.head.loose (view b) c) (made b.head.loose (view b) c)
      (record {
        levels = omega (arith, s.0, right.head.levels);
        width_least = omega (arith, s.1, right.head.width_least);
        width_most = omega (arith, s.1, right.head.width_most);
        loose = kept_fits b.head.loose (view b) right.squares c right.head.loose p;
      })
      (made_valid b.head.loose (view b) right.squares c p)
  after_valid (Err i) e = right

  pub call_valid : ValidBasin (perform c b).1
  call_valid = after_valid (verdict c b) refl

  after_water : (n : Result (Unit {0}) Refusal) → verdict c b ≡ n
      → total (outcome n c b).1 + drawn c (outcome n c b).0 ≡ total b + poured c (outcome n c b).0
  after_water (Ok t) e =
      omega (
        arith,
        packed_water (kept b.head.loose (view b) c) (made b.head.loose (view b) c),
        made_water b.head.loose (view b)
            right.squares c (passed c b e),
      )
  after_water (Err i) e = omega (arith, no_refusal c i)

  pub call_water : total (perform c b).1 + drawn c (perform c b).0 ≡ total b + poured c (perform c b).0
  call_water = after_water (verdict c b) refl

-- ---- lists of calls
-- every call leaves a valid basin
pub stays_valid : (b : Basin) → ValidBasin b → (cs : List Call) → AllByRecursion Ruled cs → AllByRecursion (λ r. ValidBasin r.1) (run cs b)
stays_valid b r [] l = tt
stays_valid b r (c ∷ cs) l = (call_valid b r c, stays_valid (perform c b).1 (call_valid b r c) cs l.1)

-- water is neither made nor lost
pub keeps_all_water : (b : Basin) → ValidBasin b → (cs : List Call) → AllByRecursion Ruled cs
    → total (last b (run cs b)) + summed drawn cs (run cs b) ≡ total b + summed poured cs (run cs b)
keeps_all_water b r [] l = refl
keeps_all_water b r (c ∷ cs) l =
    omega (arith, call_water b r c, keeps_all_water (perform c b).1 (call_valid b r c) cs l.1)

-- no leaf gives more in a step than it held
pub gives_what_it_has : (v : View) (R : Rule) (T : ℕ) (c : Block) → out_of R T (tree v) c ≤ ((tree v).leaf c).water
gives_what_it_has v R T c =
    drain_le ((tree v).leaf c).water (λ p. beside (tree v) p c) (λ p b. wish R T (tree v) p (face (tree v) p c b))
