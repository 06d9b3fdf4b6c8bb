-- Lists of steps, splits and merges leave standing water standing.
use Rattle.std.proofs.Common.{◌≡◌, ℕ, suc, pred, ◌*◌, ◌^◌, ◌<◌, cond, not, ◌&&◌, ◌||◌, eqb, leb, List, [], ◌∷◌, ◌++◌, length, drop, Ok, Err, Result, sym, refl, ap, ◌∙◌, subst, arith}
use Rattle.std.specs.List.{AllByRecursion}
use Rattle.basin.specs.declared.leaf.Leaf.{Leaf}
use Rattle.basin.specs.declared.refusal.Refusal.{Refusal}
use Rattle.basin.specs.Basins.{Basin, view, Valid, ValidBasin}
use Rattle.basin.specs.Squares.{water, wet, area, surface}
use Rattle.basin.specs.Views.{View, size}
use Rattle.runs.specs.Calls.{pack, Call, pour, draw, settle, step, split, merge, Reply, first_of, off, would_flood, beside_coarser, beside_finer, bare, no_siblings, mixed, tests, made, kept, verdict, outcome, perform, run}
use Rattle.runs.specs.Homes.{after_step}
use Rattle.runs.specs.Runs.{Ruled, Stands, Alike, CalmCall, last}
use Rattle.runs.proofs.Refusing.{weaken}
use Rattle.runs.proofs.Basins.{passed, packing, on, call_valid, made_valid}
use Rattle.runs.proofs.Keeps.{pass}
use Rattle.runs.proofs.StandStep.{step_stands}
use Rattle.runs.proofs.Standing.{split_stands, merge_stands}
use Rattle.runs.proofs.Symmetry.{still}
use Rattle.runs.proofs.Turning.{like, Turned, Shallow, surfaces, waters, fills, home_bed_sum}

-- the same squares
module _ (w : View) (level' bed' : ℕ → ℕ → ℕ) (leaf' : ℕ → ℕ → Leaf) (shallow : Shallow w)
    (T : Turned w level' bed' leaf' (λ x y. x) (λ x y. y) (λ l. l)) (st : Stands w) where
  sf : (x y : ℕ) → x < size w → y < size w → surface (like w level' bed' leaf') x y ≡ surface w x y
  sf x y a b = surfaces w level' bed' leaf' (λ x y. x) (λ x y. y) (λ l. l) (still w.L) shallow T x y a b

  wt : (x y : ℕ) → x < size w → y < size w → water (like w level' bed' leaf') x y ≡ water w x y
  wt x y a b = waters w level' bed' leaf' (λ x y. x) (λ x y. y) (λ l. l) (still w.L) shallow T x y a b

  stands_same : Stands (like w level' bed' leaf') × Alike w (like w level' bed' leaf')
  stands_same = (
    record {
      no_east = λ x y a b. ap (λ l. l.east) (T.leaves x y a b) ∙ st.no_east x y a b;
      no_north = λ x y a b. ap (λ l. l.north) (T.leaves x y a b) ∙ st.no_north x y a b;
      whole_surface = λ x y a b h.
          fills w level' bed' leaf' (λ x y. x) (λ x y. y) (λ l. l) (still w.L) shallow T x y a b
          ∙ st.whole_surface x y a b (omega (arith, h, wt x y a b))
          ∙ sym (λ i. sf x y a b i * area w (T.levels x y a b i));
      level = λ x y x' y' a b a' b' e h h'.
          sf x y a b ∙ st.level x y x' y' a b a' b' e (omega (arith, h, wt x y a b)) (omega (arith, h', wt x' y' a' b')) ∙ sym (sf x' y' a' b');
      shore = λ x y x' y' a b a' b' e h h'.
          let s = st.shore x y x' y' a b a' b' e (omega (arith, h, wt x y a b)) (sym (wt x' y' a' b') ∙ h') in
          let l : surface (like w level' bed' leaf') x y * area w (level' x' y')
          ≡ surface w x y * area w (w.level x' y') = λ i. sf x y a b i * area w (T.levels x' y' a' b' i) in
          let g = home_bed_sum w level' bed' leaf' (λ x y. x) (λ x y. y) (λ l. l) (still w.L) shallow T x' y' a' b' in
          omega (arith, s, l, g);
    },
    record {
      same_size = refl;
      wet_stays = λ x y a b h. (omega (arith, h, wt x y a b), sf x y a b);
      dry_stays = λ x y a b h. wt x y a b ∙ h;
    },
  )

alike_then : (u v w : View) → Alike u v → Alike v w → Alike u w
alike_then u v w p q =
    let n : size v ≡ size u = ap (λ n. 2 ^ n) p.same_size in
    record {
      same_size = q.same_size ∙ p.same_size;
      wet_stays = λ x y a b h.
          let s = p.wet_stays x y a b h in
          let r = q.wet_stays x y (omega (arith, n)) (omega (arith, n)) s.0 in
          (r.0, r.1 ∙ s.1);
      dry_stays = λ x y a b h. q.dry_stays x y (omega (arith, n)) (omega (arith, n)) (p.dry_stays x y a b h);
    }

pub made_stands : (loose : ℕ) (v : View) → Valid v → Stands v → (c : Call) → Ruled c → CalmCall c → first_of (tests loose v c) ≡ Ok tt
    → Stands (made loose v c) × Alike v (made loose v c)
made_stands loose v good st (pour x y m) l n e = absurd n
made_stands loose v good st (draw x y m) l n e = absurd n
made_stands loose v good st (settle x y) l n e = absurd n
made_stands loose v good st (step t R m) l n e =
    stands_same v v.level v.bed (after_step R t v).leaf good.quadtree.shallow
    (record { levels = λ x y a b. refl; beds = λ x y a b. refl; leaves = λ x y a b. step_stands v good st R l t x y a b }) st
made_stands loose v good st (split x y) l n e =
    let p₃ = pass (off v x y) _ _ e in
    let p₅ = pass (leb v.L (v.level x y)) _ _ p₃.1 in
    let p₆ = pass (beside_coarser v x y) _ _ p₅.1 in
    let p₇ = pass (cond (wet v x y) (bare v x y) (would_flood v (v.level x y) (suc (v.level x y)) x y)) _ _ p₆.1 in
    let o = on v x y p₃.0 in
    split_stands v good st x y o.0 o.1 p₅.0 p₇.0
made_stands loose v good st (merge x y) l n e =
    let p₃ = pass (off v x y) _ _ e in
    let p₅ = pass (eqb (v.level x y) 0 || no_siblings v x y) _ _ p₃.1 in
    let p₆ = pass (beside_finer v x y) _ _ p₅.1 in
    let p₇ = pass (mixed v x y || (not (wet v x y) && would_flood v (pred (v.level x y)) (pred (v.level x y)) x y)) _ _ p₆.1 in
    let o = on v x y p₃.0 in
    merge_stands v good st x y o.0 o.1 p₅.0 p₇.0

call_stands : (b : Basin) → ValidBasin b → Stands (view b) → (c : Call) → Ruled c → CalmCall c
    → Stands (view (perform c b).1) × Alike (view b) (view (perform c b).1)
call_stands b right st c l n = go (verdict c b) refl
  where
    go : (i : Result (Unit {0}) Refusal) → verdict c b ≡ i → Stands (view (outcome i c b).1) × Alike (view b) (view (outcome i c b).1)
    go (Ok i) e =
        let k = kept b.head.loose (view b) c in
        let w = made b.head.loose (view b) c in
        let p = made_stands b.head.loose (view b) right.squares st c l n (passed c b e) in
        let g = made_valid b.head.loose (view b) right.squares c (passed c b e) in
        let q = stands_same w (view (pack k w)).level (view (pack k w)).bed (view (pack k w)).leaf g.quadtree.shallow (packing k w) p.0 in
        (q.0, alike_then (view b) w (view (pack k w)) p.1 q.1)
    go (Err i) e = (st, record { same_size = refl; wet_stays = λ x y a b h. (h, refl); dry_stays = λ x y a b h. h })

-- standing water stays
pub stands_still : (b : Basin) → ValidBasin b → Stands (view b) → (cs : List Call) → AllByRecursion Ruled cs → AllByRecursion CalmCall cs
    → AllByRecursion (λ r. Stands (view r.1) × Alike (view b) (view r.1)) (run cs b)
stands_still b right st [] l n = tt
stands_still b right st (c ∷ cs) l n =
    let h = call_stands b right st c l.0 n.0 in
    let b₁ = (perform c b).1 in (
      h,
      weaken (λ (r : Reply × Basin). Stands (view r.1) × Alike (view b₁) (view r.1)) (λ r. Stands (view r.1) × Alike (view b) (view r.1))
          (λ r p. (p.0, alike_then (view b) (view b₁) (view r.1) h.1 p.1))
          (run cs b₁) (stands_still b₁ (call_valid b right c) h.0 cs l.1 n.1),
    )

-- ---- from the moment it stands
-- a run of two lists is the run of the first and then that of the second
pub run_append : (front back : List Call) (b : Basin) → run (front ++ back) b ≡ run front b ++ run back (last b (run front b))
run_append [] back b = refl
run_append (c ∷ front) back b = ap (λ rs. perform c b ∷ rs) (run_append front back (perform c b).1)

-- what stands behind the replies of the first list
behind : (front back : List Call) (b : Basin) → drop (length front) (run (front ++ back) b) ≡ run back (last b (run front b))
behind [] back b = refl
behind (c ∷ front) back b = behind front back (perform c b).1

all_front : (P : Call → Type 0) (front back : List Call) → AllByRecursion P (front ++ back) → AllByRecursion P front × AllByRecursion P back
all_front P [] back h = (tt, h)
all_front P (c ∷ front) back h = let r = all_front P front back h.1 in ((h.0, r.0), r.1)

last_valid : (cs : List Call) (b : Basin) → ValidBasin b → ValidBasin (last b (run cs b))
last_valid [] b right = right
last_valid (c ∷ cs) b right = last_valid cs (perform c b).1 (call_valid b right c)

pub stands_once : (b : Basin) → ValidBasin b → (cs : List Call) → AllByRecursion Ruled cs → (front back : List Call) → cs ≡ front ++ back
    → Stands (view (last b (run front b))) → AllByRecursion CalmCall back
    → AllByRecursion (λ r. Stands (view r.1) × Alike (view (last b (run front b))) (view r.1)) (drop (length front) (run cs b))
stands_once b right cs l front back e st n =
    let from = last b (run front b) in
    let ruled = all_front Ruled front back (subst (AllByRecursion Ruled) e l) in
    subst (AllByRecursion (λ r. Stands (view r.1) × Alike (view (last b (run front b))) (view r.1)))
    (sym (ap (λ ds. drop (length front) (run ds b)) e ∙ behind front back b))
    (stands_still from (last_valid front b right) st back ruled.1 n)
