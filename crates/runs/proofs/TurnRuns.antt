-- Turned calls on the turned basin: the same replies, and the turned basins.
use Rattle.std.proofs.Common.{◌≡◌, ℕ, zero, suc, pred, ◌+◌, ◌-◌, ◌^◌, ◌<◌, ◌≤◌, Bool, true, false, cond, not, ◌&&◌, ◌||◌, eqb, ltb, List, [], ◌∷◌, map, Ok, Err, Result, sym, refl, ap, ◌∙◌, subst₂, arith}
use mathlib.Core.Path.{fun_ext}
use Rattle.std.proofs.lemmas.Bool.{ltb-true, eqb-false}
use Rattle.std.specs.List.{AllByRecursion}
use Rattle.basin.specs.declared.leaf.Leaf.{Leaf}
use Rattle.basin.specs.declared.refusal.Refusal.{Refusal}
use Rattle.basin.specs.declared.refusal.Refusal.TheVariants.{OffGrid, TableLength}
use Rattle.basin.specs.Basins.{basin, tables, Basin, side, view, Valid, ValidBasin}
use Rattle.basin.specs.Records.{dry}
use Rattle.basin.specs.Squares.{same_block}
use Rattle.basin.specs.Views.{View, size}
use Rattle.basin.proofs.Tabled.{entry_table, table_cong}
use Rattle.basin.proofs.Tests.{differ, and_true, or_false}
use Rattle.runs.specs.Calls.{short_work, pack, Call, pour, draw, settle, step, split, merge, granted, first_of, tests, made, kept, answer, moved, verdict, outcome, perform, run, off, no_siblings, overfull}
use Rattle.runs.specs.Changes.{after_pour, after_draw, remainder, after_split, after_merge}
use Rattle.runs.specs.Homes.{after_step}
use Rattle.runs.specs.Rules.{Rule, Lawful}
use Rattle.runs.specs.Runs.{Ruled}
use Rattle.runs.specs.Turns.{flip_leaf, transpose_leaf, flip_view, transpose_view, quarter_view, Place, place, flip_place, transpose_place, quarter_place, times, turn_place, turned_call, flip_basin, transpose_basin, quarter_basin, turn_basin}
use Rattle.runs.proofs.Basins.{judged, passed, packed_valid, call_valid}
use Rattle.runs.proofs.Keeps.{pass, valid_turns}
use Rattle.runs.proofs.Steps.{flip_steps, flip_moved, transpose_steps, transpose_moved}
use Rattle.runs.proofs.Symmetry.{transposed, Symmetry, flipped}
use Rattle.runs.proofs.Turning.{like, Turned, Shallow, pour_tests, draw_tests, settle_tests, split_tests, merge_tests, step_tests, overfull_turns, pour_made, draw_made, split_made, merge_made, surfaces, remainders}

granted_or_not : (r : Result (Unit {0}) Refusal) (f : Refusal) → r ≡ Ok tt → r ≡ Err f → ⊥
granted_or_not r f p q = let z : ◌≡◌ {A = ℕ} 0 1 = cc in omega arith

-- a turn for every size, with what a step makes of it
record Turner (fx fy : ℕ → ℕ → ℕ → ℕ) (ρ : Leaf → Leaf) : Type 0 where
  shape : (L : ℕ) → Symmetry L (fx L) (fy L) ρ
  steps : (v : View) (level' bed' : ℕ → ℕ → ℕ) (leaf' : ℕ → ℕ → Leaf) → Valid v → Valid (like v level' bed' leaf')
      → Turned v level' bed' leaf' (fx v.L) (fy v.L) ρ
      → (R : Rule) → Lawful R → (t x y : ℕ) → x < size v → y < size v
      → (after_step R t (like v level' bed' leaf')).leaf x y ≡ ρ ((after_step R t v).leaf (fx v.L x y) (fy v.L x y))
  moves : (v : View) (level' bed' : ℕ → ℕ → ℕ) (leaf' : ℕ → ℕ → Leaf) → Valid v → Valid (like v level' bed' leaf')
      → Turned v level' bed' leaf' (fx v.L) (fy v.L) ρ
      → (R : Rule) → Lawful R → (t : ℕ) → moved R t (like v level' bed' leaf') ≡ moved R t v

module _ (fx fy : ℕ → ℕ → ℕ → ℕ) (ρ : Leaf → Leaf) where
  abbrev view_by : View → View
  view_by v = like v (λ x y. v.level (fx v.L x y) (fy v.L x y)) (λ x y. v.bed (fx v.L x y) (fy v.L x y))
      (λ x y. ρ (v.leaf (fx v.L x y) (fy v.L x y)))

  abbrev basin_by : Basin → Basin
  basin_by b = pack b.head.loose (view_by (view b))

  abbrev place_by : ℕ → Place → Place
  place_by L p = cond (ltb p.x (2 ^ L) && ltb p.y (2 ^ L)) (place (fx L p.x p.y) (fy L p.x p.y)) p

  module _ (turner : Turner fx fy ρ) where
    packs_of : (k k' : ℕ) (w : View) (level' bed' : ℕ → ℕ → ℕ) (leaf' : ℕ → ℕ → Leaf) → k' ≡ k → Turned w level' bed' leaf' (fx w.L) (fy w.L) ρ
        → pack k' (like w level' bed' leaf') ≡ basin_by (pack k w)
    packs_of k k' w level' bed' leaf' e T =
        let n = size w in
        let S = turner.shape w.L in
        let f = fx w.L in
        let g = fy w.L in
        let levels = table_cong n level' (λ x y. (view (pack k w)).level (f x y) (g x y))
        (λ x y a b. T.levels x y a b ∙ sym (entry_table n w.level 0 (f x y) (g x y) (S.in_x x y a b) (S.in_y x y a b))) in
        let beds = table_cong n bed' (λ x y. (view (pack k w)).bed (f x y) (g x y))
        (λ x y a b. T.beds x y a b ∙ sym (entry_table n w.bed 0 (f x y) (g x y) (S.in_x x y a b) (S.in_y x y a b))) in
        let leaves = table_cong n leaf' (λ x y. ρ ((view (pack k w)).leaf (f x y) (g x y)))
        (λ x y a b. T.leaves x y a b ∙ ap ρ (sym (entry_table n w.leaf dry (f x y) (g x y) (S.in_x x y a b) (S.in_y x y a b)))) in
        λ i. basin (record { L = w.L; d = w.d; loose = e i }) (tables (levels i) (beds i) (leaves i))

    module _ (b : Basin) (right : ValidBasin b) where
      T : Turned (view b) (view (basin_by b)).level (view (basin_by b)).bed (view (basin_by b)).leaf (fx b.head.L) (fy b.head.L) ρ
      T =
          record {
            levels = λ x y a c. entry_table (side b.head) (view_by (view b)).level 0 x y a c;
            beds = λ x y a c. entry_table (side b.head) (view_by (view b)).bed 0 x y a c;
            leaves = λ x y a c. entry_table (side b.head) (view_by (view b)).leaf dry x y a c;
          }

      good' : Valid (view (basin_by b))
      good' = valid_turns (view b) (view (basin_by b)).level (view (basin_by b)).bed (view (basin_by b)).leaf (fx b.head.L) (fy b.head.L) ρ
          (turner.shape b.head.L) T right.squares

      by_valid : ValidBasin (basin_by b)
      by_valid =
          packed_valid b.head.loose (view_by (view b)) right.head
          (valid_turns (view b) (view_by (view b)).level (view_by (view b)).bed (view_by (view b)).leaf (fx b.head.L) (fy b.head.L) ρ
          (turner.shape b.head.L)
          (record { levels = λ x y a c. refl; beds = λ x y a c. refl; leaves = λ x y a c. refl }) right.squares)

      record Paired (c c' : Call) : Type 0 where
        works : short_work c' (side b.head) ≡ short_work c (side b.head)
        verdicts : first_of (tests b.head.loose (view (basin_by b)) c') ≡ first_of (tests b.head.loose (view b) c)
        answers : first_of (tests b.head.loose (view b) c) ≡ Ok tt → answer b.head.loose (view (basin_by b)) c' ≡ answer b.head.loose (view b) c
        packs : first_of (tests b.head.loose (view b) c) ≡ Ok tt
            → pack (kept b.head.loose (view (basin_by b)) c') (made b.head.loose (view (basin_by b)) c')
            ≡ basin_by (pack (kept b.head.loose (view b) c) (made b.head.loose (view b) c))

      module _ (x y : ℕ) (a : x < side b.head) (o : y < side b.head) where
        pour_pair : (m : ℕ) → Paired (pour (fx b.head.L x y) (fy b.head.L x y) m) (pour x y m)
        pour_pair m =
            let v' = view (basin_by b) in
            let S = turner.shape b.head.L in
            let p = fx b.head.L x y in
            let q = fy b.head.L x y in
            let D = pour_made (view b) v'.level v'.bed v'.leaf (fx b.head.L) (fy b.head.L) ρ S right.squares.quadtree.shallow T
            b.head.loose x y a o m in
            record {
              works = refl;
              verdicts = pour_tests (view b) v'.level v'.bed v'.leaf (fx b.head.L) (fy b.head.L) ρ S
                  right.squares.quadtree.shallow T b.head.loose x y a o m;
              answers = λ e. surfaces (after_pour (view b) p q m) v'.level v'.bed (after_pour v' x y m).leaf (fx b.head.L)
                  (fy b.head.L) ρ S right.squares.quadtree.shallow D x y a o;
              packs = λ e. packs_of b.head.loose b.head.loose (after_pour (view b) p q m) v'.level v'.bed (after_pour v' x y m).leaf refl D;
            }

        draw_pair : (m : ℕ) → Paired (draw (fx b.head.L x y) (fy b.head.L x y) m) (draw x y m)
        draw_pair m =
            let v' = view (basin_by b) in
            let S = turner.shape b.head.L in
            let p = fx b.head.L x y in
            let q = fy b.head.L x y in
            let D = draw_made (view b) v'.level v'.bed v'.leaf (fx b.head.L) (fy b.head.L) ρ S right.squares.quadtree.shallow T
            b.head.loose x y a o m in
            record {
              works = refl;
              verdicts = draw_tests (view b) v'.level v'.bed v'.leaf (fx b.head.L) (fy b.head.L) ρ S
                  right.squares.quadtree.shallow T b.head.loose x y a o m;
              answers = λ e. surfaces (after_draw (view b) p q m) v'.level v'.bed (after_draw v' x y m).leaf (fx b.head.L)
                  (fy b.head.L) ρ S right.squares.quadtree.shallow D x y a o;
              packs = λ e. packs_of b.head.loose b.head.loose (after_draw (view b) p q m) v'.level v'.bed (after_draw v' x y m).leaf refl D;
            }

        settle_pair : Paired (settle (fx b.head.L x y) (fy b.head.L x y)) (settle x y)
        settle_pair =
            let v' = view (basin_by b) in
            let S = turner.shape b.head.L in
            let p = fx b.head.L x y in
            let q = fy b.head.L x y in
            let D = pour_made (view b) v'.level v'.bed v'.leaf (fx b.head.L) (fy b.head.L) ρ S right.squares.quadtree.shallow T
            b.head.loose x y a o b.head.loose in
            record {
              works = refl;
              verdicts = settle_tests (view b) v'.level v'.bed v'.leaf (fx b.head.L) (fy b.head.L) ρ S
                  right.squares.quadtree.shallow T b.head.loose x y a o;
              answers = λ e. refl;
              packs = λ e. packs_of 0 0 (after_pour (view b) p q b.head.loose) v'.level v'.bed (after_pour v' x y b.head.loose).leaf refl D;
            }

        split_pair : Paired (split (fx b.head.L x y) (fy b.head.L x y)) (split x y)
        split_pair =
            let v' = view (basin_by b) in
            let S = turner.shape b.head.L in
            let p = fx b.head.L x y in
            let q = fy b.head.L x y in
            let D = split_made (view b) v'.level v'.bed v'.leaf (fx b.head.L) (fy b.head.L) ρ S right.squares.quadtree.shallow T
            b.head.loose x y a o in
            let r = remainders (view b) v'.level v'.bed v'.leaf (fx b.head.L) (fy b.head.L) ρ S
            right.squares.quadtree.shallow T x y a o in
            record {
              works = refl;
              verdicts = split_tests (view b) v'.level v'.bed v'.leaf (fx b.head.L) (fy b.head.L) ρ S
                  right.squares.quadtree.shallow T b.head.loose x y a o;
              answers = λ e. r;
              packs = λ e. packs_of (b.head.loose + remainder (view b) p q) (b.head.loose + remainder v' x y) (after_split (view b) p q)
                  (after_split v' x y).level v'.bed (after_split v' x y).leaf (ap (λ n. b.head.loose + n) r) D;
            }

        merge_pair : Paired (merge (fx b.head.L x y) (fy b.head.L x y)) (merge x y)
        merge_pair =
            let v' = view (basin_by b) in
            let S = turner.shape b.head.L in
            let p = fx b.head.L x y in
            let q = fy b.head.L x y in
            let up : first_of (tests b.head.loose (view b) (merge p q)) ≡ Ok tt → 0 < (view b).level p q =
            λ e. let t = pass (eqb ((view b).level p q) 0 || no_siblings (view b) p q) _ _ (pass (off (view b) p q) _ _ e).1 in
            omega (arith, eqb-false ((view b).level p q) 0 (or_false _ _ t.0).0) in
            let D = λ (e : first_of (tests b.head.loose (view b) (merge p q)) ≡ Ok tt). merge_made (view b) v'.level v'.bed v'.leaf
            (fx b.head.L) (fy b.head.L) ρ S right.squares.quadtree.shallow T b.head.loose x y a o (up e) in
            record {
              works = refl;
              verdicts = merge_tests (view b) v'.level v'.bed v'.leaf (fx b.head.L) (fy b.head.L) ρ S
                  right.squares.quadtree.shallow T b.head.loose x y a o;
              answers = λ e. surfaces (after_merge (view b) p q) (after_merge v' x y).level v'.bed (after_merge v' x y).leaf (fx b.head.L)
                  (fy b.head.L) ρ S (low p q (S.in_x x y a o) (S.in_y x y a o)) (D e) x y a o;
              packs = λ e. packs_of b.head.loose b.head.loose (after_merge (view b) p q) (after_merge v' x y).level v'.bed
                  (after_merge v' x y).leaf refl (D e);
            }
          where
            pick : (t : Bool) (m n : ℕ) → m ≤ b.head.L → n ≤ b.head.L → cond t m n ≤ b.head.L
            pick true m n h k = h
            pick false m n h k = k

            low : (p q : ℕ) → p < side b.head → q < side b.head → Shallow (after_merge (view b) p q)
            low p q c d x y a o =
                let h : pred ((view b).level p q) ≤ b.head.L = omega (arith, right.squares.quadtree.shallow p q c d) in
                pick (same_block (view b) (pred ((view b).level p q)) p q x y) (pred ((view b).level p q)) ((view b).level x y) h
                (right.squares.quadtree.shallow x y a o)

      step_pair : (t : ℕ) (R : Rule) (m : ℕ) → Lawful R → Paired (step t R m) (step t R m)
      step_pair t R m law =
          let v' = view (basin_by b) in
          let S = turner.shape b.head.L in
          let D : Turned (after_step R t (view b)) v'.level v'.bed (after_step R t v').leaf (fx b.head.L) (fy b.head.L) ρ =
          record {
            levels = T.levels;
            beds = T.beds;
            leaves = λ x y a c. turner.steps (view b) v'.level v'.bed v'.leaf
                right.squares good' T R law t x y a c;
          } in
          record {
            works = refl;
            verdicts =
                step_tests (view b) v'.level v'.bed v'.leaf (fx b.head.L) (fy b.head.L) ρ S right.squares.quadtree.shallow T t
                (overfull (after_step R t (view b))) (overfull (after_step R t v'))
                (overfull_turns (after_step R t (view b)) v'.level v'.bed (after_step R t v').leaf (fx b.head.L) (fy b.head.L) ρ S
                right.squares.quadtree.shallow D);
            answers = λ e. turner.moves (view b) v'.level v'.bed v'.leaf right.squares good' T R law t;
            packs = λ e. packs_of b.head.loose b.head.loose (after_step R t (view b)) v'.level v'.bed (after_step R t v').leaf refl D;
          }

      -- a place of the grid, or one outside
      module _ (call : ℕ → ℕ → Call) (c : (x y : ℕ) → x < side b.head → y < side b.head
          → Paired (call (fx b.head.L x y) (fy b.head.L x y)) (call x y))
          (out : (w : Basin) (x y : ℕ) → off (view w) x y ≡ true → first_of (tests w.head.loose (view w) (call x y)) ≡ Err OffGrid) where
        placed : (x y : ℕ) → Paired (call x y) (call (place_by b.head.L (place x y)).x (place_by b.head.L (place x y)).y)
        placed x y = go (ltb x (side b.head) && ltb y (side b.head)) refl
          where
            go : (t : Bool) → (ltb x (side b.head) && ltb y (side b.head)) ≡ t
                → Paired (call x y) (call (cond t (place (fx b.head.L x y) (fy b.head.L x y)) (place x y)).x
                (cond t (place (fx b.head.L x y) (fy b.head.L x y)) (place x y)).y)
            go true t =
                let u = and_true (ltb x (side b.head)) (ltb y (side b.head)) t in
                let a = ltb-true x (side b.head) u.0 in
                let o = ltb-true y (side b.head) u.1 in
                let S = turner.shape b.head.L in
                let p = fx b.head.L x y in
                let q = fy b.head.L x y in
                subst₂ (λ x' y'. Paired (call x' y') (call p q)) (S.back_x x y a o) (S.back_y x y a o) (c p q (S.in_x x y a o) (S.in_y x y a o))
            go false t =
                let f : off (view b) x y ≡ true = ap not t in
                let f' : off (view (basin_by b)) x y ≡ true = ap not t in
                record {
                  works = refl;
                  verdicts = out (basin_by b) x y f' ∙ sym (out b x y f);
                  answers = λ e. absurd (granted_or_not _ _ e (out b x y f));
                  packs = λ e. absurd (granted_or_not _ _ e (out b x y f));
                }

      first_strikes : (t : Bool) (r : Result (Unit {0}) Refusal) → t ≡ true → cond t (Err OffGrid) r ≡ Err OffGrid
      first_strikes true r e = refl
      first_strikes false r e = differ false e refl

      pairs : (c : Call) → Ruled c → Paired c (turned_call (place_by b.head.L) c)
      pairs (pour x y m) l = placed (λ x y. pour x y m) (λ x y a o. pour_pair x y a o m) (λ w x y e. first_strikes _ _ e) x y
      pairs (draw x y m) l = placed (λ x y. draw x y m) (λ x y a o. draw_pair x y a o m) (λ w x y e. first_strikes _ _ e) x y
      pairs (settle x y) l = placed settle settle_pair (λ w x y e. first_strikes _ _ e) x y
      pairs (step t R m) l = step_pair t R m l
      pairs (split x y) l = placed split split_pair (λ w x y e. first_strikes _ _ e) x y
      pairs (merge x y) l = placed merge merge_pair (λ w x y e. first_strikes _ _ e) x y

      call_turns : (c : Call) → Ruled c → perform (turned_call (place_by b.head.L) c) (basin_by b) ≡ ((perform c b).0, basin_by (perform c b).1)
      call_turns c l =
          let P = pairs c l in
          let c' = turned_call (place_by b.head.L) c in
          let e : verdict c' (basin_by b) ≡ verdict c b =
          judged c' (basin_by b) by_valid ∙ (λ i. cond (P.works i) (Err TableLength) (P.verdicts i)) ∙ sym (judged c b right) in
          ap (λ n. outcome n c' (basin_by b)) e ∙ go (verdict c b) refl P
        where
          go : (n : Result (Unit {0}) Refusal) → verdict c b ≡ n → Paired c (turned_call (place_by b.head.L) c)
              → outcome n (turned_call (place_by b.head.L) c) (basin_by b) ≡ ((outcome n c b).0, basin_by (outcome n c b).1)
          go (Ok t) e P = let p = passed c b e in λ i. (granted (P.answers p i), P.packs p i)
          go (Err r) e P = refl

-- ---- a turn of basins and one of places that go together
abbrev Commutes : (Basin → Basin) → (ℕ → Place → Place) → Type 0
Commutes G g =
    (b : Basin) → ValidBasin b
    → ValidBasin (G b) × (side (G b).head ≡ side b.head)
    × ((c : Call) → Ruled c → perform (turned_call (g (side b.head)) c) (G b) ≡ ((perform c b).0, G (perform c b).1))

turned_ruled : (g : Place → Place) (c : Call) → Ruled c → Ruled (turned_call g c)
turned_ruled g (pour x y m) l = l
turned_ruled g (draw x y m) l = l
turned_ruled g (settle x y) l = l
turned_ruled g (step t R m) l = l
turned_ruled g (split x y) l = l
turned_ruled g (merge x y) l = l

turned_twice : (h g : Place → Place) (c : Call) → turned_call (λ p. h (g p)) c ≡ turned_call h (turned_call g c)
turned_twice h g (pour x y m) = refl
turned_twice h g (draw x y m) = refl
turned_twice h g (settle x y) = refl
turned_twice h g (step t R m) = refl
turned_twice h g (split x y) = refl
turned_twice h g (merge x y) = refl

turned_not : (c : Call) → turned_call (λ p. p) c ≡ c
turned_not (pour x y m) = refl
turned_not (draw x y m) = refl
turned_not (settle x y) = refl
turned_not (step t R m) = refl
turned_not (split x y) = refl
turned_not (merge x y) = refl

no_turn : Commutes (λ b. b) (λ n p. p)
no_turn b r = (r, refl, λ c l. ap (λ c. perform c b) (turned_not c))

then : (G H : Basin → Basin) (g h : ℕ → Place → Place) → Commutes G g → Commutes H h → Commutes (λ b. H (G b)) (λ n p. h n (g n p))
then G H g h cg ch b r =
    let u = cg b r in
    let w = ch (G b) u.0 in (
      w.0,
      w.1 ∙ u.1,
      λ c l.
          ap (λ c. perform c (H (G b))) (turned_twice (h (side b.head)) (g (side b.head)) c)
          ∙ ap (λ n. perform (turned_call (h n) (turned_call (g (side b.head)) c)) (H (G b))) (sym u.1)
          ∙ w.2 (turned_call (g (side b.head)) c) (turned_ruled (g (side b.head)) c l)
          ∙ ap (λ q. (q.0, H q.1)) (u.2 c l),
    )

again : (G : Basin → Basin) (g : ℕ → Place → Place) → Commutes G g → (n : ℕ) → Commutes (λ b. times n G b) (λ m p. times n (g m) p)
again G g cg zero = no_turn
again G g cg (suc n) = then (λ b. times n G b) G (λ m p. times n (g m) p) g (again G g cg n) cg

flips : Commutes flip_basin flip_place
flips b r =
    let t : Turner (λ L x y. 2 ^ L - 1 - x) (λ L x y. y) flip_leaf = record { shape = flipped; steps = flip_steps; moves = flip_moved } in
    (by_valid (λ L x y. 2 ^ L - 1 - x) (λ L x y. y) flip_leaf t b r, refl, call_turns (λ L x y. 2 ^ L - 1 - x) (λ L x y. y) flip_leaf t b r)

transposes : Commutes transpose_basin transpose_place
transposes b r =
    let t : Turner (λ L x y. y) (λ L x y. x) transpose_leaf = record { shape = transposed; steps = transpose_steps; moves = transpose_moved } in
    (by_valid (λ L x y. y) (λ L x y. x) transpose_leaf t b r, refl, call_turns (λ L x y. y) (λ L x y. x) transpose_leaf t b r)

-- a quarter turn is a transposition and a flip
quarter_is : (b : Basin) → flip_basin (transpose_basin b) ≡ quarter_basin b
quarter_is b =
    let n = side b.head in
    let w = transpose_view (view b) in
    let levels = table_cong n (flip_view (view (transpose_basin b))).level (quarter_view (view b)).level
    (λ x y a c. entry_table n w.level 0 (n - 1 - x) y (omega arith) c) in
    let beds = table_cong n (flip_view (view (transpose_basin b))).bed (quarter_view (view b)).bed
    (λ x y a c. entry_table n w.bed 0 (n - 1 - x) y (omega arith) c) in
    let leaves = table_cong n (flip_view (view (transpose_basin b))).leaf (quarter_view (view b)).leaf
    (λ x y a c. ap flip_leaf (entry_table n w.leaf dry (n - 1 - x) y (omega arith) c)) in
    λ i. basin b.head (tables (levels i) (beds i) (leaves i))

quarter_place_is : (n : ℕ) (p : Place) → flip_place n (transpose_place n p) ≡ quarter_place n p
quarter_place_is n p = go (ltb p.x n) (ltb p.y n) refl refl
  where
    go : (s t : Bool) → ltb p.x n ≡ s → ltb p.y n ≡ t → flip_place n (cond (s && t) (place p.y p.x) p)
        ≡ cond (s && t) (place (n - 1 - p.y) p.x) p
    go true true e f = λ i. cond (f i && e i) (place (n - 1 - p.y) p.x) (place p.y p.x)
    go true false e f = λ i. cond (e i && f i) (place (n - 1 - p.x) p.y) p
    go false true e f = λ i. cond (e i && f i) (place (n - 1 - p.x) p.y) p
    go false false e f = λ i. cond (e i && f i) (place (n - 1 - p.x) p.y) p

quarters : Commutes quarter_basin quarter_place
quarters =
    subst₂ Commutes (fun_ext quarter_is) (fun_ext (λ n. fun_ext (quarter_place_is n)))
    (then transpose_basin flip_basin transpose_place flip_place transposes flips)

all_turns : (f r : ℕ) → Commutes (turn_basin f r) (λ n. turn_place n f r)
all_turns f r =
    then (λ b. times f flip_basin b) (λ b. times r quarter_basin b) (λ n p. times f (flip_place n) p) (λ n p. times r (quarter_place n) p)
    (again flip_basin flip_place flips f) (again quarter_basin quarter_place quarters r)

-- ---- lists of calls
side_stays : (b : Basin) (c : Call) → side (perform c b).1.head ≡ side b.head
side_stays b c = go (verdict c b) c
  where
    go : (n : Result (Unit {0}) Refusal) (c : Call) → side (outcome n c b).1.head ≡ side b.head
    go (Ok o) (pour x y m) = refl
    go (Ok o) (draw x y m) = refl
    go (Ok o) (settle x y) = refl
    go (Ok o) (step t R m) = refl
    go (Ok o) (split x y) = refl
    go (Ok o) (merge x y) = refl
    go (Err o) c = refl

runs : (G : Basin → Basin) (g : ℕ → Place → Place) → Commutes G g → (b : Basin) → ValidBasin b → (cs : List Call) → AllByRecursion Ruled cs
    → run (map (turned_call (g (side b.head))) cs) (G b) ≡ map (λ q. (q.0, G q.1)) (run cs b)
runs G g cg b r [] l = refl
runs G g cg b r (c ∷ cs) l =
    let e = (cg b r).2 c l.0 in
    let b₁ = (perform c b).1 in
    let rest : run (map (turned_call (g (side b.head))) cs) (perform (turned_call (g (side b.head)) c) (G b)).1
    ≡ map (λ q. (q.0, G q.1)) (run cs b₁) =
    ap (λ q. run (map (turned_call (g (side b.head))) cs) q.1) e
    ∙ ap (λ n. run (map (turned_call (g n)) cs) (G b₁)) (sym (side_stays b c))
    ∙ runs G g cg b₁ (call_valid b r c) cs l.1 in
    λ i. e i ∷ rest i

pub turns_with : (b : Basin) → ValidBasin b → (cs : List Call) → AllByRecursion Ruled cs → (f r : ℕ)
    → run (map (turned_call (turn_place (side b.head) f r)) cs) (turn_basin f r b) ≡ map (λ q. (q.0, turn_basin f r q.1)) (run cs b)
turns_with b right cs l f r = runs (turn_basin f r) (λ n. turn_place n f r) (all_turns f r) b right cs l
