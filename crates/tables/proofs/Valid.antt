-- Head and tables are a valid basin where each square is valid and the levels are balanced.
use Rattle.std.proofs.Common.{◌≡◌, ℕ, ◌+◌, ◌-◌, ◌*◌, ◌/◌, ◌<◌, Bool, true, false, not, ◌||◌, Decides, Ok, Err, sym, refl, ap, ◌∙◌, inl, inr, arith}
use Rattle.std.proofs.lemmas.Bool.{cases_Bool}
use Rattle.std.proofs.lemmas.Bool.Decides.{not_from_Decides}
use Rattle.basin.specs.declared.refusal.Refusal.TheVariants.{TableLength, NotABasin}
use Rattle.basin.specs.Basins.{Basin, side, view, Heads, Full, ValidBasin}
use Rattle.basin.specs.Flaws.{flaw_at, flaw_between, flawed, no_head, no_basin, validity}
use Rattle.basin.specs.Squares.{some_square, some_pair, unbalanced}
use Rattle.basin.specs.Views.{side_of}
use Rattle.basin.proofs.Found.{none, is_none, none_pair, is_none_pair}
use Rattle.basin.proofs.Sizes.{side_pos}
use Rattle.basin.proofs.Telling.{alike, no_flaw_between, no_bad_head, no_misfit, tells_basins, misfit_validity, full_validity}
use Rattle.basin.proofs.Tests.{differ, not_true, or_false}
use Rattle.tables.specs.Alike.{RowsValid}
use Rattle.tables.proofs.Uniform.{start, start_le, uniform}

-- where each square is valid, only the balance is left to ask
valid_where_balanced : (b : Basin) → Heads b.head → RowsValid b (side b.head)
    → not (unbalanced (side b.head) (view b).level) ≡ not (no_basin b)
unfolding flawed no_basin
valid_where_balanced b good rows =
    let n = side b.head in
    let v = view b in
    let head = no_bad_head b.head good in
    let own = is_none n (flaw_at v) (λ x y a c. (rows y c x a).own) in
    let same = uniform b (λ x y a c. (rows y c x a).block) in
    let between = is_none_pair n (flaw_between v) (λ x y p q a c d e. no_flaw_between v x y p q (same x y p q a c d e)) in
    λ i. not (sym head i || (sym own i || (sym between i || unbalanced n v.level)))

-- without a flaw, each square is valid
module _ (b : Basin) (none-at : some_square (side b.head) (flaw_at (view b)) ≡ false)
    (none_between : some_pair (side b.head) (flaw_between (view b)) ≡ false) where
  valid_without_flaw : RowsValid b (side b.head)
  valid_without_flaw y c x a =
      let n = side b.head in
      let v = view b in
      let s = side_of v (v.level x y) in
      let z : 0 < s = side_pos (b.head.L - v.level x y) in
      record {
        own = none n (flaw_at v) none-at x y a c;
        block =
            record {
              corner = same (x / s * s) (y / s * s) (omega (arith, start_le s x)) (omega (arith, start_le s y)) (start s x z) (start s y z);
              east = λ d e. same (x + 1) y d c e refl;
              north = λ d e. same x (y + 1) a d refl e;
            };
      }
    where
      same : (p q : ℕ) → p < side b.head → q < side b.head
          → x / side_of (view b) ((view b).level x y) ≡ p / side_of (view b) ((view b).level x y)
          → y / side_of (view b) ((view b).level x y) ≡ q / side_of (view b) ((view b).level x y)
          → ((view b).level p q ≡ (view b).level x y) × ((view b).leaf p q ≡ (view b).leaf x y)
      same p q d e = alike (view b) x y p q (none_pair (side b.head) (flaw_between (view b)) none_between x y p q a c d e)

invalid_where_not : (b : Basin) → (RowsValid b (side b.head) → ⊥) → false ≡ not (no_basin b)
unfolding flawed no_basin
invalid_where_not b h =
    elim (cases_Bool (no_basin b)) [
      | inl e ↦ sym (ap not e)
      | inr e ↦
          let p = or_false (no_head b.head) (flawed (view b)) e in
          let q = or_false (some_square (side b.head) (flaw_at (view b))) _ p.1 in
          let r = or_false (some_pair (side b.head) (flaw_between (view b))) (unbalanced (side b.head) (view b).level) q.1 in
          absurd (h (valid_without_flaw b q.0 r.0))
    ]

-- what decides whether all squares are valid decides validity, but for the balance
pub valid_where_decided : (b : Basin) (r : Bool) → Heads b.head → Decides r (RowsValid b (side b.head)) → r ≡ true
    → not (unbalanced (side b.head) (view b).level) ≡ not (no_basin b)
valid_where_decided b r good d t = valid_where_balanced b good (d.0 t)

pub invalid_where_decided : (b : Basin) (r : Bool) → Decides r (RowsValid b (side b.head)) → r ≡ false → r ≡ not (no_basin b)
invalid_where_decided b r d f = f ∙ invalid_where_not b (not_from_Decides r d f)

-- ---- what the test says of validity
pub told_misfit : (b : Basin) → (Full b.head b.tables → ⊥) → (Err TableLength ≡ validity b) × (ValidBasin b → ⊥)
told_misfit b n = (sym (misfit_validity b n), λ v. n v.full)

module _ (b : Basin) (r : Bool) (f : Full b.head b.tables) (e : r ≡ not (no_basin b)) where
  pub told_valid : r ≡ true → (Ok tt ≡ validity b) × ValidBasin b
  told_valid t =
      let no : no_basin b ≡ false = not_from (no_basin b) (sym e ∙ t) in
      (sym (full_validity b f ∙ rw no refl), tells_basins.0 b (no_misfit b.head b.tables f, no))
    where
      not_from : (x : Bool) → not x ≡ true → x ≡ false
      not_from true e = differ false e refl
      not_from false e = refl

  pub told_invalid : r ≡ false → (Err NotABasin ≡ validity b) × (ValidBasin b → ⊥)
  told_invalid t =
      let yes : no_basin b ≡ true = not_true (no_basin b) (sym e ∙ t) in
      (sym (full_validity b f ∙ rw yes refl), λ v. differ (no_basin b) yes (tells_basins.1 b v).1)
