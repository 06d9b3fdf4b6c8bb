-- What a step replies, from each of its refusals and from none.
use Rattle.std.proofs.Common.{◌≡◌, ℕ, ◌*◌, ◌<◌, ◌≤◌, Bool, true, false, cond, not, ltb, ◌⊎◌, List, length, replicate, Ok, Err, Result, sym, refl, ap, ◌∙◌, inl, inr, arith}
use Rattle.std.proofs.lemmas.Bool.{eq-eqb, ne_eqb}
use Rattle.std.proofs.lemmas.Bool.Decides.{nat_tests}
use Rattle.basin.specs.declared.leaf.Leaf.{Leaf}
use Rattle.basin.specs.declared.refusal.Refusal.{Refusal}
use Rattle.basin.specs.declared.refusal.Refusal.TheVariants.{TableLength, NotABasin, OutOfRange, StepTooLong, LeafFull}
use Rattle.basin.specs.Basins.{Basin, basin, tables, side, view, ValidBasin}
use Rattle.basin.specs.Flaws.{misfit, no_basin, validity}
use Rattle.basin.specs.Records.{dry}
use Rattle.basin.specs.Refusals.{number_of}
use Rattle.basin.specs.Tables.{table}
use Rattle.basin.proofs.Telling.{valid_told}
use Rattle.calls.proofs.Refilled.{levels_are, beds_are}
use Rattle.looks.specs.Looks.{after}
use Rattle.runs.specs.Calls.{granted, refused, Test, first_of, outside, too_fast, overfull, tests, step, verdict, moved, outcome, perform}
use Rattle.runs.specs.Homes.{after_step}
use Rattle.runs.specs.Rules.{Rule}
use Rattle.step.specs.Ends.{work_after}

pub outside_where : (T : ℕ) → (T < 1) ⊎ ((1 ≤ T) × (2000 < T)) → outside 1 2000 T ≡ true
outside_where T (inl h) = grind (arith, nat_tests)
outside_where T (inr h) = let k = h.1 in grind (arith, nat_tests)

pub inside_where : (T : ℕ) → 1 ≤ T → T ≤ 2000 → outside 1 2000 T ≡ false
inside_where T h k = grind (arith, nat_tests)

-- a refusal after that of the time
abbrev is_late : Result (Unit {0}) Refusal → Bool
is_late (Ok t) = false
is_late (Err e) = ltb (number_of OutOfRange) (number_of e)

-- the first two refusals are not
early : (b : Basin) (e : Refusal) → validity b ≡ Err e → ltb (number_of OutOfRange) (number_of e) ≡ false
unfolding validity
early b e h = sym (ap is_late h) ∙ go (misfit b.head b.tables) (no_basin b)
  where
    go : (t n : Bool) → is_late (cond t (Err TableLength) (cond n (Err NotABasin) (Ok tt))) ≡ false
    go true n = refl
    go false true = refl
    go false false = refl

pub work_kept : (b : Basin) (e : Refusal) (work : List Leaf) → validity b ≡ Err e → work ≡ work_after (refused e) work
work_kept b e work h = ap (λ t. cond t (replicate (length work) dry) work) (sym (early b e h))

module _ (R : Rule) (T m : ℕ) (b : Basin) where
  abbrev own : List Test
  own = tests b.head.loose (view b) (step T R m)

  -- a work table that has not an entry for each square
  pub short : (m ≡ side b.head * side b.head → ⊥) → (refused TableLength, b) ≡ perform (step T R m) b
  unfolding verdict
  short n =
      ap (λ r. outcome r (step T R m) b)
      (go (misfit b.head b.tables) ∙ ap (λ t. cond (misfit b.head b.tables) (Err TableLength) (cond (not t) (Err TableLength) (cond (no_basin b) (Err NotABasin) (first_of own)))) (sym (ne_eqb m _ n)))
    where
      go : (t : Bool) → ◌≡◌ {A = Result (Unit {0}) Refusal} (Err TableLength) (cond t (Err TableLength) (Err TableLength))
      go true = refl
      go false = refl

  -- a work table that has
  module _ (full : m ≡ side b.head * side b.head) where
    verdict_is : verdict (step T R m) b ≡ after (validity b) (first_of own)
    unfolding verdict validity
    verdict_is =
        ap (λ t. cond (misfit b.head b.tables) (Err TableLength) (cond (not t) (Err TableLength) (cond (no_basin b) (Err NotABasin) (first_of own)))) (eq-eqb m _ full)
        ∙ go (misfit b.head b.tables) (no_basin b)
      where
        go : (t n : Bool) → cond t (Err TableLength) (cond n (Err NotABasin) (first_of own)) ≡ after (cond t (Err TableLength) (cond n (Err NotABasin) (Ok tt))) (first_of own)
        go true n = refl
        go false true = refl
        go false false = refl

    -- no valid basin
    pub invalid : (e : Refusal) → validity b ≡ Err e → (refused e, b) ≡ perform (step T R m) b
    invalid e h = ap (λ r. outcome r (step T R m) b) (sym (verdict_is ∙ ap (λ r. after r (first_of own)) h))

    module _ (ok : ValidBasin b) where
      judged : verdict (step T R m) b ≡ first_of own
      judged = verdict_is ∙ ap (λ r. after r (first_of own)) (valid_told b ok)

      refuse : (e : Refusal) → first_of own ≡ Err e → (refused e, b) ≡ perform (step T R m) b
      refuse e h = ap (λ r. outcome r (step T R m) b) (sym (judged ∙ h))

      -- the tests after that of the time
      abbrev late : Result (Unit {0}) Refusal
      late = cond (too_fast (view b) T) (Err StepTooLong) (cond (overfull (after_step R T (view b))) (Err LeafFull) (Ok tt))

      pub out_of_time : outside 1 2000 T ≡ true → (refused OutOfRange, b) ≡ perform (step T R m) b
      out_of_time h = refuse OutOfRange (ap (λ t. cond t (Err OutOfRange) late) h)

      module _ (in-time : outside 1 2000 T ≡ false) where
        timely : first_of own ≡ late
        timely = ap (λ t. cond t (Err OutOfRange) late) in-time

        pub too_long : too_fast (view b) T ≡ true → (refused StepTooLong, b) ≡ perform (step T R m) b
        too_long h = refuse StepTooLong (timely ∙ ap (λ t. cond t (Err StepTooLong) (cond (overfull (after_step R T (view b))) (Err LeafFull) (Ok tt))) h)

        module _ (slow : too_fast (view b) T ≡ false) where
          last_test : first_of own ≡ cond (overfull (after_step R T (view b))) (Err LeafFull) (Ok tt)
          last_test = timely ∙ ap (λ t. cond t (Err StepTooLong) (cond (overfull (after_step R T (view b))) (Err LeafFull) (Ok tt))) slow

          pub too_full : overfull (after_step R T (view b)) ≡ true → (refused LeafFull, b) ≡ perform (step T R m) b
          too_full h = refuse LeafFull (last_test ∙ ap (λ t. cond t (Err LeafFull) (Ok tt)) h)

          pub grants : overfull (after_step R T (view b)) ≡ false → (amount : ℕ) (leaves : List Leaf) → amount ≡ moved R T (view b)
              → leaves ≡ table (side b.head) (after_step R T (view b)).leaf
              → (granted amount, basin b.head (tables b.tables.levels b.tables.beds leaves)) ≡ perform (step T R m) b
          grants h amount leaves e f =
              (λ i. (granted (e i), basin b.head (tables (levels_are b ok.full.levels i) (beds_are b ok.full.beds i) (f i))))
              ∙ ap (λ r. outcome r (step T R m) b) (sym (judged ∙ last_test ∙ ap (λ t. cond t (Err LeafFull) (Ok tt)) h))
