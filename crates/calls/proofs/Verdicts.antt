-- What a call at a square replies, from the refusals that every such call may meet and from its own.
use Rattle.std.proofs.Common.{◌≡◌, ℕ, Bool, true, false, cond, List, [], ◌∷◌, Ok, Err, Result, sym, refl, ap, ◌∙◌}
use Rattle.basin.specs.declared.refusal.Refusal.{Refusal}
use Rattle.basin.specs.declared.refusal.Refusal.TheVariants.{TableLength, NotABasin, OffGrid}
use Rattle.basin.specs.Basins.{Basin, side, view}
use Rattle.basin.specs.Flaws.{misfit, no_basin, validity}
use Rattle.basin.specs.Views.{View}
use Rattle.looks.specs.Looks.{after}
use Rattle.runs.specs.Calls.{Call, granted, refused, Test, if, first_of, off, tests, short_work, verdict, answer, kept, made, pack, outcome, perform}
use Rattle.calls.specs.Spots.{placing}

-- the tests after the first
abbrev pub later : List Test → List Test
later [] = []
later (t ∷ ts) = ts

-- a test that strikes, and one that does not
pub struck : (t : Bool) (r : Refusal) (ts : List Test) → t ≡ true → first_of (if t r ∷ ts) ≡ Err r
struck t r ts e = ap (λ t. cond t (Err r) (first_of ts)) e

pub missed : (t : Bool) (r : Refusal) (ts : List Test) → t ≡ false → first_of (if t r ∷ ts) ≡ first_of ts
missed t r ts e = ap (λ t. cond t (Err r) (first_of ts)) e

-- a call at the square (x, y), which takes no work table
module _ (b : Basin) (x y : ℕ) (c : Call)
    (placed : (loose : ℕ) (v : View) → tests loose v c ≡ if (off v x y) OffGrid ∷ later (tests loose v c))
    (no-work : (n : ℕ) → short_work c n ≡ false) where
  abbrev own : Result (Unit {0}) Refusal
  own = first_of (later (tests b.head.loose (view b) c))

  verdict_is : verdict c b ≡ after (placing b x y) own
  unfolding verdict placing validity
  verdict_is =
      (λ i. cond (misfit b.head b.tables) (Err TableLength) (cond (no-work (side b.head) i) (Err TableLength)
      (cond (no_basin b) (Err NotABasin) (first_of (placed b.head.loose (view b) i)))))
      ∙ go (misfit b.head b.tables) (no_basin b) (off (view b) x y)
    where
      go : (m n o : Bool) → cond m (Err TableLength) (cond false (Err TableLength) (cond n (Err NotABasin) (cond o (Err OffGrid) own)))
          ≡ after (after (cond m (Err TableLength) (cond n (Err NotABasin) (Ok tt))) (cond o (Err OffGrid) (Ok tt))) own
      go true n o = refl
      go false true o = refl
      go false false true = refl
      go false false false = refl

  -- one of the refusals that every call may meet
  pub refuses : (e : Refusal) → placing b x y ≡ Err e → (refused e, b) ≡ perform c b
  refuses e h = ap (λ r. outcome r c b) (sym (verdict_is ∙ ap (λ p. after p own) h))

  module _ (passed : placing b x y ≡ Ok tt) where
    -- one of its own
    pub strikes : (e : Refusal) → own ≡ Err e → (refused e, b) ≡ perform c b
    strikes e h = ap (λ r. outcome r c b) (sym (verdict_is ∙ ap (λ p. after p own) passed ∙ h))

    -- none
    pub grants : own ≡ Ok tt
        → (granted (answer b.head.loose (view b) c), pack (kept b.head.loose (view b) c) (made b.head.loose (view b) c)) ≡ perform c b
    grants h = ap (λ r. outcome r c b) (sym (verdict_is ∙ ap (λ p. after p own) passed ∙ h))
