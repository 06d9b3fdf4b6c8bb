-- What a turn answers, case by case.
use Rattle.std.proofs.Common.{◌≡◌, ℕ, ◌<◌, ◌≤◌, Ok, Err, sym, refl, ap}
use Rattle.std.proofs.lemmas.Bool.{lt-ltb, le-ltb}
use Rattle.basin.specs.declared.refusal.Refusal.{Refusal}
use Rattle.basin.specs.declared.refusal.Refusal.TheVariants.{TableLength, OutOfRange}
use Rattle.basin.specs.Basins.{Tables, Basin, basin, Full}
use Rattle.basin.specs.Flaws.{validity}
use Rattle.basin.proofs.Telling.{is_misfit, no_misfit}
use Rattle.turns.specs.Turns.{turned_basin, turn_of}

module _ (b : Basin) (second : Tables) (t : ℕ) where
  pub turn_misfit : (Full b.head second → ⊥) → (Err TableLength, second) ≡ turn_of b second t
  unfolding turn_of
  turn_misfit n = rw (is_misfit b.head second n) refl

  module _ (full : Full b.head second) where
    pub turn_refused : (e : Refusal) → Err e ≡ validity b → (Err e, second) ≡ turn_of b second t
    unfolding turn_of
    turn_refused e h = rw (no_misfit b.head second full, sym h) refl

    pub turn_unknown : Ok tt ≡ validity b → 7 < t → (Err OutOfRange, second) ≡ turn_of b second t
    unfolding turn_of
    turn_unknown h k = rw (no_misfit b.head second full, sym h, lt-ltb 7 t k) refl

    pub turn_granted : (turned : Tables) → Ok tt ≡ validity b → t ≤ 7 → basin b.head turned ≡ turned_basin t b → (Ok b.head, turned) ≡ turn_of b second t
    unfolding turn_of
    turn_granted turned h k e = rw (no_misfit b.head second full, sym h, le-ltb 7 t k) (ap (λ w. (Ok b.head, w.tables)) e)
