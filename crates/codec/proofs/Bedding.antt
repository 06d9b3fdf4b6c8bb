-- The beds of a file, one after another.
use Rattle.std.proofs.Common.{◌≡◌, ℕ, zero, suc, ◌-◌, ◌<◌, List, [], ◌∷◌, ◌++◌, Ok, Err, refl, arith}
use Rattle.codec.specs.declared.fault.FileFault.{FileFault}
use Rattle.codec.specs.Files.{ranged_at, beds_from}

pub beds_step : (m : ℕ) (bs : List ℕ) (here h next : ℕ) (got : List ℕ) → 0 < m → Ok (h, next) ≡ ranged_at bs here 0 30000
    → beds_from m bs here got ≡ beds_from (m - 1) bs next (got ++ (h ∷ []))
unfolding beds_from
beds_step zero bs here h next got p e = absurd (omega arith)
beds_step (suc m) bs here h next got p e = let s : suc m - 1 ≡ m = omega arith in rw (← e, s) refl

pub beds_stop : (m : ℕ) (bs : List ℕ) (here : ℕ) (f : FileFault) (got : List ℕ) → 0 < m → Err f ≡ ranged_at bs here 0 30000
    → beds_from m bs here got ≡ Err f
unfolding beds_from
beds_stop zero bs here f got p e = absurd (omega arith)
beds_stop (suc m) bs here f got p e = rw (← e) refl

pub beds_end : (m : ℕ) (bs : List ℕ) (here : ℕ) (got : List ℕ) → m ≡ 0 → beds_from m bs here got ≡ Ok (got, here)
unfolding beds_from
beds_end m bs here got e = rw e refl
