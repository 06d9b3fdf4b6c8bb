-- What a window's test of its squares decides.
use Rattle.std.proofs.Common.{◌≡◌, ℕ, ◌<◌, Bool, true, false, MatchBool, Decides, refl, ap, arith}
use Rattle.basin.specs.declared.window.Window.{Window}
use Rattle.basin.specs.Windows.{Seen, whole_of}
use Rattle.basin.proofs.Tests.{differ}

-- where a test tells of each square whether it has a property, the window's answer decides whether all squares have it
pub decided_by_squares : (w : Window) (P : ℕ → ℕ → Type 0) (r : Bool) {Passed Failed : ℕ → ℕ → Type 0}
    → MatchBool r ((x y : ℕ) → Seen w x y → Passed x y) ((x : ℕ) × ((y : ℕ) × (Seen w x y × Failed x y)))
    → ((x y : ℕ) → Seen w x y → Passed x y → P x y) → ((x y : ℕ) → Seen w x y → Failed x y → P x y → ⊥)
    → Decides r ((x y : ℕ) → Seen w x y → P x y)
decided_by_squares w P true all has lacks = (λ _ x y s. has x y s (all x y s), λ _. refl)
decided_by_squares w P false some has lacks =
    (λ e. absurd (differ false e refl), λ h. absurd (lacks some.0 some.1.0 some.1.1.0 some.1.1.1 (h some.0 some.1.0 some.1.1.0)))

-- and the whole basin's, whether all squares of all rows have it
pub decided_by_rows : (n : ℕ) (P : ℕ → ℕ → Type 0) (r : Bool) (w : Window) → w ≡ whole_of n → {Passed Failed : ℕ → ℕ → Type 0}
    → MatchBool r ((x y : ℕ) → Seen w x y → Passed x y) ((x : ℕ) × ((y : ℕ) × (Seen w x y × Failed x y)))
    → ((x y : ℕ) → x < n → y < n → Passed x y → P x y) → ((x y : ℕ) → x < n → y < n → Failed x y → P x y → ⊥)
    → Decides r ((y : ℕ) → y < n → (x : ℕ) → x < n → P x y)
decided_by_rows n P r w e told has lacks =
    let east : w.east ≡ n = ap (λ v. v.east) e in
    let north : w.north ≡ n = ap (λ v. v.north) e in
    let west : w.west ≡ 0 = ap (λ v. v.west) e in
    let south : w.south ≡ 0 = ap (λ v. v.south) e in
    let d = decided_by_squares w P r told
    (λ x y s. has x y (omega (arith, s.east)) (omega (arith, s.north)))
    (λ x y s. lacks x y (omega (arith, s.east)) (omega (arith, s.north))) in (
      λ t y b x a. d.0 t x y (record { west = omega arith; east = omega arith; south = omega arith; north = omega arith }),
      λ h. d.1 (λ x y s. h y (omega (arith, s.north)) x (omega (arith, s.east))),
    )
