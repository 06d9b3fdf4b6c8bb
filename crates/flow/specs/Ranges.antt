-- Which three numbers are a side.
use Rattle.std.specs.Prelude.{◌≡◌, ℕ, ◌≤◌, ℤ, pos, unsigned_abs}

-- the depth h, the speed u across the face and the speed v along it
abbrev pub InRange : ℕ → ℤ → ℤ → Type 0
InRange h u v = (h ≤ 30000) × (unsigned_abs u ≤ 10000) × (unsigned_abs v ≤ 10000) × (h ≡ 0 → (u ≡ pos 0) × (v ≡ pos 0))
