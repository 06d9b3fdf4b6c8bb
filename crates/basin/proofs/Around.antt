-- What a test of each direction decides.
use Rattle.std.proofs.Common.{Bool, true, false, ◌⊎◌, inl, inr, MatchBool, Decides, refl}
use Rattle.basin.proofs.Tests.{differ}

-- what a test tells of one direction: it passed, which gives the property, or failed, which refutes it
pub record Told (Passed Failed P : Type 0) : Type 0 where
  pub has : Passed → P
  pub lacks : Failed → P → ⊥

-- where a test tells of each direction whether it has a property, the answer for all decides whether the four have theirs
pub decided_by_sides : (r : Bool) {E N W S E' N' W' S' : Type 0} (A B C D : Type 0) → MatchBool r (E × (N × (W × S))) (E' ⊎ (N' ⊎ (W' ⊎ S')))
    → Told E E' A → Told N N' B → Told W W' C → Told S S' D → Decides r (A × (B × (C × D)))
decided_by_sides true A B C D all a b c d = (λ _. (a.has all.0, (b.has all.1.0, (c.has all.1.1.0, d.has all.1.1.1))), λ _. refl)
decided_by_sides false A B C D some a b c d = (
  λ e. absurd (differ false e refl),
  λ h. elim some [
    | inl f ↦ absurd (a.lacks f h.0)
    | inr rest ↦ elim rest [
      | inl f ↦ absurd (b.lacks f h.1.0)
      | inr rest ↦ elim rest [ inl f ↦ absurd (c.lacks f h.1.1.0) | inr f ↦ absurd (d.lacks f h.1.1.1) ]
    ]
  ],
)
