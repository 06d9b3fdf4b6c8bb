-- One face, seen ahead (toward east and north) and back (toward west and south), and signed numbers through their bits.
use Rattle.std.proofs.Common.{◌≡◌, ℕ, ◌≤◌, true, false, ◌⊎◌, ℤ, pos, ◌-ℤ◌, neg_ℤ, nat_abs, refl, ap, inl, inr, arith, w64, SFits, to_z, of_z}
use lib.IntN.{neg_ℤ-neg_ℤ}
use borrow.Author.Differences.{up}
use Rattle.std.proofs.lemmas.Int.{ints, to_z-of_z}
use Rattle.faces.specs.Crossings.{wish_of, fall_of, rise_of, drift_of}
use Rattle.basin.specs.declared.dir.Dir.{Dir}
use Rattle.basin.specs.declared.dir.Dir.TheVariants.{East, North, West, South}
use Rattle.runs.specs.Rules.{Rule}
use Rattle.runs.specs.Step.{Face}
use Rattle.runs.specs.Trees.{ahead}
use Rattle.borders.specs.Shares.{wish_by, across_by, along_by}

pub is_ahead : (p : Dir) → (p ≡ East) ⊎ (p ≡ North) → ahead p ≡ true
is_ahead p (inl e) = ap ahead e
is_ahead p (inr e) = ap ahead e

pub is_back : (p : Dir) → (p ≡ West) ⊎ (p ≡ South) → ahead p ≡ false
is_back p (inl e) = ap ahead e
is_back p (inr e) = ap ahead e

module _ (R : Rule) (T d : ℕ) (p : Dir) (a : Face) where
  pub wish_ahead : ahead p ≡ true → wish_by R T d p a ≡ up (wish_of R d T a.e a.near a.far)
  unfolding wish_by
  wish_ahead h = rw h refl

  pub across_ahead : ahead p ≡ true → across_by R T d p a ≡ neg_ℤ (fall_of R d T a.e a.near a.far)
  unfolding across_by
  across_ahead h = rw h refl

  pub along_ahead : ahead p ≡ true → along_by R T d p a ≡ neg_ℤ (drift_of R d T a.e a.near a.far)
  unfolding along_by
  along_ahead h = rw h refl

  pub wish_back : ahead p ≡ false → wish_by R T d p a ≡ up (neg_ℤ (wish_of R d T a.e a.far a.near))
  unfolding wish_by
  wish_back h = rw h refl

  pub across_back : ahead p ≡ false → across_by R T d p a ≡ rise_of R d T a.e a.far a.near
  unfolding across_by
  across_back h = rw h (neg_ℤ-neg_ℤ _)

  pub along_back : ahead p ≡ false → along_by R T d p a ≡ drift_of R d T a.e a.far a.near
  unfolding along_by
  along_back h = rw h (neg_ℤ-neg_ℤ _)

-- a number negated, taken to its bits and back
pub neg_back : (z y : ℤ) → SFits w64 z → nat_abs z ≤ 3840000000000 → z ≡ y → to_z w64 (of_z w64 (pos 0 -ℤ to_z w64 (of_z w64 z))) ≡ neg_ℤ y
neg_back z y f h e = omega (arith, ints)

pub abs_back : (z : ℤ) (m : ℕ) → SFits w64 z → nat_abs z ≤ m → nat_abs (to_z w64 (of_z w64 z)) ≤ m
abs_back z m f h = let e = ap nat_abs (to_z-of_z w64 z f) in omega arith

pub abs_neg_back : (z : ℤ) (m : ℕ) → SFits w64 z → nat_abs z ≤ m → m ≤ 3840000000000 → nat_abs (to_z w64 (of_z w64 (pos 0 -ℤ to_z w64 (of_z w64 z)))) ≤ m
abs_neg_back z m f h k = let e = ap nat_abs (neg_back z z f (omega arith) refl) in omega (arith, ints)
