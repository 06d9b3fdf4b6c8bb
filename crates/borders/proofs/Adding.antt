-- Sums of shares, and what is left of a wish.
use Rattle.std.proofs.Common.{◌≡◌, ℕ, ◌*◌, ◌/◌, ◌≤◌, ℤ, ◌+ℤ◌, nat_abs, refl, ap, mul-le-mul, arith, w64, SFits, to_z, of_z}
use native.Mathlib.Nat.{div-le_of_le-mul}
use Rattle.std.proofs.lemmas.Int.{ints}
use Rattle.flow.specs.Whole.{fits, abs_add}
use Rattle.borders.specs.declared.border.Border.{Border}

pub same_border : (a b : ℕ) (x y : ℤ) {a' b' : ℕ} {x' y' : ℤ} → a ≡ a' → b ≡ b' → x ≡ x' → y ≡ y'
    → ◌≡◌ {A = Border} (record { first = a; second = b; across = x; along = y }) (record { first = a'; second = b'; across = x'; along = y' })
same_border a b x y p q r s = cc

-- two numbers added, taken to bits and back
module _ (x y : ℤ) (f : SFits w64 x) (g : SFits w64 y) (a : nat_abs x ≤ 3840000000000) (b : nat_abs y ≤ 3840000000000) where
  pub add_fits : SFits w64 (to_z w64 (of_z w64 x) +ℤ to_z w64 (of_z w64 y))
  add_fits = omega (arith, ints)

  pub add_back : (x' y' : ℤ) → x ≡ x' → y ≡ y' → to_z w64 (of_z w64 (to_z w64 (of_z w64 x) +ℤ to_z w64 (of_z w64 y))) ≡ x' +ℤ y'
  add_back x' y' p q = omega (arith, ints)

  pub add_back_small : nat_abs (to_z w64 (of_z w64 (to_z w64 (of_z w64 x) +ℤ to_z w64 (of_z w64 y)))) ≤ 7680000000000
  add_back_small = let e = ap nat_abs (add_back x y refl refl) in omega (arith, ints)

-- the share of a wish t, where all wishes are Q: no more than the water V, and no more than t
pub share_of_water : (t V Q : ℕ) → t ≤ Q → t * V / Q ≤ V
share_of_water t V Q h = let v : V ≤ V = omega arith in let k : t * V ≤ Q * V = mul-le-mul h v in div-le_of_le-mul Q k

pub share_of_wish : (t V Q : ℕ) → V ≤ Q → t * V / Q ≤ t
share_of_wish t V Q h =
    let v : t ≤ t = omega arith in let k : V * t ≤ Q * t = mul-le-mul h v in let m : t * V ≤ Q * t = omega arith in div-le_of_le-mul Q m

-- a discharge and its four changes
pub sum_fits : (x a b y d : ℤ) → nat_abs x ≤ 1228800000000 → nat_abs a ≤ 7680000000000 → nat_abs b ≤ 7680000000000 → nat_abs y ≤ 7680000000000 → nat_abs d ≤ 7680000000000
    → SFits w64 (x +ℤ (a +ℤ b) +ℤ (y +ℤ d))
sum_fits x a b y d p q r s t =
    fits _ (omega (arith, abs_add (x +ℤ (a +ℤ b)) (y +ℤ d), abs_add x (a +ℤ b), abs_add a b, abs_add y d))
