-- Integers: sizes and signs of products and quotients, and values that go to their 64 bits and back.
use Rattle.std.specs.Prelude.{◌≡◌, ℕ, zero, suc, ◌+◌, ◌*◌, ◌/◌, ◌^◌, ◌<◌, ◌≤◌, ℤ, pos, negsuc, ◌+ℤ◌, ◌-ℤ◌, ◌*ℤ◌, neg_ℤ, FitsSigned, int_div, unsigned_abs, refl}
use Rattle.std.proofs.Common.{sym, ap, ◌∙◌, mul-le-mul, div-le_self, arith, to_z, of_z}
use Rattle.std.proofs.Math.IntN.{neg_ℤ-neg_ℤ}
use Rattle.std.specs.Int.{w64}
use Rattle.std.proofs.lemmas.Int.{ints, to_z-of_z}

-- ---- sizes
abs_neg : (a : ℤ) → unsigned_abs (neg_ℤ a) ≡ unsigned_abs a
abs_neg (pos zero) = refl
abs_neg (pos (suc n)) = refl
abs_neg (negsuc n) = refl

pub abs_mul : (a b : ℤ) → unsigned_abs (a *ℤ b) ≡ unsigned_abs a * unsigned_abs b
abs_mul (pos a) (pos b) = refl
abs_mul (pos a) (negsuc b) = abs_neg (pos (a * suc b))
abs_mul (negsuc a) (pos b) = abs_neg (pos (suc a * b))
abs_mul (negsuc a) (negsuc b) = refl

pub abs_quot : (a b : ℤ) → unsigned_abs (int_div a b) ≡ unsigned_abs a / unsigned_abs b
abs_quot (pos a) (pos b) = refl
abs_quot (pos a) (negsuc b) = abs_neg (pos (a / suc b))
abs_quot (negsuc a) (pos b) = abs_neg (pos (suc a / b))
abs_quot (negsuc a) (negsuc b) = refl

pub abs_add : (a b : ℤ) → unsigned_abs (a +ℤ b) ≤ unsigned_abs a + unsigned_abs b
abs_add a b = omega (arith, ints)

pub abs_sub : (a b : ℤ) → unsigned_abs (a -ℤ b) ≤ unsigned_abs a + unsigned_abs b
abs_sub a b = omega (arith, ints)

pub mul_within : (a b : ℤ) (m n : ℕ) → unsigned_abs a ≤ m → unsigned_abs b ≤ n → unsigned_abs (a *ℤ b) ≤ m * n
mul_within a b m n p q = rw abs_mul (mul-le-mul p q)

pub quot_within : (a b : ℤ) (m : ℕ) → unsigned_abs a ≤ m → unsigned_abs (int_div a b) ≤ m
quot_within a b m p = rw abs_quot (omega (arith, div-le_self (unsigned_abs a) (unsigned_abs b)))

-- ---- signs
pub neg_mul : (a b : ℤ) → neg_ℤ a *ℤ b ≡ neg_ℤ (a *ℤ b)
neg_mul (pos zero) (pos b) = omega (arith, ints)
neg_mul (pos zero) (negsuc b) = omega (arith, ints)
neg_mul (pos (suc a)) (pos b) = refl
neg_mul (pos (suc a)) (negsuc b) = sym (neg_ℤ-neg_ℤ (pos (suc a * suc b)))
neg_mul (negsuc a) (pos b) = sym (neg_ℤ-neg_ℤ (pos (suc a * b)))
neg_mul (negsuc a) (negsuc b) = refl

pub mul_neg : (a b : ℤ) → a *ℤ neg_ℤ b ≡ neg_ℤ (a *ℤ b)
mul_neg (pos a) (pos zero) = omega (arith, ints)
mul_neg (negsuc a) (pos zero) = omega (arith, ints)
mul_neg (pos a) (pos (suc b)) = refl
mul_neg (negsuc a) (pos (suc b)) = sym (neg_ℤ-neg_ℤ (pos (suc a * suc b)))
mul_neg (pos a) (negsuc b) = sym (neg_ℤ-neg_ℤ (pos (a * suc b)))
mul_neg (negsuc a) (negsuc b) = refl

pub quot_neg : (a b : ℤ) → int_div (neg_ℤ a) b ≡ neg_ℤ (int_div a b)
quot_neg (pos zero) (pos b) = omega (arith, ints)
quot_neg (pos zero) (negsuc b) = omega (arith, ints)
quot_neg (pos (suc a)) (pos b) = refl
quot_neg (pos (suc a)) (negsuc b) = sym (neg_ℤ-neg_ℤ (pos (suc a / suc b)))
quot_neg (negsuc a) (pos b) = sym (neg_ℤ-neg_ℤ (pos (suc a / b)))
quot_neg (negsuc a) (negsuc b) = refl

-- ---- 64 bits
pub fits : (z : ℤ) → unsigned_abs z < 2 ^ 63 → FitsSigned w64 z
fits z h = omega (arith, ints)

-- a value that went to its bits and back
pub back : (z y : ℤ) → FitsSigned w64 z → z ≡ y → to_z w64 (of_z w64 z) ≡ y
back z y f e = to_z-of_z w64 z f ∙ e

pub product_fits : (a b : ℤ) (m n : ℕ) → unsigned_abs a ≤ m → unsigned_abs b ≤ n → m * n < 2 ^ 63 → FitsSigned w64 (a *ℤ b)
product_fits a b m n p q l = fits (a *ℤ b) (omega (arith, mul_within a b m n p q))

pub same_bits : (a b : ℤ) → FitsSigned w64 a → FitsSigned w64 b → of_z w64 a ≡ of_z w64 b → a ≡ b
same_bits a b f g e = sym (to_z-of_z w64 a f) ∙ ap (to_z w64) e ∙ to_z-of_z w64 b g

-- the product of values that went to their bits and back
pub product_back : (a b x : ℤ) (m n : ℕ) → FitsSigned w64 a → FitsSigned w64 b → unsigned_abs a ≤ m → unsigned_abs b ≤ n → m * n < 2 ^ 63 → a ≡ x
    → to_z w64 (of_z w64 (to_z w64 (of_z w64 a) *ℤ to_z w64 (of_z w64 b))) ≡ x *ℤ b
product_back a b x m n f g p q l e =
    rw (to_z-of_z w64 a f, to_z-of_z w64 b g, to_z-of_z w64 (a *ℤ b) (product_fits a b m n p q l)) (ap (λ (z : ℤ). z *ℤ b) e)
