-- What led to a granted result.
use Rattle.std.proofs.Common.{◌≡◌, ℕ, Bool, true, false, cond, Ok, Err, Result, refl, ap, arith}
use Rattle.numbers.specs.Steps.{after, place}

pub after_ok : {A B E : Type 0} (r : Result A E) (f : A → Result B E) (y : B) → after r f ≡ Ok y → (x : A) × (r ≡ Ok x) × (f x ≡ Ok y)
after_ok (Ok x) f y e = (x, refl, e)
after_ok (Err g) f y e = let z : ◌≡◌ {A = ℕ} 0 1 = cc in absurd (omega arith)

pub when : {A E : Type 0} (t : Bool) (f : E) (r : Result A E) (y : A) → cond t r (Err f) ≡ Ok y → (t ≡ true) × (r ≡ Ok y)
when true f r y e = (refl, e)
when false f r y e = let z : ◌≡◌ {A = ℕ} 0 1 = cc in absurd (omega arith)

pub unless : {A E : Type 0} (t : Bool) (f : E) (r : Result A E) (y : A) → cond t (Err f) r ≡ Ok y → (t ≡ false) × (r ≡ Ok y)
unless true f r y e = let z : ◌≡◌ {A = ℕ} 0 1 = cc in absurd (omega arith)
unless false f r y e = (refl, e)

pub ok_parts : {A E : Type 0} (a b : A) (p q : ℕ) → ◌≡◌ {A = Result (A × ℕ) E} (Ok (a, p)) (Ok (b, q)) → (a ≡ b) × (p ≡ q)
ok_parts {A} {E} a b p q e = let h : ◌≡◌ {A = A × ℕ} (a, p) (b, q) = cc in (ap (λ (x : A × ℕ). x.0) h, ap (λ (x : A × ℕ). x.1) h)

pub placed : {A E : Type 0} (r : Result (A × ℕ) E) (p : ℕ) → Ok p ≡ place r → (x : A) × (r ≡ Ok (x, p))
placed (Ok x) p e = let h : p ≡ x.1 = cc in (x.0, rw h refl)
placed (Err f) p e = let z : ◌≡◌ {A = ℕ} 0 1 = cc in absurd (omega arith)

pub not_placed : {A E : Type 0} (r : Result (A × ℕ) E) (f : E) → Err f ≡ place r → r ≡ Err f
not_placed (Ok x) f e = let z : ◌≡◌ {A = ℕ} 0 1 = cc in absurd (omega arith)
not_placed (Err g) f e = let h : g ≡ f = cc in rw h refl
