-- What a test's answer says.
use Rattle.std.proofs.Common.{◌≡◌, ℕ, ◌+◌, ◌/◌, ◌≤◌, Bool, true, false, cond, not, ◌&&◌, ◌||◌, eqb, leb, ℤ, pos, negsuc, sym, refl, ap, ◌∙◌, arith}
use Rattle.std.proofs.lemmas.Bool.{leb-true, eqb-true, eq-eqb}
use Rattle.basin.specs.declared.leaf.Leaf.{Leaf}
use Rattle.basin.specs.Flaws.{same_discharge, same_record}
use Rattle.basin.specs.Squares.{near, touch, same_block}
use Rattle.basin.specs.Views.{View, side_of}

pub differ : {A : Type 0} (a : Bool) → a ≡ true → a ≡ false → A
differ a e f = let z : ◌≡◌ {A = ℕ} 0 1 = ap (λ t. cond t 1 0) (sym f ∙ e) in absurd (omega arith)

pub and_true : (a b : Bool) → (a && b) ≡ true → (a ≡ true) × (b ≡ true)
and_true true b e = (refl, e)
and_true false b e = differ false e refl

pub true_and : (a b : Bool) → a ≡ true → b ≡ true → (a && b) ≡ true
true_and a b e f = λ i. e i && f i

pub or_false : (a b : Bool) → (a || b) ≡ false → (a ≡ false) × (b ≡ false)
or_false true b e = differ true refl e
or_false false b e = (refl, e)

pub same_bool : (a b : Bool) → (a ≡ true → b ≡ true) → (b ≡ true → a ≡ true) → a ≡ b
same_bool true b f g = sym (f refl)
same_bool false true f g = g refl
same_bool false false f g = refl

pub not_and : (a b : Bool) → (a && b) ≡ false → a ≡ true → b ≡ false
not_and a b e f = sym (ap (λ t. t && b) f) ∙ e

pub not_true : (a : Bool) → not a ≡ false → a ≡ true
not_true true e = refl
not_true false e = differ true refl e

pub le_leb : (m n : ℕ) → m ≤ n → leb m n ≡ true
le_leb m n h = grind arith

-- squares that touch
pub to_touch : (x y p q : ℕ) → x ≤ p + 1 → p ≤ x + 1 → y ≤ q + 1 → q ≤ y + 1 → touch x y p q ≡ true
to_touch x y p q a b c d =
    true_and _ _ (true_and _ _ (le_leb x (p + 1) a) (le_leb p (x + 1) b)) (true_and _ _ (le_leb y (q + 1) c) (le_leb q (y + 1) d))

pub from_touch : (x y p q : ℕ) → touch x y p q ≡ true → (x ≤ p + 1) × (p ≤ x + 1) × (y ≤ q + 1) × (q ≤ y + 1)
from_touch x y p q e =
    let t = and_true (near x p) (near y q) e in
    let u = and_true (leb x (p + 1)) (leb p (x + 1)) t.0 in
    let w = and_true (leb y (q + 1)) (leb q (y + 1)) t.1 in
    (leb-true x (p + 1) u.0, leb-true p (x + 1) u.1, leb-true y (q + 1) w.0, leb-true q (y + 1) w.1)

-- squares of one block
pub to_same_block : (v : View) (k x y p q : ℕ) → x / side_of v k ≡ p / side_of v k → y / side_of v k ≡ q / side_of v k
    → same_block v k x y p q ≡ true
to_same_block v k x y p q e f =
    true_and _ _ (eq-eqb (x / side_of v k) (p / side_of v k) e) (eq-eqb (y / side_of v k) (q / side_of v k) f)

pub from_same_block : (v : View) (k x y p q : ℕ) → same_block v k x y p q ≡ true
    → (x / side_of v k ≡ p / side_of v k) × (y / side_of v k ≡ q / side_of v k)
from_same_block v k x y p q e =
    let t = and_true (eqb (x / side_of v k) (p / side_of v k)) (eqb (y / side_of v k) (q / side_of v k)) e in
    (eqb-true (x / side_of v k) (p / side_of v k) t.0, eqb-true (y / side_of v k) (q / side_of v k) t.1)

-- records that are the same
same_discharge_true : (a b : ℤ) → same_discharge a b ≡ true → a ≡ b
same_discharge_true (pos a) (pos b) e = ap pos (eqb-true a b e)
same_discharge_true (pos a) (negsuc b) e = differ false e refl
same_discharge_true (negsuc a) (pos b) e = differ false e refl
same_discharge_true (negsuc a) (negsuc b) e = ap negsuc (eqb-true a b e)

same_discharge_refl : (a : ℤ) → same_discharge a a ≡ true
same_discharge_refl (pos a) = eq-eqb a a refl
same_discharge_refl (negsuc a) = eq-eqb a a refl

pub same_record_true : (l m : Leaf) → same_record l m ≡ true → l ≡ m
same_record_true l m e =
    let t = and_true (eqb l.water m.water) (same_discharge l.east m.east && same_discharge l.north m.north) e in
    let u = and_true (same_discharge l.east m.east) (same_discharge l.north m.north) t.1 in
    let water = eqb-true l.water m.water t.0 in
    let east = same_discharge_true l.east m.east u.0 in
    let north = same_discharge_true l.north m.north u.1 in
    λ i. record { water = water i; east = east i; north = north i }

pub same_record_refl : (l : Leaf) → same_record l l ≡ true
same_record_refl l =
    true_and _ _ (eq-eqb l.water l.water refl) (true_and _ _ (same_discharge_refl l.east) (same_discharge_refl l.north))
