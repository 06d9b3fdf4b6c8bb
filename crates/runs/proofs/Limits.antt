-- The sides of faces of bounded leaves are within the ranges that a rule has its laws on.
use Rattle.std.proofs.Common.{◌≡◌, ℕ, zero, suc, ◌+◌, ◌-◌, ◌*◌, ◌/◌, ◌<◌, ◌≤◌, min, ℤ, pos, negsuc, neg_ℤ, nat_abs, sym, refl, ap, ◌∙◌, div-lt_iff_lt-mul, mul-le-mul, arith}
use native.Mathlib.Nat.{one-le-pow, div-le_of_le-mul, lt-div-mul-add}
use lib.IntN.{neg_ℤ-neg_ℤ}
use lib.Signed.{quot_z}
use borrow.Author.Differences.{ints}
use Rattle.basin.specs.declared.dir.Dir.{Dir}
use Rattle.basin.specs.declared.dir.Dir.TheVariants.{East, North, West, South}
use Rattle.basin.specs.declared.leaf.Leaf.{Leaf}
use Rattle.basin.specs.Blocks.{Block}
use Rattle.basin.specs.Finish.{clipped}
use Rattle.runs.specs.Rules.{State, mirrored, Fine, Rule, Lawful, WallsHold}
use Rattle.runs.specs.Step.{block_side, block_area, block_surface, block_bed, speed, state_at, state}
use Rattle.runs.specs.Trees.{Tree}

pub record Bounded (t : Tree) (c : Block) : Type 0 where
  pub room : (t.leaf c).water ≤ 30000 * block_area t c
  pub slow_east : nat_abs (t.leaf c).east ≤ (t.leaf c).water * 10000
  pub slow_north : nat_abs (t.leaf c).north ≤ (t.leaf c).water * 10000

pub block_area_pos : (t : Tree) (c : Block) → 0 < block_area t c
block_area_pos t c = let w : 1 ≤ block_side t c = one-le-pow (t.L - c.k) 2 (omega arith) in mul-le-mul w w

pub depth_le : (t : Tree) (c : Block) → Bounded t c → block_surface t c - block_bed t c ≤ 30000
depth_le t c b =
    let A = block_area t c in
    let z = block_area_pos t c in
    let less : ((t.leaf c).water + t.beds c) / A < 30000 + t.beds c / A + 1 =
    (div-lt_iff_lt-mul z).1 (omega (arith, b.room, lt-div-mul-add {a = t.beds c} z)) in
    omega arith

abs_neg : (n : ℕ) → nat_abs (neg_ℤ (pos n)) ≡ n
abs_neg zero = refl
abs_neg (suc n) = refl

abs_quot : (z : ℤ) (n : ℕ) → nat_abs (quot_z z (pos n)) ≡ nat_abs z / n
abs_quot (pos a) n = refl
abs_quot (negsuc a) n = abs_neg (suc a / n)

speed_le : (h : ℕ) (X : ℤ) (V : ℕ) → nat_abs X ≤ V * 10000 → nat_abs (speed h X V) ≤ 10000
speed_le zero X V b = omega arith
speed_le (suc h) X V b = omega (arith, abs_quot X V, div-le_of_le-mul V b)

fine_at : (p : Dir) (h : ℕ) (l : Leaf) → h ≤ 30000 → nat_abs l.east ≤ l.water * 10000 → nat_abs l.north ≤ l.water * 10000 → Fine (state_at p h l)
fine_at East h l a b c = record {
  deep = a;
  slow_u = speed_le h l.east l.water b;
  slow_v = speed_le h l.north l.water c;
  dry = λ e.
      (rw e refl, rw e refl);
}
fine_at North h l a b c = record {
  deep = a;
  slow_u = speed_le h l.north l.water c;
  slow_v = speed_le h l.east l.water b;
  dry = λ e.
      (rw e refl, rw e refl);
}
fine_at West h l a b c = record {
  deep = a;
  slow_u = speed_le h l.east l.water b;
  slow_v = speed_le h l.north l.water c;
  dry = λ e.
      (rw e refl, rw e refl);
}
fine_at South h l a b c = record {
  deep = a;
  slow_u = speed_le h l.north l.water c;
  slow_v = speed_le h l.east l.water b;
  dry = λ e.
      (rw e refl, rw e refl);
}

pub fine : (t : Tree) (p : Dir) (c : Block) (m : ℕ) → Bounded t c → block_bed t c ≤ m → Fine (state t p c m)
fine t p c m b h = fine_at p (block_surface t c - m) (t.leaf c) (omega (arith, depth_le t c b)) b.slow_east b.slow_north

pub abs_negate : (z : ℤ) → nat_abs (neg_ℤ z) ≡ nat_abs z
abs_negate (pos zero) = refl
abs_negate (pos (suc n)) = refl
abs_negate (negsuc n) = refl

pub fine_mirrored : (s : State) → Fine s → Fine (mirrored s)
fine_mirrored s f = record {
  deep = f.deep;
  slow_u = omega (arith, abs_negate s.u, f.slow_u);
  slow_v = f.slow_v;
  dry = λ e.
      (ap neg_ℤ (f.dry e).0, (f.dry e).1);
}

own_opposite : (z : ℤ) → z ≡ neg_ℤ z → z ≡ pos 0
own_opposite z e = omega (arith, ints)

-- no water crosses a wall
pub wall_still : (R : Rule) → Lawful R → (s : State) → Fine s → R.flow s (mirrored s) ≡ pos 0
wall_still R law s f =
    let m = law.mirror_flow s (mirrored s) f (fine_mirrored s f) in
    let e : mirrored (mirrored s) ≡ s = rw (neg_ℤ-neg_ℤ s.u) refl in
    own_opposite (R.flow s (mirrored s)) (ap (λ a. R.flow a (mirrored s)) (sym e) ∙ m)

pub walls_hold : WallsHold
walls_hold R law s f =
    let e : mirrored (mirrored s) ≡ s = rw (neg_ℤ-neg_ℤ s.u) refl in
    (wall_still R law s f, ap (λ a. R.flow (mirrored s) a) (sym e) ∙ wall_still R law (mirrored s) (fine_mirrored s f))

pub clip_le : (m : ℕ) (z : ℤ) → nat_abs (clipped m z) ≤ m
clip_le m (pos a) = omega arith
clip_le m (negsuc a) = omega (arith, abs_neg (min (suc a) m))

-- a record by its numbers
pub record_is : (l : Leaf) (V : ℕ) (X Y : ℤ) → V ≡ l.water → X ≡ l.east → Y ≡ l.north → record { water = V; east = X; north = Y } ≡ l
record_is l V X Y e f g = rw (e, f, g) refl
