-- The rule pond keeps the four laws.
use Rattle.std.specs.Prelude.{◌≡◌, ℕ, ◌+◌, ◌-◌, ◌*◌, ◌/◌, ◌≤◌, pos, neg_ℤ, unsigned_abs, refl}
use Rattle.std.proofs.Common.{ap, mul-le-mul, arith}
use Rattle.std.proofs.lemmas.Int.{ints}
use Rattle.runs.specs.Roots.{square_root, root_by}
use Rattle.runs.specs.Rules.{pressure, Rests, Mirrors, MirrorsAlong, Capped}
use Rattle.runs.proofs.Rooted.{root_le}
use Rattle.flow.specs.Ponds.{fall, pond_flow, pond}
use Rattle.flow.specs.InRange.{pressure_within}

root_zero : square_root 0 ≡ 0
unfolding square_root root_by
root_zero = refl

-- nothing falls from the lower side
no_fall : (a b : ℕ) → a ≤ b → fall a b ≡ 0
no_fall a b h =
    let e : 9810 * (a - b) ≡ 0 = omega arith in
    rw (e, root_zero) (omega arith)

pub fall_capped : (a b : ℕ) → a ≤ 30000 → fall a b ≤ 514650000
fall_capped a b h =
    let r : square_root (9810 * (a - b)) ≤ 17155 = root_le (9810 * (a - b)) 17155 (omega arith) in
    omega (arith, mul-le-mul h r)

pressure_capped : (a b : ℕ) → a ≤ 30000 → b ≤ 30000 → (pressure a + pressure b) / 2 ≤ 4414500000000
pressure_capped a b p q = omega (arith, pressure_within a p, pressure_within b q)

pub pond_rests : Rests pond
unfolding pond_flow
pond_rests = record {
  flow = λ h _. let none = no_fall h h (omega arith) in grind arith;
  push = λ h _. ap pos (omega arith);
  drift = λ h _. refl;
}

flow_turns : (a b : ℕ) → pond_flow b a ≡ neg_ℤ (pond_flow a b)
unfolding pond_flow
flow_turns a b =
    let x = no_fall a b in
    let y = no_fall b a in
    grind (arith, ints)

pub pond_mirrors : Mirrors pond
pond_mirrors = record {
  flow = λ a b _ _. flow_turns a.h b.h;
  push = λ a b _ _. ap pos (omega arith);
  drift = λ a b _ _. refl;
}

pub pond_mirrors_along : MirrorsAlong pond
pond_mirrors_along = record { flow = λ a b _ _. refl; push = λ a b _ _. refl; drift = λ a b _ _. refl }

flow_capped : (a b : ℕ) → a ≤ 30000 → b ≤ 30000 → unsigned_abs (pond_flow a b) ≤ 514650000
unfolding pond_flow
flow_capped a b p q =
    let x = fall_capped b a q in
    let y = fall_capped a b p in
    grind (arith, ints)

pub pond_capped : Capped 514650000 4414500000000 pond
pond_capped = record {
  flow = λ a b p q. flow_capped a.h b.h p.deep q.deep;
  push = λ a b p q. pressure_capped a.h b.h p.deep q.deep;
  drift = λ a b p q. omega arith;
}
