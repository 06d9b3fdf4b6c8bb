-- The law of caps bounds what the rule answers, and the caps are bounded.
use Rattle.std.proofs.Common.{◌≡◌, ℕ, ◌≤◌, ℤ, nat_abs, arith}
use Rattle.std.proofs.lemmas.Int.{ints}
use Rattle.flow.specs.States.{state_of}
use Rattle.flow.specs.InRange.{fine_of}
use Rattle.faces.proofs.numbers.capped.Goals as goal

-- a bound that is handed on
capped_by : (x y : ℤ) (k m : ℕ) → x ≡ y → nat_abs y ≤ k → k ≤ m → nat_abs x ≤ m
capped_by x y k m e h l = omega (arith, ints)

pub returns : goal.returns
returns g c =
    let law = g.met.R.FlowRule in
    let e = c.between.ensures in
    let a = state_of c.args.one in
    let b = state_of c.args.two in
    let p = fine_of c.args.one in
    let q = fine_of c.args.two in
    let caps = law.caps c.args.rule.now in
    record {
      flow = e.flow;
      push = e.push;
      drift = e.drift;
      flow_cap = capped_by _ _ _ _ e.flow (caps.flow a b p q) law.low.0;
      push_cap = capped_by _ _ _ _ e.push (caps.push a b p q) law.low.1;
      drift_cap = capped_by _ _ _ _ e.drift (caps.drift a b p q) law.low.1;
    }
