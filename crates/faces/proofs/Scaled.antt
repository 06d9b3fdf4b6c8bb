-- How large a scaled amount can be.
use Rattle.std.proofs.Common.{◌≡◌, ℕ, ◌*◌, ◌/◌, ◌≤◌, ℤ, pos, ◌*ℤ◌, nat_abs, ap, ◌∙◌, mul-le-mul, div-mul-le_self, arith}
use Rattle.runs.specs.Step.{scaled}
use Rattle.flow.specs.Whole.{abs_mul, abs_quot}

-- 64 squares and 2,000 milliseconds, over a million: sixteen for every hundred and twenty-five
pub scaled_small : (z : ℤ) (e T d : ℕ) → e ≤ 64 → T ≤ 2000 → 1 ≤ d → nat_abs (scaled d T z e) * 125 ≤ nat_abs z * 16
scaled_small z e T d short brief wide =
    let N = nat_abs z in
    let Q = N * (e * T) / (1000000 * d) in
    let q : nat_abs (scaled d T z e) ≡ Q = abs_quot (z *ℤ pos (e * T)) (pos (1000000 * d)) ∙ ap (λ m. m / (1000000 * d)) (abs_mul z (pos (e * T))) in
    let whole : Q * (1000000 * d) ≤ N * (e * T) = div-mul-le_self (N * (e * T)) (1000000 * d) in
    let least : Q * 1 ≤ Q * d = mul-le-mul (omega arith) wide in
    let et : e * T ≤ 128000 = mul-le-mul short brief in
    let most : N * (e * T) ≤ N * 128000 = mul-le-mul (omega arith) et in
    omega arith
