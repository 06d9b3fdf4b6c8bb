-- What the rule pond answers.
use Rattle.std.specs.Prelude.{ℕ, ◌+◌, ◌-◌, ◌*◌, ◌/◌, cond, ℤ, pos, neg_ℤ, nat_lt}
use Rattle.runs.specs.Roots.{square_root}
use Rattle.runs.specs.Rules.{Rule, pressure}

-- the larger depth times the root of 9,810 times the difference of the depths, where it falls from a to b
abbrev pub fall : ℕ → ℕ → ℕ
fall a b = a * square_root (9810 * (a - b))

-- positive where side 1 is the deeper one
unfoldable pub pond_flow : ℕ → ℕ → ℤ
pond_flow a b = cond (nat_lt a b) (neg_ℤ (pos (fall b a))) (pos (fall a b))

-- the mean of the pressures of both sides at rest
abbrev pub mean_pressure : ℕ → ℕ → ℤ
mean_pressure a b = pos ((pressure a + pressure b) / 2)

abbrev pub pond : Rule
pond = record { flow = λ a b. pond_flow a.h b.h; push = λ a b. mean_pressure a.h b.h; drift = λ a b. pos 0 }
