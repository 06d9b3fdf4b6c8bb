-- The names of the rules.
use Rattle.std.specs.Prelude.{◌≡◌, ◌≢◌, ℕ, List, Result, MatchResult, codes}
use Rattle.flow.specs.declared.rules.Rules.{Rules}
use Rattle.flow.specs.declared.rules.Rules.TheVariants.{Central, Pond}

abbrev pub rule_name : Rules → List ℕ
rule_name Central = codes "central"
rule_name Pond = codes "pond"

-- what a name stands for: the rule that has it, or an error where no rule has
abbrev pub Named : {E : Type 0} → List ℕ → Result Rules E → Type 0
Named name r = MatchResult r (λ rule. name ≡ rule_name rule) (λ _. (rule : Rules) → name ≢ rule_name rule)
