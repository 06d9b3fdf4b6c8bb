-- The rule that is named answers.
use Rattle.flow.proofs.choice.RulesFlowRule.between.Goals as goal

pub returns-in-Central : goal.returns-in-Central
returns-in-Central c = rw c.in-Central.is c.between.ensures

pub returns-in-Pond : goal.returns-in-Pond
returns-in-Pond c = rw c.in-Pond.is c.between-in-Pond.ensures
