-- The laws of an implementor are those of a rule of the runs.
use Rattle.flow.proofs.Lawful.{lawful}
use Rattle.flow.proofs.laws.rules_are_lawful.Goals as goal

pub returns : goal.returns
returns g c =
    let law = g.met.R.FlowRule in
    let r = c.args.rule.now in
    lawful _ (law.rest r) (law.mirror r) (law.along r)
