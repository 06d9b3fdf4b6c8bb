-- Each call goes on from what the calls before it left, and the run is lawful since the rule's type is.
use Rattle.std.proofs.Common.{length, arith}
use Rattle.flow.proofs.Lawful.{lawful}
use Rattle.runs.proofs.Joint.{all_runs_well}
use Rattle.lists.specs.Lists.{calls_of}
use Rattle.lists.proofs.Served.{steps_on, all_ruled}
use Rattle.lists.proofs.Worked.{all_performed}
use Rattle.lists.proofs.replay.replay.Goals as goal

pub loop-entry-preserved : goal.loop-entry-preserved
loop-entry-preserved g c =
    steps_on g.R.FlowRule.meaning (length c.args.work.now) c.loop-entry.entry-index c.args.entries.now c.loop-entry.entries _ _ c.args.work.now
    c.loop-entry.work (omega arith) c.loop-entry.invariant c.entry-item.result c.perform-entry.result _ _ (length c.loop-entry.work)
    c.loop-entry.auto.work c.perform-entry.ensures.done c.perform-entry.ensures.work

pub returns-clause-run : goal.returns-clause-run
returns-clause-run g c =
    all_performed g.R.FlowRule.meaning c.loop-entry.entry-index c.args.entries.now c.loop-entry.entries _ _ c.args.work.now c.loop-entry.work (omega arith)
    c.loop-entry.invariant

pub returns-clause-lawful : goal.returns-clause-lawful
returns-clause-lawful g c valid =
    let law = g.met.R.FlowRule in
    let meaning = g.R.FlowRule.meaning in
    let size = length c.args.work.now in
    all_runs_well _ valid (calls_of meaning size c.args.entries.now)
    (all_ruled meaning size (λ a. lawful _ (law.rest a) (law.mirror a) (law.along a)) c.args.entries.now)

pub returns-clause-always : goal.returns-clause-always
returns-clause-always g c = all_runs_well
