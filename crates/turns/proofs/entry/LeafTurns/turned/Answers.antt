-- What a turn picks of the four discharges makes the turned record; and their signs can be changed.
use Rattle.turns.specs.Records.{record_turned}
use Rattle.turns.proofs.entry.LeafTurns.turned.Goals as goal

pub returns : goal.returns
returns c = record_turned c.args.self c.requires c.args.turn c.pick-east.result c.pick-east.ensures
