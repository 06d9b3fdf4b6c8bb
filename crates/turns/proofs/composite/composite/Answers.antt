-- Two turns of a basin are the one that they make, whatever the call answers.
use Rattle.turns.proofs.Basins.{turns_compose}
use Rattle.turns.proofs.composite.composite.Goals as goal

pub returns-in_err-first-clause-twice : goal.returns-in_err-first-clause-twice
returns-in_err-first-clause-twice c = turns_compose

pub returns-in_err-second-clause-twice : goal.returns-in_err-second-clause-twice
returns-in_err-second-clause-twice c = turns_compose

pub returns-clause-twice : goal.returns-clause-twice
returns-clause-twice c = turns_compose
