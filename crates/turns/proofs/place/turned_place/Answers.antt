-- The squares of a basin turn as their places do, whatever the call answers.
use Rattle.turns.proofs.Basins.{squares_turn}
use Rattle.turns.proofs.place.turned_place.Goals as goal

pub returns-in_err-turn-clause-entries : goal.returns-in_err-turn-clause-entries
returns-in_err-turn-clause-entries c = squares_turn

pub returns-in_default-clause-entries : goal.returns-in_default-clause-entries
returns-in_default-clause-entries c = squares_turn

pub returns-clause-entries : goal.returns-clause-entries
returns-clause-entries c = squares_turn
