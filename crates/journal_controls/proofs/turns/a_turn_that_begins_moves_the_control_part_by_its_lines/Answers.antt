-- Proof of `turns::a_turn_that_begins_moves_the_control_part_by_its_lines`.
use Rattle.journal_controls.proofs.TurnMoves.{turn_moves}
use Rattle.journal_controls.proofs.turns.a_turn_that_begins_moves_the_control_part_by_its_lines.Goals as goal

pub returns : goal.returns
returns c = λ side number slot response setup past enters fixes sends central. turn_moves side number response slot setup past enters fixes sends central
