-- Proof of `turns::a_turn_that_begins_moves_how_an_end_leaves_by_its_lines`.
use Rattle.journal_leaving.proofs.TurnLeaving.{begins_by}
use Rattle.journal_leaving.proofs.turns.a_turn_that_begins_moves_how_an_end_leaves_by_its_lines.Goals as goal

pub returns : goal.returns
returns c = λ side number slot setup facts withheld enters fixes sends response k. begins_by side number withheld response slot setup enters fixes sends facts k
