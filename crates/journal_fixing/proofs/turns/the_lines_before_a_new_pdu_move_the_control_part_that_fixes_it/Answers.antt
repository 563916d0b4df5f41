-- Proof of `turns::the_lines_before_a_new_pdu_move_the_control_part_that_fixes_it`.
use Rattle.journal_controls.specs.link_model.End.{facts_of}
use Rattle.journal_fixing.proofs.TurnFixing.{begun_before}
use Rattle.journal_fixing.proofs.turns.the_lines_before_a_new_pdu_move_the_control_part_that_fixes_it.Goals as goal

pub returns : goal.returns
returns c = λ side number slot withheld response setup past. begun_before side number withheld response slot setup (facts_of setup past)
